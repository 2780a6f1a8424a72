-- A list that is read from its head: what was taken and what is left.
use Rattle.std.proofs.Common.{◌≡◌, ℕ, ◌+◌, ◌-◌, List, ◌++◌, length, take, drop, sym, ◌∙◌, ap, arith}
use Rattle.std.proofs.lemmas.List.{take-append-drop, drop-drop}
use Rattle.std.proofs.Math.Seq.{take-add}
use Rattle.std.proofs.lemmas.Grind.{common_steps}
use Rattle.gps_outside.specs.Told.{Stream, Passes}
use Rattle.gps_outside.specs.ReadPlans.{after_taking}

abbrev pub stream_at : ℕ → List ℕ → Stream
stream_at at held = record { taken = take at held; left = drop at held }

pub taken_on : (n at : ℕ) (held : List ℕ) → stream_at (at + n) held ≡ after_taking n (stream_at at held)
taken_on n at held = rw (take-add at n held, ← drop-drop n at held)

pub passes_on : (n at : ℕ) (held : List ℕ) → Passes (take n (drop at held)) (stream_at at held) (stream_at (at + n) held)
passes_on n at held = record { next = rw (← drop-drop n at held) (sym (take-append-drop n (drop at held))); joins = take-add at n held }

take_front : (n : ℕ) (copied buf : List ℕ) → length copied ≡ length (take n buf) → take n (copied ++ drop n buf) ≡ copied
take_front n copied buf e = grind (arith, common_steps)

-- the bytes that were copied to the head of the buffer pass
pub passes_copied : (n at : ℕ) (held copied buf : List ℕ)
    → length copied ≡ length (take n buf)
    → copied ≡ take ((at + n) - at) (drop at held)
    → Passes (take n (copied ++ drop n buf)) (stream_at at held) (stream_at (at + n) held)
passes_copied n at held copied buf len same =
    let n_is : (at + n) - at ≡ n = omega arith in
    let head : copied ≡ take n (drop at held) = same ∙ ap (λ k. take k (drop at held)) n_is in
    rw (take_front n copied buf len, head) (passes_on n at held)
