-- The last byte of a text, and whether it is dropped.
use Rattle.std.proofs.Common.{◌≡◌, ◌<◌, ◌-◌, ◌+◌, ℕ, true, false, ◌&&◌, List, [], ◌∷◌, ◌++◌, length, take, slice_index_or, ap, sym, ◌∙◌, refl, arith}
use Rattle.std.specs.List.{list_all}
use Rattle.std.proofs.Math.Seq.{take-length}
use Rattle.std.proofs.Math.Bool.{and-false, and-true}
use Rattle.std.proofs.lemmas.List.{take_more}
use Rattle.std.proofs.lemmas.List.Folds.{list_all-append}
use Rattle.gps_command.specs.Commands.{is_trailing, trimmed}

-- a text is what comes before its last byte, and that byte
split_last : (text : List ℕ) (d : ℕ) → 0 < length text
    → take (length text - 1) text ++ slice_index_or text (length text - 1) d ∷ [] ≡ text
split_last text d some =
    let near : length text - 1 < length text = omega arith in
    let whole : length text - 1 + 1 ≡ length text = omega arith in
    sym (take_more text (length text - 1) d near) ∙ ap (λ n. take n text) whole ∙ take-length text

all_push : (front : List ℕ) (last : ℕ) → list_all is_trailing (front ++ last ∷ []) ≡ (list_all is_trailing front && (is_trailing last && true))
all_push front last = list_all-append is_trailing front (last ∷ [])

kept_push : (front : List ℕ) (last : ℕ) → is_trailing last ≡ false → trimmed (front ++ last ∷ []) ≡ front ++ last ∷ []
unfolding trimmed
kept_push [] last e = rw e
kept_push (c ∷ front) last e = rw (all_push front last, e, and-false, and-false, kept_push front last e)

dropped_push : (front : List ℕ) (last : ℕ) → is_trailing last ≡ true → trimmed (front ++ last ∷ []) ≡ trimmed front
unfolding trimmed
dropped_push [] last e = rw e
dropped_push (c ∷ front) last e = rw (all_push front last, e, and-true, dropped_push front last e)

pub last_kept : (text : List ℕ) (d : ℕ) → 0 < length text → is_trailing (slice_index_or text (length text - 1) d) ≡ false
    → trimmed text ≡ text
last_kept text d some e = rw (split_last text d some) at (kept_push (take (length text - 1) text) (slice_index_or text (length text - 1) d) e)

pub last_dropped : (text : List ℕ) (d : ℕ) → 0 < length text → is_trailing (slice_index_or text (length text - 1) d) ≡ true
    → trimmed (take (length text - 1) text) ≡ trimmed text
last_dropped text d some e =
    sym (dropped_push (take (length text - 1) text) _ e) ∙ ap trimmed (split_last text d some)

pub none_left : (text : List ℕ) → length text ≡ 0 → trimmed text ≡ text
unfolding trimmed
none_left [] e = refl
none_left (c ∷ text) e = absurd (omega arith)
