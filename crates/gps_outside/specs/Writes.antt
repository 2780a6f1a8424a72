-- The results that one write to a sink may have.
use Rattle.std.specs.Prelude.{◌≡◌, ℕ, ◌<◌, ◌≤◌, List, ◌++◌, length, take, Option, option_map, Bool, true, false}
use Rattle.gps_outside.specs.declared.sink.WriteStep.{WriteStep}
use Rattle.gps_outside.specs.declared.sink.WriteStep.TheVariants.{Wrote, Failed}
use Rattle.gps_outside.specs.Told.{Goes, Stays, Appends, AppendsPart}

-- bytes that were written are some, and no more than the piece has
abbrev pub FitsPiece : WriteStep → ℕ → Type 0
FitsPiece (Wrote n) most = (1 ≤ n) × (n ≤ most)
FitsPiece Failed most = Unit {0}

-- what an answer says of the content
abbrev pub Writes : WriteStep → List ℕ → Option (List ℕ) → Option (List ℕ) → Type 0
Writes (Wrote n) piece before after = Goes (Appends (take n piece)) before after
Writes Failed piece before after = Goes Stays before after

-- all of the piece, or a prefix of it
abbrev pub WritesAll : Bool → List ℕ → Option (List ℕ) → Option (List ℕ) → Type 0
WritesAll true piece before after = Goes (Appends piece) before after
WritesAll false piece before after = Goes (AppendsPart piece) before after

-- a sink's faults rise only if it answers Failed
abbrev pub FailsOnly : WriteStep → ℕ → ℕ → Type 0
FailsOnly (Wrote n) before after = after ≡ before
FailsOnly Failed before after = Unit {0}

-- after each part of the piece that was written, the sink may be written the rest
abbrev pub AllowsInParts : {K : Type 0} → (K → Option (List ℕ)) → (K → Option (List ℕ)) → (K → List ℕ → Type 0) → K → List ℕ → Type 0
AllowsInParts {K} asks written allows sink piece =
    (now : K) (part rest : List ℕ) → piece ≡ part ++ rest → 0 < length rest
    → asks now ≡ asks sink → written now ≡ option_map (λ before. before ++ part) (written sink) → allows now rest
