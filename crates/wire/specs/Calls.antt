-- What one call of the system adds to what is known of a descriptor. Sources: read(2), write(2).
use Rattle.std.specs.Prelude.{◌≡◌, ℕ, ◌+◌, List, ◌++◌, take, Bool, true, false, if◌then◌else◌, Result, MatchResult}
use Rattle.std.specs.IoError.{error_kind}
use Rattle.std.specs.declared.io.Error.{Error}
use Rattle.std.specs.declared.io.ErrorKind.{ErrorKind}
use Rattle.std.specs.declared.io.ErrorKind.TheVariants.{WouldBlock, Interrupted}

-- a failure that says nothing of the next call: it would have to wait, or was interrupted by a signal
abbrev pub passes : ErrorKind → Bool
passes WouldBlock = true
passes Interrupted = true
passes _ = false

-- the bytes that a read gave are added, and nothing else
abbrev pub Gave : Result ℕ Error → List ℕ → List ℕ → List ℕ → Type 0
Gave result buffer before after = MatchResult result (λ n. after ≡ before ++ take n buffer) (λ _. after ≡ before)

-- the bytes that a write took are added, and nothing else
abbrev pub Took : Result ℕ Error → List ℕ → List ℕ → List ℕ → Type 0
Took result piece before after = MatchResult result (λ n. after ≡ before ++ take n piece) (λ _. after ≡ before)

-- how many calls failed for good, after one more call
abbrev pub CountsFailure : Result ℕ Error → ℕ → ℕ → Type 0
CountsFailure result before after =
    MatchResult result (λ _. after ≡ before) (λ error. after ≡ (if passes (error_kind error) then before else before + 1))
