-- What the lines of a text do, one after the other.
use Rattle.std.specs.Prelude.{ℕ, List, Option, cond, None, length, nat_lt}
use Rattle.line_cut.specs.declared.limit.Limit.{Limit}
use Rattle.line_cut.specs.declared.limit.Limit.TheVariants.{Text, Whole}
use Rattle.line_cut.specs.Limits.{most}
use Rattle.line_cut.specs.Lines.{text_of}

-- what a line does: the state after it, and what it writes
pub record Effect (X : Type 0) : Type 0 where
  pub state : X
  pub written : List ℕ

-- how long a line may be, the state before the first line, what a line does in a state or that it is refused there, and what the end writes
pub record Rules (X : Type 0) : Type 0 where
  pub limit : Limit
  pub start : X
  pub effect : X → List ℕ → Option (Effect X)
  pub end_writes : X → List ℕ

-- what of a line is run: it has no line end if the limit does not count that
abbrev pub text_in : Limit → List ℕ → List ℕ
text_in (Text n) line = text_of line
text_in (Whole n) line = line

-- a line that is too long is refused
unfoldable pub effect_within : {X : Type 0} → Rules X → X → List ℕ → Option (Effect X)
effect_within rules state text = cond (nat_lt (most rules.limit) (length text)) None (rules.effect state text)
