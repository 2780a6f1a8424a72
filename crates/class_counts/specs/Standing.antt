-- What is kept stands for all bytes so far, as long as no line was bad.
use Rattle.std.specs.Prelude.{◌≡◌, ℕ, ◌+◌, ◌<◌, ◌≤◌, false, List, ◌++◌, length, take, Option, Some, None, Result, Ok, Err}
use Rattle.line_cut.specs.Standing.{StandsFor}
use Rattle.line_cut.specs.Limits.{is_too_long}
use Rattle.line_cut.specs.Lines.{lines, open_line}
use Rattle.gps_client.specs.declared.line.Line.{Line}
use Rattle.class_counts.specs.declared.counting.Count.{Count}
use Rattle.class_counts.specs.declared.counting.Stop.{Stop}
use Rattle.class_counts.specs.declared.counting.Stop.TheVariants.{Bad, NoMemory}
use Rattle.class_counts.specs.Lines.{AreRead, Refuses, limit}
use Rattle.class_counts.specs.Tallies.{Tallies, kept_number}

pub record CountStands (count : Count) (bytes : List ℕ) : Type 0 where
  pub cutter : StandsFor count.cutter bytes
  pub limit_is : count.cutter.limit ≡ limit
  pub values : List Line
  pub are : AreRead values (lines bytes)
  pub tallies : Tallies count.tally.numbers values
  pub good : count.good ≡ kept_number (length values)
  pub fits : is_too_long limit (open_line bytes) ≡ false

-- the line after the good ones is bad
abbrev pub Stops : Stop → Count → List ℕ → Type 0
Stops Bad count bytes = (n : ℕ) × Refuses bytes (n + 1) × (count.good ≡ kept_number n)
Stops NoMemory count bytes = Unit {0}

-- one step through a piece that follows these bytes
abbrev pub CountSteps : Result (Option ℕ) Stop → Count → List ℕ → List ℕ → Type 0
CountSteps (Ok (Some n)) count bytes piece = CountStands count (bytes ++ take n piece)
CountSteps (Ok None) count bytes piece = CountStands count (bytes ++ piece)
CountSteps (Err stop) count bytes piece = Stops stop count (bytes ++ piece)

abbrev pub UsesSome : Result (Option ℕ) Stop → List ℕ → Type 0
UsesSome (Ok (Some n)) piece = (0 < n) × (n ≤ length piece)
UsesSome (Ok None) piece = Unit {0}
UsesSome (Err stop) piece = Unit {0}

-- a further piece was counted, or a bad line was met in it, or there was no memory
abbrev pub CountsOrStops : {X : Type 0} → Result X Stop → Count → List ℕ → Type 0
CountsOrStops (Ok _) count bytes = CountStands count bytes
CountsOrStops (Err stop) count bytes = Stops stop count bytes
