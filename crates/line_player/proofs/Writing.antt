-- What was due is written, whole or in part.
use Rattle.std.proofs.Common.{◌≡◌, ℕ, true, false, List, ◌++◌, Option, Ok, Err}
use Rattle.gps_outside.specs.Writes.{WritesAll}
use Rattle.line_player.specs.declared.lines.Round.TheVariants.{Run, RefusedAt}
use Rattle.line_player.specs.declared.fault.Fault.TheVariants.{BadLine, Sink}
use Rattle.line_player.specs.LineSteps.{IsDue, Writes}

pub made : (refused : Option ℕ) (before all due : List ℕ) (sink sink' : Option (List ℕ)) → IsDue (Ok Run) refused before all due
    → WritesAll true due sink sink' → Writes {X = Unit {0}} (Ok tt) refused before all sink sink'
made refused before all due sink sink' is wrote = (is.0, record { more = due; is = is.1; wrote = wrote })

pub refused : (number : ℕ) (found : Option ℕ) (before all due : List ℕ) (sink sink' : Option (List ℕ)) → IsDue (Ok (RefusedAt number)) found before all due
    → WritesAll true due sink sink' → Writes {X = Unit {0}} (Err (BadLine number)) found before all sink sink'
refused number found before all due sink sink' is wrote = (is.0, record { more = due; is = is.1; wrote = wrote })

pub broken : (before all due : List ℕ) (sink sink' : Option (List ℕ)) → all ≡ before ++ due
    → WritesAll false due sink sink' → (number : Option ℕ) → Writes {X = Unit {0}} (Err Sink) number before all sink sink'
broken before all due sink sink' is wrote number = record { more = due; is = is; wrote = wrote }
