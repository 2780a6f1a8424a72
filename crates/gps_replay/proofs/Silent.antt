-- What a line does that writes nothing.
use Rattle.std.proofs.Common.{◌≡◌, ℕ, List, ◌++◌, Result, Ok, Err, option_map, refl, sym, ap, append-nil}
use Rattle.gps_fixed.specs.declared.no_memory.NoMemory.{NoMemory}
use Rattle.line_player.specs.declared.plays_lines.LineStep.{LineStep}
use Rattle.line_player.specs.declared.plays_lines.LineStep.TheVariants.{Made, Refused}
use Rattle.line_player.specs.LineSteps.{StepDone}
use Rattle.replay_player.specs.States.{State}
use Rattle.gps_replay.specs.Closings.{closing_rules, quietened, silent}
use Rattle.gps_replay.specs.Run.{rules_of}

pub silently : (round : Result LineStep NoMemory) (queue : ℕ) (state : State) (text : List ℕ) (stands : State → Type 0) (unwritten unwritten' out : List ℕ)
    → StepDone round (rules_of queue) state text stands unwritten unwritten' → StepDone round (closing_rules queue) state text stands out out
silently (Ok Made) queue state text stands unwritten unwritten' out rounds =
    (silent rounds.0, ap (option_map silent) rounds.1, rounds.2, sym (append-nil out))
silently (Ok Refused) queue state text stands unwritten unwritten' out rounds = (ap (option_map silent) rounds.0, refl)
silently (Err fault) queue state text stands unwritten unwritten' out rounds = tt

pub rules_same : (a b : ℕ) → rules_of a ≡ rules_of b → closing_rules a ≡ closing_rules b
rules_same a b same = ap quietened same
