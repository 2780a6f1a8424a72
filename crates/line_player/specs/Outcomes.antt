-- How a play ends by a fault.
use Rattle.gps_outside.specs.declared.outcome.CommandOutcome.{CommandOutcome}
use Rattle.gps_outside.specs.declared.outcome.CommandOutcome.TheVariants.{WriteFault, BadLine, NoMemory}
use Rattle.line_player.specs.declared.fault.Fault.{Fault}
use Rattle.line_player.specs.declared.fault.Fault.TheVariants as fault

abbrev pub outcome_of : Fault → CommandOutcome
outcome_of (fault.BadLine number) = BadLine number
outcome_of fault.Sink = WriteFault
outcome_of fault.NoMemory = NoMemory
