-- How `decode` and `pseudo` end by a fault.
use Rattle.gps_outside.specs.declared.outcome.CommandOutcome.{CommandOutcome}
use Rattle.gps_outside.specs.declared.outcome.CommandOutcome.TheVariants.{WriteFault, NoMemory}
use Rattle.gps_decode.specs.declared.fault.Fault.{Fault}
use Rattle.gps_decode.specs.declared.fault.Fault.TheVariants as fault

abbrev pub outcome_of : Fault → CommandOutcome
outcome_of fault.Sink = WriteFault
outcome_of fault.NoMemory = NoMemory
