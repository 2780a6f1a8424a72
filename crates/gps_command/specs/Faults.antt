-- A refused WATCH object as the fault of a request.
use Rattle.gps_report.specs.declared.policy.CommandFault.TheVariants as command
use Rattle.watch_policy.specs.declared.change.ChangeFault.{ChangeFault}
use Rattle.watch_policy.specs.declared.change.ChangeFault.TheVariants as change
use Rattle.gps_command.specs.declared.command.ReadFault.{ReadFault}
use Rattle.gps_command.specs.declared.command.ReadFault.TheVariants.{Fault, NoMemory}

abbrev pub fault_of_change : ChangeFault → ReadFault
fault_of_change change.BadWatch = Fault command.BadWatch
fault_of_change change.NoMemory = NoMemory
