use Rattle.std.proofs.Common.{◌≡◌, length}
use Rattle.gps_command.specs.Commands.{trimmed}
use Rattle.gps_command.proofs.command.trimmed.Given as goal

abbrev pub invariant-trims : goal.invariant-trims
invariant-trims l = trimmed l.rest ≡ trimmed l.text

abbrev pub decreases-trims : goal.decreases-trims
decreases-trims l = length l.rest
