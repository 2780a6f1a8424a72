-- The policy of a session after its first requests.
use Rattle.std.specs.Prelude.{ℕ, List, Some, None, Result, Ok, Err, take, fold}
use Rattle.gps_report.specs.declared.policy.CommandFault.{CommandFault}
use Rattle.gps_report.specs.declared.policy.Policy.{Policy}
use Rattle.watch_policy.specs.Policies.{opening_policy, policy_after}
use Rattle.gps_command.specs.Commands.{command_in}
use Rattle.gps_command.specs.declared.command.Command.{Command}
use Rattle.gps_command.specs.declared.command.Command.TheVariants.{Version, Devices, Poll, Watch}
use Rattle.gps_command.specs.declared.request.RawCommand.{RawCommand}

-- a WATCH object changes the policy; nothing else does
abbrev pub policy_by : Policy → Command → Policy
policy_by policy Version = policy
policy_by policy Devices = policy
policy_by policy Poll = policy
policy_by policy (Watch None) = policy
policy_by policy (Watch (Some change)) = policy_after policy change

abbrev pub policy_answered : Policy → Result Command CommandFault → Policy
policy_answered policy (Ok command) = policy_by policy command
policy_answered policy (Err fault) = policy

abbrev pub policy_with : Policy → RawCommand → Policy
policy_with policy request = policy_answered policy (command_in request)

-- after the first k of the requests
abbrev pub policy_at : ℕ → List RawCommand → Policy
policy_at k requests = fold policy_with opening_policy (take k requests)
