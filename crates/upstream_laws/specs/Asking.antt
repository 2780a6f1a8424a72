-- What the request asks for, as this project's daemon reads it: a WATCH object of gpsd_json(5) with `raw` 2, and one device or none.
use Rattle.std.specs.Prelude.{◌≡◌, ℕ, true, List, [], ◌∷◌, Option, Some, IfSome, Ok}
use Rattle.gps_report.specs.Name.{is_name}
use Rattle.watch_policy.specs.Policies.{opening_policy, policy_after}
use Rattle.watch_policy.specs.declared.change.Change.{Change}
use Rattle.gps_command.specs.Commands.{command_in}
use Rattle.gps_command.specs.Requests.{requests}
use Rattle.gps_command.specs.declared.command.Command.TheVariants as command
use Rattle.gps_command.specs.declared.request.RawCommand.TheVariants as raw
use Rattle.upstream_laws.specs.Carried.{packets_policy, request}

-- It is one request, whose object changes the policy that a session opens with to that of packets as they came.
pub record IsUnderstood (device : Option (List ℕ)) : Type 0 where
  pub words : List ℕ
  pub alone : requests (request device) ≡ raw.Words words ∷ []
  pub change : Change
  pub watches : command_in (raw.Words words) ≡ Ok (command.Watch (Some change))
  pub policy : policy_after opening_policy change ≡ packets_policy device

abbrev pub RequestIsUnderstood : Type 0
RequestIsUnderstood = (device : Option (List ℕ)) → IfSome device (λ name. is_name name ≡ true) → IsUnderstood device
