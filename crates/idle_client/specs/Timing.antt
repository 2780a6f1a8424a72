-- What a timer keeps of a client.
use Rattle.std.specs.Prelude.{◌≡◌, ℕ, Bool, false, List, fold}
use Rattle.gps_report.specs.declared.policy.Policy.{Policy}
use Rattle.gps_command.specs.declared.request.RawCommand.{RawCommand}
use Rattle.gps_command.specs.Policies.{policy_with}
use Rattle.gps_command.specs.Kept.{CommandCutterView}
use Rattle.gps_command.specs.Kept as input
use Rattle.idle_client.specs.Idle.{Client, bytes_of, has_asked, last_asked, watches}

pub record IdleTimerView : Type 0 where
  pub cutter : CommandCutterView
  pub watches : Bool
  pub asked : Bool
  pub since : ℕ
  pub missed : Bool  -- memory was short when bytes were taken, so nothing is known any more

-- all bytes were read, and what is kept is what they and their times leave
pub record StandsFor (timer : IdleTimerView) (client : Client) : Type 0 where
  pub missed : timer.missed ≡ false
  pub cutter : input.StandsFor timer.cutter (bytes_of client.reads)
  pub watches : timer.watches ≡ watches client
  pub asked : timer.asked ≡ has_asked client
  pub since : timer.since ≡ last_asked client.came client.reads

-- whether a policy is enabled after these requests depends on whether it was before
abbrev pub Leaves : (before : Bool) → List RawCommand → (after : Bool) → Type 0
Leaves before requests after = (policy : Policy) → policy.enable ≡ before → (fold policy_with policy requests).enable ≡ after
