use Rattle.std.proofs.Common.{take}
use Rattle.std.proofs.Math.Seq.{take-append-add, take-length}
use Rattle.std.proofs.lemmas.List.Sums.{fold-append}
use Rattle.watch_policy.specs.Policies.{opening_policy}
use Rattle.gps_command.specs.Policies.{policy_with}
use Rattle.gps_command.proofs.laws.policy_goes_on.Goals as goal

pub returns : goal.returns
returns c = λ first more k. rw (take-append-add first more k, fold-append policy_with opening_policy first (take k more), take-length first)
