use Rattle.std.proofs.Common.{◌≡◌, ap, ◌∙◌, arith, false, length, replicate}
use Rattle.book_log.proofs.NewLines.{new_stand, new_stopped}
use Rattle.book_log.proofs.device_states.DeviceStates.new.Goals as goal

pub returns-clause-stands : goal.returns-clause-stands
returns-clause-stands c = new_stand _ c.loop-d.invariant.all_new

pub returns-clause-stopped : goal.returns-clause-stopped
returns-clause-stopped c =
    let count : length c.loop-d.list.items ≡ c.args.count = omega (arith, c.loop-d.invariant.count) in
    new_stopped _ c.loop-d.invariant.all_new ∙ ap (λ n. replicate n false) count
