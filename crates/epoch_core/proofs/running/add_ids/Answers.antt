use Rattle.std.proofs.Common.{take}
use Rattle.epoch_core.proofs.Sameness.{ids_front}
use Rattle.epoch_core.proofs.running.add_ids.Goals as goal

pub returns-in-Err-clause-err : goal.returns-in-Err-clause-err
returns-in-Err-clause-err c =
    ids_front _ _ _ _ (take c.loop-id.id-index c.args.ids.now) c.args.system _ c.loop-id.invariant c.in-Err.ensures.err
    c.len-len.ensures.length c.truncate.ensures
