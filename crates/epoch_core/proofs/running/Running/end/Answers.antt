use Rattle.epoch_core.proofs.Grown.{grown_back}
use Rattle.epoch_core.proofs.running.Running.end.Goals as goal

pub returns-in-Err-clause-err : goal.returns-in-Err-clause-err
returns-in-Err-clause-err c =
    grown_back _ _ _ _ _ c.point-before.ensures c.in_ok-grow.ensures.ok c.undo.ensures
