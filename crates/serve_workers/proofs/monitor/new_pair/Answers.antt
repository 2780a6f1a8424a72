use Rattle.std.proofs.Common.{true, false, sym, ◌∙◌, ap}
use Rattle.shm_monitor.specs.MonitorView.{MonitorView}
use Rattle.serve_workers.proofs.Once.{once_climbs, taken_once}
use Rattle.serve_workers.proofs.monitor.new_pair.Goals as goal

pub returns-then-is_new-clause-pair : goal.returns-then-is_new-clause-pair
returns-then-is_new-clause-pair c =
    taken_once true _ _ _ _ _ (ap (λ (m : MonitorView). m.taken) c.in-Taken.ensures.read.2) c.requires.first c.last-before.ensures.rises
    c.last-before.ensures.last c.in-Taken.ensures.not_old.0 (sym c.if-is_new.true ∙ c.is_new.ensures)

pub returns-then-is_new-clause-climbs : goal.returns-then-is_new-clause-climbs
returns-then-is_new-clause-climbs c = once_climbs 0 _ c.last.ensures.rises

pub returns-else-is_new-clause-pair : goal.returns-else-is_new-clause-pair
returns-else-is_new-clause-pair c =
    taken_once false _ _ _ _ _ (ap (λ (m : MonitorView). m.taken) c.in-Taken.ensures.read.2) c.requires.first c.last-before.ensures.rises
    c.last-before.ensures.last c.in-Taken.ensures.not_old.0 (sym c.if-is_new.false ∙ c.is_new.ensures)

pub returns-else-is_new-clause-climbs : goal.returns-else-is_new-clause-climbs
returns-else-is_new-clause-climbs c = once_climbs 0 _ c.last.ensures.rises

pub returns-in-NotReady-clause-climbs : goal.returns-in-NotReady-clause-climbs
returns-in-NotReady-clause-climbs c = once_climbs 0 _ c.last.ensures.rises

pub returns-in-Clash-clause-climbs : goal.returns-in-Clash-clause-climbs
returns-in-Clash-clause-climbs c = once_climbs 0 _ c.last.ensures.rises
