use Rattle.std.proofs.Common.{ℕ, List, Option, subst}
use Rattle.gps_lane.specs.Ends.{Taking}
use Rattle.serve_workers.specs.Sessions.{Wrote}
use Rattle.serve_workers.specs.Writers.{WriterView}
use Rattle.serve_end.proofs.Emptying.{drained_on, failed_on}
use Rattle.serve_end.proofs.session.settle_outlet.Goals as goal

pub returns-in-Drained-clause-wrote : goal.returns-in-Drained-clause-wrote
returns-in-Drained-clause-wrote g c =
    let P : WriterView g.row.K.Denot → Type 0 = λ w.
    (rx : Taking (List ℕ)) (before : Option (List ℕ)) (faults : ℕ)
    → Wrote w.end rx w.items before (g.K.ClientSink.written w.sink) faults (g.K.ClientSink.faults w.sink)
    → Wrote c.drain-end.result rx c.drain-end.new.items before (g.K.ClientSink.written c.drain-end.new.sink) faults (g.K.ClientSink.faults c.drain-end.new.sink) in
    subst P c.writer.view_is
    (drained_on c.writer.inside.end c.drain-end.result c.writer.inside.items c.drain-end.new.items _ _ _ _ c.in-Drained.is c.drain-end.ensures.wrote)

pub returns-in-WriteFault-clause-wrote : goal.returns-in-WriteFault-clause-wrote
returns-in-WriteFault-clause-wrote g c =
    let P : WriterView g.row.K.Denot → Type 0 = λ w.
    (rx : Taking (List ℕ)) (before : Option (List ℕ)) (faults : ℕ)
    → Wrote w.end rx w.items before (g.K.ClientSink.written w.sink) faults (g.K.ClientSink.faults w.sink)
    → Wrote c.writer.inside.end rx c.next_item.new.items before (g.K.ClientSink.written c.writer.inside.sink) faults (g.K.ClientSink.faults c.writer.inside.sink) in
    subst P c.writer.view_is
    (failed_on c.writer.inside.end c.writer.inside.items c.next_item.new.items c.next_item.result _ _ c.in-WriteFault.is c.next_item.ensures.items)
