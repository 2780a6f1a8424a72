use Rattle.std.proofs.Common.{sym, subst}
use Rattle.serve_workers.specs.declared.writer.WriterEnd.{WriterEnd}
use Rattle.serve_workers.specs.Sessions.{Wrote}
use Rattle.serve_workers.specs.Writers.{WriterView}
use Rattle.serve_end.proofs.Endings.{sessions_tell_last}
use Rattle.serve_end.proofs.session.session_done.Goals as goal

pub returns-clause-one_more : goal.returns-clause-one_more
returns-clause-one_more g c = λ link runs none.
    c.settle_reader-source.ensures.rx.behind (sessions_tell_last _ _ _ _ _ runs.reads.hands none)

pub returns-clause-wrote : goal.returns-clause-wrote
returns-clause-wrote g c = λ link runs.
    let P : WriterEnd → WriterView g.row.K.Denot → Type 0 = λ e w.
    Wrote e link.items w.items (g.K.ClientSink.written link.sink) (g.K.ClientSink.written w.sink) (g.K.ClientSink.faults link.sink) (g.K.ClientSink.faults w.sink) in
    let settled : P c.settle_outlet.result.end c.settle_outlet.result =
    c.settle_outlet.ensures.wrote link.items (g.K.ClientSink.written link.sink) (g.K.ClientSink.faults link.sink) runs.wrote in
    let shown : WriterView g.row.K.Denot = record { sink = c.sink.inside.sink; items = c.sink.inside.items; end = c.sink.inside.end } in
    let opened : P shown.end shown = subst (λ (w : WriterView g.row.K.Denot). P w.end w) (sym c.sink.view_is) settled in
    subst (λ e. P e shown) (sym c.session_end.ensures) opened
