use Rattle.std.proofs.Common.{refl, ◌∙◌, ap, subst}
use Rattle.serve_workers.specs.Writers.{WriterView}
use Rattle.serve_door.specs.Released.{WritesOn}
use Rattle.serve_door.proofs.Released.{skipped_on}
use Rattle.serve_door.proofs.release.skip_items.Goals as goal

pub returns-clause-on : goal.returns-clause-on
returns-clause-on g c =
    let was : WriterView g.row.K.Denot = record { sink = c.writer.inside.sink; items = c.writer.inside.items; end = c.writer.inside.end } in
    let now : WriterView g.row.K.Denot = record { sink = c.writer.inside.sink; items = c.drop_items.new.items; end = c.writer.inside.end } in
    subst (λ (w : WriterView g.row.K.Denot). WritesOn g.K.ClientSink.written g.K.ClientSink.faults w now) c.writer.view_is
    (skipped_on g.K.ClientSink.written g.K.ClientSink.faults was now (ap (λ (w : WriterView g.row.K.Denot). w.end) c.writer.view_is ∙ c.requires.failed)
    c.drop_items.ensures.items refl refl)
