use Rattle.std.proofs.Common.{◌+◌, map, take, sym, ◌∙◌, ap}
use Rattle.book_units.specs.Units.{segment_of}
use Rattle.report_book.specs.BookView.{BookView}
use Rattle.serve_workers.specs.Segments.{segments_of}
use Rattle.serve_workers.proofs.Segments.{one_segment, there_if}
use Rattle.serve_workers.proofs.monitors.monitor_starts.Goals as goal

pub units-preserved : goal.units-preserved
units-preserved g c =
    let there = there_if _ c.units.book.units c.units.unit c.unit.result c.unit.ensures c.if-is_none.ensures in
    record {
      book = c.monitor_seat.ensures.unchanged ∙ c.units.invariant.book;
      segments = ap segments_of c.in_ok-push.ensures.items
          ∙ one_segment c.units.monitor_starts.items _ c.units.book.units c.units.unit c.units.invariant.segments there (λ free. (c.in-Ok.ensures.part free).0)
          ∙ ap (λ (b : BookView). take (c.units.unit + 1) (map segment_of b.units)) (sym c.monitor_seat.ensures.unchanged);
    }
