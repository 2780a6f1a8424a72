use Rattle.std.proofs.Common.{◌≡◌, map, take}
use Rattle.book_units.specs.Units.{segment_of}
use Rattle.serve_workers.specs.Segments.{segments_of}
use Rattle.serve_workers.proofs.monitors.monitor_starts.Given as goal

abbrev pub invariant-units : goal.invariant-units
invariant-units g l = record {
  book : l.book ≡ l.initial.book;
  segments : segments_of l.monitor_starts.items ≡ take l.unit (map segment_of l.book.units);
}
