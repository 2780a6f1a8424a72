use Rattle.std.proofs.Common.{◌∙◌}
use Rattle.gps_outside.proofs.Writing.{written_more, not_empty}
use Rattle.gps_outside.proofs.sink.write_all.Goals as goal

pub writes-preserved : goal.writes-preserved
writes-preserved g c = record {
  takes = c.in-Wrote.ensures.takes;
  bytes = written_more c.in-Wrote.n _ _ _ _ _ c.writes.invariant.bytes c.in-Wrote.ensures.bytes;
  faults = c.in-Wrote.ensures.fails_only ∙ c.writes.invariant.faults;
  empty = λ none. absurd (not_empty c.in-Wrote.n _ _ _ _ c.writes.invariant.bytes c.in-Wrote.ensures.fits none);
}
