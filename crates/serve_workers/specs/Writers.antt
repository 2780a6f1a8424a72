-- What a writer hands back.
use Rattle.std.specs.Prelude.{ℕ, List}
use Rattle.gps_lane.specs.Ends.{Taking}
use Rattle.serve_workers.specs.declared.writer.WriterEnd.{WriterEnd}

-- its sink, the end of its lane, and how the writing ended
pub record WriterView (K : Type 0) : Type 0 where
  pub sink : K
  pub items : Taking (List ℕ)
  pub end : WriterEnd
