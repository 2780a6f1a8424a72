use Rattle.std.proofs.Common.{◌≡◌, ◌≤◌, ◌+◌, length}
use Rattle.std.specs.Vec.{vec_len, vec_capacity}
use Rattle.std.specs.Vec.Iter.{into_iter_items}
use Rattle.serve_workers.specs.Joining.{RanSoFar}
use Rattle.serve_door.specs.Doors.{links_at}
use Rattle.serve_workers.specs.Sessions.{SessionRuns}
use Rattle.serve_door.proofs.seated.Sessions.join_all.Given as goal

abbrev pub invariant-sessions : goal.invariant-sessions
invariant-sessions g l = record {
  ran : RanSoFar (SessionRuns g.S.Source.content g.S.Source.faults g.S.Source.quiets g.K.ClientSink.written g.K.ClientSink.faults)
      (links_at l.fn.self.seated.items) (links_at (into_iter_items l.session-iterator)) l.runs.items;
  count : vec_len l.runs + length (into_iter_items l.session-iterator) ≡ vec_len l.fn.self.seated;
  room : vec_len l.fn.self.seated ≤ vec_capacity l.runs;
}
