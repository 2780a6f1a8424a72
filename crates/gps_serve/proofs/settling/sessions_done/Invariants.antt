use Rattle.std.proofs.Common.{◌≡◌, ◌≤◌, ◌+◌, length}
use Rattle.std.specs.Vec.{vec_len, vec_capacity}
use Rattle.std.specs.Vec.Iter.{into_iter_items}
use Rattle.gps_serve.specs.Facts.{sink_facts}
use Rattle.serve_workers.specs.Joining.{RanSoFar}
use Rattle.gps_serve.specs.Readies.{IsLeftOfLink, SessionsSoFar}
use Rattle.serve_end.specs.Runs.{source_facts}
use Rattle.gps_serve.proofs.settling.sessions_done.Given as goal

abbrev pub invariant-sessions : goal.invariant-sessions
invariant-sessions g l = record {
  so_far : SessionsSoFar (source_facts g.S.Source) (sink_facts g.K.ClientSink) l.book.sessions l.fn.inputs.items
      (into_iter_items l.inputs) (into_iter_items l.runs) l.number l.done.items;
  links : RanSoFar (IsLeftOfLink (source_facts g.S.Source) (sink_facts g.K.ClientSink)) l.fn.runs.items (into_iter_items l.runs) l.done.items;
  book : l.book ≡ l.initial.book;
  all : l.number-end ≡ length l.book.sessions;
  count : vec_len l.done + length (into_iter_items l.runs) ≡ vec_len l.fn.runs;
  room : vec_len l.fn.runs ≤ vec_capacity l.done;
}
