use Rattle.gps_serve.proofs.scope.make_rooms.Goals as goal

pub invariant_of-result : goal.invariant_of-result
invariant_of-result g c = record {
  works_none = c.in_ok-works.ensures.none;
  runs_none = c.in_ok-runs.ensures.none;
  watching_none = c.in_ok-watching.ensures.none;
  watched_none = c.in_ok-watched.ensures.none;
  works_len = c.in_ok-works.ensures.len;
  runs_len = c.in_ok-runs.ensures.len;
  watching_len = c.in_ok-watching.ensures.len;
  watched_len = c.in_ok-watched.ensures.len;
}
