use Rattle.gps_serve.proofs.scope.set_up.Goals as goal

pub invariant_of-result : goal.invariant_of-result
invariant_of-result g c = record {
  told = c.requires.told;
  roll_new = c.requires.roll;
  works_none = c.args.rooms.works_none;
  runs_none = c.args.rooms.runs_none;
  watching_none = c.args.rooms.watching_none;
  watched_none = c.args.rooms.watched_none;
  works_len = c.args.rooms.works_len;
  runs_len = c.args.rooms.runs_len;
  watching_len = c.args.rooms.watching_len;
  watched_len = c.args.rooms.watched_len;
  works_room = c.requires.works;
  runs_room = c.requires.runs;
  watching_room = c.requires.watching;
  watched_room = c.requires.watched;
}
