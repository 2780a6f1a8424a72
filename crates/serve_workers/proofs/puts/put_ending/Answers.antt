use Rattle.gps_lane.proofs.Held.{last_begins}
use Rattle.serve_workers.proofs.puts.put_ending.Goals as goal

pub put-requires-clause-due : goal.put-requires-clause-due
put-requires-clause-due g c = last_begins c.args.pieces.now.about c.args.pieces.now.put c.args.ending c.show_due.ensures
