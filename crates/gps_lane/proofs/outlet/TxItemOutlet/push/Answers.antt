use Rattle.gps_lane.proofs.outlet.TxItemOutlet.push.Goals as goal

pub push-requires-clause-due : goal.push-requires-clause-due
push-requires-clause-due g c = c.requires.may
