use Rattle.serve_workers.proofs.LineSourcing.{last_due, last_short}
use Rattle.serve_workers.proofs.edges.put_last.Goals as goal

pub put_line-requires-clause-due : goal.put_line-requires-clause-due
put_line-requires-clause-due g c = last_due c.args.pieces.now.about c.args.pieces.now.put _ c.in-Line.line c.requires.limit c.requires.from c.in-Line.ensures

pub put_line-requires-clause-short : goal.put_line-requires-clause-short
put_line-requires-clause-short g c = last_short c.args.pieces.now.about.source c.args.pieces.now.put _ c.in-Line.line c.requires.limit c.requires.from c.in-Line.ensures
