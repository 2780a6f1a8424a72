use Rattle.line_player.proofs.Dues.{last_line, last_long}
use Rattle.line_player.proofs.lines.Lines.run_last.Goals as goal

pub returns-in-Line-clause-runs : goal.returns-in-Line-clause-runs
returns-in-Line-clause-runs g c = λ bytes at. last_line c.line.result _ bytes _ _ _ _ _ _ _ at (c.in-Line.ensures bytes at.cut) c.line.ensures.rounds

pub returns-in-TooLong-clause-runs : goal.returns-in-TooLong-clause-runs
returns-in-TooLong-clause-runs g c = λ bytes at. last_long _ bytes _ _ _ _ at (c.in-TooLong.ensures bytes at.cut)
