use Rattle.gps_client.proofs.Theorem.{says_ok, finds, says_no}
use Rattle.gps_client.proofs.reading.read_line.Goals as goal

pub returns-clause-ok : goal.returns-clause-ok
returns-clause-ok c = says_ok c.line_in-read.result c.args.line.now c.line_in-read.ensures

pub returns-clause-found : goal.returns-clause-found
returns-clause-found c = finds c.line_in-read.result c.args.line.now c.line_in-read.ensures

pub returns-clause-not_a_line : goal.returns-clause-not_a_line
returns-clause-not_a_line c = says_no c.line_in-read.result c.args.line.now c.line_in-read.ensures
