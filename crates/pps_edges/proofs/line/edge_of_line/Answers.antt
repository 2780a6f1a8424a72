use Rattle.pps_edges.proofs.EdgeLines.{exact, none}
use Rattle.pps_edges.proofs.line.edge_of_line.Goals as goal

pub returns-clause-exact : goal.returns-clause-exact
returns-clause-exact c = exact c.args.line.now c.scan.result c.scan.ensures

pub returns-clause-none : goal.returns-clause-none
returns-clause-none c = none c.args.line.now c.scan.result c.scan.ensures
