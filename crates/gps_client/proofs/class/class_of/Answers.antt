use Rattle.gps_client.proofs.Classes.{class_exact, class_none}
use Rattle.gps_client.proofs.class.class_of.Goals as goal

pub returns-clause-exact : goal.returns-clause-exact
returns-clause-exact c = class_exact c.class_in-class.result c.args.line.now c.class_in-class.ensures

pub returns-clause-none : goal.returns-clause-none
returns-clause-none c = class_none c.class_in-class.result c.args.line.now c.class_in-class.ensures
