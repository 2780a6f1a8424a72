use Rattle.std.proofs.Common.{rules}
use Rattle.session_core.proofs.Gaining.{fresh_as}
use Rattle.session_core.proofs.session.Session.new.Goals as goal

pub returns-clause-agrees : goal.returns-clause-agrees
returns-clause-agrees g c = λ lines history. fresh_as lines history (g.O.Outlet.name c.args.outlet) (g.O.Outlet.cap c.args.outlet) (g.O.Outlet.kept c.args.outlet) _ (search rules)
