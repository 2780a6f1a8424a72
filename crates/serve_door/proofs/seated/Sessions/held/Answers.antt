use Rattle.std.proofs.Common.{arith}
use Rattle.serve_door.proofs.seated.Sessions.held.Goals as goal

pub returns-clause-few : goal.returns-clause-few
returns-clause-few g c =
    let few = c.args.self.now.few in
    let seated = c.args.self.now.seated.ok.0 in
    let live = c.len.ensures in
    omega (arith, few, seated, live)
