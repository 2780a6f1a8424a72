use Rattle.std.proofs.Common.{rules}
use Rattle.session_core.proofs.Gaining.{taken_as}
use Rattle.session_core.proofs.session.Session+PlainOutlet.take.Goals as goal

pub returns-clause-holding : goal.returns-clause-holding
returns-clause-holding c = λ lines history stretches holding. taken_as lines history stretches c.args.self.now _ (search rules) holding
