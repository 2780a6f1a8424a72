use Rattle.std.proofs.Common.{rules}
use Rattle.session_core.specs.declared.outlet.Push.TheVariants.{Done}
use Rattle.session_core.proofs.Gaining.{reply_gains}
use Rattle.session_core.proofs.session.Session.reply.Goals as goal

pub returns-in-Done-clause-items : goal.returns-in-Done-clause-items
returns-in-Done-clause-items g c = λ lines history stretches at agrees. reply_gains c.args.place c.args.policy c.args.item c.args.self.now _ Done c.requires.open (search rules) lines history stretches at agrees
