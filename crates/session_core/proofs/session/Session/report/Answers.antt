use Rattle.std.proofs.Common.{rules}
use Rattle.session_core.specs.declared.outlet.Push.TheVariants.{Done, Full}
use Rattle.session_core.proofs.Gaining.{report_gains}
use Rattle.session_core.proofs.session.Session.report.Goals as goal

pub returns-in-Done-clause-items : goal.returns-in-Done-clause-items
returns-in-Done-clause-items g c = λ lines history last stretches at chosen holding. report_gains c.args.place c.args.item c.args.self.now _ Done c.requires.open (search rules) lines history last stretches at chosen holding

pub returns-in-Full-clause-items : goal.returns-in-Full-clause-items
returns-in-Full-clause-items g c = λ lines history last stretches at chosen holding. report_gains c.args.place c.args.item c.args.self.now _ Full c.requires.open (search rules) lines history last stretches at chosen holding
