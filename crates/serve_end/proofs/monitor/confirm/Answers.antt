use Rattle.serve_end.proofs.Published.{heard_of}
use Rattle.serve_end.proofs.monitor.confirm.Goals as goal

pub returns-clause-bears_out : goal.returns-clause-bears_out
returns-clause-bears_out g c =
    heard_of c.args.book.now c.args.unit c.args.monitor.now c.account-account.result c.account-account.ensures.account c.tell.ensures.heard
