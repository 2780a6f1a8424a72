use Rattle.serve_end.proofs.Published.{notice_part}
use Rattle.serve_end.proofs.monitor.notice_of.Goals as goal

pub returns-clause-part : goal.returns-clause-part
returns-clause-part g c = λ segment part. notice_part c.args.book.now c.args.unit segment c.in-Ok.notice part c.in-Ok.ensures.notice
