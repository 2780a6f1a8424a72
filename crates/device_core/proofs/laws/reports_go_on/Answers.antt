use Rattle.device_core.proofs.Streams.{reports-append}
use Rattle.device_core.proofs.laws.reports_go_on.Goals as goal

pub returns : goal.returns
returns c = λ stream more. reports-append _ stream more
