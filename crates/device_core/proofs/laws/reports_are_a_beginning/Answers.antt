use Rattle.device_core.specs.Reports.{reports_from}
use Rattle.device_core.proofs.Streams.{reports-append}
use Rattle.device_core.proofs.laws.reports_are_a_beginning.Goals as goal

pub returns : goal.returns
returns c = λ stream more. (reports_from stream more, reports-append _ stream more)
