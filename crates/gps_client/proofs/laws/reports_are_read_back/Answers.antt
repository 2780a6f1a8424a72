use Rattle.gps_report.specs.declared.report.Body.TheVariants as body
use Rattle.gps_client.proofs.Streams.{history_back, close_back, read_back}
use Rattle.gps_client.proofs.laws.reports_are_read_back.Goals as goal

pub returns-clause-reports : goal.returns-clause-reports
returns-clause-reports c = history_back

pub returns-clause-at_the_end : goal.returns-clause-at_the_end
returns-clause-at_the_end c = close_back

pub returns-clause-devices : goal.returns-clause-devices
returns-clause-devices c = λ name activated is stamp. read_back name is (body.Device activated) stamp tt
