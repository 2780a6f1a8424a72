use Rattle.gps_outside.proofs.Statuses.{read_cause, write_cause}
use Rattle.command_run.proofs.laws.faults_show_at_their_statuses.Goals as goal

pub returns : goal.returns
returns c = record {
  read_fault = λ status source sink. read_cause source sink status;
  write_fault = λ status source sink. write_cause source sink status;
}
