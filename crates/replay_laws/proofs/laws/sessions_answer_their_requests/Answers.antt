use Rattle.replay_laws.proofs.AnsweredLaws.{heard, log_made}
use Rattle.replay_laws.proofs.laws.sessions_answer_their_requests.Goals as goal

pub returns : goal.returns
returns c = record { log = log_made; sessions = heard }
