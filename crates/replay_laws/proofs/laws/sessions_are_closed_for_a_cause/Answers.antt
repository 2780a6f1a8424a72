use Rattle.replay_laws.proofs.AnsweredLaws.{closed_for, hung_up}
use Rattle.replay_laws.proofs.Ended.{last_sessions}
use Rattle.replay_laws.proofs.laws.sessions_are_closed_for_a_cause.Goals as goal

pub returns : goal.returns
returns c = record { cause = closed_for; hung_up = hung_up; at_end = last_sessions }
