use Rattle.command_laws.proofs.Crossing.{sessions_alike, sessions_begin_alike, sessions_cross, taken_cross}
use Rattle.command_laws.proofs.sessions.sessions_come_across.Goals as goal

pub returns : goal.returns
returns c = record { packets = sessions_cross; taken = taken_cross; reports = sessions_alike; first_reports = sessions_begin_alike }
