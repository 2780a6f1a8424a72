use Rattle.replay_laws.proofs.Printed.{no_session_lines, refused_sessions, whole_sessions}
use Rattle.replay_laws.proofs.laws.sessions_are_written_their_items.Goals as goal

pub returns : goal.returns
returns c = record { whole = whole_sessions; refused = refused_sessions; none = no_session_lines }
