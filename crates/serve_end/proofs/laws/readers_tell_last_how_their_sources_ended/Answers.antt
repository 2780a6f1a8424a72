use Rattle.serve_end.proofs.Endings.{devices_tell_last, edges_tell_last, sessions_tell_last}
use Rattle.serve_end.proofs.laws.readers_tell_last_how_their_sources_ended.Goals as goal

pub returns-clause-devices : goal.returns-clause-devices
returns-clause-devices c = devices_tell_last

pub returns-clause-sessions : goal.returns-clause-sessions
returns-clause-sessions c = sessions_tell_last

pub returns-clause-edges : goal.returns-clause-edges
returns-clause-edges c = edges_tell_last
