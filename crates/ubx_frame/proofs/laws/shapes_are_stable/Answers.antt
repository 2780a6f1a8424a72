use Rattle.ubx_frame.proofs.Stable.{whole_stays, no_stays, whole_least, pending_short}
use Rattle.ubx_frame.proofs.laws.shapes_are_stable.Goals as goal

pub returns : goal.returns
returns c = record { whole_stays = whole_stays; no_stays = no_stays; whole_least = whole_least; pending_short = pending_short }
