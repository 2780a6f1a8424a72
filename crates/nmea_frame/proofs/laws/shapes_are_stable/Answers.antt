use Rattle.nmea_frame.proofs.Stable as stable
use Rattle.nmea_frame.proofs.laws.shapes_are_stable.Goals as goal

pub returns : goal.returns
returns c = record {
  whole_stays = stable.whole_stays;
  no_stays = stable.no_stays;
  whole_least = stable.whole_least;
  whole_short = stable.whole_short;
  pending_short = stable.pending_short;
}
