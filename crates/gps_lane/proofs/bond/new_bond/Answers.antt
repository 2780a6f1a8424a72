use Rattle.gps_lane.proofs.Bonding.{opens}
use Rattle.gps_lane.proofs.bond.new_bond.Goals as goal

pub of_words-requires : goal.of_words-requires
of_words-requires g c = opens
