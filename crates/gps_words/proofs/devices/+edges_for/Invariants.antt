use Rattle.std.proofs.Common.{length}
use Rattle.gps_words.proofs.devices.+edges_for.Given as goal

abbrev pub decreases-edges_for : goal.decreases-edges_for
decreases-edges_for f = length f.words.now
