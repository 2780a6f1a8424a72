use Rattle.std.proofs.Common.{length}
use Rattle.gps_words.proofs.devices.+edges_end_names.Given as goal

abbrev pub decreases-edges_end_names : goal.decreases-edges_end_names
decreases-edges_end_names f = length f.words.now
