use Rattle.std.proofs.Common.{length}
use Rattle.gps_words.proofs.options.+with_options.Given as goal

abbrev pub decreases-with_options : goal.decreases-with_options
decreases-with_options f = length f.names.now
