use Rattle.std.proofs.Common.{length}
use Rattle.gps_help.proofs.command_name.+option_among.Given as goal

abbrev pub decreases-option_among : goal.decreases-option_among
decreases-option_among l = length l.options.now
