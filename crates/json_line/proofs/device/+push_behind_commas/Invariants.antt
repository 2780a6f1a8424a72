use Rattle.std.proofs.Common.{length}
use Rattle.json_line.proofs.device.+push_behind_commas.Given as goal

abbrev pub decreases-push_behind_commas : goal.decreases-push_behind_commas
decreases-push_behind_commas l = length l.names.now
