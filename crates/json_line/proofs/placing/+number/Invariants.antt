use Rattle.std.proofs.Common.{◌*◌, ◌+◌}
use Rattle.json_line.proofs.placing.+number.Given as goal

abbrev pub decreases-place_number : goal.decreases-place_number
decreases-place_number l = 2 * l.n + 1

abbrev pub decreases-place_long : goal.decreases-place_long
decreases-place_long l = 2 * l.n
