use Rattle.std.proofs.Common.{◌≡◌, ◌++◌, length}
use Rattle.output_lines.specs.Items.{escaped_text}
use Rattle.output_lines.proofs.item.push_escaped_text.Given as goal

abbrev pub invariant-runs : goal.invariant-runs
invariant-runs l = l.out ++ escaped_text l.rest ≡ l.initial.out ++ escaped_text l.bytes

abbrev pub decreases-runs : goal.decreases-runs
decreases-runs l = length l.rest
