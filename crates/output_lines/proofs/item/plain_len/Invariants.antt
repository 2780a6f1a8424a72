use Rattle.std.proofs.Common.{◌≡◌, ◌+◌, ◌-◌, ◌≤◌, length, drop}
use Rattle.std.specs.List.{prefix_len}
use Rattle.output_lines.specs.Items.{is_plain}
use Rattle.output_lines.proofs.item.plain_len.Given as goal

abbrev pub invariant-rows : goal.invariant-rows
invariant-rows l = record {
  within : l.at ≤ length l.text;
  run : prefix_len is_plain l.text ≡ l.at + prefix_len is_plain (drop l.at l.text);
}

abbrev pub decreases-rows : goal.decreases-rows
decreases-rows l = length l.text - l.at
