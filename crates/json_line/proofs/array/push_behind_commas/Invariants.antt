use Rattle.std.proofs.Common.{◌≡◌, ◌++◌, take}
use Rattle.json_line.specs.Json.{behind_commas}
use Rattle.json_line.proofs.array.push_behind_commas.Given as goal

abbrev pub invariant-loop-item : goal.invariant-loop-item
invariant-loop-item g l = l.out ≡ l.initial.out ++ behind_commas (g.W.Writes.text l.writer) (take l.item-index l.items)
