use Rattle.std.proofs.Common.{◌≡◌, ◌≤◌, ◌++◌, length, take}
use Rattle.json_line.specs.Json.{behind_commas}
use Rattle.json_line.specs.Lines.{satellite}
use Rattle.json_line.proofs.sky.push_further.Given as goal

abbrev pub invariant-loop-s : goal.invariant-loop-s
invariant-loop-s l =
    (l.out ++ take l.end l.room ≡ (l.initial.out ++ take l.made l.initial.room) ++ behind_commas satellite (take l.s-index l.further))
    × ((l.end ≤ 1_024) × (length l.room ≡ 1_024))
