use Rattle.std.proofs.Common.{◌≡◌, ◌++◌, take}
use Rattle.ghost_list.proofs.ghost_list.GhostList.add_all.Given as goal

-- the items before this place were added
abbrev pub invariant-loop-i : goal.invariant-loop-i
invariant-loop-i g l = l.self ≡ l.initial.self ++ take l.i l.items
