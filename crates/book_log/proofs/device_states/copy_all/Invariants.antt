use Rattle.std.proofs.Common.{◌≡◌, take}
use Rattle.book_log.proofs.device_states.copy_all.Given as goal

abbrev pub invariant-loop-line : goal.invariant-loop-line
invariant-loop-line l = l.copies.items ≡ take l.line-index l.lines.items
