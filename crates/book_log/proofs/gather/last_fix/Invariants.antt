use Rattle.std.proofs.Common.{◌≡◌, take}
use Rattle.book_log.specs.Readings.{fix_in, last_of}
use Rattle.book_log.proofs.gather.last_fix.Given as goal

abbrev pub invariant-loop-body : goal.invariant-loop-body
invariant-loop-body l = l.fix ≡ last_of fix_in (take l.body-index l.bodies)
