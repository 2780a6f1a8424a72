use Rattle.std.proofs.Common.{◌≡◌, take}
use Rattle.book_log.specs.Readings.{sky_in, last_of}
use Rattle.book_log.proofs.gather.last_sky.Given as goal

abbrev pub invariant-loop-body : goal.invariant-loop-body
invariant-loop-body l = l.sky ≡ last_of sky_in (take l.body-index l.bodies)
