use Rattle.std.proofs.Common.{◌≡◌}
use Rattle.ubx_decode.specs.Sat.{satellites_of}
use Rattle.ubx_decode.proofs.sat.satellites_of.Given as goal

abbrev pub invariant-loop-place : goal.invariant-loop-place
invariant-loop-place l = l.sats.items ≡ satellites_of l.place l.groups
