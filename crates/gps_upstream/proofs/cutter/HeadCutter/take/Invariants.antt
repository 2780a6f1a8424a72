use Rattle.gps_upstream.proofs.Heads.{IsUnderWay}
use Rattle.gps_upstream.proofs.cutter.HeadCutter.take.Given as goal

abbrev pub invariant-bytes : goal.invariant-bytes
invariant-bytes l = IsUnderWay l.used l.piece l.initial.self l.self
