use Rattle.std.proofs.Common.{◌≡◌}
use Rattle.gps_outside.proofs.real_sink.RealSink.write_out.Given as goal

-- so far each write took nothing
abbrev pub invariant-tries : goal.invariant-tries
invariant-tries l = (l.self-inside.wire.bytes ≡ l.initial.self-inside.wire.bytes) × (l.self-inside.faults ≡ l.initial.self-inside.faults)
