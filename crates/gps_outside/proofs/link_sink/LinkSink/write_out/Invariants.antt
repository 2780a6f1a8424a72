use Rattle.std.proofs.Common.{◌≡◌}
use Rattle.gps_outside.proofs.link_sink.LinkSink.write_out.Given as goal

-- so far each write took nothing
abbrev pub invariant-tries : goal.invariant-tries
invariant-tries g l = l.self ≡ l.initial.self
