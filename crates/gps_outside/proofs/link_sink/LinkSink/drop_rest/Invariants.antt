use Rattle.std.proofs.Common.{◌≡◌}
use Rattle.gps_outside.proofs.link_sink.LinkSink.drop_rest.Given as goal

-- what is read here is no part of what was written
abbrev pub invariant-reads : goal.invariant-reads
invariant-reads g l = l.self ≡ l.initial.self
