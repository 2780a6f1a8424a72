use Rattle.std.proofs.Common.{◌≡◌, ◌-◌}
use Rattle.upstream_laws.specs.Head.{most}
use Rattle.gps_upstream.proofs.Rounds.{IsInHead}
use Rattle.gps_upstream.proofs.reading.read_on.Given as goal

abbrev pub invariant-rounds : goal.invariant-rounds
invariant-rounds g l = record {
  head : IsInHead l.initial.cutter l.cutter (g.S.Source.content l.initial.source) (g.S.Source.content l.source);
  faults : g.S.Source.faults l.source ≡ g.S.Source.faults l.initial.source;
  quiets : g.S.Source.quiets l.source ≡ g.S.Source.quiets l.initial.source;
}

abbrev pub decreases-rounds : goal.decreases-rounds
decreases-rounds g l = most - l.cutter.count
