use Rattle.std.proofs.Common.{◌<◌, ◌≤◌}
use Rattle.gps_outside.specs.ReadSteps.{work_left}
use Rattle.class_counts.proofs.CountingSteps.{UnderWay}
use Rattle.class_counts.proofs.reading.read_lines.Given as goal

abbrev pub invariant-rounds : goal.invariant-rounds
invariant-rounds g l = record {
  under_way : UnderWay l.count l.intake
      (g.S.Source.content l.initial.source) (g.S.Source.content l.source)
      (g.S.Source.faults l.initial.source) (g.S.Source.faults l.source)
      (g.S.Source.quiets l.initial.source) (g.S.Source.quiets l.source);
  few : l.intake.quiets < 1000;
  faults : g.S.Source.faults l.initial.source ≤ g.S.Source.faults l.source;
  quiets : g.S.Source.quiets l.initial.source ≤ g.S.Source.quiets l.source;
}

abbrev pub decreases-rounds : goal.decreases-rounds
decreases-rounds g l = work_left l.intake
