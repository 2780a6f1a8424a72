use Rattle.std.proofs.Common.{◌≡◌, ◌<◌, ◌≤◌}
use Rattle.gps_outside.specs.ReadSteps.{work_left}
use Rattle.gps_decode.specs.Texts.{texts_by}
use Rattle.gps_decode.proofs.UnderWay.{UnderWay}
use Rattle.gps_decode.proofs.decoding.write_reports.Given as goal

abbrev pub invariant-rounds : goal.invariant-rounds
invariant-rounds g l = record {
  under_way : UnderWay (texts_by l.output) l.history l.intake l.device.now
      (g.S.Source.content l.initial.source) (g.S.Source.content l.source)
      (g.S.Source.faults l.initial.source) (g.S.Source.faults l.source)
      (g.S.Source.quiets l.initial.source) (g.S.Source.quiets l.source)
      (g.C.Clock.stamps l.initial.clock) (g.C.Clock.stamps l.clock) l.draft
      (g.K.Sink.written l.initial.sink) (g.K.Sink.written l.sink);
  few : l.intake.quiets < 1000;
  faults : g.S.Source.faults l.initial.source ≤ g.S.Source.faults l.source;
  quiets : g.S.Source.quiets l.initial.source ≤ g.S.Source.quiets l.source;
  takes : g.K.Sink.takes l.sink;
  sunk : g.K.Sink.faults l.sink ≡ g.K.Sink.faults l.initial.sink;
}

abbrev pub decreases-rounds : goal.decreases-rounds
decreases-rounds g l = work_left l.intake
