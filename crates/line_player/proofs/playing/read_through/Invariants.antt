use Rattle.std.proofs.Common.{◌≡◌, ◌<◌, ◌≤◌}
use Rattle.gps_outside.specs.ReadSteps.{work_left}
use Rattle.line_player.proofs.Reading.{UnderWay}
use Rattle.line_player.proofs.playing.read_through.Given as goal

abbrev pub invariant-rounds : goal.invariant-rounds
invariant-rounds g l = record {
  under_way : UnderWay (g.P.PlaysLines.rules l.player) l.most l.intake l.lines.cutter l.lines.count (g.P.PlaysLines.stands l.player)
      (g.S.Source.content l.initial.source) (g.S.Source.content l.source)
      (g.S.Source.faults l.initial.source) (g.S.Source.faults l.source)
      (g.S.Source.quiets l.initial.source) (g.S.Source.quiets l.source)
      (g.K.Sink.written l.initial.sink) (g.K.Sink.written l.sink);
  few : l.intake.quiets < 1000;
  limit : l.lines.limit ≡ (g.P.PlaysLines.rules l.player).limit;
  rules : g.P.PlaysLines.rules l.player ≡ g.P.PlaysLines.rules l.initial.player;
  faults : g.S.Source.faults l.initial.source ≤ g.S.Source.faults l.source;
  quiets : g.S.Source.quiets l.initial.source ≤ g.S.Source.quiets l.source;
  takes : g.K.Sink.takes l.sink;
  sunk : g.K.Sink.faults l.sink ≡ g.K.Sink.faults l.initial.sink;
}

abbrev pub decreases-rounds : goal.decreases-rounds
decreases-rounds g l = work_left l.intake
