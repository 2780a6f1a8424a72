use Rattle.std.proofs.Common.{◌≡◌, map, take}
use Rattle.std.specs.List.{concat}
use Rattle.gps_outside.specs.Told.{Appends, Goes}
use Rattle.command_run.proofs.answering.write_parts.Given as goal

abbrev pub invariant-parts : goal.invariant-parts
invariant-parts g l = record {
  takes : g.K.Sink.takes l.sink;
  faults : g.K.Sink.faults l.sink ≡ g.K.Sink.faults l.initial.sink;
  wrote : Goes (Appends (concat (map (λ part. part.now) (take l.part-index l.parts)))) (g.K.Sink.written l.initial.sink) (g.K.Sink.written l.sink);
}
