use Rattle.std.proofs.Common.{inr, refl, subst, ◌∙◌}
use Rattle.gps_outside.specs.Counts.{Rose}
use Rattle.command_run.proofs.Parts.{more, stopped}
use Rattle.command_run.proofs.answering.write_parts.Goals as goal

pub returns-then-not-write_all-clause-answers : goal.returns-then-not-write_all-clause-answers
returns-then-not-write_all-clause-answers g c = inr (
  refl,
  subst (λ faults. Rose faults (g.K.Sink.faults c.write_all.new.sink)) c.parts.invariant.faults (c.if-not-write_all.ensures.failed refl),
  stopped (λ part. part.now) c.args.parts.now c.parts.part-index _ c.as_bytes.result.now _ _ _ c.parts-test.true c.as_bytes.ensures.value
      c.parts.invariant.wrote c.if-not-write_all.ensures.bytes,
)

pub parts-preserved : goal.parts-preserved
parts-preserved g c = record {
  takes = c.write_all.ensures.takes;
  faults = c.if-not-write_all.ensures.fails_only refl ∙ c.parts.invariant.faults;
  wrote = more (λ part. part.now) c.args.parts.now c.parts.part-index _ c.as_bytes.result.now _ _ _ c.parts-test.true c.as_bytes.ensures.value
      c.parts.invariant.wrote c.if-not-write_all.ensures.bytes;
}
