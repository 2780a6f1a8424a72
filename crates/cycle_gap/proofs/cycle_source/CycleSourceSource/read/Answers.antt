use Rattle.std.proofs.Common.{rules, ◌≡◌, subst, take, []}
use Rattle.gps_outside.specs.Told.{Goes}
use Rattle.gps_outside.specs.declared.source.ReadStep.TheVariants.{Got, Quiet}
use Rattle.cycle_gap.specs.Handed.{Stands, Took}
use Rattle.cycle_gap.proofs.Weaving.{hands_frame, took_step}
use Rattle.cycle_gap.proofs.cycle_source.CycleSourceSource.read.Goals as goal

pub returns-then-is_over-clause-handed : goal.returns-then-is_over-clause-handed
returns-then-is_over-clause-handed g c =
    let kept : c.args.self.now.kept ≡ c.self-in-Quiet.inside.handed = search rules in
    let content : c.read_source-step.new.self.content ≡ g.S.Source.content c.self-in-Quiet.inside.source = search rules in
    hands_frame _ _ _
    (subst (λ s. Goes (Took []) c.args.self.now.content s) content
    (took_step Quiet c.read_source-step.new.buf c.args.self.now.content c.read_source-step.new.self.content c.in-Quiet.ensures.bytes))
    (λ given taken h. c.hand_on-then-is_over.ensures.stands given taken (c.put_end.ensures.stands given taken (subst (λ k. Stands k given taken) kept h)))

pub returns-in-Got-clause-handed : goal.returns-in-Got-clause-handed
returns-in-Got-clause-handed g c =
    let kept : c.args.self.now.kept ≡ c.self-in-Got.inside.handed = search rules in
    let content : c.read_source-step.new.self.content ≡ g.S.Source.content c.self-in-Got.inside.source = search rules in
    record {
      raw = take c.in-Got.n c.read_source-step.new.buf;
      took = subst (λ s. Goes (Took (take c.in-Got.n c.read_source-step.new.buf)) c.args.self.now.content s) content
          (took_step (Got c.in-Got.n) c.read_source-step.new.buf c.args.self.now.content c.read_source-step.new.self.content c.in-Got.ensures.bytes);
      stands = λ given taken h. c.take.ensures.stands given taken (subst (λ k. Stands k given taken) kept h);
    }
