use Rattle.std.proofs.Common.{◌∙◌, subst}
use Rattle.gps_upstream.specs.Reading.{CountsQuiet, FailsOnly}
use Rattle.gps_upstream.proofs.Rounds.{gives_on, in_head}
use Rattle.gps_upstream.proofs.reading.read_on.Goals as goal

pub returns-in-Some-clause-gives : goal.returns-in-Some-clause-gives
returns-in-Some-clause-gives g c =
    gives_on c.in-Some.step c.read_once.new.buf c.args.cutter.now c.rounds.cutter c.read_once.new.cutter
    (g.S.Source.content c.args.source.now) (g.S.Source.content c.rounds.source) (g.S.Source.content c.read_once.new.source)
    c.rounds.invariant.head c.in-Some.ensures.gives

pub rounds-preserved : goal.rounds-preserved
rounds-preserved g c = record {
  head =
      in_head c.args.cutter.now c.rounds.cutter c.read_once.new.cutter
      (g.S.Source.content c.args.source.now) (g.S.Source.content c.rounds.source) (g.S.Source.content c.read_once.new.source)
      c.rounds.invariant.head c.in_default.ensures.goes_on;
  faults = c.in_default.ensures.no_fault ∙ c.rounds.invariant.faults;
  quiets = c.in_default.ensures.no_quiet ∙ c.rounds.invariant.quiets;
}

pub returns-in-Some-clause-fails_only : goal.returns-in-Some-clause-fails_only
returns-in-Some-clause-fails_only g c =
    subst (λ n. FailsOnly c.in-Some.step n (g.S.Source.faults c.read_once.new.source)) c.rounds.invariant.faults c.in-Some.ensures.fails_only

pub returns-in-Some-clause-counts_quiet : goal.returns-in-Some-clause-counts_quiet
returns-in-Some-clause-counts_quiet g c =
    subst (λ n. CountsQuiet c.in-Some.step n (g.S.Source.quiets c.read_once.new.source)) c.rounds.invariant.quiets c.in-Some.ensures.counts_quiet
