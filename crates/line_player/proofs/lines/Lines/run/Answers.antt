use Rattle.std.proofs.Common.{refl, ◌∙◌, ap, arith}
use Rattle.std.proofs.lemmas.Grind.{common_steps}
use Rattle.line_cut.specs.Standing.{spelling}
use Rattle.line_player.specs.Rules.{text_in}
use Rattle.line_player.proofs.Running.{all_run, begun, line_made, line_refused, too_long}
use Rattle.line_player.proofs.lines.Lines.run.Goals as goal

pub lines-init : goal.lines-init
lines-init g c = record {
  under_way = λ bytes at. begun _ bytes _ _ _ _ _ at;
  number = omega arith;
  limit = refl;
  rules = refl;
}

pub returns-in-Refused-clause-runs : goal.returns-in-Refused-clause-runs
returns-in-Refused-clause-runs g c =
    let before = c.lines.invariant in
    let steps = rw c.in-Line.is at c.in_ok-line.ensures.steps in
    λ bytes at.
    line_refused _ _ bytes _ _ _ _ _ _ _ _ _ _ _ c.in-Line.line c.in-Line.used _ (before.under_way bytes at) steps before.rules
    (ap (λ l. text_in l (spelling c.in-Line.line)) (before.limit ∙ c.requires.limit)) c.in_ok-run_line-in-Line.ensures.rounds c.in-Refused.is

pub lines-preserved : goal.lines-preserved
lines-preserved g c =
    let before = c.lines.invariant in
    let steps = rw c.in-Line.is at c.in_ok-line.ensures.steps in
    let within = rw c.in-Line.is at c.in_ok-line.ensures.within in
    record {
      under_way = λ bytes at.
          line_made _ _ bytes _ _ _ _ _ _ _ _ _ _ _ c.in-Line.line c.in-Line.used _ (before.under_way bytes at) steps c.in_ok-line.ensures.limit before.rules
          (ap (λ l. text_in l (spelling c.in-Line.line)) (before.limit ∙ c.requires.limit)) c.in_ok-run_line-in-Line.ensures.rounds c.in-Made.is;
      number = let most = before.number in let some = within.0 in let fits = within.1 in grind (arith, common_steps);
      limit = before.limit;
      rules = c.in_ok-run_line-in-Line.ensures.rules_stay ∙ before.rules;
    }

pub returns-in-TooLong-clause-runs : goal.returns-in-TooLong-clause-runs
returns-in-TooLong-clause-runs g c = λ bytes at.
    too_long _ bytes _ _ _ _ _ _ _ _ c.in-TooLong.field-0 (c.lines.invariant.under_way bytes at) (rw c.in-TooLong.is at c.in_ok-line.ensures.steps)

pub returns-in-Used-clause-runs : goal.returns-in-Used-clause-runs
returns-in-Used-clause-runs g c = λ bytes at.
    all_run _ bytes _ _ _ _ _ _ _ _ (c.lines.invariant.under_way bytes at)
    (rw c.in-Used.is at c.in_ok-line.ensures.steps) c.in_ok-line.ensures.limit
