use Rattle.packet_cut.proofs.Runs.{run_passed, run_found, runs_over}
use Rattle.packet_cut.proofs.kept.run_place.Goals as goal

pub returns-then-before-runs-clause-some : goal.returns-then-before-runs-clause-some
returns-then-before-runs-clause-some c =
    run_found c.args.runs.now c.args.count c.runs.before c.runs.run c.index-runs-run.result c.runs-test.true c.if-before-runs.true c.runs.invariant

pub runs-preserved : goal.runs-preserved
runs-preserved c =
    run_passed c.args.runs.now c.args.count c.runs.before c.runs.run c.index-runs-run.result c.index-runs-run-in-runs.result c.runs-test.true
    c.if-before-runs.false c.runs.invariant

pub returns-clause-none : goal.returns-clause-none
returns-clause-none c = runs_over c.args.runs.now c.args.count c.runs.before c.runs.run c.runs-test.false c.runs.invariant
