use Rattle.std.proofs.Common.{arith}
use Rattle.output_lines.proofs.Runs.{run_ended, run_passed}
use Rattle.output_lines.proofs.item.push_escaped_text.Goals as goal

pub returns-in-empty : goal.returns-in-empty
returns-in-empty c =
    run_ended c.runs.out c.runs.rest.now c.split_at.result.0.now c.split_at.result.1.now _ _ c.plain_len.result c.plain_len.ensures.len c.split_at.ensures.front
    c.split_at.ensures.back (omega (arith, c.in-empty.len_below)) c.in_ok-extend_from_slice.ensures.ok c.runs.invariant

pub runs-preserved : goal.runs-preserved
runs-preserved c =
    run_passed c.runs.out c.runs.rest.now c.split_at.result.0.now c.split_at.result.1.now _ _ _ c.plain_len.result c.plain_len.ensures.len
    c.split_at.ensures.front c.split_at.ensures.back (omega (arith, c.in-len1-up.len_at_least)) c.in_ok-extend_from_slice.ensures.ok
    c.in_ok-push_escaped-in-len1-up.ensures c.runs.invariant
