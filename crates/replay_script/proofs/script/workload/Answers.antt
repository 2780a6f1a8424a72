use Rattle.std.proofs.Common.{◌≤◌, ◌+◌, ◌*◌, length, arith}
use Rattle.replay_script.proofs.Lengths.{bounded}
use Rattle.replay_script.proofs.Seconds.{none_yet, one_more}
use Rattle.replay_script.proofs.script.workload.Goals as goal

pub seconds-init : goal.seconds-init
seconds-init c =
    none_yet c.args.seed c.first-drawn.result _ _ c.in_ok-out.ensures c.in_ok-push_head.ensures c.first-drawn.ensures.value c.first-drawn.ensures.small

pub seconds-preserved : goal.seconds-preserved
seconds-preserved c =
    one_more _ _ _ _ _ _ _ c.seconds.invariant c.next-drawn.ensures.value c.next-drawn.ensures.small c.five_digits.ensures c.in_ok-push_second.ensures

pub returns-clause-bound : goal.returns-clause-bound
returns-clause-bound c =
    let end : c.seconds.t ≤ c.args.size = c.seconds.auto.t-end in
    let few : c.args.size ≤ 10_000 = c.requires.to in
    let short : length c.seconds.out ≤ 147 + 1_184 * c.seconds.t =
    bounded c.args.seed c.seconds.t c.seconds.out (omega (arith, end, few)) c.seconds.invariant.script_is in
    omega (arith, short, end)
