-- Each load of the body goes on with the reading, and the second count or the store that clears ends it.
use Rattle.std.proofs.Common.{◌≡◌, ℕ, ◌+◌, subst, arith}
use Rattle.shm_consumer.specs.Taking.{HasLoaded}
use Rattle.shm_consumer.proofs.Positions.{goes_by, goes_again, ends, clears, rises_once}
use Rattle.shm_consumer.proofs.taker.Taker.consume.Goals as goal

pub loop-preserved : goal.loop-preserved
loop-preserved c =
    let next : c.loop.counter + 2 + 1 ≡ c.loop.counter + 1 + 2 = omega arith in
    subst (λ (n : ℕ). HasLoaded c.args.self.now c.take_body.new.self n) next
    (goes_by _ _ _ _ _ c.loop.invariant (omega arith) (λ one. omega arith) c.take_body.ensures.takes)

pub returns-in-Ended-take_count_again : goal.returns-in-Ended-take_count_again
returns-in-Ended-take_count_again c =
    let made = c.in-Ended-take_count_again.ensures in
    let e = ends _ _ _ c.in-Ended-take_count_again.clash _ c.loop.invariant made.takes in
    record { consumed = e.consumed; above = e.above; steps = e.steps; segment = e.segment; rises = made.rises; once = rises_once _ _ made.rises }

pub returns : goal.returns
returns c =
    let made = c.in-Cleared.ensures in
    let loaded = goes_again _ _ _ _ _ c.loop.invariant (omega arith) c.in_default-take_count_again.not-Ended c.take_count_again.ensures.takes in
    let e = clears _ _ _ c.in-Cleared.number c.in-Cleared.sample _ loaded made.takes made.rises in
    record { consumed = e.consumed; above = e.above; steps = e.steps; segment = e.segment; rises = made.rises; once = rises_once _ _ made.rises }
