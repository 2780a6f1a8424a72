-- Each load of the body goes on with the reading, and the second count ends it.
use Rattle.std.proofs.Common.{◌≡◌, ℕ, ◌+◌, subst, arith}
use Rattle.shm_monitor.specs.MonitorView.{HasLoaded}
use Rattle.shm_monitor.proofs.Positions.{goes_by, ends}
use Rattle.shm_monitor.proofs.monitor.Monitor.try_read.Goals as goal

pub loop-preserved : goal.loop-preserved
loop-preserved c =
    let next : c.loop.counter + 2 + 1 ≡ c.loop.counter + 1 + 2 = omega arith in
    subst (λ (n : ℕ). HasLoaded c.args.self.now c.read_body.new.self n) next
    (goes_by _ _ _ _ _ c.loop.invariant (omega arith) (λ one. omega arith) c.read_body.ensures)

pub returns-clause-read : goal.returns-clause-read
returns-clause-read c =
    (ends _ _ _ c.in-Done-read_count_again.reading _ c.loop.invariant c.in-Done-read_count_again.ensures).0

pub returns-clause-not_old : goal.returns-clause-not_old
returns-clause-not_old c =
    (ends _ _ _ c.in-Done-read_count_again.reading _ c.loop.invariant c.in-Done-read_count_again.ensures).1

pub returns-clause-loads : goal.returns-clause-loads
returns-clause-loads c =
    (ends _ _ _ c.in-Done-read_count_again.reading _ c.loop.invariant c.in-Done-read_count_again.ensures).2
