use Rattle.std.proofs.Common.{◌≡◌, true}
use Rattle.library_tests.proofs.lanes.all_give.Given as goal

abbrev pub invariant-loop-step : goal.invariant-loop-step
invariant-loop-step g l = (l.rx.lane ≡ l.tx.lane) × (l.tx.is_open ≡ true)
