use Rattle.std.proofs.Common.{inr, []}
use Rattle.library_tests.proofs.lanes.put_numbers.Goals as goal

pub push-requires-clause-due : goal.push-requires-clause-due
push-requires-clause-due g c = inr ([], tt)
