use Rattle.std.proofs.Common.{◌≡◌, length}
use Rattle.std.specs.List.{All}
use Rattle.book_log.specs.Steps.{IsNew}
use Rattle.book_log.proofs.device_states.DeviceStates.new.Given as goal

abbrev pub invariant-loop-d : goal.invariant-loop-d
invariant-loop-d l = record { count : length l.list.items ≡ l._d; all_new : All IsNew l.list.items }
