use Rattle.std.proofs.Common.{◌≡◌, ◌≤◌, ◌*◌, length}
use Rattle.device_core.specs.Going.{TookAll}
use Rattle.device_core.proofs.packets.take_packets.Given as goal

abbrev pub invariant-packets : goal.invariant-packets
invariant-packets l =
    TookAll l.fn.epochs.now l.epochs.now l.fn.toff l.last l.yielded l.out.items × (l.epochs.back ≡ l.fn.epochs.back)
    × (length l.out.items ≤ 6 * length l.yielded)
