use Rattle.std.proofs.Common.{◌≡◌, map}
use Rattle.packet_cut.specs.Packets.{placed_packet}
use Rattle.device_core.specs.Going.{TookAllQuietly}
use Rattle.device_core.proofs.packets.take_all_placed.Given as goal

abbrev pub invariant-placed : goal.invariant-placed
invariant-placed l =
    TookAllQuietly l.fn.epochs.now l.epochs.now l.fn.toff l.last (map (placed_packet l.bytes) l.yielded) l.out.items × (l.epochs.back ≡ l.fn.epochs.back)
