use Rattle.std.proofs.Common.{arith}
use Rattle.hub_door.proofs.Rules.{notes}
use Rattle.hub_door.proofs.table.DoorTable.open.Goals as goal

pub split_seat-note-requires : goal.split_seat-note-requires
split_seat-note-requires g c =
    let i = c.self.invariant in (i.1, (let one = i.0 in omega arith), notes _ _)
