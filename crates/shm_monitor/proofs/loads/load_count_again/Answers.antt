use Rattle.std.proofs.Common.{arith}
use Rattle.shm_segment.proofs.Writing.{part_of, is_word}
use Rattle.shm_monitor.proofs.Keeping.{recounts_as}
use Rattle.shm_monitor.proofs.loads.load_count_again.Goals as goal

pub load-requires : goal.load-requires
load-requires c =
    let part = c.requires.part in (
      part_of _ _ _ c.segment.view_is _ part.part,
      is_word _ _ 1 c.segment.invariant c.from.ensures (omega arith),
      rw c.from.ensures (recounts_as _ _ _ c.args.seat.now.me part.role part.free c.requires.reading),
    )
