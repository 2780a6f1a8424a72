use Rattle.std.proofs.Common.{refl}
use Rattle.ubx_frame.proofs.Windows.{decided_at}
use Rattle.ubx_frame.proofs.finder.decided_length.Goals as goal

pub returns-then-len-bytes : goal.returns-then-len-bytes
returns-then-len-bytes c =
    decided_at c.args.bytes.now _ _ c.from.result c.from-in-len6-up.result c.in-len6-up.len_at_least refl refl c.from.ensures c.from-in-len6-up.ensures
    c.if-first.true c.if-second-eq98.true c.if-len-le-LONGEST_PAYLOAD.true c.if-len-bytes.true
