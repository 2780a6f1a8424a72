use Rattle.std.proofs.Common.{◌<◌, arith, refl}
use Rattle.std.proofs.lemmas.Bool.{ltb-true}
use Rattle.packet_cut.proofs.CutLaws.{waits}
use Rattle.packet_cut.proofs.cut.is_waiting.Goals as goal

pub returns-then-len-le2048 : goal.returns-then-len-le2048
returns-then-len-le2048 c = λ waiting piece size.
    let few : c.args.more < c.saturating_sub.result = ltb-true c.args.more c.saturating_sub.result waiting in
    waits c.args.kept.now _ _ _ _ c.in-len6-up.len_at_least refl refl refl refl c.if-first.true c.if-second-eq98.true
    (omega (arith, c.from.ensures, c.from-in-len6-up.ensures, c.if-len-le2048.true)) piece
    (omega (arith, c.from.ensures, c.from-in-len6-up.ensures, c.saturating_sub.ensures, size, few))
