use Rattle.std.proofs.Common.{arith, rules}
use Rattle.gps_words.proofs.Colons.{last_passed}
use Rattle.gps_words.proofs.device.last_colon.Goals as goal

pub bytes-preserved : goal.bytes-preserved
bytes-preserved c =
    last_passed c.args.text.now c.bytes.rest.now 0 (omega (arith, c.in-len1-up.len_at_least)) (search rules) c.bytes.invariant.0 c.bytes.invariant.1
