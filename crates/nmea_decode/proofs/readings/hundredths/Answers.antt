use Rattle.std.proofs.Common.{sym, arith, eqb-true}
use Rattle.nmea_decode.proofs.Plain.{point_and_two}
use Rattle.nmea_decode.proofs.readings.hundredths.Goals as goal

pub returns-in-len4 : goal.returns-in-len4
returns-in-len4 c =
    point_and_two c.args.text.now _ (omega (arith, c.in-len4.len_at_least, c.in-len4.len_below)) (eqb-true _ 46 (sym c.if-is_point.ensures))
    (sym c.if-is_digit.ensures) (sym c.if-is_digit-2.ensures) (sym c.if-is_digit-3.ensures)
    (omega (arith, c.from.ensures, c.from-in-len4.ensures, c.from-in-len4-2.ensures))
