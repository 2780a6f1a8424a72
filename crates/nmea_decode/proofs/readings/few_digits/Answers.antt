use Rattle.std.proofs.Common.{sym, arith}
use Rattle.nmea_decode.proofs.Plain.{one_digit, two_digits, three_digits}
use Rattle.nmea_decode.proofs.readings.few_digits.Goals as goal

pub returns-in-len1 : goal.returns-in-len1
returns-in-len1 c =
    one_digit c.args.text.now c.from.result (omega (arith, c.in-len1.len_at_least, c.in-len1.len_below)) (sym c.if-is_digit.ensures) c.from.ensures

pub returns-in-len2 : goal.returns-in-len2
returns-in-len2 c =
    two_digits c.args.text.now _ (omega (arith, c.in-len2.len_at_least, c.in-len2.len_below)) (sym c.if-is_digit-2.ensures) (sym c.if-is_digit-3.ensures)
    (omega (arith, c.from-in-len2.ensures, c.from-in-len2-2.ensures))

pub returns-in-len3 : goal.returns-in-len3
returns-in-len3 c =
    three_digits c.args.text.now _ (omega (arith, c.in-len3.len_at_least, c.in-len3.len_below)) (sym c.if-is_digit-4.ensures) (sym c.if-is_digit-5.ensures)
    (sym c.if-is_digit-6.ensures) (omega (arith, c.from-in-len3.ensures, c.from-in-len3-2.ensures, c.from-in-len3-3.ensures))
