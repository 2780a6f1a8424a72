use Rattle.std.proofs.Common.{sym}
use Rattle.gps_fixed.proofs.NumeralLaws.{fraction_value, fraction_small}
use Rattle.gps_fixed.proofs.numeral.fraction.Goals as goal

pub returns-in-Some-clause-value : goal.returns-in-Some-clause-value
returns-in-Some-clause-value c =
    fraction_value c.args.count c.min-used.result c.in-Some.value c.power_of_ten.result c.args.text.now _ _ c.min-used.ensures c.split_at.ensures.front c.split_at.ensures.back c.in-Some.ensures.value (sym c.if-are_digits.ensures) c.power_of_ten.ensures

pub returns-in-Some-clause-small : goal.returns-in-Some-clause-small
returns-in-Some-clause-small c =
    fraction_small c.args.count c.min-used.result c.in-Some.value c.power_of_ten.result c.args.text.now _ _ c.min-used.ensures c.split_at.ensures.front c.split_at.ensures.back c.in-Some.ensures.value (sym c.if-are_digits.ensures) c.power_of_ten.ensures
