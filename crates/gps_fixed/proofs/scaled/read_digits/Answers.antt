use Rattle.std.proofs.Common.{◌∙◌, arith}
use Rattle.gps_fixed.proofs.WholeLaws.{all_read, some_first}
use Rattle.gps_fixed.proofs.scaled.read_digits.Goals as goal

pub returns-in-Some-clause-value : goal.returns-in-Some-clause-value
returns-in-Some-clause-value c =
    c.whole_magnitude.ensures
    ∙ some_first c.args.count c.args.decimals c.args.text.now _ _ c.numeral_behind.result (omega (arith, c.if-count-gt-MOST_BEFORE.false)) (omega (arith, c.if-count-text.false))
    c.split_at.ensures.front c.split_at.ensures.back (all_read _ _ c.in-Some.value c.in-Some.ensures.value) c.numeral_behind.ensures.value
