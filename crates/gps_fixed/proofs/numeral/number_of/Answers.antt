use Rattle.std.proofs.Common.{◌≡◌, ◌≤◌, true, slice_index_or, arith, rules}
use Rattle.std.specs.Char.{is_ascii_digit}
use Rattle.gps_fixed.proofs.NumeralLaws.{turn, all_passed}
use Rattle.gps_fixed.proofs.numeral.number_of.Goals as goal

pub overflow_mul-value : goal.overflow_mul-value
overflow_mul-value c =
    let digit : is_ascii_digit (slice_index_or c.args.text.now c.loop-c.c-index 0) ≡ true = search rules in
    let few : c.loop-c.c-index ≤ 17 = omega (arith, c.requires.few, c.loop-c-test.true) in
    omega (arith, (turn _ _ _ c.loop-c.invariant.digits few c.loop-c-test.true digit c.loop-c.invariant.value).small)

pub overflow_add-value : goal.overflow_add-value
overflow_add-value c =
    let digit : is_ascii_digit (slice_index_or c.args.text.now c.loop-c.c-index 0) ≡ true = search rules in
    let few : c.loop-c.c-index ≤ 17 = omega (arith, c.requires.few, c.loop-c-test.true) in
    let next = turn _ _ _ c.loop-c.invariant.digits few c.loop-c-test.true digit c.loop-c.invariant.value in
    omega (arith, next.small, next.to)

pub returns-clause-small : goal.returns-clause-small
returns-clause-small c = all_passed _ _ _ c.loop-c.invariant.digits c.loop-c-test.false c.loop-c.invariant.value
