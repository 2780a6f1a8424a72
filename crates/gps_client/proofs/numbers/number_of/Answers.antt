use Rattle.std.proofs.Common.{◌≡◌, ◌≤◌, true, slice_index_or, arith}
use Rattle.std.specs.Char.{is_ascii_digit}
use Rattle.gps_client.proofs.Digits.{turn, digit_at}
use Rattle.gps_client.proofs.numbers.number_of.Goals as goal

pub overflow_mul-value : goal.overflow_mul-value
overflow_mul-value c =
    let digit : is_ascii_digit (slice_index_or c.args.digits.now c.loop-c.c-index 0) ≡ true = digit_at c.args.digits.now c.loop-c.c-index c.requires.all c.loop-c-test.true in
    let few : c.loop-c.c-index ≤ 18 = omega (arith, c.requires.few, c.loop-c-test.true) in
    omega (arith, (turn _ _ _ c.loop-c.invariant.digits few c.loop-c-test.true digit c.loop-c.invariant.value).small)

pub overflow_add-value : goal.overflow_add-value
overflow_add-value c =
    let digit : is_ascii_digit (slice_index_or c.args.digits.now c.loop-c.c-index 0) ≡ true = digit_at c.args.digits.now c.loop-c.c-index c.requires.all c.loop-c-test.true in
    let few : c.loop-c.c-index ≤ 18 = omega (arith, c.requires.few, c.loop-c-test.true) in
    let next = turn _ _ _ c.loop-c.invariant.digits few c.loop-c-test.true digit c.loop-c.invariant.value in
    omega (arith, next.small, next.to, c.from.ensures)
