use Rattle.std.proofs.Common.{◌-ℤ◌, ◌*ℤ◌, ◌<ℤ◌, ◌≤ℤ◌, arith}
use Rattle.std.specs.Int.{int_div_euclid, int_rem_euclid}
use Rattle.jiff_core.proofs.SignedLemmas.{signed_arith}
use Rattle.gps_fixed.proofs.RatioLaws.{rounds_down, rounds_up, product_within, of_product, quotient_small, rest_within}
use Rattle.gps_fixed.proofs.ratio.nearest_ratio.Goals as goal

pub overflow_add-result : goal.overflow_add-result
overflow_add-result c =
    let small = product_within c.args.value c.args.num c.requires.low c.requires.high c.requires.num_low c.requires.num_high in
    let q = of_product int_div_euclid c.args.value c.args.num c.args.den c.div_euclid-quotient.result c.ranges.value c.ranges.num c.ranges.den small c.div_euclid-quotient.ensures in
    let near = quotient_small (c.args.value *ℤ c.args.num) c.args.den c.div_euclid-quotient.result c.requires.den small q in
    omega (arith, signed_arith, near)

pub returns-then-rest-den : goal.returns-then-rest-den
returns-then-rest-den c =
    let small = product_within c.args.value c.args.num c.requires.low c.requires.high c.requires.num_low c.requires.num_high in
    let q = of_product int_div_euclid c.args.value c.args.num c.args.den c.div_euclid-quotient.result c.ranges.value c.ranges.num c.ranges.den small c.div_euclid-quotient.ensures in
    let r = of_product int_rem_euclid c.args.value c.args.num c.args.den c.rem_euclid-rest.result c.ranges.value c.ranges.num c.ranges.den small c.rem_euclid-rest.ensures.value in
    let near = quotient_small (c.args.value *ℤ c.args.num) c.args.den c.div_euclid-quotient.result c.requires.den small q in
    let rest = rest_within (c.args.value *ℤ c.args.num) c.args.den c.rem_euclid-rest.result c.requires.den r in
    let den = c.ranges.den in
    let low : c.rem_euclid-rest.result <ℤ (c.args.den -ℤ c.rem_euclid-rest.result) = omega (arith, signed_arith, rest.0, rest.1) in
    omega (arith, signed_arith, near, rounds_down c.args.value c.args.num c.args.den c.div_euclid-quotient.result c.rem_euclid-rest.result c.requires.den q r low)

pub returns-else-rest-den : goal.returns-else-rest-den
returns-else-rest-den c =
    let small = product_within c.args.value c.args.num c.requires.low c.requires.high c.requires.num_low c.requires.num_high in
    let q = of_product int_div_euclid c.args.value c.args.num c.args.den c.div_euclid-quotient.result c.ranges.value c.ranges.num c.ranges.den small c.div_euclid-quotient.ensures in
    let r = of_product int_rem_euclid c.args.value c.args.num c.args.den c.rem_euclid-rest.result c.ranges.value c.ranges.num c.ranges.den small c.rem_euclid-rest.ensures.value in
    let near = quotient_small (c.args.value *ℤ c.args.num) c.args.den c.div_euclid-quotient.result c.requires.den small q in
    let rest = rest_within (c.args.value *ℤ c.args.num) c.args.den c.rem_euclid-rest.result c.requires.den r in
    let den = c.ranges.den in
    let high : (c.args.den -ℤ c.rem_euclid-rest.result) ≤ℤ c.rem_euclid-rest.result = omega (arith, signed_arith, rest.0, rest.1) in
    omega (arith, signed_arith, near, rounds_up c.args.value c.args.num c.args.den c.div_euclid-quotient.result c.rem_euclid-rest.result c.requires.den q r high)
