use Rattle.std.proofs.Common.{sym, ◌∙◌, ◌*◌, ◌+◌, arith}
use Rattle.nmea_decode.proofs.Nexts.{all_behind, two_next, three_next}
use Rattle.nmea_decode.proofs.readings.few_digits_next.Goals as goal

pub returns-in-len3-up-clause-number : goal.returns-in-len3-up-clause-number
returns-in-len3-up-clause-number c =
    let is = two_next c.args.text.now _ _ c.in-len3-up.len_at_least (all_behind 3 c.args.text.now) (sym c.is_digit.ensures ∙ c.if-is_digit.true)
    (sym c.is_digit-then-is_digit.ensures ∙ c.if-is_digit-2.true) (sym c.is_field_end.ensures ∙ c.if-is_field_end.true)
    (omega (arith, c.from.ensures, c.from-in-len3-up.ensures)) in
    is.number

pub returns-in-len3-up-clause-behind : goal.returns-in-len3-up-clause-behind
returns-in-len3-up-clause-behind c =
    let is = two_next c.args.text.now _ (10 * c.from.result + c.from-in-len3-up.result) c.in-len3-up.len_at_least (all_behind 3 c.args.text.now)
    (sym c.is_digit.ensures ∙ c.if-is_digit.true) (sym c.is_digit-then-is_digit.ensures ∙ c.if-is_digit-2.true)
    (sym c.is_field_end.ensures ∙ c.if-is_field_end.true) (omega (arith, c.from.ensures, c.from-in-len3-up.ensures)) in
    is.behind_is

pub returns-in-len4-up-clause-number : goal.returns-in-len4-up-clause-number
returns-in-len4-up-clause-number c =
    let is = three_next c.args.text.now _ _ c.in-len4-up.len_at_least (all_behind 4 c.args.text.now) (sym c.is_digit-2.ensures ∙ c.if-is_digit-3.true)
    (sym c.is_digit-then-is_digit-3.ensures ∙ c.if-is_digit-4.true) (sym c.is_digit-then-is_digit-4.ensures ∙ c.if-is_digit-5.true)
    (sym c.is_field_end-then-is_digit-5.ensures ∙ c.if-is_field_end-2.true)
    (omega (arith, c.from-in-len4-up.ensures, c.from-in-len4-up-2.ensures, c.from-in-len4-up-3.ensures)) in
    is.number

pub returns-in-len4-up-clause-behind : goal.returns-in-len4-up-clause-behind
returns-in-len4-up-clause-behind c =
    let is = three_next c.args.text.now _ (100 * c.from-in-len4-up.result + 10 * c.from-in-len4-up-2.result + c.from-in-len4-up-3.result)
    c.in-len4-up.len_at_least (all_behind 4 c.args.text.now) (sym c.is_digit-2.ensures ∙ c.if-is_digit-3.true)
    (sym c.is_digit-then-is_digit-3.ensures ∙ c.if-is_digit-4.true) (sym c.is_digit-then-is_digit-4.ensures ∙ c.if-is_digit-5.true)
    (sym c.is_field_end-then-is_digit-5.ensures ∙ c.if-is_field_end-2.true)
    (omega (arith, c.from-in-len4-up.ensures, c.from-in-len4-up-2.ensures, c.from-in-len4-up-3.ensures)) in
    is.behind_is
