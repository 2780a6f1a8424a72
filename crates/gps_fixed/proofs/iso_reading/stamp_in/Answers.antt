use Rattle.std.proofs.Common.{◌≡◌, ◌+◌, ◌*◌, ◌/◌, unsigned_abs, Some, ap, sym, ◌∙◌, arith}
use Rattle.gps_fixed.specs.Civil.{civil, civil_of}
use Rattle.gps_fixed.proofs.IsoLaws.{says, stamp_back, same_some}
use Rattle.gps_fixed.proofs.iso_reading.stamp_in.Goals as goal

pub returns-then-text-ne24-clause-found : goal.returns-then-text-ne24-clause-found
returns-then-text-ne24-clause-found c = λ at is e.
    let said = says at c.args.text.now is e in
    absurd (omega (arith, c.if-text-ne24.true, said.size))

pub returns-in-Some-clause-found : goal.returns-in-Some-clause-found
returns-in-Some-clause-found c = λ at is e.
    let said = says at c.args.text.now is e in
    let date : civil_of (unsigned_abs at.sec / 86_400) ≡ civil (100 * c.two_at.result + c.two_at-2.result) c.two_at-3.result c.two_at-4.result = grind (arith, said.date, c.two_at.ensures.value, c.two_at-2.ensures.value, c.two_at-3.ensures.value, c.two_at-4.ensures.value) in
    let day = same_some c.in-Some.day (unsigned_abs at.sec / 86_400) (sym c.in-Some.is ∙ c.number_of_day.ensures.found (unsigned_abs at.sec / 86_400) said.days date) in
    let back = stamp_back at c.args.text.now said is c.in-Some.day (3_600 * c.two_at-in-Some.result + 60 * c.two_at-in-Some-2.result + c.two_at-in-Some-3.result) (10 * c.two_at-in-Some-4.result + c.low.result)
    day
    (omega (arith, said.clock, c.two_at-in-Some.ensures.value, c.two_at-in-Some-2.ensures.value, c.two_at-in-Some-3.ensures.value))
    (omega (arith, said.milli, c.two_at-in-Some-4.ensures.value, c.low.ensures)) in
    c.stamp_of.ensures.found back.0 back.1 ∙ ap Some back.2

pub returns-in-None-clause-found : goal.returns-in-None-clause-found
returns-in-None-clause-found c = λ at is e.
    let said = says at c.args.text.now is e in
    let date : civil_of (unsigned_abs at.sec / 86_400) ≡ civil (100 * c.two_at.result + c.two_at-2.result) c.two_at-3.result c.two_at-4.result = grind (arith, said.date, c.two_at.ensures.value, c.two_at-2.ensures.value, c.two_at-3.ensures.value, c.two_at-4.ensures.value) in
    let found = c.number_of_day.ensures.found (unsigned_abs at.sec / 86_400) said.days date in
    let none = c.in-None.is in
    cc
