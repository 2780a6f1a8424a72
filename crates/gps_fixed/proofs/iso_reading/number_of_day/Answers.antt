use Rattle.std.proofs.Common.{to_z, of_z, w8, w16, w32, ◌≡◌, pos, ap, ◌∙◌, arith}
use Rattle.std.proofs.lemmas.Int.{ints}
use Rattle.jiff_core.specs.Date.{epoch_day}
use Rattle.gps_fixed.proofs.IsoLaws.{on_calendar, same_day, is_date}
use Rattle.gps_fixed.proofs.iso_reading.number_of_day.Goals.{then-year-gt2286-via-then-year-gt2286, then-year-gt2286-via-else-year-gt2286+then-month-gt12, then-year-gt2286-via-else-year-gt2286+else-month-gt12+then-day-gt31}
use Rattle.gps_fixed.proofs.iso_reading.number_of_day.Goals as goal

pub returns-then-year-gt2286-clause-found : goal.returns-then-year-gt2286-clause-found
returns-then-year-gt2286-clause-found c = λ n few e.
    let on = on_calendar n c.args.year c.args.month c.args.day few e in
    elim c.then-year-gt2286.branch [
      | then-year-gt2286-via-then-year-gt2286 w ↦ absurd (omega (arith, w.if-year-gt2286.true, on.year))
      | then-year-gt2286-via-else-year-gt2286+then-month-gt12 w ↦ absurd (omega (arith, w.if-month-gt12.true, on.to_month))
      | then-year-gt2286-via-else-year-gt2286+else-month-gt12+then-day-gt31 w ↦ absurd (omega (arith, w.if-day-gt31.true, on.short))
    ]

pub returns-in-Ok-clause-found : goal.returns-in-Ok-clause-found
returns-in-Ok-clause-found c = λ n few e.
    let on = on_calendar n c.args.year c.args.month c.args.day few e in
    let year : c.in-Ok.date.year ≡ pos c.args.year = grind (arith, ints, c.in-Ok.ensures.value.0, c.if-year-gt2286.false) in
    let month : c.in-Ok.date.month ≡ c.args.month = grind (arith, ints, c.in-Ok.ensures.value.1, c.if-month-gt12.false) in
    let day : c.in-Ok.date.day ≡ c.args.day = grind (arith, ints, c.in-Ok.ensures.value.2, c.if-day-gt31.false) in
    let number : c.to_unix_epoch_day.result ≡ pos n = c.to_unix_epoch_day.ensures.value ∙ (ap epoch_day c.to_plain.ensures ∙ same_day n c.args.year c.args.month c.args.day c.in-Ok.date on year month day) in
    let same : to_z w32 (of_z w32 c.to_unix_epoch_day.result) ≡ c.to_unix_epoch_day.result = grind (arith, ints, c.to_unix_epoch_day.ensures.bound) in
    c.day_of_stamps.ensures.found n few (same ∙ number)

pub returns-in-Err-clause-found : goal.returns-in-Err-clause-found
returns-in-Err-clause-found c = λ n few e.
    let on = on_calendar n c.args.year c.args.month c.args.day few e in
    let year : to_z w16 c.args.year ≡ pos c.args.year = grind (arith, ints, c.if-year-gt2286.false) in
    let month : to_z w8 c.args.month ≡ pos c.args.month = grind (arith, ints, c.if-month-gt12.false) in
    let day : to_z w8 c.args.day ≡ pos c.args.day = grind (arith, ints, c.if-day-gt31.false) in
    let ok = c.in-Err.ensures.succeeds.1 (is_date n c.args.year c.args.month c.args.day on (to_z w16 c.args.year) (to_z w8 c.args.month) (to_z w8 c.args.day) year month day) in
    cc
