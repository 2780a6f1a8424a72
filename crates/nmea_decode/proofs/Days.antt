-- The day numbers of the dates that are read lie from 1970-01-01 to 2099-12-31.
use Rattle.std.proofs.Common.{◌≡◌, ℕ, ◌≤◌, refl, Bool, true, false, cond, arith, Some, None, IfSome, ℤ, pos, negsuc}
use Rattle.std.proofs.lemmas.Bool.Decides.{nat_tests}
use Rattle.jiff_core.specs.Calendar.{IsCivilDate, days_from_civil, day_count, days_of_years, days_of_months}
use Rattle.jiff_core.proofs.SignedLemmas.{signed_arith}
use Rattle.jiff_core.proofs.CalendarLemmas.{days_from_civil-day_count, day_count-epoch, day_count-lt_year}
use Rattle.gps_fixed.specs.Civil.{month_length, is_receiver_date, day_number}
use Rattle.nmea_decode.specs.Readings.{IsOfCentury}

record Tested (y m d : ℕ) : Type 0 where
  from_year : 1980 ≤ y
  to_year : y ≤ 2099
  from_month : 1 ≤ m
  to_month : m ≤ 12
  from_day : 1 ≤ d
  to_day : d ≤ month_length y m

tested : (y m d : ℕ) → is_receiver_date y m d ≡ true → Tested y m d
tested y m d h = record {
  from_year = grind (arith, nat_tests, h);
  to_year = grind (arith, nat_tests, h);
  from_month = grind (arith, nat_tests, h);
  to_month = grind (arith, nat_tests, h);
  from_day = grind (arith, nat_tests, h);
  to_day = grind (arith, nat_tests, h);
}

first_day : IsCivilDate (pos 1970) 1 1
first_day = ((omega (arith, signed_arith), omega (arith, signed_arith)), (omega arith, omega arith), (omega arith, omega arith))

civil_date : (y m d : ℕ) → Tested y m d → IsCivilDate (pos y) m d
civil_date y m d t = ((omega (arith, signed_arith), omega (arith, signed_arith, t.to_year)), (t.from_month, t.to_month), (t.from_day, t.to_day))

new_year_2100 : days_from_civil (pos 2100) 1 1 ≡ pos 47_482
unfolding days_from_civil day_count days_of_years days_of_months
new_year_2100 = refl

of_century : (y m d : ℕ) → Tested y m d → IsOfCentury (days_from_civil (pos y) m d)
of_century y m d t =
    let later = day_count-lt_year (pos 1970) 1 1 (pos y) m d first_day t.from_day (omega (arith, signed_arith, t.from_year)) in
    let one : 1 ≤ 1 = omega arith in
    let earlier = day_count-lt_year (pos y) m d (pos 2100) 1 1 (civil_date y m d t) one (omega (arith, signed_arith, t.to_year)) in
    record {
      from = omega (arith, signed_arith, days_from_civil-day_count (pos y) m d, later, day_count-epoch);
      to = omega (arith, signed_arith, days_from_civil-day_count (pos y) m d, days_from_civil-day_count (pos 2100) 1 1, new_year_2100, earlier);
    }

by_test : (y m d : ℕ) (b : Bool) → is_receiver_date y m d ≡ b → IfSome (cond b (Some (days_from_civil (pos y) m d)) None) IsOfCentury
by_test y m d true h = of_century y m d (tested y m d h)
by_test y m d false h = tt

pub day_within : (y : ℤ) (m d : ℕ) → IfSome (day_number y m d) IsOfCentury
day_within (pos y) m d = by_test y m d (is_receiver_date y m d) refl
day_within (negsuc y) m d = tt
