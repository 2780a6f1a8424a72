-- Counting days one by one from 1970-01-01 gives jiff's day numbers.
use Rattle.std.proofs.Common.{◌≡◌, ℕ, zero, suc, ◌+◌, ◌≤◌, refl, sym, ap, ◌∙◌, subst, ◌↔◌, Bool, true, false, cond, arith, Option, Some, None, ℤ, pos, negsuc, ◌≤ℤ◌, unsigned_abs, nat_lt, IfSome}
use Rattle.std.proofs.lemmas.Bool.{cond-true}
use Rattle.std.proofs.lemmas.Bool.Decides.{nat_tests}
use Rattle.std.proofs.lemmas.Int.{by_lt_z}
use Rattle.jiff_core.specs.Date.{epoch_day}
use Rattle.jiff_core.specs.Calendar.{IsCivilDate, days_from_civil, days_in_month}
use Rattle.jiff_core.proofs.SignedLemmas.{signed_arith}
use Rattle.jiff_core.proofs.CalendarLemmas.{days_from_civil-day_count, day_count-epoch, day_count-lt_year, days_in_month_bounds}
use Rattle.jiff_core.proofs.MarchLemmas.{day_count-late, day_count-early}
use Rattle.jiff_core.proofs.DateLemmas.{days_from_civil-day, days_from_civil-next_month, days_from_civil-next_year, epoch_day_injective}
use Rattle.jiff_core.proofs.StandardFacts.{known_days}
use Rattle.jiff_core.specs.declared.civil.date.Date.{Date}
use Rattle.gps_fixed.specs.Civil.{CivilDate, civil, civil_of, next_day, month_length, is_receiver_date, day_number, IsDayOf}

-- a date of the calendar with this day number
pub record IsAt (n : ℕ) (c : CivilDate) : Type 0 where
  pub number : days_from_civil (pos c.year) c.month c.day ≡ pos n
  pub from_month : 1 ≤ c.month
  pub to_month : c.month ≤ 12
  pub from_day : 1 ≤ c.day
  pub to_day : c.day ≤ month_length c.year c.month

one_more : (y : ℤ) (m d : ℕ) (n : ℕ) → 1 ≤ d → days_from_civil y m d ≡ pos n → days_from_civil y m (d + 1) ≡ pos (suc n)
one_more y m d n h e = omega (arith, signed_arith, days_from_civil-day y m (d + 1) d (omega arith) h, e)

long_enough : (y m : ℕ) → 1 ≤ month_length y m
long_enough y m = omega (arith, (days_in_month_bounds (pos y) m).1)

first_of_month : (y : ℤ) (m d n : ℕ) → 1 ≤ m → d ≡ days_in_month y m → days_from_civil y m d ≡ pos n → days_from_civil y (m + 1) 1 ≡ pos (suc n)
first_of_month y m d n h last e = omega (arith, signed_arith, days_from_civil-next_month y m d h last, e)

first_of_year : (y n : ℕ) → days_from_civil (pos y) 12 31 ≡ pos n → days_from_civil (pos (y + 1)) 1 1 ≡ pos (suc n)
first_of_year y n e = omega (arith, signed_arith, days_from_civil-next_year (pos y) (pos (y + 1)) (omega (arith, signed_arith)) (omega (arith, signed_arith)), e)

last_of_year : (y m d n : ℕ) → m ≡ 12 → d ≡ days_in_month (pos y) m → days_from_civil (pos y) m d ≡ pos n → days_from_civil (pos (y + 1)) 1 1 ≡ pos (suc n)
last_of_year y m d n december last e =
    let thirty_one : d ≡ 31 = last ∙ ap (days_in_month (pos y)) december in
    first_of_year y n (ap (λ k. days_from_civil (pos y) 12 k) (sym thirty_one) ∙ ap (λ k. days_from_civil (pos y) k d) (sym december) ∙ e)

-- a choice of two dates, by the test that chooses
chosen : (n : ℕ) (b : Bool) (x y : CivilDate) → (b ≡ true → IsAt n x) → (b ≡ false → IsAt n y) → IsAt n (cond b x y)
chosen n true x y h k = h refl
chosen n false x y h k = k refl

next_is_at : (n : ℕ) (c : CivilDate) → IsAt n c → IsAt (suc n) (next_day c)
next_is_at n c at =
    chosen (suc n) (nat_lt c.day (month_length c.year c.month)) (civil c.year c.month (c.day + 1))
    (cond (nat_lt c.month 12) (civil c.year (c.month + 1) 1) (civil (c.year + 1) 1 1))
    (λ within. record { number = one_more (pos c.year) c.month c.day n at.from_day at.number; from_month = at.from_month; to_month = at.to_month; from_day = omega arith; to_day = grind (arith, nat_tests, within) })
    (λ ended.
    let last : c.day ≡ days_in_month (pos c.year) c.month = grind (arith, nat_tests, ended, at.to_day) in
    chosen (suc n) (nat_lt c.month 12) (civil c.year (c.month + 1) 1) (civil (c.year + 1) 1 1)
    (λ later. record { number = first_of_month (pos c.year) c.month c.day n at.from_month last at.number; from_month = omega arith; to_month = grind (arith, nat_tests, later); from_day = omega arith; to_day = long_enough c.year (c.month + 1) })
    (λ december. record { number = last_of_year c.year c.month c.day n (grind (arith, nat_tests, december, at.to_month)) last at.number; from_month = omega arith; to_month = omega arith; from_day = omega arith; to_day = long_enough (c.year + 1) 1 }))

pub is_at : (n : ℕ) → IsAt n (civil_of n)
unfolding civil_of
is_at zero = record { number = known_days.0; from_month = omega arith; to_month = omega arith; from_day = omega arith; to_day = omega arith }
is_at (suc n) = next_is_at n (civil_of n) (is_at n)

-- what the test of a receiver's date says
pub record Receiver (y m d : ℕ) : Type 0 where
  pub from_year : 1980 ≤ y
  pub to_year : y ≤ 2099
  pub from_month : 1 ≤ m
  pub to_month : m ≤ 12
  pub from_day : 1 ≤ d
  pub to_day : d ≤ month_length y m

is_receiver : (y m d : ℕ) → is_receiver_date y m d ≡ true → Receiver y m d
is_receiver y m d h = record {
  from_year = grind (arith, nat_tests, h);
  to_year = grind (arith, nat_tests, h);
  from_month = grind (arith, nat_tests, h);
  to_month = grind (arith, nat_tests, h);
  from_day = grind (arith, nat_tests, h);
  to_day = grind (arith, nat_tests, h);
}

tests_receiver : (y m d : ℕ) → Receiver y m d → is_receiver_date y m d ≡ true
tests_receiver y m d r = grind (arith, nat_tests, r.from_year, r.to_year, r.from_month, r.to_month, r.from_day, r.to_day)

receiver_date : (y m d : ℕ) → Receiver y m d → Date
receiver_date y m d r = record {
  year = pos y;
  month = m;
  day = d;
  year_in = (omega (arith, signed_arith), omega (arith, signed_arith, r.to_year));
  month_in = (r.from_month, r.to_month);
  day_in = (r.from_day, r.to_day);
}

civil_date : (y m d : ℕ) → Receiver y m d → IsCivilDate (pos y) m d
civil_date y m d r = ((omega (arith, signed_arith), omega (arith, signed_arith, r.to_year)), (r.from_month, r.to_month), (r.from_day, r.to_day))

civil_date_1970 : IsCivilDate (pos 1970) 1 1
civil_date_1970 = ((omega (arith, signed_arith), omega (arith, signed_arith)), (omega arith, omega arith), (omega arith, omega arith))

natural : (z : ℤ) → pos 0 ≤ℤ z → z ≡ pos (unsigned_abs z)
natural (pos n) h = refl
natural (negsuc n) h = absurd (omega (arith, signed_arith, h))

-- a date of a receiver has a number
numbered : (y m d : ℕ) → Receiver y m d → (n : ℕ) × (days_from_civil (pos y) m d ≡ pos n)
numbered y m d r =
    let first : IsCivilDate (pos 1970) 1 1 = civil_date_1970 in
    let later = day_count-lt_year (pos 1970) 1 1 (pos y) m d first r.from_day (omega (arith, signed_arith, r.from_year)) in
    (unsigned_abs (days_from_civil (pos y) m d), natural (days_from_civil (pos y) m d) (omega (arith, signed_arith, days_from_civil-day_count (pos y) m d, later, day_count-epoch)))

-- a date of jiff with a number is the one that the count has there
same_date : (d : Date) (n : ℕ) (c : CivilDate) → epoch_day d ≡ pos n → IsAt n c → (pos c.year ≡ d.year) × (c.month ≡ d.month) × (c.day ≡ d.day)
same_date d n c e at =
    by_lt_z d.year (pos c.year)
    (λ later. absurd (omega (arith, signed_arith, days_from_civil-day_count, e, at.number, day_count-lt_year d.year d.month d.day (pos c.year) c.month c.day (d.year_in, d.month_in, d.day_in) at.from_day later)))
    (λ within.
    let counted : Date = record { year = pos c.year; month = c.month; day = c.day; year_in = (omega (arith, signed_arith), omega (arith, signed_arith, within, d.year_in)); month_in = (at.from_month, at.to_month); day_in = (at.from_day, at.to_day) } in
    epoch_day_injective counted d (at.number ∙ sym e))

pub civil_same : (c : CivilDate) (y m d : ℕ) → c.year ≡ y → c.month ≡ m → c.day ≡ d → c ≡ civil y m d
civil_same c y m d year month day = ap (λ k. civil k c.month c.day) year ∙ ap (λ k. civil y k c.day) month ∙ ap (civil y m) day

pub date_counted : (d : Date) (n : ℕ) → epoch_day d ≡ pos n → (civil_of n ≡ civil (unsigned_abs d.year) d.month d.day) × (pos 0 ≤ℤ d.year)
date_counted d n e =
    let same = same_date d n (civil_of n) e (is_at n) in
    (civil_same (civil_of n) (unsigned_abs d.year) d.month d.day (ap unsigned_abs same.0) same.1 same.2, omega (arith, signed_arith, same.0))

same_number : (y m d n : ℕ) (c : CivilDate) → Receiver y m d → days_from_civil (pos y) m d ≡ pos n → IsAt n c → c ≡ civil y m d
unfolding receiver_date
same_number y m d n c r e at =
    let same = same_date (receiver_date y m d r) n c e at in
    civil_same c y m d (omega (arith, signed_arith, same.0)) same.1 same.2

-- the parts of a receiver's day
receiver_of : (y m d n : ℕ) → IsDayOf (pos y) m d n → Receiver y m d × (days_from_civil (pos y) m d ≡ pos n)
receiver_of y m d n day = of_date y m d n (civil_of n) (omega (arith, signed_arith, day.from)) (omega (arith, signed_arith, day.to)) (is_at n) day.date
  where
    of_date : (y m d n : ℕ) (c : CivilDate) → 1980 ≤ y → y ≤ 2099 → IsAt n c → c ≡ civil y m d → Receiver y m d × (days_from_civil (pos y) m d ≡ pos n)
    of_date y m d n c from to at e =
        let there = subst (IsAt n) e at in
        (record { from_year = from; to_year = to; from_month = there.from_month; to_month = there.to_month; from_day = there.from_day; to_day = there.to_day }, there.number)

day_of_receiver : (y m d n : ℕ) → Receiver y m d → days_from_civil (pos y) m d ≡ pos n → IsDayOf (pos y) m d n
day_of_receiver y m d n r e = record {
  from = omega (arith, signed_arith, r.from_year);
  to = omega (arith, signed_arith, r.to_year);
  date = same_number y m d n (civil_of n) r e (is_at n);
}

abbrev value_of : Option ℤ → ℤ
value_of (Some z) = z
value_of None = pos 0

reads : (y m d n : ℕ) (b : Bool) → is_receiver_date y m d ≡ b → Path (Option ℤ) (cond b (Some (days_from_civil (pos y) m d)) None) (Some (pos n)) → IsDayOf (pos y) m d n
reads y m d n true test e = day_of_receiver y m d n (is_receiver y m d test) (ap value_of e)
reads y m d n false test e = cc

unread : (y m d n : ℕ) (b : Bool) → is_receiver_date y m d ≡ b → Path (Option ℤ) (cond b (Some (days_from_civil (pos y) m d)) None) None → ¬ IsDayOf (pos y) m d n
unread y m d n true test e = cc
unread y m d n false test e = λ day. let r = tests_receiver y m d (receiver_of y m d n day).0 in cc

none_left : (y m d : ℕ) (b : Bool) → is_receiver_date y m d ≡ b → ((n : ℕ) → ¬ IsDayOf (pos y) m d n) → Path (Option ℤ) (cond b (Some (days_from_civil (pos y) m d)) None) None
none_left y m d true test never =
    let r = is_receiver y m d test in
    let number = numbered y m d r in
    absurd (never number.0 (day_of_receiver y m d number.0 r number.1))
none_left y m d false test never = refl

-- the test and jiff's number say what the day-by-day count says
pub day_number_some : (year : ℤ) (m d n : ℕ) → (day_number year m d ≡ Some (pos n)) ↔ IsDayOf year m d n
day_number_some (pos y) m d n = (
  reads y m d n (is_receiver_date y m d) refl,
  λ day. let parts = receiver_of y m d n day in
      cond-true (is_receiver_date y m d) (Some (days_from_civil (pos y) m d)) None (tests_receiver y m d parts.0) ∙ ap Some parts.1,
)
day_number_some (negsuc y) m d n = (λ h. cc, λ day. absurd (omega (arith, signed_arith, day.from)))

pub day_number_none : (year : ℤ) (m d : ℕ) → (day_number year m d ≡ None) ↔ ((n : ℕ) → ¬ IsDayOf year m d n)
day_number_none (pos y) m d =
    (λ e n. unread y m d n (is_receiver_date y m d) refl e, none_left y m d (is_receiver_date y m d) refl)
day_number_none (negsuc y) m d = (λ h n day. absurd (omega (arith, signed_arith, day.from)), λ h. refl)

-- from 1980-01-01 to 2099-12-31
first_day : days_from_civil (pos 1979) 12 31 ≡ pos 3_651
first_day = omega (arith, signed_arith, days_from_civil-day_count (pos 1979) 12 31, day_count-late (pos 1979) 11979 12 31 refl (omega arith) (omega arith) (omega arith))

last_day : days_from_civil (pos 2100) 1 1 ≡ pos 47_482
last_day = omega (arith, signed_arith, days_from_civil-day_count (pos 2100) 1 1, day_count-early (pos 2100) 12099 1 1 refl (omega arith) (omega arith) (omega arith))

abbrev InRange : Option ℤ → Type 0
InRange o = IfSome o (λ n. (pos 3_652 ≤ℤ n) × (n ≤ℤ pos 47_481))

receiver_range : (y m d : ℕ) → Receiver y m d → (pos 3_652 ≤ℤ days_from_civil (pos y) m d) × (days_from_civil (pos y) m d ≤ℤ pos 47_481)
receiver_range y m d r =
    let before : IsCivilDate (pos 1979) 12 31 = ((omega (arith, signed_arith), omega (arith, signed_arith)), (omega arith, omega arith), (omega arith, omega arith)) in
    let after_first = day_count-lt_year (pos 1979) 12 31 (pos y) m d before r.from_day (omega (arith, signed_arith, r.from_year)) in
    let before_last = day_count-lt_year (pos y) m d (pos 2100) 1 1 (civil_date y m d r) (omega arith) (omega (arith, signed_arith, r.to_year)) in
    let here = days_from_civil-day_count (pos y) m d in (
      omega (arith, signed_arith, here, first_day, days_from_civil-day_count (pos 1979) 12 31, after_first),
      omega (arith, signed_arith, here, last_day, days_from_civil-day_count (pos 2100) 1 1, before_last),
    )

pub day_number_range : (year : ℤ) (m d : ℕ) → InRange (day_number year m d)
day_number_range (pos y) m d = by_test (is_receiver_date y m d) refl
  where
    by_test : (b : Bool) → is_receiver_date y m d ≡ b → InRange (cond b (Some (days_from_civil (pos y) m d)) None)
    by_test true test = receiver_range y m d (is_receiver y m d test)
    by_test false test = tt
day_number_range (negsuc y) m d = tt
