-- An ISO text of a stamp says that stamp, in whole milliseconds.
use Rattle.std.proofs.Common.{◌≡◌, ℕ, ◌+◌, ◌*◌, ◌/◌, ◌%◌, ◌^◌, ◌≤◌, ◌<◌, refl, sym, ap, ◌∙◌, subst, ◌↔◌, arith, Option, Some, None, ℤ, pos, negsuc, ◌≤ℤ◌, unsigned_abs, IfSome, List, slice_index, length, codes, ◌++◌}
use Rattle.std.proofs.lemmas.Int.{by_lt_z}
use Rattle.jiff_core.specs.Date.{epoch_day}
use Rattle.jiff_core.specs.Calendar.{IsCivilDate, IsDate, days_from_civil}
use Rattle.jiff_core.proofs.SignedLemmas.{signed_arith}
use Rattle.jiff_core.proofs.CalendarLemmas.{days_from_civil-day_count, day_count-lt_year, days_in_month_bounds}
use Rattle.jiff_core.proofs.MarchLemmas.{day_count-late}
use Rattle.jiff_core.specs.declared.civil.date.Date.{Date}
use Rattle.gps_fixed.proofs.CivilLaws.{IsAt, is_at, civil_same}
use Rattle.gps_fixed.specs.Moment.{Moment, IsMoment}
use Rattle.gps_fixed.specs.Civil.{CivilDate, civil, civil_of, month_length}
use Rattle.gps_fixed.specs.Text.{iso_of, date_text, clock_text, digits_in}
use Rattle.gps_fixed.specs.Iso.{IsIsoOf, in_milliseconds, two_at}

-- what is read of a text is the stamp that is written so
abbrev Found : Option Moment → List ℕ → Type 0
Found r text = (at : Moment) → IsMoment at.sec at.nsec → text ≡ iso_of at → r ≡ Some (in_milliseconds at)

pub same_stamp : (a b : Moment) → Path (Option Moment) (Some a) (Some b) → a ≡ b
same_stamp a b e = cc

pub exact : (r : Option Moment) (text : List ℕ) → IfSome r (λ at. IsIsoOf at text) → Found r text → (at : Moment) → (r ≡ Some at) ↔ IsIsoOf at text
exact r text so found at = (λ e. there r so e, λ is. found at is.stamp.stamp is.written ∙ ap Some is.stamp.whole)
  where
    there : (r : Option Moment) → IfSome r (λ at. IsIsoOf at text) → r ≡ Some at → IsIsoOf at text
    there (Some b) so e = subst (λ m. IsIsoOf m text) (same_stamp b at e) so
    there None so e = cc

pub none : (r : Option Moment) (text : List ℕ) → IfSome r (λ at. IsIsoOf at text) → Found r text → (r ≡ None) ↔ ((at : Moment) → IsMoment at.sec at.nsec → ¬ (text ≡ iso_of at))
none r text so found = (λ e at is same. let got = found at is same in cc, λ never. nothing r so never)
  where
    nothing : (r : Option Moment) → IfSome r (λ at. IsIsoOf at text) → ((at : Moment) → IsMoment at.sec at.nsec → ¬ (text ≡ iso_of at)) → r ≡ None
    nothing (Some b) so never = absurd (never b so.stamp.stamp so.written)
    nothing None so never = refl

-- two digits, read
two_back : (n : ℕ) → n < 100 → 10 * ((48 + n / 10 % 10) % 16) + (48 + n / 1 % 10) % 16 ≡ n
two_back n h = omega (arith, h)

three_back : (n : ℕ) → n < 1_000 → 10 * (10 * ((48 + n / 100 % 10) % 16) + (48 + n / 10 % 10) % 16) + (48 + n / 1 % 10) % 16 ≡ n
three_back n h = omega (arith, h)

four_back : (n : ℕ) → n < 10_000 → 100 * (10 * ((48 + n / 1_000 % 10) % 16) + (48 + n / 100 % 10) % 16) + (10 * ((48 + n / 10 % 10) % 16) + (48 + n / 1 % 10) % 16) ≡ n
four_back n h = omega (arith, h)

-- the day of a stamp's second, in the calendar
pub record OnCalendar (n y m d : ℕ) : Type 0 where
  pub number : days_from_civil (pos y) m d ≡ pos n
  pub year : y ≤ 2286
  pub from_month : 1 ≤ m
  pub to_month : m ≤ 12
  pub from_day : 1 ≤ d
  pub to_day : d ≤ month_length y m
  pub short : d ≤ 31

last_day : days_from_civil (pos 2286) 12 31 ≡ pos 115_781
last_day = omega (arith, signed_arith, days_from_civil-day_count (pos 2286) 12 31, day_count-late (pos 2286) 12286 12 31 refl (omega arith) (omega arith) (omega arith))

days_short : (y m d : ℕ) → d ≤ month_length y m → d ≤ 31
days_short y m d h = omega (arith, h, (days_in_month_bounds (pos y) m).0)

before_2287 : (n y m d : ℕ) → n ≤ 115_740 → IsCivilDate (pos 2286) 12 31 → 1 ≤ d → days_from_civil (pos y) m d ≡ pos n → y ≤ 2286
before_2287 n y m d h last some e =
    by_lt_z (pos 2286) (pos y)
    (λ later. absurd (omega (arith, signed_arith, h, e, last_day, days_from_civil-day_count (pos y) m d, days_from_civil-day_count (pos 2286) 12 31, day_count-lt_year (pos 2286) 12 31 (pos y) m d last some later)))
    (λ within. omega (arith, signed_arith, within))

pub on_calendar : (n y m d : ℕ) → n ≤ 115_740 → civil_of n ≡ civil y m d → OnCalendar n y m d
on_calendar n y m d h e = of_date (civil_of n) (is_at n) e
  where
    of_date : (c : CivilDate) → IsAt n c → c ≡ civil y m d → OnCalendar n y m d
    of_date c at e =
        let there = subst (IsAt n) e at in
        let last : IsCivilDate (pos 2286) 12 31 = ((omega (arith, signed_arith), omega (arith, signed_arith)), (omega arith, omega arith), (omega arith, omega arith)) in
        record { number = there.number; year = before_2287 n y m d h last there.from_day there.number; from_month = there.from_month; to_month = there.to_month; from_day = there.from_day; to_day = there.to_day; short = days_short y m d there.to_day }

pub same_day : (n y m d : ℕ) (date : Date) → OnCalendar n y m d → date.year ≡ pos y → date.month ≡ m → date.day ≡ d → epoch_day date ≡ pos n
same_day n y m d date on year month day =
    ap (λ z. days_from_civil z date.month date.day) year ∙ (ap (λ k. days_from_civil (pos y) k date.day) month ∙ (ap (days_from_civil (pos y) m) day ∙ on.number))

pub is_date : (n y m d : ℕ) → OnCalendar n y m d → (year month day : ℤ) → year ≡ pos y → month ≡ pos m → day ≡ pos d → IsDate year month day
is_date n y m d on year month day ey em ed =
    subst (λ z. IsDate z month day) (sym ey) (subst (λ z. IsDate (pos y) z day) (sym em) (subst (IsDate (pos y) (pos m)) (sym ed) (
      (omega (arith, signed_arith), omega (arith, signed_arith, on.year)),
      (omega (arith, signed_arith, on.from_month), omega (arith, signed_arith, on.to_month)),
      (omega (arith, signed_arith, on.from_day), omega (arith, signed_arith, on.to_day)),
    )))

-- what the places of an ISO text say
pub record Says (at : Moment) (text : List ℕ) : Type 0 where
  pub size : length text ≡ 24
  pub date : civil_of (unsigned_abs at.sec / 86_400) ≡ civil (100 * two_at 0 text + two_at 2 text) (two_at 5 text) (two_at 8 text)
  pub days : unsigned_abs at.sec / 86_400 ≤ 115_740
  pub clock : 3_600 * two_at 11 text + 60 * two_at 14 text + two_at 17 text ≡ unsigned_abs at.sec % 86_400
  pub milli : 10 * two_at 20 text + slice_index text 22 % 16 ≡ at.nsec / 10 ^ 6
  pub second : at.sec ≡ pos (unsigned_abs at.sec)

natural : (z : ℤ) → pos 0 ≤ℤ z → z ≡ pos (unsigned_abs z)
natural (pos n) h = refl
natural (negsuc n) h = absurd (omega (arith, signed_arith, h))

day_small : (s : ℕ) → s ≤ 9_999_999_999 → s / 86_400 ≤ 115_740
day_small s h = omega (arith, h)

clock_back : (s : ℕ) → s < 86_400 → 3_600 * (10 * ((48 + s / 3_600 / 10 % 10) % 16) + (48 + s / 3_600 / 1 % 10) % 16) + 60 * (10 * ((48 + s / 60 % 60 / 10 % 10) % 16) + (48 + s / 60 % 60 / 1 % 10) % 16) + (10 * ((48 + s % 60 / 10 % 10) % 16) + (48 + s % 60 / 1 % 10) % 16) ≡ s
clock_back s h =
    let hours : s / 3_600 < 100 = omega (arith, h) in
    let minutes : s / 60 % 60 < 100 = omega arith in
    let seconds : s % 60 < 100 = omega arith in
    omega (arith, h, two_back (s / 3_600) hours, two_back (s / 60 % 60) minutes, two_back (s % 60) seconds)

date_back : (c : CivilDate) (n : ℕ) → OnCalendar n c.year c.month c.day → c ≡ civil (100 * (10 * ((48 + c.year / 1_000 % 10) % 16) + (48 + c.year / 100 % 10) % 16) + (10 * ((48 + c.year / 10 % 10) % 16) + (48 + c.year / 1 % 10) % 16)) (10 * ((48 + c.month / 10 % 10) % 16) + (48 + c.month / 1 % 10) % 16) (10 * ((48 + c.day / 10 % 10) % 16) + (48 + c.day / 1 % 10) % 16)
date_back c n on =
    civil_same c
    (100 * (10 * ((48 + c.year / 1_000 % 10) % 16) + (48 + c.year / 100 % 10) % 16) + (10 * ((48 + c.year / 10 % 10) % 16) + (48 + c.year / 1 % 10) % 16))
    (10 * ((48 + c.month / 10 % 10) % 16) + (48 + c.month / 1 % 10) % 16)
    (10 * ((48 + c.day / 10 % 10) % 16) + (48 + c.day / 1 % 10) % 16)
    (sym (four_back c.year (omega (arith, on.year)))) (sym (two_back c.month (omega (arith, on.to_month)))) (sym (two_back c.day (omega (arith, on.short))))

pub says : (at : Moment) (text : List ℕ) → IsMoment at.sec at.nsec → text ≡ iso_of at → Says at text
unfolding iso_of
says at text is e =
    let second = natural at.sec is.from in
    let few : unsigned_abs at.sec ≤ 9_999_999_999 = omega (arith, signed_arith, is.to, second) in
    let days = day_small (unsigned_abs at.sec) few in
    let day = unsigned_abs at.sec / 86_400 in
    let on = on_calendar day (civil_of day).year (civil_of day).month (civil_of day).day days refl in
    subst (Says at) (sym e) (record {
      size = refl;
      date = date_back (civil_of (unsigned_abs at.sec / 86_400)) (unsigned_abs at.sec / 86_400) on;
      days = days;
      clock = clock_back (unsigned_abs at.sec % 86_400) (omega arith);
      milli = three_back (at.nsec / 10 ^ 6) (omega (arith, is.within));
      second = second;
    })

-- further digits are not written
pub same_text : (at : Moment) → iso_of at ≡ iso_of (in_milliseconds at)
unfolding iso_of
same_text at =
    let same : at.nsec / 10 ^ 6 ≡ at.nsec / 10 ^ 6 * 10 ^ 6 / 10 ^ 6 = omega arith in
    let second = unsigned_abs at.sec in
    ap (λ k. date_text (civil_of (second / 86_400)) ++ codes "T" ++ clock_text (second % 86_400) ++ codes "." ++ digits_in 3 k ++ codes "Z") same

-- a stamp read from what an ISO text says
pub stamp_back : (at : Moment) (text : List ℕ) → Says at text → IsMoment at.sec at.nsec → (day clock milli : ℕ)
    → day ≡ unsigned_abs at.sec / 86_400 → clock ≡ unsigned_abs at.sec % 86_400 → milli ≡ at.nsec / 10 ^ 6
    → (86_400 * day + clock ≤ 9_999_999_999) × (milli < 1_000) × (Path Moment (record { sec = pos (86_400 * day + clock); nsec = 10 ^ 6 * milli }) (in_milliseconds at))
stamp_back at text said is day clock milli d c m =
    let whole : 86_400 * day + clock ≡ unsigned_abs at.sec = omega (arith, d, c) in (
      omega (arith, signed_arith, whole, said.second, is.to),
      omega (arith, m, is.within),
      ap (λ s. record { sec = pos s; nsec = 10 ^ 6 * milli }) whole ∙ (ap (λ z. record { sec = z; nsec = 10 ^ 6 * milli }) (sym said.second) ∙ ap (λ k. record { sec = at.sec; nsec = k }) (omega (arith, m))),
    )

pub same_some : (a b : ℕ) → Path (Option ℕ) (Some a) (Some b) → a ≡ b
same_some a b e = cc
