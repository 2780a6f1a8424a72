-- What an epoch says whose only note is that of a NAV-PVT.
use Rattle.std.proofs.Common.{◌≡◌, ℕ, ◌+◌, ◌-◌, ◌*◌, ◌/◌, ◌%◌, ◌^◌, ◌<◌, ◌≤◌, Bool, true, false, cond, ◌&&◌, List, refl, ap, ◌∙◌, arith, ⊎_elim, Option, Some, None, ℤ, pos, ◌+ℤ◌, ◌*ℤ◌, unsigned_abs}
use Rattle.std.specs.Prelude.{nat_le, slice_index, IfSome}
use Rattle.std.specs.Option.{option_map, option_or, option_flatten}
use Rattle.std.proofs.lemmas.Bool.{cases_lt}
use Rattle.std.proofs.lemmas.Bool.Decides.{nat_tests}
use Rattle.std.proofs.lemmas.Int.{ints}
use Rattle.jiff_core.specs.Calendar.{IsCivilDate, days_from_civil}
use Rattle.jiff_core.proofs.SignedLemmas.{signed_arith}
use Rattle.jiff_core.proofs.CalendarLemmas.{days_from_civil-day_count, day_count-lt_year}
use Rattle.jiff_core.proofs.MarchLemmas.{day_count-early}
use Rattle.gps_fixed.specs.Civil.{CivilDate, civil_of}
use Rattle.gps_fixed.specs.Moment.{Moment}
use Rattle.gps_fixed.specs.Utc.{utc}
use Rattle.gps_fixed.proofs.CivilLaws.{IsAt, is_at}
use Rattle.gps_report.specs.declared.note.Note.{Note}
use Rattle.gps_report.specs.Fits.{where_given}
use Rattle.epoch_core.specs.Days.{carried as carried_day, day_known, dated}
use Rattle.epoch_core.specs.Quantities.{said, serial_time}
use Rattle.ubx_decode.specs.declared.time.DayTime.{DayTime}
use Rattle.ubx_decode.specs.Fields.{is_set, plus}
use Rattle.ubx_decode.specs.Time.{day_length, carried, joined, time_of}
use Rattle.pseudo_nmea.specs.Fields.{is_short_year}
use Rattle.pseudo_nmea.specs.Fitting.{alone, is_dated}

-- a day not before 1980-01-01 is of a year not before 1980
first_day : days_from_civil (pos 1980) 1 1 ≡ pos 3_652
first_day = omega (arith, signed_arith, days_from_civil-day_count (pos 1980) 1 1, day_count-early (pos 1980) 11979 1 1 refl (omega arith) (omega arith) (omega arith))

year_of : (n : ℕ) (c : CivilDate) → IsAt n c → 3_652 ≤ n → 1980 ≤ c.year
year_of n c at low =
    ⊎_elim (λ (early : c.year < 1980).
    let is : IsCivilDate (pos c.year) c.month c.day = ((omega (arith, signed_arith), omega (arith, signed_arith, early)), (at.from_month, at.to_month), (at.from_day, at.to_day)) in
    let before = day_count-lt_year (pos c.year) c.month c.day (pos 1980) 1 1 is (omega arith) (omega (arith, signed_arith, early)) in
    absurd (omega (arith, signed_arith, at.number, first_day, days_from_civil-day_count (pos c.year) c.month c.day, days_from_civil-day_count (pos 1980) 1 1, before)))
    (λ (late : 1980 ≤ c.year). late) (cases_lt c.year 1980)

pub year_from : (n : ℕ) → 3_652 ≤ n → 1980 ≤ (civil_of n).year
year_from n low = year_of n (civil_of n) (is_at n) low

-- the time of a NAV-PVT
abbrev IsIn : DayTime → Type 0
IsIn t = (3_652 ≤ unsigned_abs t.day) × (t.tod < 86_400_000_000_000)

carried_in : (date since : ℕ) → IfSome (carried date since) IsIn
unfolding carried
carried_in date since = by_test (date + since / day_length - 1) (nat_le 3_652 (date + since / day_length - 1) && nat_le (date + since / day_length - 1) 47_481) refl
  where
    by_test : (day : ℕ) (b : Bool) → (nat_le 3_652 day && nat_le day 47_481) ≡ b → IfSome (cond b (Some (record { day = pos day; tod = since % day_length })) None) IsIn
    by_test day false test = tt
    by_test day true test = (grind (arith, nat_tests), omega arith)

joined_in : (date : Option ℤ) (time : Option ℕ) (nano : Option ℤ) → IfSome (joined date time nano) IsIn
joined_in (Some date) (Some time) (Some nano) = carried_in (unsigned_abs date) (plus (day_length + time) nano)
joined_in (Some date) (Some time) None = tt
joined_in (Some date) None nano = tt
joined_in None time nano = tt

if_in : (b : Bool) (o : Option DayTime) → IfSome o IsIn → IfSome (cond b o None) IsIn
if_in true o h = h
if_in false o h = tt

pub time_in : (payload : List ℕ) → IfSome (time_of payload) IsIn
unfolding time_of
time_in payload = if_in (is_set (slice_index payload 11) 0 && is_set (slice_index payload 11) 1) _ (joined_in _ _ _)

-- what one note says
pub or_none : {X : Type 0} → (o : Option X) → option_or o None ≡ o
or_none None = refl
or_none (Some x) = refl

abbrev at_time : Option DayTime → Option Moment
at_time t = option_map (λ (x : DayTime). utc (pos (unsigned_abs x.day)) x.tod) t

abbrev told : Option ℕ → Option ℤ → Option Moment
told tod day = option_flatten (option_or (option_map (λ (x : ℕ). serial_time tod (option_or (option_map unsigned_abs day) (carried_day tod None None))) tod) None)

told_by : (t : Option DayTime) → told (option_map (λ (x : DayTime). x.tod) t) (option_map (λ (x : DayTime). x.day) t) ≡ at_time t
told_by None = refl
told_by (Some x) = refl

pub alone_time : (note : Note) (first : Moment) (t : Option DayTime) → note.tod ≡ option_map (λ (x : DayTime). x.tod) t → note.day ≡ option_map (λ (x : DayTime). x.day) t
    → (said (alone note first)).time ≡ at_time t
unfolding said dated day_known
alone_time note first t tod day = (λ i. told (tod i) (day i)) ∙ told_by t

-- the seconds of a day and a time of that day
seconds : (d tod : ℕ) → tod < 86_400_000_000_000 → unsigned_abs (utc (pos d) tod).sec / 86_400 ≡ d
seconds d tod h =
    let sum : unsigned_abs (pos 86_400 *ℤ pos d +ℤ pos (tod / 10 ^ 9)) ≡ 86_400 * d + tod / 10 ^ 9 = omega (arith, ints) in
    let rest : tod / 10 ^ 9 < 86_400 = omega arith in
    ap (λ (n : ℕ). n / 86_400) sum ∙ omega arith

pub dated_time : (t : Option DayTime) → IfSome t IsIn → where_given (λ (day : ℤ). nat_le (civil_of (unsigned_abs day)).year 2079) (option_map (λ (x : DayTime). x.day) t) ≡ true
    → where_given is_dated (at_time t) ≡ true
dated_time None is early = refl
dated_time (Some t) is early =
    let d : ℕ = unsigned_abs t.day in
    let from = year_from d is.0 in
    let day = seconds d t.tod is.1 in
    ap (λ (n : ℕ). is_short_year (civil_of n)) day ∙ grind (arith, nat_tests)
