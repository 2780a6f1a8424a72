-- The civil dates of the Gregorian calendar from 1970-01-01 on, each the day after the one before it (ISO 8601), and the dates that a receiver
-- may report, which are those of the years 1980 to 2099 (this project's own).
use Rattle.std.specs.Prelude.{◌≡◌, ℕ, zero, suc, ◌+◌, ◌%◌, ◌≤◌, Bool, not, ◌&&◌, ◌||◌, ◌==◌, nat_lt, nat_le, if◌then◌else◌, Option, Some, None, ℤ, pos, negsuc, ◌≤ℤ◌, unsigned_abs}
use Rattle.jiff_core.specs.Calendar.{days_from_civil}

pub record CivilDate : Type 0 where
  pub year : ℕ
  pub month : ℕ
  pub day : ℕ

abbrev pub civil : ℕ → ℕ → ℕ → CivilDate
civil y m d = record { year = y; month = m; day = d }

-- every fourth year, but of the centuries only every fourth
abbrev pub is_leap : ℕ → Bool
is_leap y = (y % 4 == 0) && (not (y % 100 == 0) || (y % 400 == 0))

-- thirty days have September, April, June and November
abbrev pub month_length : ℕ → ℕ → ℕ
month_length y m =
    if m == 2 then (if is_leap y then 29 else 28)
    else (if (m == 4) || (m == 6) || (m == 9) || (m == 11) then 30 else 31)

abbrev pub next_day : CivilDate → CivilDate
next_day d =
    if nat_lt d.day (month_length d.year d.month) then civil d.year d.month (d.day + 1)
    else (if nat_lt d.month 12 then civil d.year (d.month + 1) 1 else civil (d.year + 1) 1 1)

-- the date of a day number
unfoldable pub civil_of : ℕ → CivilDate
civil_of zero = civil 1970 1 1
civil_of (suc n) = next_day (civil_of n)

-- n is the number of this day, and its year is one that a receiver may report
pub record IsDayOf (year : ℤ) (month day n : ℕ) : Type 0 where
  pub from : pos 1980 ≤ℤ year
  pub to : year ≤ℤ pos 2099
  pub date : civil_of n ≡ civil (unsigned_abs year) month day

-- the same as a test and a number, for what is computed with them
abbrev pub is_receiver_date : ℕ → ℕ → ℕ → Bool
is_receiver_date y m d =
    nat_le 1980 y && nat_le y 2099 && nat_le 1 m && nat_le m 12 && nat_le 1 d && nat_le d (month_length y m)

abbrev pub day_number : ℤ → ℕ → ℕ → Option ℤ
day_number (pos y) m d = if is_receiver_date y m d then Some (days_from_civil (pos y) m d) else None
day_number (negsuc y) m d = None

-- not too early or late for a receiver, nor too large for any date
pub record IsReceivable (year : ℤ) (month day : ℕ) : Type 0 where
  pub from : pos 1980 ≤ℤ year
  pub to : year ≤ℤ pos 2099
  pub months : month ≤ 12
  pub days : day ≤ 31
