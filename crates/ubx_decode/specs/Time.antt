-- The time of a NAV-PVT. u-blox interface description, UBX-NAV-PVT, the fields year to second, valid and nano. That second 60 is the
-- second after it, and that days outside 1980 to 2099 are not given, is this project's own.
use Rattle.std.specs.Prelude.{◌≡◌, ℕ, suc, ◌+◌, ◌-◌, ◌*◌, ◌/◌, ◌%◌, ◌&&◌, nat_le, if◌then◌else◌, List, slice_index, Option, Some, None, ℤ, pos, negsuc, unsigned_abs}
use Rattle.gps_fixed.specs.Civil.{day_number}
use Rattle.gps_fixed.specs.Fields.{u2_at, i4_at}
use Rattle.ubx_decode.specs.declared.time.DayTime.{DayTime}
use Rattle.ubx_decode.specs.Fields.{is_set, plus}

-- nanoseconds
abbrev pub day_length : ℕ
day_length = 86_400_000_000_000

-- the time of day by the clock, in nanoseconds
unfoldable pub clock : ℕ → ℕ → ℕ → Option ℕ
clock hour minute second =
    if nat_le hour 23 && nat_le minute 59 && nat_le second 60
    then Some ((3_600 * hour + 60 * minute + second) * 1_000_000_000) else None

-- the nanoseconds to be added, which may be below zero
unfoldable pub fraction : ℤ → Option ℤ
fraction nano = if nat_le (unsigned_abs nano) 1_000_000_000 then Some nano else None

-- a time counted from the midnight before the date's own, so that it stays above zero: its whole days are carried to the date
unfoldable pub carried : ℕ → ℕ → Option DayTime
carried date since =
    let day = date + since / day_length - 1 in
    if nat_le 3_652 day && nat_le day 47_481 then Some (record { day = pos day; tod = since % day_length }) else None

abbrev pub joined : Option ℤ → Option ℕ → Option ℤ → Option DayTime
joined (Some date) (Some clock) (Some nano) = carried (unsigned_abs date) (plus (day_length + clock) nano)
joined (Some date) (Some clock) None = None
joined (Some date) None nano = None
joined None clock nano = None

-- if the date and the time are said to be valid
unfoldable pub time_of : List ℕ → Option DayTime
time_of payload =
    let valid = slice_index payload 11 in
    if is_set valid 0 && is_set valid 1
    then joined (day_number (pos (u2_at payload 4)) (slice_index payload 6) (slice_index payload 7))
    (clock (slice_index payload 8) (slice_index payload 9) (slice_index payload 10))
    (fraction (i4_at payload 16))
    else None

-- nothing is lost by carrying: a day's whole nanoseconds and those of the time of day are those of the date and the clock, and the ones added
abbrev pub IsSum : ℕ → ℕ → ℤ → DayTime → Type 0
IsSum date clock (pos nano) time = unsigned_abs time.day * day_length + time.tod ≡ date * day_length + clock + nano
IsSum date clock (negsuc nano) time = unsigned_abs time.day * day_length + time.tod + suc nano ≡ date * day_length + clock
