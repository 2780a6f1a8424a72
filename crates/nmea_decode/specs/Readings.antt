-- How the text of one field is read, kind by kind. A text that is not of the form is no reading. NMEA 0183; which texts are readable,
-- second 60 as the second after 59, the rounding of speeds, and the years of two digits are this project's own.
use Rattle.std.specs.Prelude.{ℕ, ◌+◌, ◌*◌, ◌/◌, ◌%◌, ◌^◌, ◌==◌, ◌≤ℤ◌, ◌&&◌, List, length, nat_le, nat_lt, Option, Some, None, ℤ, pos, negsuc, int_le, if◌then◌else◌}
use Rattle.std.specs.Option.{option_map, option_and_then}
use Rattle.gps_fixed.specs.Scaled.{scaled, digits_of}
use Rattle.gps_fixed.specs.Ratio.{nearest}
use Rattle.gps_fixed.specs.Civil.{day_number}

-- a number with the given number of decimals, from 0 to the greatest
abbrev pub up_to : ℕ → ℤ → Option ℕ
up_to most (pos n) = if nat_le n most then Some n else None
up_to most (negsuc n) = None

unfoldable pub number_up_to : ℕ → ℕ → List ℕ → Option ℕ
number_up_to most decimals text = option_and_then (up_to most) (scaled decimals text)

abbrev pub above_nought : ℕ → Option ℕ
above_nought n = if nat_lt 0 n then Some n else None

-- the id of a satellite, 1 to 999
unfoldable pub id_of : List ℕ → Option ℕ
id_of text = option_and_then above_nought (number_up_to 999 0 text)

-- degrees above the horizon, -90 to 90
abbrev pub within_right_angle : ℤ → Option ℤ
within_right_angle n = if int_le (negsuc 89) n && int_le n (pos 90) then Some n else None

unfoldable pub elevation_of : List ℕ → Option ℤ
elevation_of text = option_and_then within_right_angle (scaled 0 text)

abbrev pub azimuth_of : List ℕ → Option ℕ
azimuth_of text = number_up_to 360 0 text

abbrev pub strength_of : List ℕ → Option ℕ
strength_of text = number_up_to 99 0 text

-- a dilution in hundredths, at most 99.99
abbrev pub dilution_of : List ℕ → Option ℕ
dilution_of text = number_up_to 9_999 2 text

-- a height in millimetres
abbrev pub height_of : List ℕ → Option ℤ
height_of text = scaled 3 text

-- a course in 1e-4 degree, at most a full circle
unfoldable pub track_of : List ℕ → Option ℤ
track_of text = option_map (λ n. pos n) (number_up_to 3_600_000 4 text)

-- a speed in knots, as millimetres a second: a knot is 1,852 metres an hour, which is 463 / 900 metres a second
unfoldable pub speed_of : List ℕ → Option ℤ
speed_of text = option_map (λ n. nearest (pos n) (pos 463) (pos 900)) (number_up_to (10 ^ 9) 3 text)

-- hhmmss and a fraction, with nine digits of it used, as nanoseconds since the day began: second 60 is the second after 59, so this may
-- be a day or more
abbrev pub clock : ℕ → Option ℕ
clock n =
    let seconds = n / 10 ^ 9 in
    let h = seconds / 10_000 in
    let m = seconds / 100 % 100 in
    let s = seconds % 100 in
    if nat_le h 23 && nat_le m 59 && nat_le s 60 then Some ((h * 3600 + m * 60 + s) * 10 ^ 9 + n % 10 ^ 9) else None

unfoldable pub time_of : List ℕ → Option ℕ
time_of text = option_and_then clock (digits_of 6 9 text)

abbrev pub day_ns : ℕ
day_ns = 86_400 * 10 ^ 9

-- the time of day, and how many days were passed on the way to it
abbrev pub tod_of : Option ℕ → Option ℕ
tod_of time = option_map (λ t. t % day_ns) time

abbrev pub days_passed : Option ℕ → ℕ
days_passed None = 0
days_passed (Some t) = t / day_ns

abbrev pub later_by : ℕ → ℤ → ℤ
later_by days (pos day) = pos (day + days)
later_by days (negsuc day) = negsuc day

-- the day of a date that comes with a time
abbrev pub day_with : Option ℕ → Option ℤ → Option ℤ
day_with time day = option_map (later_by (days_passed time)) day

-- from 1970-01-01 to 2099-12-31, as far as a date that is read can lie
pub record IsOfCentury (day : ℤ) : Type 0 where
  pub from : pos 0 ≤ℤ day
  pub to : day ≤ℤ pos 47_481

-- exactly n digits and nothing else
unfoldable pub plain_number : ℕ → List ℕ → Option ℕ
plain_number count text = if length text == count then digits_of count 0 text else None

-- a year of two digits is of the years 1980 to 2079
abbrev pub full_year : ℕ → ℕ
full_year yy = if nat_le 80 yy then 1900 + yy else 2000 + yy

abbrev pub dated : ℕ → Option ℤ
dated n = day_number (pos (full_year (n % 100))) (n / 100 % 100) (n / 10_000)

-- ddmmyy
unfoldable pub date_of : List ℕ → Option ℤ
date_of text = option_and_then dated (plain_number 6 text)

abbrev pub date_from : Option ℕ → Option ℕ → Option ℕ → Option ℤ
date_from (Some year) (Some month) (Some day) = day_number (pos year) month day
date_from _ _ _ = None

-- a day, a month and a year of four digits, in fields of their own
unfoldable pub long_date_of : List ℕ → List ℕ → List ℕ → Option ℤ
long_date_of day month year = date_from (plain_number 4 year) (number_up_to 12 0 month) (number_up_to 31 0 day)
