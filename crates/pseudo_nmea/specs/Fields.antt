-- The fields of the two sentences of a fix, quantity by quantity. Source: NMEA 0183, RMC and GGA. How many decimals each has, the rounding, and that
-- a quantity outside its range leaves its field empty, are this project's own.
use Rattle.std.specs.Prelude.{ℕ, ◌+◌, ◌*◌, ◌/◌, ◌%◌, ◌^◌, ◌&&◌, nat_le, nat_lt, int_le, Bool, List, [], ◌++◌, Option, Some, None, ℤ, pos, negsuc, unsigned_abs, codes, if◌then◌else◌}
use Rattle.gps_fixed.specs.Civil.{CivilDate, civil_of}
use Rattle.gps_fixed.specs.Moment.{Moment}
use Rattle.gps_fixed.specs.Ratio.{nearest}
use Rattle.gps_fixed.specs.Text.{digits_in, scaled_text}
use Rattle.gps_report.specs.declared.note.Position.{Position}

-- hhmmss of a second of the day
unfoldable pub clock_digits : ℕ → List ℕ
clock_digits s = digits_in 2 (s / 3_600) ++ digits_in 2 (s / 60 % 60) ++ digits_in 2 (s % 60)

-- hhmmss and nine decimals
unfoldable pub clock : Option Moment → List ℕ
clock None = []
clock (Some at) = clock_digits (unsigned_abs at.sec % 86_400) ++ codes "." ++ digits_in 9 at.nsec

-- a date of the years that two digits name
abbrev pub is_short_year : CivilDate → Bool
is_short_year d = nat_le 1980 d.year && nat_le d.year 2079

-- ddmmyy
unfoldable pub date_digits : CivilDate → List ℕ
date_digits d =
    if is_short_year d then digits_in 2 d.day ++ digits_in 2 d.month ++ digits_in 2 (d.year % 100) else []

unfoldable pub date : Option Moment → List ℕ
date None = []
date (Some at) = date_digits (civil_of (unsigned_abs at.sec / 86_400))

-- minutes of an angle below a degree, in nanodegrees: two digits and seven decimals
unfoldable pub minutes : ℕ → List ℕ
minutes rest =
    digits_in 2 ((6 * rest + 5) / 10 / 10 ^ 7) ++ codes "." ++ digits_in 7 ((6 * rest + 5) / 10 % 10 ^ 7)

-- the given number of digits of degrees, and the minutes
unfoldable pub angle : ℕ → ℤ → List ℕ
angle count value = digits_in count (unsigned_abs value / 10 ^ 9) ++ minutes (unsigned_abs value % 10 ^ 9)

-- a latitude over 90 or a longitude over 180 degrees is no place
abbrev pub is_place : Position → Bool
is_place p = nat_le (unsigned_abs p.lat) (90 * 10 ^ 9) && nat_le (unsigned_abs p.lon) (180 * 10 ^ 9)

abbrev pub placed : Option Position → Option Position
placed None = None
placed (Some p) = if is_place p then Some p else None

-- the letter of a side, by the sign; zero has the first
abbrev pub side : List ℕ → List ℕ → ℤ → List ℕ
side plus minus (pos n) = plus
side plus minus (negsuc n) = minus

unfoldable pub latitude : Option Position → List ℕ
latitude None = []
latitude (Some p) = angle 2 p.lat

unfoldable pub north : Option Position → List ℕ
north None = []
north (Some p) = side (codes "N") (codes "S") p.lat

unfoldable pub longitude : Option Position → List ℕ
longitude None = []
longitude (Some p) = angle 3 p.lon

unfoldable pub east : Option Position → List ℕ
east None = []
east (Some p) = side (codes "E") (codes "W") p.lon

-- a speed of millimetres a second, at most a million knots
abbrev pub is_speed : ℤ → Bool
is_speed v = int_le (pos 0) v && int_le v (pos 514_444_444)

-- in knots with three decimals: a knot is 463 / 900 metres a second
unfoldable pub knots : Option ℤ → List ℕ
knots None = []
knots (Some v) = if is_speed v then scaled_text 3 (nearest v (pos 900) (pos 463)) else []

-- a track in 1e-4 degree, up to a full circle
abbrev pub is_course : ℤ → Bool
is_course t = int_le (pos 0) t && int_le t (pos 3_600_000)

unfoldable pub course : Option ℤ → List ℕ
course None = []
course (Some t) = if is_course t then scaled_text 4 t else []

-- a height of millimetres, less than a million kilometres
abbrev pub is_height : ℤ → Bool
is_height h = nat_lt (unsigned_abs h) (10 ^ 12)

-- in metres
unfoldable pub metres : Option ℤ → List ℕ
metres None = []
metres (Some h) = if is_height h then scaled_text 3 h else []
