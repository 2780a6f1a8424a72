-- Latitudes and longitudes: degrees, minutes and a fraction of them, and a letter. NMEA 0183; the rounding to nanodegrees is this project's own.
use Rattle.std.specs.Prelude.{ℕ, ◌+◌, ◌*◌, ◌/◌, ◌%◌, ◌^◌, Bool, true, false, ◌&&◌, List, nat_le, nat_lt, Option, Some, None, ℤ, pos, neg_ℤ, codes, if◌then◌else◌}
use Rattle.std.specs.Option.{option_and_then}
use Rattle.std.specs.Str.{bytes_eq}
use Rattle.gps_fixed.specs.Scaled.{digits_of}
use Rattle.gps_report.specs.declared.note.Position.{Position}

-- A minute is 1e9 / 60 nanodegrees, so a unit of 1e-7 minute is 5 / 3: the nearest whole number to that is taken.
abbrev pub nanodegrees : ℕ → ℕ
nanodegrees n = (n / 10 ^ 9) * 10 ^ 9 + (10 * (n % 10 ^ 9) + 3) / 6

-- n is the degrees and then the minutes in units of 1e-7, with 60 * 10^7 of them to a degree; at most the given number of degrees
abbrev pub angle : ℕ → ℕ → Option ℕ
angle most n = if nat_lt (n % 10 ^ 9) (60 * 10 ^ 7) && nat_le (nanodegrees n) (most * 10 ^ 9) then Some (nanodegrees n) else None

-- whether the letter makes the value negative
abbrev pub side_of : List ℕ → List ℕ → List ℕ → Option Bool
side_of plus minus letter = if bytes_eq letter plus then Some false else (if bytes_eq letter minus then Some true else None)

abbrev pub signed : Bool → ℕ → ℤ
signed true n = neg_ℤ (pos n)
signed false n = pos n

abbrev pub on_side : Option Bool → Option ℕ → Option ℤ
on_side (Some negative) (Some n) = Some (signed negative n)
on_side _ _ = None

-- ddmm and a fraction, N or S
unfoldable pub latitude_of : List ℕ → List ℕ → Option ℤ
latitude_of text letter = on_side (side_of (codes "N") (codes "S") letter) (option_and_then (angle 90) (digits_of 4 7 text))

-- dddmm and a fraction, E or W
unfoldable pub longitude_of : List ℕ → List ℕ → Option ℤ
longitude_of text letter = on_side (side_of (codes "E") (codes "W") letter) (option_and_then (angle 180) (digits_of 5 7 text))

abbrev pub both : Option ℤ → Option ℤ → Option Position
both (Some lat) (Some lon) = Some (record { lat = lat; lon = lon })
both _ _ = None

-- a position has both halves
unfoldable pub position_of : List ℕ → List ℕ → List ℕ → List ℕ → Option Position
position_of lat north lon east = both (latitude_of lat north) (longitude_of lon east)
