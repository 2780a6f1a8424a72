-- Where a receiver is and how it moves. u-blox interface description, UBX-NAV-PVT, the fields fixType, flags, lon, lat, velD, gSpeed
-- and headMot. The units of the quantities and the ranges outside which they are absent are this project's own.
use Rattle.std.specs.Prelude.{ℕ, suc, ◌&&◌, ◌||◌, ◌==◌, nat_le, if◌then◌else◌, Option, Some, None, ℤ, pos, negsuc, ◌+ℤ◌, ◌*ℤ◌, unsigned_abs}
use Rattle.gps_report.specs.declared.note.Position.{Position}
use Rattle.gps_fixed.specs.Ratio.{nearest}
use Rattle.ubx_decode.specs.Fields.{is_set}

-- 2 for two and 3 for three dimensions, the second with or without dead reckoning, if the fix is said to be good; else 1
unfoldable pub mode_of : ℕ → ℕ → ℕ
mode_of fix_type flags =
    if is_set flags 0
    then (if fix_type == 2 then 2 else (if (fix_type == 3) || (fix_type == 4) then 3 else 1)) else 1

-- 1e-7 degree as nanodegrees, up to the poles and once half around the earth
unfoldable pub position_of : ℤ → ℤ → Option Position
position_of lat lon =
    if nat_le (unsigned_abs lat) 900_000_000 && nat_le (unsigned_abs lon) 1_800_000_000
    then Some (record { lat = pos 100 *ℤ lat; lon = pos 100 *ℤ lon }) else None

-- a speed is not below zero
unfoldable pub speed_of : ℤ → Option ℤ
speed_of (pos n) = Some (pos n)
speed_of (negsuc n) = None

-- 1e-5 degree as 1e-4 degree: from half around to the left up to once around; what lies left of north is counted from the other side
unfoldable pub track_of : ℤ → Option ℤ
track_of (pos n) = if nat_le n 36_000_000 then Some (nearest (pos n) (pos 1) (pos 10)) else None
track_of (negsuc n) = if nat_le (suc n) 18_000_000 then Some (nearest (negsuc n +ℤ pos 36_000_000) (pos 1) (pos 10)) else None
