-- Which address is read, and the codes of systems and of dimensions. NMEA 0183; systems are numbered after u-blox's gnssId. That the talker names
-- the system of a GSV, the talker GB, and the values of a GSA's system id are this project's own.
use Rattle.std.specs.Prelude.{ℕ, ◌==◌, Bool, ◌&&◌, not, List, length, nat_le, slice_index, Option, Some, None, codes, if◌then◌else◌}
use Rattle.std.specs.List.{list_all}
use Rattle.std.specs.Str.{bytes_eq}
use Rattle.gps_report.specs.Systems.{gps, galileo, beidou, glonass}

abbrev pub is_upper : ℕ → Bool
is_upper c = nat_le 65 c && nat_le c 90

-- five upper-case letters that do not begin with P, as a maker's own address does
abbrev pub is_address : List ℕ → Bool
is_address text = (length text == 5) && list_all is_upper text && not (slice_index text 0 == 80)

-- the system of a talker
unfoldable pub talker_system : List ℕ → Option ℕ
talker_system talker =
    if bytes_eq talker (codes "GP") then Some gps
    else (if bytes_eq talker (codes "GL") then Some glonass
    else (if bytes_eq talker (codes "GA") then Some galileo
    else (if bytes_eq talker (codes "GB") then Some beidou else None)))

-- the system id of a GSA, in its own field
unfoldable pub stated_system : List ℕ → Option ℕ
stated_system text =
    if bytes_eq text (codes "1") then Some gps
    else (if bytes_eq text (codes "2") then Some glonass
    else (if bytes_eq text (codes "3") then Some galileo
    else (if bytes_eq text (codes "4") then Some beidou else None)))

-- the fix of a GSA: 1 none, 2 and 3 dimensions
unfoldable pub dim_of : List ℕ → Option ℕ
dim_of text =
    if bytes_eq text (codes "1") then Some 1
    else (if bytes_eq text (codes "2") then Some 2
    else (if bytes_eq text (codes "3") then Some 3 else None))
