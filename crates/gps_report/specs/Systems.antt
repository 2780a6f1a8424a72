-- The numbers of the satellite systems that sentences name. u-blox interface description: gnssId.
use Rattle.std.specs.Prelude.{ℕ}

abbrev pub gps : ℕ
gps = 0

abbrev pub galileo : ℕ
galileo = 2

abbrev pub beidou : ℕ
beidou = 3

abbrev pub glonass : ℕ
glonass = 6
