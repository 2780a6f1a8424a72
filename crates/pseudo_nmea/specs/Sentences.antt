-- The two sentences of a fix. Source: NMEA 0183, the sentences RMC and GGA. Which of their fields stay empty is this project's own.
use Rattle.std.specs.Prelude.{ℕ, ◌+◌, ◌/◌, ◌%◌, ◌==◌, List, [], ◌∷◌, ◌++◌, codes, if◌then◌else◌}
use Rattle.gps_fixed.specs.Hexadecimal.{upper_digit}
use Rattle.gps_report.specs.declared.fix.Fix.{Fix}
use Rattle.nmea_frame.specs.Sentence.{checksum}
use Rattle.pseudo_nmea.specs.Fields.{clock, date, placed, latitude, north, longitude, east, knots, course, metres}

-- a field, after its comma
unfoldable pub field : List ℕ → List ℕ
field text = 44 ∷ text

-- what follows a body: `*`, the two digits of its checksum, CR and LF
abbrev pub ending : List ℕ → List ℕ
ending body = 42 ∷ upper_digit (checksum body / 16) ∷ upper_digit (checksum body % 16) ∷ 13 ∷ 10 ∷ []

-- `$`, the body, and its ending
unfoldable pub sentence : List ℕ → List ℕ
sentence body = (36 ∷ body) ++ ending body

-- one text without a fix, the other with one
unfoldable pub by_fix : Fix → List ℕ → List ℕ → List ℕ
by_fix fix without with_one = if fix.mode == 1 then without else with_one

-- the address, time, status, latitude and longitude with their letters, knots, track, date, two fields for the variation, and the mode
unfoldable pub rmc_body : Fix → List ℕ
rmc_body fix =
    codes "GPRMC"
    ++ field (clock fix.time)
    ++ field (by_fix fix (codes "V") (codes "A"))
    ++ field (latitude (placed fix.position))
    ++ field (north (placed fix.position))
    ++ field (longitude (placed fix.position))
    ++ field (east (placed fix.position))
    ++ field (knots fix.speed)
    ++ field (course fix.track)
    ++ field (date fix.time)
    ++ field []
    ++ field []
    ++ field (by_fix fix (codes "N") (codes "A"))

-- the address, time, latitude and longitude with their letters, quality, satellites and dilution, the height and the geoid's with their letters, and
-- two fields of a correction
unfoldable pub gga_body : Fix → List ℕ
gga_body fix =
    codes "GPGGA"
    ++ field (clock fix.time)
    ++ field (latitude (placed fix.position))
    ++ field (north (placed fix.position))
    ++ field (longitude (placed fix.position))
    ++ field (east (placed fix.position))
    ++ field (by_fix fix (codes "0") (codes "1"))
    ++ field []
    ++ field []
    ++ field (metres fix.alt_msl)
    ++ field (codes "M")
    ++ field (metres fix.geoid_sep)
    ++ field (codes "M")
    ++ field []
    ++ field []

-- the two sentences, one after the other
unfoldable pub pseudo : Fix → List ℕ
pseudo fix = sentence (rmc_body fix) ++ sentence (gga_body fix)
