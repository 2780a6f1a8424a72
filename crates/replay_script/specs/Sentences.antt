-- The sentences that the receivers of a workload send. Source: NMEA 0183, the sentences RMC, VTG, GGA, GSA, GSV and GLL.
-- The place, the day and the satellites are this project's own.
use Rattle.std.specs.Prelude.{ℕ, ◌+◌, ◌/◌, ◌%◌, List, [], ◌∷◌, ◌++◌, codes}
use Rattle.gps_fixed.specs.Hexadecimal.{upper_digit}
use Rattle.gps_fixed.specs.Text.{digits_in}
use Rattle.nmea_frame.specs.Sentence.{checksum}

-- hhmmss of a second of the day, and a comma
unfoldable pub time : ℕ → List ℕ
time second = digits_in 2 (second / 3_600) ++ digits_in 2 (second / 60 % 60) ++ digits_in 2 (second % 60) ++ codes ","

unfoldable pub fraction : ℕ → List ℕ
fraction n = digits_in 5 n

-- the place whose minutes have these decimals, as latitude and longitude with their letters, and a comma
unfoldable pub place : ℕ → List ℕ
place n = codes "4807." ++ fraction n ++ codes ",N,01131." ++ fraction n ++ codes ",E,"

unfoldable pub rmc : ℕ → ℕ → List ℕ
rmc second n = codes "GPRMC," ++ time second ++ codes "A," ++ place n ++ codes "0.50,84.40,010624,,,A"

-- quality, satellites, dilution, altitude and geoid separation
unfoldable pub quality : List ℕ
quality = codes "1,04,0.90,545.4,M,46.9,M,,"

unfoldable pub gga : ℕ → ℕ → List ℕ
gga second n = codes "GPGGA," ++ time second ++ place n ++ quality

unfoldable pub gll : ℕ → ℕ → List ℕ
gll second n = codes "GPGLL," ++ place n ++ time second ++ codes "A,A"

unfoldable pub vtg : List ℕ
vtg = codes "GPVTG,84.40,T,,M,0.50,N,0.93,K,A"

unfoldable pub gsa : List ℕ
gsa = codes "GPGSA,A,3,01,02,12,14,,,,,,,,,2.50,1.30,2.10"

unfoldable pub gsv : List ℕ
gsv = codes "GPGSV,1,1,04,01,40,083,46,02,17,308,41,12,07,344,39,14,22,228,45"

-- `$`, the body, `*` and the two digits of its checksum
unfoldable pub sentence : List ℕ → List ℕ
sentence body = codes "$" ++ body ++ 42 ∷ upper_digit (checksum body / 16) ∷ upper_digit (checksum body % 16) ∷ []
