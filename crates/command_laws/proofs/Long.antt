-- A sky has no more satellites than its line has bytes.
use Rattle.std.proofs.Common.{◌≡◌, ℕ, ◌+◌, ◌<◌, ◌≤◌, List, [], ◌∷◌, ◌++◌, length, length-append, codes, arith}
use Rattle.std.specs.Prelude.{count_by}
use Rattle.std.specs.Fmt.{decimal}
use Rattle.gps_report.specs.declared.fix.Sky.{Sky}
use Rattle.gps_report.specs.declared.satellite.Satellite.{Satellite}
use Rattle.gps_report.specs.declared.report.Body.TheVariants as body
use Rattle.json_line.specs.declared.names.Class.TheVariants as class
use Rattle.json_line.specs.declared.names.Key.TheVariants as key
use Rattle.json_line.specs.Json.{array, behind_commas, closing, hundredths, line_end, member, member_if, quoted, separated, signed, time, truth}
use Rattle.json_line.specs.Lines.{gnss_members, object, satellite, sky, text}
use Rattle.json_line.specs.Names.{head_of, label_of, satellite_head}
use Rattle.gps_client.specs.Ranges.{IsShort}
use Rattle.gps_decode.specs.Texts.{line_of}
use Rattle.command_laws.specs.Composed.{HasShortLine, stdin}

-- what comes before the end of a satellite
abbrev satellite_front : Satellite → List ℕ
satellite_front s =
    satellite_head
    ++ decimal s.prn
    ++ member_if key.El signed s.el
    ++ member_if key.Az decimal s.az
    ++ member_if key.Ss decimal s.ss
    ++ member key.Used (truth s.used)
    ++ gnss_members s.gnss
    ++ member_if key.Sigid decimal s.signal

some : (s : Satellite) → 0 < length (satellite s)
unfolding satellite
some s =
    let e : length (satellite s) ≡ length (satellite_front s) + 1 = length-append (satellite_front s) closing in
    omega (arith, e)

behind_long : (sats : List Satellite) → length sats ≤ length (behind_commas satellite sats)
unfolding behind_commas
behind_long [] = omega arith
behind_long (s ∷ sats) =
    let all : length (behind_commas satellite (s ∷ sats)) ≡ length (codes "," ++ satellite s) + length (behind_commas satellite sats) =
    length-append (codes "," ++ satellite s) (behind_commas satellite sats) in
    let one : length (codes "," ++ satellite s) ≡ 1 + length (satellite s) = length-append (codes ",") (satellite s) in
    omega (arith, all, one, behind_long sats)

separated_long : (sats : List Satellite) → length sats ≤ length (separated satellite sats)
unfolding separated
separated_long [] = omega arith
separated_long (s ∷ sats) =
    let all : length (separated satellite (s ∷ sats)) ≡ length (satellite s) + length (behind_commas satellite sats) =
    length-append (satellite s) (behind_commas satellite sats) in
    omega (arith, all, some s, behind_long sats)

array_long : (sats : List Satellite) → length sats ≤ length (array satellite sats)
unfolding array
array_long sats =
    let all : length (array satellite sats) ≡ length (codes "[" ++ separated satellite sats) + 1 = length-append (codes "[" ++ separated satellite sats) (codes "]") in
    let one : length (codes "[" ++ separated satellite sats) ≡ 1 + length (separated satellite sats) = length-append (codes "[") (separated satellite sats) in
    omega (arith, all, one, separated_long sats)

-- what comes before the satellites of a sky
abbrev sky_front : Sky → List ℕ
sky_front s =
    head_of class.Sky
    ++ member key.Device (quoted stdin)
    ++ member_if key.Time time s.time
    ++ member_if key.Pdop hundredths s.pdop
    ++ member_if key.Hdop hundredths s.hdop
    ++ member_if key.Vdop hundredths s.vdop
    ++ member key.NSat (decimal (length s.sats))
    ++ member key.USat (decimal (count_by (λ satellite. satellite.used) s.sats))

sky_long : (s : Sky) → length s.sats ≤ length (sky stdin s)
unfolding sky member
sky_long s =
    let all : length (sky stdin s) ≡ length (sky_front s ++ member key.Satellites (array satellite s.sats)) + 1 =
    length-append (sky_front s ++ member key.Satellites (array satellite s.sats)) closing in
    let two : length (sky_front s ++ member key.Satellites (array satellite s.sats)) ≡ length (sky_front s) + length (member key.Satellites (array satellite s.sats)) =
    length-append (sky_front s) (member key.Satellites (array satellite s.sats)) in
    let one : length (member key.Satellites (array satellite s.sats)) ≡ length (label_of key.Satellites) + length (array satellite s.sats) =
    length-append (label_of key.Satellites) (array satellite s.sats) in
    omega (arith, all, two, one, array_long s.sats)

pub countable : (s : Sky) → HasShortLine (body.Sky s) → IsShort s.sats
unfolding text object
countable s short =
    let few : length (line_of (body.Sky s)) ≤ 1_048_576 = short in
    let all : length (line_of (body.Sky s)) ≡ length (sky stdin s) + 2 = length-append (sky stdin s) line_end in
    omega (arith, few, all, sky_long s)
