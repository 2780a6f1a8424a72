-- The line of a value: the objects and the line end are those that the daemon writes.
use Rattle.std.specs.Prelude.{◌≡◌, ℕ, List, ◌++◌, Option, map}
use Rattle.std.specs.Fmt.{decimal}
use Rattle.gps_fixed.specs.Moment.{Moment}
use Rattle.gps_report.specs.declared.fix.Fix.{Fix}
use Rattle.gps_report.specs.declared.fix.Sky.{Sky}
use Rattle.json_line.specs.declared.names.Class.{Class}
use Rattle.json_line.specs.declared.names.Class.TheVariants as class
use Rattle.json_line.specs.declared.names.Key.TheVariants as key
use Rattle.json_line.specs.Json.{array, closing, line_end, member, member_if, time}
use Rattle.json_line.specs.Lines.{device, devices, error, pps, sky, toff, tpv, version, watch}
use Rattle.json_line.specs.Names.{head_of}
use Rattle.gps_client.specs.declared.line.Line.{Line}
use Rattle.gps_client.specs.declared.line.Line.TheVariants as line
use Rattle.gps_client.specs.declared.line.Polled.{Polled}
use Rattle.gps_client.specs.Ranges.{InRange}

abbrev pub named_tpv : List ℕ × Fix → List ℕ
named_tpv t = tpv t.0 t.1

abbrev pub named_sky : List ℕ × Sky → List ℕ
named_sky s = sky s.0 s.1

abbrev pub listed_device : List ℕ × Option Moment → List ℕ
listed_device d = device d.0 d.1

-- the answer to a POLL, whose objects have their names in them
unfoldable pub polled : Polled → List ℕ
polled p =
    head_of class.Poll
    ++ member_if key.Time time p.time
    ++ member key.Active (decimal p.active)
    ++ member key.Tpv (array named_tpv p.tpv)
    ++ member key.Sky (array named_sky p.sky)
    ++ closing

unfoldable pub object : Line → List ℕ
object line.Version = version
object (line.Devices listed) = devices (map (λ d. d.0) listed) (map (λ d. d.1) listed)
object (line.Device path activated) = device path activated
object (line.Watch policy) = watch policy
object (line.Poll p) = polled p
object (line.Tpv name fix) = tpv name fix
object (line.Sky name s) = sky name s
object (line.Toff name pair) = toff name pair
object (line.Pps name pair) = pps name pair
object (line.Error fault) = error fault

abbrev pub text : Line → List ℕ
text v = object v ++ line_end

-- the bytes are the line of this value, and it is in range
pub record IsLineOf (v : Line) (bytes : List ℕ) : Type 0 where
  pub in_range : InRange v
  pub written : bytes ≡ text v

-- the bytes begin as the objects of this class do
abbrev pub Begins : Class → List ℕ → Type 0
Begins c bytes = (rest : List ℕ) × (bytes ≡ head_of c ++ rest)
