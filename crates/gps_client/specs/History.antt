-- What a report of a device is as the value of a line: the name of its device is in it, and its times are cut to whole milliseconds, as they are written.
use Rattle.std.specs.Prelude.{ℕ, ◌<◌, List, Option, Some, None, option_map, IfSome}
use Rattle.std.specs.List.{AllByRecursion}
use Rattle.gps_fixed.specs.Iso.{in_milliseconds}
use Rattle.gps_fixed.specs.Moment.{Moment}
use Rattle.gps_report.specs.declared.edge.Symbol.{Symbol}
use Rattle.gps_report.specs.declared.edge.Symbol.TheVariants.{Byte, Edge as EdgeSymbol}
use Rattle.gps_report.specs.declared.fix.Fix.{Fix}
use Rattle.gps_report.specs.declared.fix.Sky.{Sky}
use Rattle.gps_report.specs.declared.policy.Form.TheVariants as form
use Rattle.gps_report.specs.declared.report.Body.{Body}
use Rattle.gps_report.specs.declared.report.Body.TheVariants as body
use Rattle.json_line.specs.Lines.{text as line_text}
use Rattle.gps_client.specs.declared.line.Line.{Line}
use Rattle.gps_client.specs.declared.line.Line.TheVariants as line
use Rattle.gps_client.specs.Ranges.{IsShort, IsStamp}
use Rattle.gps_client.specs.Texts.{IsLineOf}

abbrev pub cut_time : Option Moment → Option Moment
cut_time time = option_map in_milliseconds time

abbrev pub cut_fix : Fix → Fix
cut_fix fix = record fix { time = cut_time fix.time }

abbrev pub cut_sky : Sky → Sky
cut_sky sky = record sky { time = cut_time sky.time }

-- a packet is no line
abbrev pub value_of : List ℕ → Body → Option Line
value_of name (body.Packet packet) = None
value_of name (body.Tpv fix) = Some (line.Tpv name (cut_fix fix))
value_of name (body.Sky sky) = Some (line.Sky name (cut_sky sky))
value_of name (body.Toff pair) = Some (line.Toff name pair)
value_of name (body.Pps pair) = Some (line.Pps name pair)
value_of name (body.Device activated) = Some (line.Device name (cut_time activated))

-- the line of a report is that of its value, which is in range
abbrev pub IsReadBack : List ℕ → Body → Type 0
IsReadBack name b = IfSome (value_of name b) (λ v. IsLineOf v (line_text form.Json name b))

-- the same of a sky that memory can hold
abbrev pub IsCountable : Body → Type 0
IsCountable (body.Sky sky) = IsShort sky.sats
IsCountable _ = Unit {0}

abbrev pub AreReadBack : List ℕ → List Body → Type 0
AreReadBack name bodies = AllByRecursion (λ b. IsCountable b → IsReadBack name b) bodies

-- bytes, and stamps that there are
abbrev pub IsSymbol : Symbol → Type 0
IsSymbol (Byte at byte) = IsStamp at × (byte < 256)
IsSymbol (EdgeSymbol edge) = IsStamp edge.at

abbrev pub IsStream : List Symbol → Type 0
IsStream stream = AllByRecursion IsSymbol stream
