-- The lines that a session is sent, class by class: each definition is a row of members in their order. The classes are those of
-- gpsd_json(5); the exact texts, the orders, the decimals and which members are absent are this project's own.
use Rattle.std.specs.Prelude.{ℕ, ◌+◌, ◌/◌, ◌%◌, Bool, true, false, cond, not, nat_lt, List, [], ◌∷◌, ◌++◌, Option, Some, None, length, count_by, zip, unwrap_or, slice_get, unsigned_abs, codes}
use Rattle.std.specs.Fmt.{decimal}
use Rattle.std.specs.List.{flat_map}
use Rattle.gps_fixed.specs.Moment.{Moment}
use Rattle.gps_report.specs.declared.fix.Fix.{Fix}
use Rattle.gps_report.specs.declared.fix.Pair.{Pair}
use Rattle.gps_report.specs.declared.fix.Sky.{Sky}
use Rattle.gps_report.specs.declared.note.Position.{Position}
use Rattle.gps_report.specs.declared.policy.CommandFault.{CommandFault}
use Rattle.gps_report.specs.declared.policy.CommandFault.TheVariants as fault
use Rattle.gps_report.specs.declared.policy.Form.{Form}
use Rattle.gps_report.specs.declared.policy.Form.TheVariants as form
use Rattle.gps_report.specs.declared.policy.Policy.{Policy}
use Rattle.gps_report.specs.declared.report.Body.{Body}
use Rattle.gps_report.specs.declared.report.Body.TheVariants as body
use Rattle.gps_report.specs.declared.report.Report.{Report}
use Rattle.gps_report.specs.declared.satellite.Satellite.{Satellite}
use Rattle.json_line.specs.declared.names.Class.TheVariants as class
use Rattle.json_line.specs.declared.names.Key.TheVariants as key
use Rattle.json_line.specs.Json.{array, closing, fixed, hundredths, line_end, member, member_if, quoted, signed, time, truth}
use Rattle.json_line.specs.Names.{head_of, satellite_head}

unfoldable pub position_members : Option Position → List ℕ
position_members None = []
position_members (Some position) = member key.Lat (fixed 9 position.lat) ++ member key.Lon (fixed 9 position.lon)

-- a fix: degrees from nanodegrees, heights in metres from millimetres, the track in degrees from 1e-4 degree, speeds in metres a second
-- from millimetres a second
unfoldable pub tpv : List ℕ → Fix → List ℕ
tpv name fix =
    head_of class.Tpv
    ++ member key.Device (quoted name)
    ++ member key.Mode (decimal fix.mode)
    ++ member_if key.Time time fix.time
    ++ position_members fix.position
    ++ member_if key.AltHae (fixed 3) fix.alt_hae
    ++ member_if key.AltMsl (fixed 3) fix.alt_msl
    ++ member_if key.GeoidSep (fixed 3) fix.geoid_sep
    ++ member_if key.Track (fixed 4) fix.track
    ++ member_if key.Speed (fixed 3) fix.speed
    ++ member_if key.Climb (fixed 3) fix.climb
    ++ closing

-- the system and the id within it
unfoldable pub gnss_members : Option (ℕ × ℕ) → List ℕ
gnss_members None = []
gnss_members (Some gnss) = member key.Gnssid (decimal gnss.0) ++ member key.Svid (decimal gnss.1)

-- a satellite in view
unfoldable pub satellite : Satellite → List ℕ
satellite s =
    satellite_head
    ++ decimal s.prn
    ++ member_if key.El signed s.el
    ++ member_if key.Az decimal s.az
    ++ member_if key.Ss decimal s.ss
    ++ member key.Used (truth s.used)
    ++ gnss_members s.gnss
    ++ member_if key.Sigid decimal s.signal
    ++ closing

-- the satellites in view: nSat counts them, and uSat those that are used
unfoldable pub sky : List ℕ → Sky → List ℕ
sky name s =
    head_of class.Sky
    ++ member key.Device (quoted name)
    ++ member_if key.Time time s.time
    ++ member_if key.Pdop hundredths s.pdop
    ++ member_if key.Hdop hundredths s.hdop
    ++ member_if key.Vdop hundredths s.vdop
    ++ member key.NSat (decimal (length s.sats))
    ++ member key.USat (decimal (count_by (λ satellite. satellite.used) s.sats))
    ++ member key.Satellites (array satellite s.sats)
    ++ closing

-- the whole seconds of a time that is not before 1970
unfoldable pub seconds : Moment → List ℕ
seconds at = decimal (unsigned_abs at.sec)

-- a time by the satellites beside the host's stamp of it
unfoldable pub pair_members : Pair → List ℕ
pair_members pair =
    member key.RealSec (seconds pair.reference)
    ++ member key.RealNsec (decimal pair.reference.nsec)
    ++ member key.ClockSec (seconds pair.host)
    ++ member key.ClockNsec (decimal pair.host.nsec)

unfoldable pub toff : List ℕ → Pair → List ℕ
toff name pair = head_of class.Toff ++ member key.Device (quoted name) ++ pair_members pair ++ closing

-- a pulse marks its second to 2^-20 of a second
unfoldable pub pps : List ℕ → Pair → List ℕ
pps name pair =
    head_of class.Pps ++ member key.Device (quoted name) ++ pair_members pair ++ member key.Precision (codes "-20") ++ closing

-- a device, with the stamp of its first byte while it is active
unfoldable pub device : List ℕ → Option Moment → List ℕ
device name activated =
    head_of class.Device
    ++ member key.Path (quoted name)
    ++ member_if key.Activated time activated
    ++ closing

-- all devices in order
unfoldable pub devices : List (List ℕ) → List (Option Moment) → List ℕ
devices names active =
    head_of class.Devices
    ++ member key.Devices (array (λ d. device d.0 d.1) (zip names active))
    ++ closing

-- what a session watches
unfoldable pub watch : Policy → List ℕ
watch policy =
    head_of class.Watch
    ++ member key.Enable (truth policy.enable)
    ++ member key.Json (truth policy.json)
    ++ member key.Nmea (truth policy.nmea)
    ++ member key.Raw (decimal policy.raw)
    ++ member key.Pps (truth policy.pps)
    ++ member_if key.Device quoted policy.device
    ++ closing

unfoldable pub version : List ℕ
version =
    head_of class.Version
    ++ member key.Release (quoted (codes "gpsrelay-1"))
    ++ member key.Rev (quoted (codes "1"))
    ++ member key.ProtoMajor (decimal 3)
    ++ member key.ProtoMinor (decimal 1)
    ++ closing

unfoldable pub message : CommandFault → List ℕ
message fault.Unknown = codes "Unrecognized request"
message fault.BadJson = codes "Malformed JSON"
message fault.BadWatch = codes "Invalid WATCH"
message fault.TooLong = codes "Request too long"

unfoldable pub error : CommandFault → List ℕ
error f = head_of class.Error ++ member key.Message (quoted (message f)) ++ closing

-- the object of a report of the device of a name; a packet has none
unfoldable pub object : List ℕ → Body → List ℕ
object name (body.Packet packet) = []
object name (body.Tpv fix) = tpv name fix
object name (body.Sky s) = sky name s
object name (body.Toff pair) = toff name pair
object name (body.Pps pair) = pps name pair
object name (body.Device activated) = device name activated

-- the name of a device by its number
unfoldable pub name_of : List (List ℕ) → ℕ → List ℕ
name_of names number = unwrap_or (slice_get names number) []

unfoldable pub object_of : List (List ℕ) → Report → List ℕ
object_of names report = object (name_of names report.device) report.body

-- the last fixes and skies of the active devices, and the stamp of the last byte
unfoldable pub poll : Option Moment → ℕ → List Report → List Report → List (List ℕ) → List ℕ
poll last active fixes skies names =
    head_of class.Poll
    ++ member_if key.Time time last
    ++ member key.Active (decimal active)
    ++ member key.Tpv (array (object_of names) fixes)
    ++ member key.Sky (array (object_of names) skies)
    ++ closing

-- two lower-case hexadecimal digits for each byte
abbrev pub hex_digit : ℕ → ℕ
hex_digit n = cond (nat_lt n 10) (48 + n) (87 + n)

unfoldable pub hex : List ℕ → List ℕ
hex bytes = flat_map (λ byte. hex_digit (byte / 16) ∷ hex_digit (byte % 16) ∷ []) bytes

abbrev pub bytes_of : Body → List ℕ
bytes_of (body.Packet packet) = packet.bytes
bytes_of _ = []

-- what a session is sent of a report: its object as a line; or its packet, as it came or as a line of hexadecimal digits
unfoldable pub text : Form → List ℕ → Body → List ℕ
text form.Json name b = object name b ++ line_end
text form.Text name b = bytes_of b
text form.Hex name b = hex (bytes_of b) ++ line_end
text form.Verbatim name b = bytes_of b

unfoldable pub text_of : Form → List (List ℕ) → Report → List ℕ
text_of f names report = text f (name_of names report.device) report.body

-- packets are not written as JSON, and all else is
abbrev pub is_packet : Body → Bool
is_packet (body.Packet _) = true
is_packet _ = false

abbrev pub is_json : Form → Bool
is_json form.Json = true
is_json _ = false

abbrev pub suits : Form → Body → Bool
suits f b = cond (is_json f) (not (is_packet b)) (is_packet b)

abbrev pub is_tpv : Body → Bool
is_tpv (body.Tpv _) = true
is_tpv _ = false

abbrev pub is_sky : Body → Bool
is_sky (body.Sky _) = true
is_sky _ = false
