-- Which report a policy selects, and in which form: the members `enable`, `json`, `nmea`, `raw`, `pps` and
-- `device` of a WATCH object, after gpsd_json(5).
use Rattle.std.specs.Prelude.{ℕ, Bool, true, false, ◌&&◌, ◌||◌, List, Option, Some, None, if◌then◌else◌, nat_eq, nat_le, slice_index_or, []}
use Rattle.std.specs.Cmp.Lexicographic.{pointwise}
use Rattle.gps_report.specs.declared.packet.PacketKind.{PacketKind}
use Rattle.gps_report.specs.declared.packet.PacketKind.TheVariants.{Nmea, Ubx}
use Rattle.gps_report.specs.declared.policy.Form.{Form}
use Rattle.gps_report.specs.declared.policy.Form.TheVariants.{Json, Text, Hex, Verbatim}
use Rattle.gps_report.specs.declared.policy.Policy.{Policy}
use Rattle.gps_report.specs.declared.report.Body.{Body}
use Rattle.gps_report.specs.declared.report.Body.TheVariants.{Packet, Tpv, Sky, Toff, Pps, Device}
use Rattle.gps_report.specs.declared.report.Report.{Report}

-- the forms of a packet: a sentence goes as it came, a frame as it came or as a line of digits
abbrev pub packet_has : PacketKind → Form → Bool
packet_has Nmea Text = true
packet_has Ubx Hex = true
packet_has Ubx Verbatim = true
packet_has kind form = false

-- the form of all other reports
abbrev pub is_json : Form → Bool
is_json Json = true
is_json form = false

-- which forms a report of this body can have
abbrev pub can_have : Body → Form → Bool
can_have (Packet packet) form = packet_has packet.kind form
can_have body form = is_json form

abbrev pub where_asked : Bool → Form → Option Form
where_asked asked form = if asked then Some form else None

abbrev pub packet_form : Policy → PacketKind → Option Form
packet_form policy Nmea = where_asked (policy.nmea || nat_le 1 policy.raw) Text
packet_form policy Ubx = if nat_eq policy.raw 1 then Some Hex else where_asked (nat_eq policy.raw 2) Verbatim

abbrev pub body_form : Policy → Body → Option Form
body_form policy (Packet packet) = packet_form policy packet.kind
body_form policy (Tpv _) = where_asked policy.json Json
body_form policy (Sky _) = where_asked policy.json Json
body_form policy (Device _) = where_asked policy.json Json
body_form policy (Toff _) = where_asked policy.pps Json
body_form policy (Pps _) = where_asked policy.pps Json

-- whether a device of this name is watched: without a device of its own, a policy watches all
abbrev pub watches : Option (List ℕ) → List ℕ → Bool
watches None name = true
watches (Some device) name = pointwise nat_eq device name

-- the names are those of the devices, by their numbers
abbrev pub selected : Policy → List (List ℕ) → Report → Option Form
selected policy names report =
    if policy.enable && watches policy.device (slice_index_or names report.device []) then body_form policy report.body else None
