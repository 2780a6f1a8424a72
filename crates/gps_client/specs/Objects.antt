-- The reading of each object, member by member in their order.
use Rattle.std.specs.Prelude.{ℕ, Bool, ◌&&◌, ◌==◌, List, length, take, Option, Some, None, option_map, count_by, pos, nat_le, codes, if◌then◌else◌}
use Rattle.std.specs.Str.{bytes_eq}
use Rattle.gps_fixed.specs.Moment.{Moment}
use Rattle.gps_report.specs.declared.fix.Fix.{Fix}
use Rattle.gps_report.specs.declared.fix.Pair.{Pair}
use Rattle.gps_report.specs.declared.fix.Sky.{Sky}
use Rattle.gps_report.specs.declared.note.Position.{Position}
use Rattle.gps_report.specs.declared.policy.CommandFault.{CommandFault}
use Rattle.gps_report.specs.declared.policy.CommandFault.TheVariants as fault
use Rattle.gps_report.specs.declared.policy.Policy.{Policy}
use Rattle.gps_report.specs.declared.satellite.Satellite.{Satellite}
use Rattle.json_line.specs.declared.names.Class.{Class}
use Rattle.json_line.specs.declared.names.Class.TheVariants as class
use Rattle.json_line.specs.declared.names.Key.TheVariants as key
use Rattle.json_line.specs.Json.{closing, line_end}
use Rattle.json_line.specs.Lines.{error, version}
use Rattle.json_line.specs.Names.{head_of, label_of, satellite_head}
use Rattle.gps_client.specs.declared.line.Line.{Line}
use Rattle.gps_client.specs.declared.line.Line.TheVariants as line
use Rattle.gps_client.specs.declared.line.Polled.{Polled}
use Rattle.gps_client.specs.declared.sky.Counted.{Counted}
use Rattle.gps_client.specs.Reading.{Reading, ◌>>=◌, ◌then◌, made, such, labelled, labelled_if, member_at, member_if_at, ended, up_to, signed_at, fixed_at, hundredths_at, time_at, name_at, truth_at, list_at, word_at, or_at, whole_at, behind}

abbrev pub object_at : {X : Type 0} → List ℕ → Reading X → Reading X
object_at head row text = labelled head (ended closing row) text

-- the members of a fix
unfoldable pub position_at : Reading (Option Position)
position_at text =
    made (λ o. option_map (λ p. record { lat = p.0; lon = p.1 }) o)
    (labelled_if (label_of key.Lat) (fixed_at 9 then member_at key.Lon (fixed_at 9))) text

abbrev pub is_mode : ℕ → Bool
is_mode mode = nat_le 1 mode && nat_le mode 3

unfoldable pub fix_at : Reading Fix
fix_at text =
    made (λ r. record {
      mode = r.0;
      time = r.1.0;
      position = r.1.1.0;
      alt_hae = r.1.1.1.0;
      alt_msl = r.1.1.1.1.0;
      geoid_sep = r.1.1.1.1.1.0;
      track = r.1.1.1.1.1.1.0;
      speed = r.1.1.1.1.1.1.1.0;
      climb = r.1.1.1.1.1.1.1.1;
    })
    (member_at key.Mode (such is_mode whole_at)
    then member_if_at key.Time time_at
    then position_at
    then member_if_at key.AltHae (fixed_at 3)
    then member_if_at key.AltMsl (fixed_at 3)
    then member_if_at key.GeoidSep (fixed_at 3)
    then member_if_at key.Track (fixed_at 4)
    then member_if_at key.Speed (fixed_at 3)
    then member_if_at key.Climb (fixed_at 3)) text

unfoldable pub tpv_at : Reading (List ℕ × Fix)
tpv_at text = object_at (head_of class.Tpv) (member_at key.Device name_at then fix_at) text

-- the members of a satellite: its number comes first, without a label of its own
unfoldable pub gnss_at : Reading (Option (ℕ × ℕ))
gnss_at text = labelled_if (label_of key.Gnssid) (up_to 255 then member_at key.Svid (up_to 65_535)) text

unfoldable pub satellite_row : Reading Satellite
satellite_row text =
    made (λ r. record {
      prn = r.0;
      el = r.1.0;
      az = r.1.1.0;
      ss = r.1.1.1.0;
      used = r.1.1.1.1.0;
      gnss = r.1.1.1.1.1.0;
      signal = r.1.1.1.1.1.1;
    })
    (up_to 4_294_967_295
    then member_if_at key.El signed_at
    then member_if_at key.Az (up_to 4_294_967_295)
    then member_if_at key.Ss (up_to 4_294_967_295)
    then member_at key.Used truth_at
    then gnss_at
    then member_if_at key.Sigid (up_to 255)) text

unfoldable pub satellite_at : Reading Satellite
satellite_at text = object_at satellite_head satellite_row text

-- the members of a sky, whose counts are those of its satellites
abbrev pub is_counted : Counted → Bool
is_counted c = (c.all == length c.sky.sats) && (c.used == count_by (λ s. s.used) c.sky.sats)

unfoldable pub counted_at : Reading Counted
counted_at text =
    made (λ r. record {
      sky = record { time = r.0; pdop = r.1.0; hdop = r.1.1.0; vdop = r.1.1.1.0; sats = r.1.1.1.1.1.1 };
      all = r.1.1.1.1.0;
      used = r.1.1.1.1.1.0;
    })
    (member_if_at key.Time time_at
    then member_if_at key.Pdop hundredths_at
    then member_if_at key.Hdop hundredths_at
    then member_if_at key.Vdop hundredths_at
    then member_at key.NSat whole_at
    then member_at key.USat whole_at
    then member_at key.Satellites (list_at satellite_at)) text

unfoldable pub sky_row : Reading Sky
sky_row text = made (λ c. c.sky) (such is_counted counted_at) text

unfoldable pub sky_at : Reading (List ℕ × Sky)
sky_at text = object_at (head_of class.Sky) (member_at key.Device name_at then sky_row) text

-- two stamps
unfoldable pub pair_at : Reading Pair
pair_at text =
    made (λ r. record { reference = record { sec = pos r.0; nsec = r.1.0 }; host = record { sec = pos r.1.1.0; nsec = r.1.1.1 } })
    (member_at key.RealSec (up_to 9_999_999_999)
    then member_at key.RealNsec (up_to 999_999_999)
    then member_at key.ClockSec (up_to 9_999_999_999)
    then member_at key.ClockNsec (up_to 999_999_999)) text

unfoldable pub toff_at : Reading (List ℕ × Pair)
toff_at text = object_at (head_of class.Toff) (member_at key.Device name_at then pair_at) text

abbrev pub precision_rest : List ℕ → Option (List ℕ)
precision_rest text = do
  rest ← behind (label_of key.Precision) text
  behind (codes "-20") rest

abbrev pub precision_at : {X : Type 0} → Reading X → Reading X
precision_at row text = ended (codes "-20") (ended (label_of key.Precision) row) text

unfoldable pub pps_at : Reading (List ℕ × Pair)
pps_at text = object_at (head_of class.Pps) (precision_at (member_at key.Device name_at then pair_at)) text

-- a device, and all of them
unfoldable pub device_at : Reading (List ℕ × Option Moment)
device_at text = object_at (head_of class.Device) (member_at key.Path name_at then member_if_at key.Activated time_at) text

abbrev pub are_few : {X : Type 0} → List X → Bool
are_few xs = nat_le (length xs) 8

unfoldable pub devices_at : Reading (List (List ℕ × Option Moment))
devices_at text = object_at (head_of class.Devices) (member_at key.Devices (such are_few (list_at device_at))) text

-- what a session watches
unfoldable pub policy_at : Reading Policy
policy_at text =
    made (λ r. record { enable = r.0; json = r.1.0; nmea = r.1.1.0; raw = r.1.1.1.0; pps = r.1.1.1.1.0; device = r.1.1.1.1.1 })
    (member_at key.Enable truth_at
    then member_at key.Json truth_at
    then member_at key.Nmea truth_at
    then member_at key.Raw (up_to 2)
    then member_at key.Pps truth_at
    then member_if_at key.Device name_at) text

unfoldable pub watch_at : Reading Policy
watch_at text = object_at (head_of class.Watch) policy_at text

-- the answer to a POLL
unfoldable pub polled_at : Reading Polled
polled_at text =
    made (λ r. record { time = r.0; active = r.1.0; tpv = r.1.1.0; sky = r.1.1.1 })
    (member_if_at key.Time time_at
    then member_at key.Active (up_to 255)
    then member_at key.Tpv (list_at tpv_at)
    then member_at key.Sky (list_at sky_at)) text

unfoldable pub poll_at : Reading Polled
poll_at text = object_at (head_of class.Poll) polled_at text

-- the objects that are always the same
unfoldable pub error_at : Reading CommandFault
error_at text =
    or_at (word_at (error fault.Unknown) fault.Unknown text)
    (λ t. or_at (word_at (error fault.BadJson) fault.BadJson t)
    (λ t. or_at (word_at (error fault.BadWatch) fault.BadWatch t)
    (word_at (error fault.TooLong) fault.TooLong) t) t) text

-- the class of a text: each begins in a way of its own
abbrev pub begins : Class → List ℕ → Bool
begins c text = bytes_eq (take (length (head_of c)) text) (head_of c)

unfoldable pub class_in : List ℕ → Option Class
class_in text =
    if begins class.Tpv text then Some class.Tpv
    else (if begins class.Sky text then Some class.Sky
    else (if begins class.Toff text then Some class.Toff
    else (if begins class.Pps text then Some class.Pps
    else (if begins class.Device text then Some class.Device
    else (if begins class.Devices text then Some class.Devices
    else (if begins class.Watch text then Some class.Watch
    else (if begins class.Poll text then Some class.Poll
    else (if begins class.Version text then Some class.Version
    else (if begins class.Error text then Some class.Error
    else None)))))))))

-- the object of a class
abbrev pub object_of : Class → Reading Line
object_of class.Version text = word_at version line.Version text
object_of class.Devices text = made (λ d. line.Devices d) devices_at text
object_of class.Device text = made (λ d. line.Device d.0 d.1) device_at text
object_of class.Watch text = made (λ p. line.Watch p) watch_at text
object_of class.Poll text = made (λ p. line.Poll p) poll_at text
object_of class.Tpv text = made (λ t. line.Tpv t.0 t.1) tpv_at text
object_of class.Sky text = made (λ s. line.Sky s.0 s.1) sky_at text
object_of class.Toff text = made (λ t. line.Toff t.0 t.1) toff_at text
object_of class.Pps text = made (λ t. line.Pps t.0 t.1) pps_at text
object_of class.Error text = made (λ f. line.Error f) error_at text

unfoldable pub line_in : List ℕ → Option Line
line_in text = do
  c ← class_in text
  v ← object_of c text
  if bytes_eq v.1 line_end then Some v.0 else None
