-- The names of classes and members (gpsd_json(5); the names that gpsd does not have are this project's own).
use Rattle.std.specs.Prelude.{ℕ, List, codes}
use Rattle.json_line.specs.declared.names.Class.{Class}
use Rattle.json_line.specs.declared.names.Class.TheVariants as class
use Rattle.json_line.specs.declared.names.Key.{Key}
use Rattle.json_line.specs.declared.names.Key.TheVariants as key

-- how an object begins: its class comes first
unfoldable pub head_of : Class → List ℕ
head_of class.Version = codes "{\"class\":\"VERSION\""
head_of class.Devices = codes "{\"class\":\"DEVICES\""
head_of class.Device = codes "{\"class\":\"DEVICE\""
head_of class.Watch = codes "{\"class\":\"WATCH\""
head_of class.Poll = codes "{\"class\":\"POLL\""
head_of class.Tpv = codes "{\"class\":\"TPV\""
head_of class.Sky = codes "{\"class\":\"SKY\""
head_of class.Toff = codes "{\"class\":\"TOFF\""
head_of class.Pps = codes "{\"class\":\"PPS\""
head_of class.Error = codes "{\"class\":\"ERROR\""

-- what comes before the value of any other member: a comma, the name in quotes and a colon
unfoldable pub label_of : Key → List ℕ
label_of key.Activated = codes ",\"activated\":"
label_of key.Active = codes ",\"active\":"
label_of key.AltHae = codes ",\"altHAE\":"
label_of key.AltMsl = codes ",\"altMSL\":"
label_of key.Az = codes ",\"az\":"
label_of key.Climb = codes ",\"climb\":"
label_of key.ClockNsec = codes ",\"clock_nsec\":"
label_of key.ClockSec = codes ",\"clock_sec\":"
label_of key.Device = codes ",\"device\":"
label_of key.Devices = codes ",\"devices\":"
label_of key.El = codes ",\"el\":"
label_of key.Enable = codes ",\"enable\":"
label_of key.GeoidSep = codes ",\"geoidSep\":"
label_of key.Gnssid = codes ",\"gnssid\":"
label_of key.Hdop = codes ",\"hdop\":"
label_of key.Json = codes ",\"json\":"
label_of key.Lat = codes ",\"lat\":"
label_of key.Lon = codes ",\"lon\":"
label_of key.Message = codes ",\"message\":"
label_of key.Mode = codes ",\"mode\":"
label_of key.NSat = codes ",\"nSat\":"
label_of key.Nmea = codes ",\"nmea\":"
label_of key.Path = codes ",\"path\":"
label_of key.Pdop = codes ",\"pdop\":"
label_of key.Pps = codes ",\"pps\":"
label_of key.Precision = codes ",\"precision\":"
label_of key.ProtoMajor = codes ",\"proto_major\":"
label_of key.ProtoMinor = codes ",\"proto_minor\":"
label_of key.Raw = codes ",\"raw\":"
label_of key.RealNsec = codes ",\"real_nsec\":"
label_of key.RealSec = codes ",\"real_sec\":"
label_of key.Release = codes ",\"release\":"
label_of key.Rev = codes ",\"rev\":"
label_of key.Satellites = codes ",\"satellites\":"
label_of key.Sigid = codes ",\"sigid\":"
label_of key.Sky = codes ",\"sky\":"
label_of key.Speed = codes ",\"speed\":"
label_of key.Ss = codes ",\"ss\":"
label_of key.Svid = codes ",\"svid\":"
label_of key.Time = codes ",\"time\":"
label_of key.Tpv = codes ",\"tpv\":"
label_of key.Track = codes ",\"track\":"
label_of key.USat = codes ",\"uSat\":"
label_of key.Used = codes ",\"used\":"
label_of key.Vdop = codes ",\"vdop\":"

-- a satellite has no class; its number comes first
unfoldable pub satellite_head : List ℕ
satellite_head = codes "{\"PRN\":"
