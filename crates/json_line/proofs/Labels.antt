-- The labels of members are short.
use Rattle.std.proofs.Common.{◌≤◌, length, arith}
use Rattle.json_line.specs.declared.names.Key.{Key}
use Rattle.json_line.specs.declared.names.Key.TheVariants as key
use Rattle.json_line.specs.Names.{label_of}

pub is_short : (k : Key) → length (label_of k) ≤ 16
unfolding label_of
is_short key.Activated = omega arith
is_short key.Active = omega arith
is_short key.AltHae = omega arith
is_short key.AltMsl = omega arith
is_short key.Az = omega arith
is_short key.Climb = omega arith
is_short key.ClockNsec = omega arith
is_short key.ClockSec = omega arith
is_short key.Device = omega arith
is_short key.Devices = omega arith
is_short key.El = omega arith
is_short key.Enable = omega arith
is_short key.GeoidSep = omega arith
is_short key.Gnssid = omega arith
is_short key.Hdop = omega arith
is_short key.Json = omega arith
is_short key.Lat = omega arith
is_short key.Lon = omega arith
is_short key.Message = omega arith
is_short key.Mode = omega arith
is_short key.NSat = omega arith
is_short key.Nmea = omega arith
is_short key.Path = omega arith
is_short key.Pdop = omega arith
is_short key.Pps = omega arith
is_short key.Precision = omega arith
is_short key.ProtoMajor = omega arith
is_short key.ProtoMinor = omega arith
is_short key.Raw = omega arith
is_short key.RealNsec = omega arith
is_short key.RealSec = omega arith
is_short key.Release = omega arith
is_short key.Rev = omega arith
is_short key.Satellites = omega arith
is_short key.Sigid = omega arith
is_short key.Sky = omega arith
is_short key.Speed = omega arith
is_short key.Ss = omega arith
is_short key.Svid = omega arith
is_short key.Time = omega arith
is_short key.Tpv = omega arith
is_short key.Track = omega arith
is_short key.USat = omega arith
is_short key.Used = omega arith
is_short key.Vdop = omega arith
