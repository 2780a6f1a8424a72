-- Which values a line can say: numbers within their types, quantities with at most nine digits before the point, and times in whole milliseconds.
use Rattle.std.specs.Prelude.{◌≡◌, ℕ, ◌+◌, ◌^◌, ◌<◌, ◌≤◌, true, List, length, Option, ℤ, pos, negsuc, ◌≤ℤ◌, unsigned_abs, IfSome}
use Rattle.std.specs.List.{AllByRecursion}
use Rattle.gps_fixed.specs.Moment.{Moment, IsMoment}
use Rattle.gps_fixed.specs.Iso.{IsWhole}
use Rattle.gps_report.specs.declared.fix.Fix.{Fix}
use Rattle.gps_report.specs.declared.fix.Pair.{Pair}
use Rattle.gps_report.specs.declared.fix.Sky.{Sky}
use Rattle.gps_report.specs.declared.note.Position.{Position}
use Rattle.gps_report.specs.declared.policy.Policy.{Policy}
use Rattle.gps_report.specs.declared.satellite.Satellite.{Satellite}
use Rattle.gps_report.specs.Name.{is_name}
use Rattle.gps_client.specs.declared.line.Line.{Line}
use Rattle.gps_client.specs.declared.line.Line.TheVariants as line
use Rattle.gps_client.specs.declared.line.Polled.{Polled}

abbrev pub IsName : List ℕ → Type 0
IsName name = is_name name ≡ true

-- at most nine digits before the point of a number with the given number of decimals
abbrev pub HasNineDigits : ℕ → ℤ → Type 0
HasNineDigits decimals v = unsigned_abs v < 10 ^ (9 + decimals)

abbrev pub IsMode : ℕ → Type 0
IsMode mode = (1 ≤ mode) × (mode ≤ 3)

abbrev pub IsPlace : Position → Type 0
IsPlace position = HasNineDigits 9 position.lat × HasNineDigits 9 position.lon

pub record IsFix (fix : Fix) : Type 0 where
  pub mode_in : IsMode fix.mode
  pub time_in : IfSome fix.time IsWhole
  pub position_in : IfSome fix.position IsPlace
  pub alt_hae_in : IfSome fix.alt_hae (HasNineDigits 3)
  pub alt_msl_in : IfSome fix.alt_msl (HasNineDigits 3)
  pub geoid_sep_in : IfSome fix.geoid_sep (HasNineDigits 3)
  pub track_in : IfSome fix.track (HasNineDigits 4)
  pub speed_in : IfSome fix.speed (HasNineDigits 3)
  pub climb_in : IfSome fix.climb (HasNineDigits 3)

-- numbers of 8, 16 and 32 bits, and one of 32 bits with a sign
abbrev pub IsU8 : ℕ → Type 0
IsU8 n = n < 2 ^ 8

abbrev pub IsU16 : ℕ → Type 0
IsU16 n = n < 2 ^ 16

abbrev pub IsU32 : ℕ → Type 0
IsU32 n = n < 2 ^ 32

abbrev pub IsI32 : ℤ → Type 0
IsI32 n = (negsuc 2_147_483_647 ≤ℤ n) × (n ≤ℤ pos 2_147_483_647)

pub record IsSatellite (s : Satellite) : Type 0 where
  pub prn_in : IsU32 s.prn
  pub el_in : IfSome s.el IsI32
  pub az_in : IfSome s.az IsU32
  pub ss_in : IfSome s.ss IsU32
  pub gnss_in : IfSome s.gnss (λ g. IsU8 g.0 × IsU16 g.1)
  pub signal_in : IfSome s.signal IsU8

-- a list whose count has at most nineteen digits, as that of any list in memory
abbrev pub IsShort : {X : Type 0} → List X → Type 0
IsShort xs = length xs < 10 ^ 19

pub record IsSky (sky : Sky) : Type 0 where
  pub time_in : IfSome sky.time IsWhole
  pub pdop_in : IfSome sky.pdop IsU32
  pub hdop_in : IfSome sky.hdop IsU32
  pub vdop_in : IfSome sky.vdop IsU32
  pub sats_in : AllByRecursion IsSatellite sky.sats
  pub sats_short : IsShort sky.sats

abbrev pub IsStamp : Moment → Type 0
IsStamp at = IsMoment at.sec at.nsec

pub record IsPair (pair : Pair) : Type 0 where
  pub reference_in : IsStamp pair.reference
  pub host_in : IsStamp pair.host

pub record IsPolicy (policy : Policy) : Type 0 where
  pub raw_in : policy.raw ≤ 2
  pub device_in : IfSome policy.device IsName

-- a device, by its name and the stamp of its first byte
abbrev pub IsListed : List ℕ × Option Moment → Type 0
IsListed d = IsName d.0 × IfSome d.1 IsWhole

abbrev pub IsNamedFix : List ℕ × Fix → Type 0
IsNamedFix t = IsName t.0 × IsFix t.1

abbrev pub IsNamedSky : List ℕ × Sky → Type 0
IsNamedSky s = IsName s.0 × IsSky s.1

pub record IsPolled (polled : Polled) : Type 0 where
  pub time_in : IfSome polled.time IsWhole
  pub active_in : IsU8 polled.active
  pub tpv_in : AllByRecursion IsNamedFix polled.tpv
  pub sky_in : AllByRecursion IsNamedSky polled.sky

abbrev pub InRange : Line → Type 0
InRange line.Version = Unit {0}
InRange (line.Devices listed) = AllByRecursion IsListed listed × (length listed ≤ 8)
InRange (line.Device path activated) = IsListed (path, activated)
InRange (line.Watch policy) = IsPolicy policy
InRange (line.Poll polled) = IsPolled polled
InRange (line.Tpv name fix) = IsNamedFix (name, fix)
InRange (line.Sky name sky) = IsNamedSky (name, sky)
InRange (line.Toff name pair) = IsName name × IsPair pair
InRange (line.Pps name pair) = IsName name × IsPair pair
InRange (line.Error fault) = Unit {0}
