-- Two streams of a device with the same fixes and skies, whatever the stamps; and the packets among reports.
use Rattle.std.specs.Prelude.{◌≡◌, Bool, true, false, List, [], ◌∷◌, ◌++◌}
use Rattle.std.specs.List.{filter, flat_map}
use Rattle.gps_report.specs.declared.edge.Symbol.{Symbol}
use Rattle.gps_report.specs.declared.packet.Packet.{Packet}
use Rattle.gps_report.specs.declared.report.Body.{Body}
use Rattle.gps_report.specs.declared.report.Body.TheVariants as body
use Rattle.device_core.specs.Reports.{device_close, device_reports}

-- a fix or a sky
abbrev pub is_shown : Body → Bool
is_shown (body.Tpv fix) = true
is_shown (body.Sky sky) = true
is_shown _ = false

abbrev pub shown : List Body → List Body
shown bodies = filter is_shown bodies

-- the same fixes and skies, also at the end
pub record AreAlike (a b : List Symbol) : Type 0 where
  pub reports : shown (device_reports a) ≡ shown (device_reports b)
  pub close : shown (device_close a) ≡ shown (device_close b)

-- the fixes and skies of one begin those of another
abbrev pub BeginsAlike : List Symbol → List Symbol → Type 0
BeginsAlike a b = (more : List Body) × (shown (device_reports b) ≡ shown (device_reports a) ++ more)

abbrev pub packet_in : Body → List Packet
packet_in (body.Packet packet) = packet ∷ []
packet_in _ = []

-- the packets among reports
abbrev pub reported : List Body → List Packet
reported bodies = flat_map packet_in bodies
