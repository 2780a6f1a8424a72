-- The reports of a device's stream, symbol by symbol: each packet that a byte completes and then what its note causes, and the pulse of each
-- edge that marks a second.
use Rattle.std.specs.Prelude.{◌≡◌, Bool, true, false, List, [], ◌∷◌, ◌++◌, Option, Some, None, drop, length, option_map, option_to_list}
use Rattle.std.specs.List.{filter}
use Rattle.std.specs.Option.{option_or}
use Rattle.gps_report.specs.declared.edge.Edge.{Edge}
use Rattle.gps_report.specs.declared.edge.Symbol.{Symbol}
use Rattle.gps_report.specs.declared.edge.Symbol.TheVariants.{Byte, Edge as EdgeSymbol}
use Rattle.gps_report.specs.declared.fix.Pair.{Pair}
use Rattle.gps_report.specs.declared.packet.Packet.{Packet}
use Rattle.gps_report.specs.declared.report.Body.{Body}
use Rattle.gps_report.specs.declared.report.Body.TheVariants.{Packet as PacketBody, Toff, Pps}
use Rattle.epoch_core.specs.Epochs.{reports, left}
use Rattle.pps_edges.specs.Pulse.{pps_of}
use Rattle.device_core.specs.Stream.{notes_of, notes_in, packets_in, edges_in}

-- what a list has beyond one that begins it
abbrev pub beyond : {X : Type 0} → List X → List X → List X
beyond before after = drop (length before) after

abbrev pub toff_in : Body → Option Pair
toff_in (Toff pair) = Some pair
toff_in _ = None

-- the last serial time among reports
abbrev pub last_toff : List Body → Option Pair
last_toff [] = None
last_toff (body ∷ more) = option_or (last_toff more) (toff_in body)

abbrev pub newer : Option Pair → Body → Option Pair
newer toff body = option_or (toff_in body) toff

-- a packet, and what its note causes after the notes before it
abbrev pub told : List Packet → Packet → List Body
told before packet = PacketBody packet ∷ beyond (reports (notes_of before)) (reports (notes_of (before ++ packet ∷ [])))

abbrev pub all_told : List Packet → List Packet → List Body
all_told before [] = []
all_told before (packet ∷ more) = told before packet ++ all_told (before ++ packet ∷ []) more

-- the pulse of an edge, by the edges and the last serial time before it
abbrev pub pulse_of : List Symbol → Edge → List Body
pulse_of before edge = option_to_list (option_map (λ pair. Pps pair) (pps_of (edges_in before) (last_toff (reports (notes_in before))) edge))

-- what a symbol adds: the packets that the bytes up to it have and the bytes before it have not, or its pulse
abbrev pub gained : List Symbol → Symbol → List Body
gained before (Byte at byte) = all_told (packets_in before) (beyond (packets_in before) (packets_in (before ++ Byte at byte ∷ [])))
gained before (EdgeSymbol edge) = pulse_of before edge

unfoldable pub reports_from : List Symbol → List Symbol → List Body
reports_from before [] = []
reports_from before (symbol ∷ more) = gained before symbol ++ reports_from (before ++ symbol ∷ []) more

-- the reports of a whole stream
abbrev pub device_reports : List Symbol → List Body
device_reports stream = reports_from [] stream

-- the fix and the sky of the epoch that is not closed at the stream's end
abbrev pub device_close : List Symbol → List Body
device_close stream = left (notes_in stream)

-- what a stream's reports gain by more of it
abbrev pub device_gain : List Symbol → List Symbol → List Body
device_gain stream more = beyond (device_reports stream) (device_reports (stream ++ more))

-- these are the reports that a stream gains by more of it
abbrev pub Gains : List Symbol → List Symbol → List Body → Type 0
Gains stream more out = device_reports (stream ++ more) ≡ device_reports stream ++ out

abbrev pub is_no_packet : Body → Bool
is_no_packet (PacketBody packet) = false
is_no_packet _ = true

abbrev pub without_packets : List Body → List Body
without_packets bodies = filter is_no_packet bodies

-- these are the reports but packets that a stream gains by more of it
abbrev pub GainsWithoutPackets : List Symbol → List Symbol → List Body → Type 0
GainsWithoutPackets stream more out = (all : List Body) × (Gains stream more all × (out ≡ without_packets all))
