-- A device's stream: its bytes, each with the stamp of its piece, and its pulse edges, in the order in which they came. If pieces were cut
-- is not in it.
use Rattle.std.specs.Prelude.{ℕ, List, [], ◌∷◌, map}
use Rattle.std.specs.List.{flat_map}
use Rattle.gps_fixed.specs.Moment.{Moment}
use Rattle.gps_report.specs.declared.edge.Edge.{Edge}
use Rattle.gps_report.specs.declared.edge.Symbol.{Symbol}
use Rattle.gps_report.specs.declared.edge.Symbol.TheVariants.{Byte, Edge as EdgeSymbol}
use Rattle.gps_report.specs.declared.note.Note.{Note}
use Rattle.gps_report.specs.declared.packet.Packet.{Packet}
use Rattle.gps_report.specs.declared.packet.PacketKind.{PacketKind}
use Rattle.gps_report.specs.declared.packet.PacketKind.TheVariants.{Nmea, Ubx}
use Rattle.packet_cut.specs.Packets.{Stamped, packets_of}
use Rattle.nmea_decode.specs.Notes.{sentence_note}
use Rattle.ubx_decode.specs.Message.{note_of as frame_note}
use Rattle.epoch_core.specs.declared.heard.Heard.{Heard}

abbrev pub byte_in : Symbol → List Stamped
byte_in (Byte at byte) = (at, byte) ∷ []
byte_in (EdgeSymbol edge) = []

abbrev pub edge_in : Symbol → List Edge
edge_in (Byte at byte) = []
edge_in (EdgeSymbol edge) = edge ∷ []

abbrev pub bytes_in : List Symbol → List Stamped
bytes_in stream = flat_map byte_in stream

abbrev pub edges_in : List Symbol → List Edge
edges_in stream = flat_map edge_in stream

-- the symbols of a piece of bytes
abbrev pub piece : Moment → List ℕ → List Symbol
piece at bytes = map (λ byte. Byte at byte) bytes

abbrev pub packets_in : List Symbol → List Packet
packets_in stream = packets_of (bytes_in stream)

-- what a packet says
abbrev pub note_in : PacketKind → List ℕ → Note
note_in Nmea bytes = sentence_note bytes
note_in Ubx bytes = frame_note bytes

-- a note is heard at the first byte of its packet
abbrev pub heard : Packet → Heard
heard packet = record { note = note_in packet.kind packet.bytes; first = packet.at }

abbrev pub notes_of : List Packet → List Heard
notes_of packets = map heard packets

abbrev pub notes_in : List Symbol → List Heard
notes_in stream = notes_of (packets_in stream)
