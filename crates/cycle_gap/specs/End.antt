-- NAV-EOE frames that are put into a device's stream: each where no packet is open, and behind a packet that is no NAV-EOE. (This project's own; the
-- frame is u-blox' UBX-NAV-EOE.)
use Rattle.std.specs.Prelude.{◌≡◌, ℕ, Bool, true, false, not, ◌&&◌, List, [], ◌∷◌, ◌++◌, take, filter, length, pos}
use Rattle.std.specs.Str.{bytes_eq}
use Rattle.gps_fixed.specs.Moment.{Moment}
use Rattle.gps_report.specs.declared.packet.Packet.{Packet}
use Rattle.gps_report.specs.declared.packet.PacketKind.{PacketKind}
use Rattle.gps_report.specs.declared.packet.PacketKind.TheVariants.{Nmea, Ubx}
use Rattle.packet_cut.specs.Packets.{Stamped, stamped, packets_of, rest_of}

-- NAV-EOE with a time of week of 0
abbrev pub end_of_epoch : List ℕ
end_of_epoch = 0xb5 ∷ 0x62 ∷ 0x01 ∷ 0x61 ∷ 0x04 ∷ 0x00 ∷ 0x00 ∷ 0x00 ∷ 0x00 ∷ 0x00 ∷ 0x66 ∷ 0xc7 ∷ []

abbrev pub end_packet : Moment → Packet
end_packet at = record { kind = Ubx; at = at; bytes = end_of_epoch }

abbrev pub is_frame : PacketKind → Bool
is_frame Ubx = true
is_frame Nmea = false

-- a packet is a NAV-EOE, of any time of week
unfoldable pub is_end : Packet → Bool
is_end packet = is_frame packet.kind && bytes_eq (0xb5 ∷ 0x62 ∷ 0x01 ∷ 0x61 ∷ []) (take 4 packet.bytes)

-- what the cutter stamps, which is not looked at
abbrev pub no_stamp : Moment
no_stamp = record { sec = pos 0; nsec = 0 }

-- the packets of bytes, and what is open of them
abbrev pub packets_in : List ℕ → List Packet
packets_in bytes = packets_of (stamped no_stamp bytes)

abbrev pub open_in : List ℕ → List Stamped
open_in bytes = rest_of (stamped no_stamp bytes)

-- the last packet is no NAV-EOE
pub record IsRunning (packets : List Packet) : Type 0 where
  pub front : List Packet
  pub last : Packet
  pub are : packets ≡ front ++ last ∷ []
  pub other : is_end last ≡ false

-- The first list is the second one, in order, with frames put in: each where no packet is open of what stands before it, and the last packet of that
-- is no NAV-EOE.
pub data Woven : List ℕ → List ℕ → Type 0 where
  nothing : Woven [] []
  goes_on : (given taken piece : List ℕ) → Woven given taken → Woven (given ++ piece) (taken ++ piece)
  frame_follows : (given taken : List ℕ) → Woven given taken → open_in given ≡ [] → IsRunning (packets_in given) → Woven (given ++ end_of_epoch) taken

-- The first packets are the second ones, unchanged and in order, with NAV-EOEs between them, each directly behind a packet that is none.
pub data Joined : List Packet → List Packet → Type 0 where
  no_packet : Joined [] []
  next_packet : (given taken : List Packet) (next : Packet) → Joined given taken → Joined (given ++ next ∷ []) (taken ++ next ∷ [])
  end_follows : (given taken : List Packet) → Joined given taken → IsRunning given → Joined (given ++ end_packet no_stamp ∷ []) taken

-- how many packets are no NAV-EOE
unfoldable pub others : List Packet → ℕ
others packets = length (filter (λ packet. not (is_end packet)) packets)
