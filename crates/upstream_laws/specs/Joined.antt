-- Packets joined, one after another, and the packets of these bytes: all of them, or the first ones.
use Rattle.std.specs.Prelude.{◌≡◌, ◌<◌, ◌≤◌, ℕ, List, [], ◌∷◌, ◌++◌, drop, length, map, take}
use Rattle.std.specs.List.{AllByRecursion, flat_map}
use Rattle.gps_report.specs.declared.packet.Packet.{Packet}
use Rattle.gps_report.specs.declared.packet.PacketKind.{PacketKind}
use Rattle.packet_cut.specs.declared.head.Head.TheVariants as head
use Rattle.packet_cut.specs.Heads.{head_of}
use Rattle.packet_cut.specs.Packets.{Stamped, bytes_of, packets_of, rest_of}

-- a packet without its stamp
abbrev pub plain : Packet → PacketKind × List ℕ
plain packet = (packet.kind, packet.bytes)

abbrev pub joined : List Packet → List ℕ
joined packets = flat_map (λ packet. packet.bytes) packets

-- its bytes are one packet of its kind
abbrev pub IsWhole : Packet → Type 0
IsWhole packet = head_of packet.bytes ≡ head.Packet packet.kind (length packet.bytes)

abbrev pub AreWhole : List Packet → Type 0
AreWhole packets = AllByRecursion IsWhole packets

-- the stream has these packets, and nothing after them
pub record HasAll (packets : List Packet) (stream : List Stamped) : Type 0 where
  pub packets_are : map plain (packets_of stream) ≡ map plain packets
  pub none : rest_of stream ≡ []

-- these bytes are a proper prefix of the first of these packets, or there are none of either
abbrev pub Begins : List ℕ → List Packet → Type 0
Begins part [] = part ≡ []
Begins part (packet ∷ more) = (after : List ℕ) × (0 < length after) × (packet.bytes ≡ part ++ after)

-- the stream has the first k of these packets, and after them a proper prefix of the next one, or nothing
pub record HasFirst (packets : List Packet) (stream : List Stamped) : Type 0 where
  pub k : ℕ
  pub inside : k ≤ length packets
  pub packets_are : map plain (packets_of stream) ≡ map plain (take k packets)
  pub joins : bytes_of stream ≡ joined (take k packets) ++ bytes_of (rest_of stream)
  pub begun : Begins (bytes_of (rest_of stream)) (drop k packets)
