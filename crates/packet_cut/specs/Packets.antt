-- The packets of a list of bytes, and its rest, which is pending. At the head of the list: a packet is the next one,
-- and the rule goes on after it; the beginning of a packet is the rest; else the first byte is junk, and the rule
-- goes on after it. (This project's own: gpsd does not look again into the bytes of a bad frame.)
use Rattle.std.specs.Prelude.{ℕ, zero, suc, ◌+◌, ◌-◌, List, [], ◌∷◌, map, length, take, drop, Option, Some, None, slice_get, pos}
use Rattle.gps_fixed.specs.Moment.{Moment}
use Rattle.gps_report.specs.declared.packet.PacketKind.{PacketKind}
use Rattle.gps_report.specs.declared.packet.Packet.{Packet as PacketRecord}
use Rattle.packet_cut.specs.declared.head.Head.{Head}
use Rattle.packet_cut.specs.declared.head.Head.TheVariants.{Packet, Pending, Junk}
use Rattle.packet_cut.specs.declared.found.Found.{Found}
use Rattle.packet_cut.specs.declared.placed.Placed.{Placed}
use Rattle.packet_cut.specs.Heads.{head_of}

-- the rule is the same for bytes and for bytes with their stamps, so it is said for a list of any items and for what
-- such a list begins with

-- a packet among the items: its place, its first item, and all its items
pub record Part (A : Type 0) : Type 0 where
  pub kind : PacketKind
  pub start : ℕ
  pub first : A
  pub items : List A

-- what follows from the head of a list
abbrev pub by_head : {R : Type 0} → (PacketKind → ℕ → R) → R → R → Head → R
by_head packet pending junk (Packet kind n) = packet kind n
by_head packet pending junk Pending = pending
by_head packet pending junk Junk = junk

-- the packets of a list that begins at a place and whose first `skip` items belong to a packet before
unfoldable pub parts_from : {A : Type 0} → (List A → Head) → ℕ → ℕ → List A → List (Part A)
parts_from head place skip [] = []
parts_from head place (suc skip) (item ∷ items) = parts_from head (place + 1) skip items
parts_from head place zero (item ∷ items) =
    by_head
    (λ kind n. record { kind = kind; start = place; first = item; items = take n (item ∷ items) } ∷ parts_from head (place + 1) (n - 1) items)
    []
    (parts_from head (place + 1) 0 items)
    (head (item ∷ items))

-- what is pending of such a list
unfoldable pub rest_from : {A : Type 0} → (List A → Head) → ℕ → List A → List A
rest_from head skip [] = []
rest_from head (suc skip) (item ∷ items) = rest_from head skip items
rest_from head zero (item ∷ items) =
    by_head (λ kind n. rest_from head (n - 1) items) (item ∷ items) (rest_from head 0 items) (head (item ∷ items))

-- the most bytes that are ever pending: the longest frame but its last byte
abbrev pub most_pending : ℕ
most_pending = 2055

-- the places of the packets of a list of bytes
abbrev pub found : Part ℕ → Found
found part = record { kind = part.kind; start = part.start; len = length part.items }

abbrev pub found_of : List ℕ → List Found
found_of bytes = map found (parts_from head_of 0 0 bytes)

-- the same packet with n more bytes before it
abbrev pub moved : ℕ → Found → Found
moved more found = record { kind = found.kind; start = more + found.start; len = found.len }

-- what is pending of a list of bytes
abbrev pub rest_of_bytes : List ℕ → List ℕ
rest_of_bytes bytes = rest_from head_of 0 bytes

-- a byte with the stamp of the piece that it came in
abbrev pub Stamped : Type 0
Stamped = Moment × ℕ

abbrev pub bytes_of : List Stamped → List ℕ
bytes_of stream = map (λ byte. byte.1) stream

abbrev pub stamped : Moment → List ℕ → List Stamped
stamped at piece = map (λ byte. (at, byte)) piece

abbrev pub head_of_stream : List Stamped → Head
head_of_stream stream = head_of (bytes_of stream)

-- a packet has the stamp of its first byte
abbrev pub packet : Part Stamped → PacketRecord
packet part = record { kind = part.kind; at = part.first.0; bytes = bytes_of part.items }

abbrev pub packets_of : List Stamped → List PacketRecord
packets_of stream = map packet (parts_from head_of_stream 0 0 stream)

abbrev pub rest_of : List Stamped → List Stamped
rest_of stream = rest_from head_of_stream 0 stream

abbrev pub stamp_or : Option Stamped → Moment → Moment
stamp_or (Some byte) at = byte.0
stamp_or None at = at

-- the packet that was found at a place of the bytes
abbrev pub found_packet : List Stamped → Found → PacketRecord
found_packet stream found = record {
  kind = found.kind;
  at = stamp_or (slice_get stream found.start) (record { sec = pos 0; nsec = 0 });
  bytes = take found.len (drop found.start (bytes_of stream));
}

-- the packet at a place of the bytes
abbrev pub placed_packet : List ℕ → Placed → PacketRecord
placed_packet bytes placed = record { kind = placed.kind; at = placed.at; bytes = take placed.len (drop placed.start bytes) }
