-- The next packet of a list of bytes from a place on, or where the rest begins: what the search from place to place answers.
use Rattle.std.specs.Prelude.{◌≡◌, ℕ, ◌+◌, ◌<◌, ◌≤◌, List, length, drop}
use Rattle.packet_cut.specs.declared.head.Head.TheVariants.{Packet, Pending, Junk}
use Rattle.packet_cut.specs.declared.found.Found.{Found}
use Rattle.packet_cut.specs.declared.next.Next.{Next}
use Rattle.packet_cut.specs.declared.next.Next.TheVariants.{Packet as NextPacket, Rest}
use Rattle.packet_cut.specs.Heads.{head_of}

-- each byte from one place up to another is junk
pub record JunkUpTo (bytes : List ℕ) (from to : ℕ) : Type 0 where
  pub forward : from ≤ to
  pub inside : to ≤ length bytes
  pub junk : (k : ℕ) → from ≤ k → k < to → head_of (drop k bytes) ≡ Junk

pub record IsNextPacket (bytes : List ℕ) (place : ℕ) (packet : Found) : Type 0 where
  pub before : JunkUpTo bytes place packet.start
  pub head : head_of (drop packet.start bytes) ≡ Packet packet.kind packet.len
  pub some : 0 < packet.len
  pub inside : packet.start + packet.len ≤ length bytes

pub record IsRest (bytes : List ℕ) (place start : ℕ) : Type 0 where
  pub before : JunkUpTo bytes place start
  pub head : head_of (drop start bytes) ≡ Pending

abbrev pub IsNext : List ℕ → ℕ → Next → Type 0
IsNext bytes place (NextPacket packet) = IsNextPacket bytes place packet
IsNext bytes place (Rest start) = IsRest bytes place start
