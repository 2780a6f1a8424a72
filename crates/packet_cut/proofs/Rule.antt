-- The rule of packets, by what a list begins with.
use Rattle.std.proofs.Common.{◌≡◌, ◌≤◌, ◌+◌, ℕ, List, [], ◌∷◌, length, drop, map, ap, arith, ◌∙◌}
use Rattle.gps_report.specs.declared.packet.PacketKind.{PacketKind}
use Rattle.packet_cut.specs.declared.head.Head.TheVariants.{Packet, Pending, Junk}
use Rattle.packet_cut.specs.Heads.{head_of}
use Rattle.packet_cut.specs.Packets.{parts_from, found, found_of, moved, rest_of_bytes}
use Rattle.packet_cut.proofs.HeadLaws.{packet_least}
use Rattle.packet_cut.proofs.PacketLaws.{parts_junk, rest_junk}
use Rattle.packet_cut.proofs.StreamLaws.{found_moved}
use Rattle.packet_cut.proofs.Steps.{packet_to, packet_rest, pending_parts, pending_rest}

pub after_packet : (bytes : List ℕ) (kind : PacketKind) (n : ℕ) → head_of bytes ≡ Packet kind n →
    found_of bytes ≡ record { kind = kind; start = 0; len = n } ∷ map (moved n) (found_of (drop n bytes))
after_packet bytes kind n is =
    let long : (6 ≤ n) × (n ≤ length bytes) = packet_least bytes kind n is in
    let place : 0 + n ≡ n = omega arith in
    packet_to bytes 0 n kind is (omega (arith, long)) (omega (arith, long))
    ∙ ap (λ p. record { kind = kind; start = 0; len = n } ∷ map found (parts_from head_of p 0 (drop p bytes))) place
    ∙ ap (λ more. record { kind = kind; start = 0; len = n } ∷ more) (found_moved n (drop n bytes))

pub rest_after_packet : (bytes : List ℕ) (kind : PacketKind) (n : ℕ) → head_of bytes ≡ Packet kind n → rest_of_bytes bytes ≡ rest_of_bytes (drop n bytes)
rest_after_packet [] kind n is = absurd (omega (arith, packet_least [] kind n is))
rest_after_packet (byte ∷ bytes) kind n is = packet_rest head_of byte bytes kind n is (omega (arith, packet_least (byte ∷ bytes) kind n is))

pub while_pending : (bytes : List ℕ) → head_of bytes ≡ Pending → (found_of bytes ≡ []) × (rest_of_bytes bytes ≡ bytes)
while_pending bytes is = (ap (map found) (pending_parts head_of 0 bytes is), pending_rest head_of bytes is)

pub after_junk : (byte : ℕ) (bytes : List ℕ) → head_of (byte ∷ bytes) ≡ Junk →
    (found_of (byte ∷ bytes) ≡ map (moved 1) (found_of bytes)) × (rest_of_bytes (byte ∷ bytes) ≡ rest_of_bytes bytes)
after_junk byte bytes is = (ap (map found) (parts_junk head_of byte bytes 0 is) ∙ found_moved 1 bytes, rest_junk head_of byte bytes is)
