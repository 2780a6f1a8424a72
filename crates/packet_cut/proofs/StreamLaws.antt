-- The laws of packets for bytes and for stamped bytes.
use Rattle.std.proofs.Common.{◌≡◌, ◌≤◌, ◌+◌, ◌-◌, ◌*◌, ℕ, zero, suc, List, [], ◌∷◌, ◌++◌, length, take, map, refl, sym, ap, arith, ◌∙◌, add_assoc, add-zero}
use Rattle.std.proofs.lemmas.List.{length-map, map-append}
use Rattle.std.proofs.lemmas.Simd.{map-map}
use Rattle.gps_fixed.specs.Moment.{Moment}
use Rattle.packet_cut.specs.declared.head.Head.{Head}
use Rattle.packet_cut.specs.declared.head.Head.TheVariants.{Packet, Pending, Junk}
use Rattle.packet_cut.specs.Heads.{head_of}
use Rattle.packet_cut.specs.Packets.{Part, by_head, parts_from, found, found_of, moved, rest_of_bytes, Stamped, bytes_of, stamped, head_of_stream, packet, packets_of, rest_of}
use Rattle.packet_cut.proofs.HeadLaws as heads
use Rattle.packet_cut.proofs.PacketLaws.{IsStable, PacketsGoOn, goes_on, rest_short, rest_end, parts_few}

pub bytes_are_stable : IsStable head_of
bytes_are_stable = record { packet_stays = heads.packet_stays; junk_stays = heads.junk_stays; packet_least = heads.packet_least; pending_short = heads.pending_short }

pub bytes_of-append : (stream more : List Stamped) → bytes_of (stream ++ more) ≡ bytes_of stream ++ bytes_of more
bytes_of-append stream more = map-append (λ byte. byte.1) stream more

pub length-bytes_of : (stream : List Stamped) → length (bytes_of stream) ≡ length stream
length-bytes_of stream = length-map stream (λ byte. byte.1)

pub bytes_of-stamped : (piece : List ℕ) (at : Moment) → bytes_of (stamped at piece) ≡ piece
bytes_of-stamped [] at = refl
bytes_of-stamped (b ∷ piece) at = ap (λ t. b ∷ t) (bytes_of-stamped piece at)

pub length-stamped : (at : Moment) (piece : List ℕ) → length (stamped at piece) ≡ length piece
length-stamped at piece = length-map piece _

pub streams_are_stable : IsStable head_of_stream
streams_are_stable = record {
  packet_stays = λ stream more kind n e. rw (bytes_of-append stream more) (heads.packet_stays (bytes_of stream) (bytes_of more) kind n e);
  junk_stays = λ stream more e. rw (bytes_of-append stream more) (heads.junk_stays (bytes_of stream) (bytes_of more) e);
  packet_least = λ stream kind n e. rw (length-bytes_of stream) at (heads.packet_least (bytes_of stream) kind n e);
  pending_short = λ stream e. rw (length-bytes_of stream) at (heads.pending_short (bytes_of stream) e);
}

-- the same part at another place
module _ {A : Type 0} (head : List A → Head) where
  pub moved_part : ℕ → Part A → Part A
  moved_part by part = record { kind = part.kind; start = by + part.start; first = part.first; items = part.items }

  pub parts_moved : (by place skip : ℕ) (items : List A) → parts_from head (by + place) skip items ≡ map (moved_part by) (parts_from head place skip items)
  unfolding parts_from moved_part
  parts_moved by place zero [] = refl
  parts_moved by place (suc skip) [] = refl
  parts_moved by place (suc skip) (item ∷ items) = rw (add_assoc by place 1) (parts_moved by (place + 1) skip items)
  parts_moved by place zero (item ∷ items) = go (head (item ∷ items)) (λ skip. rw (add_assoc by place 1) (parts_moved by (place + 1) skip items))
    where
      go : (h : Head) → ((skip : ℕ) → parts_from head (by + place + 1) skip items ≡ map (moved_part by) (parts_from head (place + 1) skip items)) →
          by_head (λ kind n. record { kind = kind; start = by + place; first = item; items = take n (item ∷ items) } ∷ parts_from head (by + place + 1) (n - 1) items)
          [] (parts_from head (by + place + 1) 0 items) h
          ≡ map (moved_part by) (by_head (λ kind n. record { kind = kind; start = place; first = item; items = take n (item ∷ items) } ∷ parts_from head (place + 1) (n - 1) items)
          [] (parts_from head (place + 1) 0 items) h)
      go (Packet kind n) behind = rw (behind (n - 1)) refl
      go Pending behind = refl
      go Junk behind = behind 0

pub found_moved : (by : ℕ) (bytes : List ℕ) → map found (parts_from head_of by 0 bytes) ≡ map (moved by) (found_of bytes)
unfolding moved_part
found_moved by bytes =
    let at : parts_from head_of by 0 bytes ≡ map (moved_part head_of by) (parts_from head_of 0 0 bytes) =
    ap (λ p. parts_from head_of p 0 bytes) (sym (add-zero by)) ∙ parts_moved head_of by 0 0 bytes in
    ap (map found) at ∙ map-map found (moved_part head_of by) (parts_from head_of 0 0 bytes) ∙ sym (map-map (moved by) found (parts_from head_of 0 0 bytes))

pub packets_moved : (by : ℕ) (stream : List Stamped) → map packet (parts_from head_of_stream by 0 stream) ≡ packets_of stream
unfolding moved_part
packets_moved by stream =
    let at : parts_from head_of_stream by 0 stream ≡ map (moved_part head_of_stream by) (parts_from head_of_stream 0 0 stream) =
    ap (λ p. parts_from head_of_stream p 0 stream) (sym (add-zero by)) ∙ parts_moved head_of_stream by 0 0 stream in
    ap (map packet) at ∙ map-map packet (moved_part head_of_stream by) (parts_from head_of_stream 0 0 stream)

-- what a longer stream gains
stream_goes_on : (stream more : List Stamped) → PacketsGoOn head_of_stream streams_are_stable 0 0 (length stream - length (rest_of stream)) stream more
stream_goes_on stream more =
    goes_on head_of_stream streams_are_stable 0 0 (length stream - length (rest_of stream)) stream more (omega arith)
    (omega (arith, rest_end head_of_stream streams_are_stable 0 stream))

bytes_go_on : (bytes more : List ℕ) → PacketsGoOn head_of bytes_are_stable 0 0 (length bytes - length (rest_of_bytes bytes)) bytes more
bytes_go_on bytes more =
    goes_on head_of bytes_are_stable 0 0 (length bytes - length (rest_of_bytes bytes)) bytes more (omega arith)
    (omega (arith, rest_end head_of bytes_are_stable 0 bytes))

pub packets_gain : (stream more : List Stamped) → packets_of (stream ++ more) ≡ packets_of stream ++ packets_of (rest_of stream ++ more)
packets_gain stream more =
    let on : PacketsGoOn head_of_stream streams_are_stable 0 0 (length stream - length (rest_of stream)) stream more = stream_goes_on stream more in
    ap (map packet) (on.parts) ∙ map-append packet (parts_from head_of_stream 0 0 stream) _
    ∙ ap (λ t. packets_of stream ++ t) (packets_moved (length stream - length (rest_of stream)) (rest_of stream ++ more))

pub rest_gain : (stream more : List Stamped) → rest_of (stream ++ more) ≡ rest_of (rest_of stream ++ more)
rest_gain stream more = (stream_goes_on stream more).rest

pub found_gain : (bytes more : List ℕ) →
    found_of (bytes ++ more) ≡ found_of bytes ++ map (moved (length bytes - length (rest_of_bytes bytes))) (found_of (rest_of_bytes bytes ++ more))
found_gain bytes more =
    let on : PacketsGoOn head_of bytes_are_stable 0 0 (length bytes - length (rest_of_bytes bytes)) bytes more = bytes_go_on bytes more in
    ap (map found) (on.parts) ∙ map-append found (parts_from head_of 0 0 bytes) _
    ∙ ap (λ t. found_of bytes ++ t) (found_moved (length bytes - length (rest_of_bytes bytes)) (rest_of_bytes bytes ++ more))

pub rest_of_short : (stream : List Stamped) → length (rest_of stream) ≤ 2055
rest_of_short stream = rest_short head_of_stream streams_are_stable 0 stream

-- each packet has at least 6 bytes
pub packets_few : (stream : List Stamped) → 6 * length (packets_of stream) ≤ length stream
packets_few stream =
    omega (arith, parts_few head_of_stream streams_are_stable 0 0 stream (omega arith), length-map (parts_from head_of_stream 0 0 stream) packet)

pub found_few : (bytes : List ℕ) → 6 * length (found_of bytes) ≤ length bytes
found_few bytes =
    omega (arith, parts_few head_of bytes_are_stable 0 0 bytes (omega arith), length-map (parts_from head_of 0 0 bytes) found)
