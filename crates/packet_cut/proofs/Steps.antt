-- The steps of the search for packets from place to place.
use Rattle.std.proofs.Common.{◌≡◌, ◌≤◌, ◌<◌, ◌+◌, ◌-◌, ℕ, zero, suc, List, [], ◌∷◌, ◌++◌, length, take, drop, map, refl, inl, inr, sym, ap, arith, ◌∙◌}
use Rattle.std.proofs.lemmas.Bool.{cases_lt}
use Rattle.std.proofs.lemmas.List.{length-drop}
use Rattle.std.proofs.Math.ListN.{drop_of_length-le}
use Rattle.packet_cut.specs.declared.head.Head.{Head}
use Rattle.packet_cut.specs.declared.head.Head.TheVariants.{Packet, Pending, Junk}
use Rattle.gps_report.specs.declared.packet.PacketKind.{PacketKind}
use Rattle.packet_cut.specs.declared.found.Found.{Found}
use Rattle.gps_fixed.specs.Moment.{Moment}
use Rattle.gps_report.specs.declared.packet.Packet.{Packet as PacketRecord}
use Rattle.packet_cut.proofs.StreamLaws.{length-bytes_of}
use Rattle.packet_cut.specs.Heads.{head_of}
use Rattle.packet_cut.specs.Standing.{IsFound, stamp_in, stream_of}
use Rattle.packet_cut.specs.Next.{JunkUpTo, IsNextPacket, IsRest}
use Rattle.std.proofs.Common.{append_assoc, add-zero, subst}
use Rattle.std.proofs.lemmas.List.{drop-drop, append-nil, length-take-le, drop-map, take-map}
use Rattle.packet_cut.specs.Packets.{parts_from, rest_from, found, found_of, Stamped, bytes_of, stamped, head_of_stream, packet, packets_of, rest_of}
use Rattle.packet_cut.proofs.HeadLaws.{nothing_pending, packet_least}
use Rattle.packet_cut.proofs.PacketLaws.{part_at, parts_packet, parts_pending, parts_junk, rest_packet, rest_pending, rest_junk}

pub junk_none : (bytes : List ℕ) (place : ℕ) → place ≤ length bytes → JunkUpTo bytes place place
junk_none bytes place inside = record { forward = omega arith; inside = inside; junk = λ k from to. absurd (omega arith) }

-- junk has a byte
pub junk_some : (bytes : List ℕ) (place : ℕ) → head_of (drop place bytes) ≡ Junk → place < length bytes
junk_some bytes place e = elim (cases_lt place (length bytes)) [
  | inl inside ↦ inside
  | inr past ↦ let none : drop place bytes ≡ [] = drop_of_length-le bytes past in cc nothing_pending
]

-- junk up to a place, a byte of it there, and junk behind that byte
pub junk_over : (bytes : List ℕ) (place start next : ℕ) → JunkUpTo bytes place start → head_of (drop start bytes) ≡ Junk → JunkUpTo bytes (start + 1) next
    → JunkUpTo bytes place next
junk_over bytes place start next before e behind = record {
  forward = omega (arith, before.forward, behind.forward);
  inside = behind.inside;
  junk = λ k from to. elim (cases_lt k start) [
    | inl less ↦ before.junk k from less
    | inr more ↦ elim (cases_lt start k) [
      | inl later ↦ behind.junk k (omega arith) to
      | inr same ↦ let is : k ≡ start = omega arith in rw is e
    ]
  ];
}

pub next_packet : (bytes : List ℕ) (place start len : ℕ) (kind : PacketKind) → JunkUpTo bytes place start → head_of (drop start bytes) ≡ Packet kind len →
    IsNextPacket bytes place (record { kind = kind; start = start; len = len })
next_packet bytes place start len kind before e =
    let long : (6 ≤ len) × (len ≤ length (drop start bytes)) = packet_least (drop start bytes) kind len e in
    record { before = before; head = e; some = omega (arith, long); inside = omega (arith, before.inside, length-drop start bytes) }

-- parts from place to place
module _ {A : Type 0} (head : List A → Head) where
  pub parts_skip : (place skip : ℕ) (items : List A) → parts_from head place skip items ≡ parts_from head (place + skip) 0 (drop skip items)
  unfolding parts_from
  parts_skip place zero items = ap (λ p. parts_from head p 0 items) (sym (add-zero place))
  parts_skip place (suc skip) [] = refl
  parts_skip place (suc skip) (item ∷ items) =
      parts_skip (place + 1) skip items ∙ ap (λ p. parts_from head p 0 (drop skip items)) (omega arith)

  pub rest_skip : (skip : ℕ) (items : List A) → rest_from head skip items ≡ rest_from head 0 (drop skip items)
  unfolding rest_from
  rest_skip zero items = refl
  rest_skip (suc skip) [] = refl
  rest_skip (suc skip) (item ∷ items) = rest_skip skip items

  -- over one byte of junk
  one_junk_parts : (place : ℕ) (items : List A) → head items ≡ Junk → parts_from head place 0 items ≡ parts_from head (place + 1) 0 (drop 1 items)
  unfolding parts_from
  one_junk_parts place [] is = refl
  one_junk_parts place (item ∷ items) is = parts_junk head item items place is

  one_junk_rest : (items : List A) → head items ≡ Junk → rest_from head 0 items ≡ rest_from head 0 (drop 1 items)
  unfolding rest_from
  one_junk_rest [] is = refl
  one_junk_rest (item ∷ items) is = rest_junk head item items is

  -- over all junk up to a place
  pub junk_parts : (items : List A) (count from : ℕ) → ((k : ℕ) → from ≤ k → k < from + count → head (drop k items) ≡ Junk) →
      parts_from head from 0 (drop from items) ≡ parts_from head (from + count) 0 (drop (from + count) items)
  junk_parts items zero from junk = ap (λ p. parts_from head p 0 (drop p items)) (sym (add-zero from))
  junk_parts items (suc count) from junk =
      one_junk_parts from (drop from items) (junk from (omega arith) (omega arith))
      ∙ ap (parts_from head (from + 1) 0) (drop-drop 1 from items)
      ∙ junk_parts items count (from + 1) (λ k low high. junk k (omega arith) (omega arith))
      ∙ ap (λ p. parts_from head p 0 (drop p items)) (omega arith)

  pub junk_rest : (items : List A) (count from : ℕ) → ((k : ℕ) → from ≤ k → k < from + count → head (drop k items) ≡ Junk) →
      rest_from head 0 (drop from items) ≡ rest_from head 0 (drop (from + count) items)
  junk_rest items zero from junk = ap (λ p. rest_from head 0 (drop p items)) (sym (add-zero from))
  junk_rest items (suc count) from junk =
      one_junk_rest (drop from items) (junk from (omega arith) (omega arith))
      ∙ ap (rest_from head 0) (drop-drop 1 from items)
      ∙ junk_rest items count (from + 1) (λ k low high. junk k (omega arith) (omega arith))
      ∙ ap (λ p. rest_from head 0 (drop p items)) (omega arith)

  -- over a packet
  pub packet_parts : (place : ℕ) (item : A) (items : List A) (kind : PacketKind) (n : ℕ) → head (item ∷ items) ≡ Packet kind n → 0 < n →
      parts_from head place 0 (item ∷ items) ≡ part_at head item items place kind n ∷ parts_from head (place + n) 0 (drop n (item ∷ items))
  packet_parts place item items kind n is some =
      let whole : suc (n - 1) ≡ n = omega arith in
      parts_packet head item items place kind n is
      ∙ ap (λ t. part_at head item items place kind n ∷ t)
      (parts_skip (place + 1) (n - 1) items ∙ ap (λ p. parts_from head p 0 (drop (n - 1) items)) (omega arith)
      ∙ ap (λ m. parts_from head (place + n) 0 (drop m (item ∷ items))) whole)

  pub packet_rest : (item : A) (items : List A) (kind : PacketKind) (n : ℕ) → head (item ∷ items) ≡ Packet kind n → 0 < n →
      rest_from head 0 (item ∷ items) ≡ rest_from head 0 (drop n (item ∷ items))
  packet_rest item items kind n is some =
      let whole : suc (n - 1) ≡ n = omega arith in
      rest_packet head item items kind n is ∙ rest_skip (n - 1) items ∙ ap (λ m. rest_from head 0 (drop m (item ∷ items))) whole

-- the packets before a place are found
pub record FoundUpTo (bytes : List ℕ) (done : List Found) (place : ℕ) : Type 0 where
  pub inside : place ≤ length bytes
  pub all : done ++ map found (parts_from head_of place 0 (drop place bytes)) ≡ found_of bytes

pub found_begin : (bytes : List ℕ) → FoundUpTo bytes [] 0
found_begin bytes = record { inside = omega arith; all = refl }

junk_to : (bytes : List ℕ) (place start : ℕ) → JunkUpTo bytes place start →
    parts_from head_of place 0 (drop place bytes) ≡ parts_from head_of start 0 (drop start bytes)
junk_to bytes place start before =
    let count : ℕ = start - place in
    let whole : place + count ≡ start = omega (arith, before.forward) in
    junk_parts head_of bytes count place (λ k low high. before.junk k low (omega (arith, whole)))
    ∙ ap (λ p. parts_from head_of p 0 (drop p bytes)) whole

pub packet_to : (bytes : List ℕ) (start len : ℕ) (kind : PacketKind) → head_of (drop start bytes) ≡ Packet kind len → 0 < len → start + len ≤ length bytes →
    map found (parts_from head_of start 0 (drop start bytes))
    ≡ record { kind = kind; start = start; len = len } ∷ map found (parts_from head_of (start + len) 0 (drop (start + len) bytes))
packet_to bytes start len kind is some inside = go (drop start bytes) refl
  where
    go : (items : List ℕ) → drop start bytes ≡ items → map found (parts_from head_of start 0 items)
        ≡ record { kind = kind; start = start; len = len } ∷ map found (parts_from head_of (start + len) 0 (drop (start + len) bytes))
    go [] e = absurd (omega (arith, ap length e, length-drop start bytes))
    go (item ∷ items) e =
        let head : head_of (item ∷ items) ≡ Packet kind len = ap head_of (sym e) ∙ is in
        let taken : length (take len (item ∷ items)) ≡ len = length-take-le len (item ∷ items) (omega (arith, ap length e, length-drop start bytes)) in
        let behind : drop len (item ∷ items) ≡ drop (start + len) bytes = ap (drop len) (sym e) ∙ drop-drop len start bytes in
        ap (map found) (packet_parts head_of start item items kind len head some)
        ∙ ap (λ n. record { kind = kind; start = start; len = n } ∷ map found (parts_from head_of (start + len) 0 (drop len (item ∷ items)))) taken
        ∙ ap (λ t. record { kind = kind; start = start; len = len } ∷ map found (parts_from head_of (start + len) 0 t)) behind

pub found_step : (bytes : List ℕ) (done : List Found) (place : ℕ) (packet : Found) → FoundUpTo bytes done place → IsNextPacket bytes place packet →
    FoundUpTo bytes (done ++ packet ∷ []) (packet.start + packet.len)
found_step bytes done place packet up next = record {
  inside = next.inside;
  all =
      append_assoc done (packet ∷ []) _
      ∙ ap (λ t. done ++ t) (sym (ap (map found) (junk_to bytes place (packet.start) (next.before)) ∙ packet_to bytes (packet.start) (packet.len) (packet.kind) (next.head) (next.some) (next.inside)))
      ∙ up.all;
}

pub pending_parts : {A : Type 0} (head : List A → Head) (place : ℕ) (items : List A) → head items ≡ Pending → parts_from head place 0 items ≡ []
unfolding parts_from
pending_parts head place [] is = refl
pending_parts head place (item ∷ items) is = parts_pending head item items place is

pub pending_rest : {A : Type 0} (head : List A → Head) (items : List A) → head items ≡ Pending → rest_from head 0 items ≡ items
unfolding rest_from
pending_rest head [] is = refl
pending_rest head (item ∷ items) is = rest_pending head item items is

pub found_end : (bytes : List ℕ) (done : List Found) (place start : ℕ) → FoundUpTo bytes done place → IsRest bytes place start → done ≡ found_of bytes
found_end bytes done place start up next =
    let none : parts_from head_of place 0 (drop place bytes) ≡ [] =
    junk_to bytes place start (next.before) ∙ pending_parts head_of start (drop start bytes) (next.head) in
    sym (append-nil done) ∙ ap (λ t. done ++ map found t) (sym none) ∙ up.all

-- the same for a stream whose bytes are the list: its packets before a place are cut
pub record CutUpTo (stream : List Stamped) (done : List PacketRecord) (place : ℕ) : Type 0 where
  pub inside : place ≤ length (bytes_of stream)
  pub all : done ++ map packet (parts_from head_of_stream place 0 (drop place stream)) ≡ packets_of stream
  pub rest : rest_from head_of_stream 0 (drop place stream) ≡ rest_of stream

pub cut_begin : (stream : List Stamped) → CutUpTo stream [] 0
cut_begin stream = record { inside = omega arith; all = refl; rest = refl }

head_at_place : (stream : List Stamped) (place : ℕ) → head_of_stream (drop place stream) ≡ head_of (drop place (bytes_of stream))
head_at_place stream place = ap head_of (sym (drop-map (λ byte. byte.1) place stream))

stream_junk : (stream : List Stamped) (place start : ℕ) → JunkUpTo (bytes_of stream) place start →
    (k : ℕ) → place ≤ k → k < place + (start - place) → head_of_stream (drop k stream) ≡ Junk
stream_junk stream place start before k low high = head_at_place stream k ∙ before.junk k low (omega (arith, before.forward))

stream_to : (stream : List Stamped) (place start : ℕ) → JunkUpTo (bytes_of stream) place start →
    (parts_from head_of_stream place 0 (drop place stream) ≡ parts_from head_of_stream start 0 (drop start stream))
    × (rest_from head_of_stream 0 (drop place stream) ≡ rest_from head_of_stream 0 (drop start stream))
stream_to stream place start before =
    let count : ℕ = start - place in
    let whole : place + count ≡ start = omega (arith, before.forward) in (
      junk_parts head_of_stream stream count place (stream_junk stream place start before) ∙ ap (λ p. parts_from head_of_stream p 0 (drop p stream)) whole,
      junk_rest head_of_stream stream count place (stream_junk stream place start before) ∙ ap (λ p. rest_from head_of_stream 0 (drop p stream)) whole,
    )

-- a packet at a place of a stream, and what follows it
record StreamPacket (stream : List Stamped) (start len : ℕ) (kind : PacketKind) (at : Moment) : Type 0 where
  parts : map packet (parts_from head_of_stream start 0 (drop start stream))
      ≡ record { kind = kind; at = at; bytes = take len (drop start (bytes_of stream)) } ∷ map packet (parts_from head_of_stream (start + len) 0 (drop (start + len) stream))
  rest : rest_from head_of_stream 0 (drop start stream) ≡ rest_from head_of_stream 0 (drop (start + len) stream)

-- this is the stamp of the byte at a place
pub record IsStampAt (stream : List Stamped) (place : ℕ) (at : Moment) : Type 0 where
  pub same : (byte : Stamped) (more : List Stamped) → drop place stream ≡ byte ∷ more → byte.0 ≡ at

stream_packet : (stream : List Stamped) (start len : ℕ) (kind : PacketKind) (at : Moment) → head_of (drop start (bytes_of stream)) ≡ Packet kind len → 0 < len →
    start + len ≤ length (bytes_of stream) → IsStampAt stream start at → StreamPacket stream start len kind at
stream_packet stream start len kind at is some inside stamp = go (drop start stream) refl
  where
    go : (items : List Stamped) → drop start stream ≡ items → StreamPacket stream start len kind at
    go [] e = absurd (omega (arith, ap length e, length-drop start stream, length-bytes_of stream))
    go (item ∷ items) e =
        let head : head_of_stream (item ∷ items) ≡ Packet kind len = ap head_of_stream (sym e) ∙ head_at_place stream start ∙ is in
        let behind : drop len (item ∷ items) ≡ drop (start + len) stream = ap (drop len) (sym e) ∙ drop-drop len start stream in
        let text : bytes_of (take len (item ∷ items)) ≡ take len (drop start (bytes_of stream)) =
        ap (λ t. bytes_of (take len t)) (sym e) ∙ sym (take-map (λ byte. byte.1) len (drop start stream)) ∙ ap (take len) (sym (drop-map (λ byte. byte.1) start stream)) in
        let stamped_at : item.0 ≡ at = stamp.same item items e in
        record {
          parts =
              ap (λ t. map packet (parts_from head_of_stream start 0 t)) e
              ∙ ap (map packet) (packet_parts head_of_stream start item items kind len head some)
              ∙ ap (λ t. record { kind = kind; at = item.0; bytes = t } ∷ map packet (parts_from head_of_stream (start + len) 0 (drop len (item ∷ items)))) text
              ∙ ap (λ m. record { kind = kind; at = m; bytes = take len (drop start (bytes_of stream)) } ∷ map packet (parts_from head_of_stream (start + len) 0 (drop len (item ∷ items)))) stamped_at
              ∙ ap (λ t. record { kind = kind; at = at; bytes = take len (drop start (bytes_of stream)) } ∷ map packet (parts_from head_of_stream (start + len) 0 t)) behind;
          rest =
              ap (rest_from head_of_stream 0) e ∙ packet_rest head_of_stream item items kind len head some ∙ ap (rest_from head_of_stream 0) behind;
        }

pub cut_step : (stream : List Stamped) (done : List PacketRecord) (place : ℕ) (next : Found) (at : Moment) → CutUpTo stream done place → IsNextPacket (bytes_of stream) place next →
    IsStampAt stream (next.start) at →
    CutUpTo stream (done ++ record { kind = next.kind; at = at; bytes = take (next.len) (drop (next.start) (bytes_of stream)) } ∷ []) (next.start + next.len)
cut_step stream done place next at up is stamp =
    let junk = stream_to stream place (next.start) (is.before) in
    let here : StreamPacket stream (next.start) (next.len) (next.kind) at = stream_packet stream (next.start) (next.len) (next.kind) at (is.head) (is.some) (is.inside) stamp in
    record {
      inside = is.inside;
      all = append_assoc done (record { kind = next.kind; at = at; bytes = take (next.len) (drop (next.start) (bytes_of stream)) } ∷ []) _
          ∙ ap (λ t. done ++ t) (sym (ap (map packet) (junk.0) ∙ here.parts)) ∙ up.all;
      rest = sym (junk.1 ∙ here.rest) ∙ up.rest;
    }

pub cut_end : (stream : List Stamped) (done : List PacketRecord) (place start : ℕ) → CutUpTo stream done place → IsRest (bytes_of stream) place start →
    IsFound stream done start
cut_end stream done place start up is =
    let junk = stream_to stream place start (is.before) in
    let pending : head_of_stream (drop start stream) ≡ Pending = head_at_place stream start ∙ is.head in
    record {
      packets_are = sym (append-nil done) ∙ ap (λ t. done ++ map packet t) (sym (junk.0 ∙ pending_parts head_of_stream start (drop start stream) pending)) ∙ up.all;
      rest_is = sym (up.rest) ∙ junk.1 ∙ pending_rest head_of_stream (drop start stream) pending;
      inside = omega (arith, is.before.inside, length-bytes_of stream);
    }

first_stamp : Moment → List Stamped → Moment
first_stamp other [] = other
first_stamp other (byte ∷ more) = byte.0

stamps_follow : (at : Moment) (piece : List ℕ) (place : ℕ) (byte : Stamped) (more : List Stamped) → drop place (stamped at piece) ≡ byte ∷ more → byte.0 ≡ at
unfolding first_stamp
stamps_follow at [] zero byte more e = cc
stamps_follow at [] (suc place) byte more e = cc
stamps_follow at (b ∷ piece) zero byte more e = sym (ap (first_stamp at) e)
stamps_follow at (b ∷ piece) (suc place) byte more e = stamps_follow at piece place byte more e

stamp_kept : (kept : List Stamped) (at : Moment) (piece : List ℕ) (place : ℕ) (byte : Stamped) (more : List Stamped) →
    drop place (kept ++ stamped at piece) ≡ byte ∷ more → byte.0 ≡ stamp_in kept at place
unfolding first_stamp
stamp_kept [] at piece place byte more e = stamps_follow at piece place byte more e
stamp_kept (k ∷ kept) at piece zero byte more e = sym (ap (first_stamp at) e)
stamp_kept (k ∷ kept) at piece (suc place) byte more e = stamp_kept kept at piece place byte more e

pub stamp_is : (kept : List Stamped) (at : Moment) (bytes : List ℕ) (place : ℕ) → IsStampAt (stream_of kept at bytes) place (stamp_in kept at place)
stamp_is kept at bytes place = record { same = λ byte more e. stamp_kept kept at (drop (length kept) bytes) place byte more e }

-- the two last steps at the bytes as they are at hand
pub packets_more : (kept : List Stamped) (at : Moment) (bytes : List ℕ) (done : List PacketRecord) (place : ℕ) (next : Found) (text : List ℕ) →
    bytes ≡ bytes_of (stream_of kept at bytes) → CutUpTo (stream_of kept at bytes) done place → IsNextPacket bytes place next →
    text ≡ take (next.len) (drop (next.start) bytes) →
    CutUpTo (stream_of kept at bytes) (done ++ record { kind = next.kind; at = stamp_in kept at (next.start); bytes = text } ∷ []) (next.start + next.len)
packets_more kept at bytes done place next text same up is e =
    let here : IsNextPacket (bytes_of (stream_of kept at bytes)) place next = subst (λ t. IsNextPacket t place next) same is in
    let all : text ≡ take (next.len) (drop (next.start) (bytes_of (stream_of kept at bytes))) = e ∙ ap (λ t. take (next.len) (drop (next.start) t)) same in
    subst (λ t. CutUpTo (stream_of kept at bytes) (done ++ record { kind = next.kind; at = stamp_in kept at (next.start); bytes = t } ∷ []) (next.start + next.len)) (sym all)
    (cut_step (stream_of kept at bytes) done place next (stamp_in kept at (next.start)) up here (stamp_is kept at bytes (next.start)))

pub packets_end : (kept : List Stamped) (at : Moment) (bytes : List ℕ) (done : List PacketRecord) (place start : ℕ) →
    bytes ≡ bytes_of (stream_of kept at bytes) → CutUpTo (stream_of kept at bytes) done place → IsRest bytes place start → IsFound (stream_of kept at bytes) done start
packets_end kept at bytes done place start same up is =
    cut_end (stream_of kept at bytes) done place start up (subst (λ t. IsRest t place start) same is)
