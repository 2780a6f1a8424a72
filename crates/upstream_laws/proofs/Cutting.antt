-- Joined packets, cut again: they come back, and of a part of the bytes the first ones.
use Rattle.std.proofs.Common.{◌≡◌, ◌≤◌, ◌<◌, ◌+◌, ◌-◌, ℕ, zero, suc, List, [], ◌∷◌, ◌++◌, length, take, drop, map, refl, sym, ap, subst, ◌∙◌, inl, inr, arith, take-append-drop}
use Rattle.std.specs.List.{AllByRecursion}
use Rattle.std.proofs.lemmas.Bool.{cases_lt}
use Rattle.std.proofs.lemmas.List.{append_assoc, append_cancel_left, drop_at, drop-map, length-append, length-take-le, map-append, take_all, take_at, take-map}
use Rattle.gps_report.specs.declared.packet.Packet.{Packet as PacketRecord}
use Rattle.gps_report.specs.declared.packet.PacketKind.{PacketKind}
use Rattle.packet_cut.specs.declared.head.Head.{Head}
use Rattle.packet_cut.specs.declared.head.Head.TheVariants.{Packet, Pending, Junk}
use Rattle.packet_cut.specs.Heads.{head_of}
use Rattle.packet_cut.specs.Packets.{Stamped, by_head, bytes_of, head_of_stream, packet, packets_of, parts_from, rest_from, rest_of}
use Rattle.packet_cut.proofs.PacketLaws.{part_at, parts_packet, parts_pending, rest_packet, rest_pending}
use Rattle.packet_cut.proofs.StreamLaws.{bytes_are_stable, bytes_of-append, length-bytes_of, packets_gain, rest_gain}
use Rattle.upstream_laws.specs.Joined.{AreWhole, Begins, HasAll, HasFirst, IsWhole, joined, plain}
use Rattle.upstream_laws.proofs.Alone.{head_alone, nothing_pending}

-- the packets of a stream are whole
parts_whole : (place skip : ℕ) (stream : List Stamped) → AllByRecursion (λ part. IsWhole (packet part)) (parts_from head_of_stream place skip stream)
unfolding parts_from
parts_whole place zero [] = tt
parts_whole place (suc skip) [] = tt
parts_whole place (suc skip) (byte ∷ stream) = parts_whole (place + 1) skip stream
parts_whole place zero (byte ∷ stream) = go (head_of_stream (byte ∷ stream)) refl (λ skip. parts_whole (place + 1) skip stream)
  where
    go : (h : Head) → head_of_stream (byte ∷ stream) ≡ h
        → ((skip : ℕ) → AllByRecursion (λ part. IsWhole (packet part)) (parts_from head_of_stream (place + 1) skip stream))
        → AllByRecursion (λ part. IsWhole (packet part)) (by_head
        (λ kind n. record { kind = kind; start = place; first = byte; items = take n (byte ∷ stream) } ∷ parts_from head_of_stream (place + 1) (n - 1) stream)
        [] (parts_from head_of_stream (place + 1) 0 stream) h)
    go (Packet kind n) is behind =
        let least : (6 ≤ n) × (n ≤ length (bytes_of (byte ∷ stream))) = bytes_are_stable.packet_least (bytes_of (byte ∷ stream)) kind n is in
        let part : bytes_of (take n (byte ∷ stream)) ≡ take n (bytes_of (byte ∷ stream)) = sym (take-map (λ b. b.1) n (byte ∷ stream)) in
        let size : length (bytes_of (take n (byte ∷ stream))) ≡ n = ap length part ∙ length-take-le n (bytes_of (byte ∷ stream)) least.1 in
        (ap head_of part ∙ head_alone (bytes_of (byte ∷ stream)) kind n is ∙ ap (λ m. Packet kind m) (sym size), behind (n - 1))
    go Pending is behind = tt
    go Junk is behind = behind 0

all_mapped : {X Y : Type 0} (P : Y → Type 0) (f : X → Y) (xs : List X) → AllByRecursion (λ x. P (f x)) xs → AllByRecursion P (map f xs)
all_mapped P f [] all = tt
all_mapped P f (x ∷ xs) all = (all.0, all_mapped P f xs all.1)

pub packets_whole : (stream : List Stamped) → AreWhole (packets_of stream)
packets_whole stream = all_mapped IsWhole packet (parts_from head_of_stream 0 0 stream) (parts_whole 0 0 stream)

-- a stream that is one packet
all_skipped : {A : Type 0} (head : List A → Head) (place : ℕ) (items : List A) → parts_from head place (length items) items ≡ []
unfolding parts_from
all_skipped head place [] = refl
all_skipped head place (item ∷ items) = all_skipped head (place + 1) items

rest_skipped : {A : Type 0} (head : List A → Head) (items : List A) → rest_from head (length items) items ≡ []
unfolding rest_from
rest_skipped head [] = refl
rest_skipped head (item ∷ items) = rest_skipped head items

pub record IsOne (kind : PacketKind) (stream : List Stamped) : Type 0 where
  pub packets_are : map plain (packets_of stream) ≡ (kind, bytes_of stream) ∷ []
  pub none : rest_of stream ≡ []

pub one_packet : (kind : PacketKind) (stream : List Stamped) → head_of (bytes_of stream) ≡ Packet kind (length (bytes_of stream)) → IsOne kind stream
one_packet kind [] is = let e : Pending ≡ Packet kind 0 = sym nothing_pending ∙ is in cc
one_packet kind (byte ∷ stream) is =
    let size : length (bytes_of (byte ∷ stream)) ≡ suc (length stream) = length-bytes_of (byte ∷ stream) in
    let at : head_of_stream (byte ∷ stream) ≡ Packet kind (suc (length stream)) = is ∙ ap (λ n. Packet kind n) size in
    let less : suc (length stream) - 1 ≡ length stream = omega arith in
    let parts : parts_from head_of_stream 0 0 (byte ∷ stream) ≡ part_at head_of_stream byte stream 0 kind (suc (length stream)) ∷ [] =
    parts_packet head_of_stream byte stream 0 kind (suc (length stream)) at
    ∙ ap (λ t. part_at head_of_stream byte stream 0 kind (suc (length stream)) ∷ t)
    (ap (λ n. parts_from head_of_stream 1 n stream) less ∙ all_skipped head_of_stream 1 stream) in
    record {
      packets_are = ap (λ p. map plain (map packet p)) parts
          ∙ ap (λ t. (kind, bytes_of t) ∷ []) (take_all (suc (length stream)) (byte ∷ stream) (omega arith));
      none = rest_packet head_of_stream byte stream kind (suc (length stream)) at ∙ ap (λ n. rest_from head_of_stream n stream) less ∙ rest_skipped head_of_stream stream;
    }

-- a stream that has no packet yet
pub all_rest : (stream : List Stamped) → head_of (bytes_of stream) ≡ Pending → (packets_of stream ≡ []) × (rest_of stream ≡ stream)
unfolding parts_from rest_from
all_rest [] is = (refl, refl)
all_rest (byte ∷ stream) is = (ap (map packet) (parts_pending head_of_stream byte stream 0 is), rest_pending head_of_stream byte stream is)

nothing_in : (stream : List Stamped) → bytes_of stream ≡ [] → stream ≡ []
nothing_in [] e = refl
nothing_in (byte ∷ stream) e = cc

-- a stream, where its bytes divide
module _ (stream : List Stamped) (a b : List ℕ) (is : bytes_of stream ≡ a ++ b) where
  pub front_of : bytes_of (take (length a) stream) ≡ a
  front_of = sym (take-map (λ byte. byte.1) (length a) stream) ∙ ap (take (length a)) is ∙ take_at a b (length a) refl

  pub behind_of : bytes_of (drop (length a) stream) ≡ b
  behind_of = sym (drop-map (λ byte. byte.1) (length a) stream) ∙ ap (drop (length a)) is ∙ drop_at a b (length a) refl

-- a stream that begins with a packet has it, and then those of what follows
pub record Leads (p : PacketRecord) (stream others : List Stamped) : Type 0 where
  pub packets_are : map plain (packets_of stream) ≡ plain p ∷ map plain (packets_of others)
  pub rest_is : rest_of stream ≡ rest_of others
  pub bytes_are : bytes_of stream ≡ p.bytes ++ bytes_of others

pub leads : (p : PacketRecord) (stream : List Stamped) (b : List ℕ) → IsWhole p → bytes_of stream ≡ p.bytes ++ b → Leads p stream (drop (length p.bytes) stream)
leads p stream b whole is =
    let first : List Stamped = take (length p.bytes) stream in
    let others : List Stamped = drop (length p.bytes) stream in
    let cut : stream ≡ first ++ others = sym (take-append-drop (length p.bytes) stream) in
    let bytes : bytes_of first ≡ p.bytes = front_of stream p.bytes b is in
    let one : IsOne p.kind first = one_packet p.kind first (subst (λ t. head_of t ≡ Packet p.kind (length t)) (sym bytes) whole) in
    record {
      packets_are = ap (λ s. map plain (packets_of s)) cut ∙ ap (map plain) (packets_gain first others)
          ∙ map-append plain (packets_of first) (packets_of (rest_of first ++ others))
          ∙ ap (λ t. t ++ map plain (packets_of (rest_of first ++ others))) (one.packets_are ∙ ap (λ t. (p.kind, t) ∷ []) bytes)
          ∙ ap (λ r. plain p ∷ map plain (packets_of (r ++ others))) one.none;
      rest_is = ap rest_of cut ∙ rest_gain first others ∙ ap (λ r. rest_of (r ++ others)) one.none;
      bytes_are = ap bytes_of cut ∙ bytes_of-append first others ∙ ap (λ t. t ++ bytes_of others) bytes;
    }

pub cut_back : (packets : List PacketRecord) → AreWhole packets → (stream : List Stamped) → bytes_of stream ≡ joined packets → HasAll packets stream
unfolding parts_from rest_from
cut_back [] all stream is = rw (nothing_in stream is) record { packets_are = refl; none = refl }
cut_back (p ∷ packets) all stream is =
    let first : Leads p stream (drop (length p.bytes) stream) = leads p stream (joined packets) all.0 is in
    let others : HasAll packets (drop (length p.bytes) stream) =
    cut_back packets all.1 (drop (length p.bytes) stream) (behind_of stream p.bytes (joined packets) is) in
    record { packets_are = first.packets_are ∙ ap (λ t. plain p ∷ t) others.packets_are; none = first.rest_is ∙ others.none }

-- a proper prefix of a packet is none yet
begun : (p : PacketRecord) (front after : List ℕ) → IsWhole p → p.bytes ≡ front ++ after → 0 < length after → head_of front ≡ Pending
begun p front after whole is some = go (head_of front) refl
  where
    size : length p.bytes ≡ length front + length after
    size = ap length is ∙ length-append front after

    go : (h : Head) → head_of front ≡ h → head_of front ≡ Pending
    go (Packet kind n) e =
        let longer : head_of p.bytes ≡ Packet kind n = ap head_of is ∙ bytes_are_stable.packet_stays front after kind n e in
        let same : Packet kind n ≡ Packet p.kind (length p.bytes) = sym longer ∙ whole in
        let all : n ≡ length p.bytes = cc in
        absurd (omega (arith, size, some, (bytes_are_stable.packet_least front kind n e).1))
    go Pending e = e
    go Junk e = let longer : head_of p.bytes ≡ Junk = ap head_of is ∙ bytes_are_stable.junk_stays front after e in cc

-- of two beginnings of one text the shorter begins the longer
front_in : (front more a b : List ℕ) → front ++ more ≡ a ++ b → length front ≤ length a → (after : List ℕ) × (a ≡ front ++ after)
front_in [] more a b e short = (a, refl)
front_in (x ∷ front) more [] b e short = absurd (omega arith)
front_in (x ∷ front) more (y ∷ a) b e short =
    let same : x ≡ y = cc in
    let rest : front ++ more ≡ a ++ b = cc in
    let found : (after : List ℕ) × (a ≡ front ++ after) = front_in front more a b rest (omega arith) in
    (found.0, ap (λ t. t ∷ a) (sym same) ∙ ap (λ t. x ∷ t) found.1)

pub prefix_back : (packets : List PacketRecord) → AreWhole packets → (front more : List ℕ) → joined packets ≡ front ++ more
    → (stream : List Stamped) → bytes_of stream ≡ front → HasFirst packets stream
unfolding parts_from rest_from
prefix_back [] all [] more e stream is = rw (nothing_in stream is) record { k = 0; inside = omega arith; packets_are = refl; joins = refl; begun = refl }
prefix_back [] all (x ∷ front) more e stream is = cc
prefix_back (p ∷ packets) all front more e stream is = elim (cases_lt (length front) (length p.bytes)) [
  | inl short ↦
      let found : (after : List ℕ) × (p.bytes ≡ front ++ after) = front_in front more p.bytes (joined packets) (sym e) (omega arith) in
      let some : 0 < length found.0 = omega (arith, ap length found.1 ∙ length-append front found.0) in
      let pending : head_of (bytes_of stream) ≡ Pending = ap head_of is ∙ begun p front found.0 all.0 found.1 some in
      let rest : (packets_of stream ≡ []) × (rest_of stream ≡ stream) = all_rest stream pending in
      record {
        k = 0;
        inside = omega arith;
        packets_are = ap (map plain) rest.0;
        joins = ap bytes_of (sym rest.1);
        begun = (found.0, some, found.1 ∙ ap (λ t. t ++ found.0) (sym is ∙ ap bytes_of (sym rest.1)));
      }
  | inr long ↦
      let found : (after : List ℕ) × (front ≡ p.bytes ++ after) = front_in p.bytes (joined packets) front more e long in
      let on : joined packets ≡ found.0 ++ more =
      append_cancel_left p.bytes (joined packets) (found.0 ++ more) (e ∙ ap (λ t. t ++ more) found.1 ∙ append_assoc p.bytes found.0 more) in
      let divides : bytes_of stream ≡ p.bytes ++ found.0 = is ∙ found.1 in
      let first : Leads p stream (drop (length p.bytes) stream) = leads p stream found.0 all.0 divides in
      let others : HasFirst packets (drop (length p.bytes) stream) =
      prefix_back packets all.1 found.0 more on (drop (length p.bytes) stream) (behind_of stream p.bytes found.0 divides) in
      record {
        k = suc others.k;
        inside = omega (arith, others.inside);
        packets_are = first.packets_are ∙ ap (λ t. plain p ∷ t) others.packets_are;
        joins = first.bytes_are ∙ ap (λ t. p.bytes ++ t) others.joins
            ∙ sym (append_assoc p.bytes (joined (take others.k packets)) (bytes_of (rest_of (drop (length p.bytes) stream))))
            ∙ ap (λ r. (p.bytes ++ joined (take others.k packets)) ++ bytes_of r) (sym first.rest_is);
        begun = subst (λ r. Begins (bytes_of r) (drop others.k packets)) (sym first.rest_is) others.begun;
      }
]
