-- What a cutter does with a piece.
use Rattle.std.proofs.Common.{◌≡◌, ◌≤◌, ◌<◌, ◌+◌, ◌-◌, ◌*◌, ℕ, true, false, List, [], ◌∷◌, ◌++◌, length, drop, map, min, get_or, Result, Ok, Err, IfOk, refl, inl, inr, sym, subst, ap, arith, ◌∙◌}
use Rattle.std.proofs.lemmas.Bool.{cases_lt, lt-ltb, le-ltb}
use Rattle.std.proofs.lemmas.List.{length-append, drop-map, drop-append-le}
use Rattle.std.proofs.Math.ListN.{drop_of_length-le}
use Rattle.std.proofs.Math.Seq.{drop-append_seam, drop-append-add}
use Rattle.std.specs.Prelude.{nat_lt}
use Rattle.gps_fixed.specs.Moment.{Moment}
use Rattle.gps_report.specs.declared.packet.Packet.{Packet as PacketRecord}
use Rattle.nmea_frame.specs.Scan.{shape_of as sentence_shape}
use Rattle.ubx_frame.specs.Scan.{shape_of as frame_shape, shape_behind_first, shape_behind_sync, shape_of_length}
use Rattle.packet_cut.specs.declared.head.Head.TheVariants.{Pending}
use Rattle.packet_cut.specs.Heads.{head_of}
use Rattle.packet_cut.specs.Packets.{Stamped, bytes_of, stamped, head_of_stream, packet, packets_of, rest_of}
use Rattle.packet_cut.specs.Standing.{StandsFor, Gains, Shift, applied, IsCut, IsFound, stream_of}
use Rattle.packet_cut.proofs.StreamLaws.{bytes_of-append, length-bytes_of, bytes_of-stamped, length-stamped, packets_gain, packets_few, rest_gain, rest_of_short}
use Rattle.packet_cut.proofs.Steps.{pending_parts, pending_rest}

-- a list whose rest is known to be the kept bytes gains what the cut says
pub cut_gains : (kept : List Stamped) (at : Moment) (piece : List ℕ) (packets : List PacketRecord) (shift : Shift) → IsCut kept at piece packets shift →
    (stream : List Stamped) → StandsFor kept stream → Gains stream (stamped at piece) packets × StandsFor (applied shift kept) (stream ++ stamped at piece)
cut_gains kept at piece packets shift cut stream stands = (
  packets_gain stream (stamped at piece) ∙ ap (λ t. packets_of stream ++ packets_of (t ++ stamped at piece)) (sym stands) ∙ ap (λ t. packets_of stream ++ t) (sym (cut.packets_are)),
  cut.rest_is ∙ ap (λ t. rest_of (t ++ stamped at piece)) stands ∙ sym (rest_gain stream (stamped at piece)),
)

-- the packets of a cut are few, as each has at least 6 bytes
pub cut_few : (kept : List Stamped) (at : Moment) (piece : List ℕ) (packets : List PacketRecord) (shift : Shift) → IsCut kept at piece packets shift →
    6 * length packets ≤ length kept + length piece
cut_few kept at piece packets shift cut =
    omega (arith, ap length (cut.packets_are), packets_few (kept ++ stamped at piece), length-append kept (stamped at piece), length-stamped at piece)

-- a fact of a result's value follows from another
pub if_ok : {A E : Type 0} (r : Result A E) (P Q : A → Type 0) → ((a : A) → P a → Q a) → IfOk r P → IfOk r Q
if_ok (Ok a) P Q follows p = follows a p
if_ok (Err e) P Q follows p = p

piece_is_stream : (at : Moment) (piece : List ℕ) → piece ≡ bytes_of (stamped at piece)
piece_is_stream at piece = sym (bytes_of-stamped piece at)

-- the changes of the two kinds
abbrev pub anew : Moment → List ℕ → Shift
anew at tail = record { anew = true; gone = 0; more = stamped at tail }

abbrev pub onward : Moment → ℕ → List ℕ → Shift
onward at gone tail = record { anew = false; gone = gone; more = stamped at tail }

-- nothing was kept
cut_of_piece : (at : Moment) (piece : List ℕ) (packets : List PacketRecord) (rest : ℕ) (shift : Shift) → IsFound (stream_of [] at piece) packets rest →
    shift ≡ anew at (drop rest piece) → IsCut [] at piece packets shift
cut_of_piece at piece packets rest shift found is =
    let left : applied shift [] ≡ rest_of (stamped at piece) =
    ap (λ s. applied s []) is ∙ sym (drop-map (λ byte. (at, byte)) rest piece) ∙ sym (found.rest_is) in
    record {
      packets_are = found.packets_are;
      rest_is = left;
      fits = record {
        short = rw left (rest_of_short (stamped at piece));
        room = λ e. absurd (true_is (sym (ap (λ s. s.anew) is) ∙ e));
      };
    }
  where
    true_is : true ≡ false → ⊥
    true_is e = cc

pub first_is_stream : (kept : List Stamped) (at : Moment) (bytes : List ℕ) → length kept ≡ 0 → bytes ≡ bytes_of (stream_of kept at bytes)
first_is_stream [] at bytes none = piece_is_stream at bytes
first_is_stream (byte ∷ kept) at bytes none = absurd (omega (arith, none))

pub cut_of_first : (kept : List Stamped) (at : Moment) (piece bytes : List ℕ) (packets : List PacketRecord) (rest : ℕ) (shift : Shift) → length kept ≡ 0 →
    bytes ≡ piece → IsFound (stream_of kept at bytes) packets rest → shift ≡ anew at (drop rest piece) → IsCut kept at piece packets shift
cut_of_first [] at piece bytes packets rest shift none same found is =
    cut_of_piece at piece packets rest shift (subst (λ t. IsFound (stream_of [] at t) packets rest) same found) is
cut_of_first (byte ∷ kept) at piece bytes packets rest shift none same found is = absurd (omega (arith, none))

-- what was kept is pending still
pub cut_of_nothing : (kept : List Stamped) (at : Moment) (piece : List ℕ) (packets : List PacketRecord) (shift : Shift) → 0 < length kept →
    head_of (bytes_of kept ++ piece) ≡ Pending → packets ≡ [] → shift ≡ onward at 0 piece → IsCut kept at piece packets shift
cut_of_nothing kept at piece packets shift some pending none is =
    let head : head_of_stream (kept ++ stamped at piece) ≡ Pending =
    ap head_of (bytes_of-append kept (stamped at piece) ∙ ap (λ t. bytes_of kept ++ t) (bytes_of-stamped piece at)) ∙ pending in
    let left : applied shift kept ≡ rest_of (kept ++ stamped at piece) =
    ap (λ s. applied s kept) is ∙ sym (pending_rest head_of_stream (kept ++ stamped at piece) head) in
    record {
      packets_are = none ∙ ap (map packet) (sym (pending_parts head_of_stream 0 (kept ++ stamped at piece) head));
      rest_is = left;
      fits = record { short = rw left (rest_of_short (kept ++ stamped at piece)); room = λ e. some };
    }

-- the bytes at hand are those that were kept and the piece
pub joined_is : (kept : List Stamped) (at : Moment) (piece bytes : List ℕ) → bytes ≡ bytes_of kept ++ piece → stream_of kept at bytes ≡ kept ++ stamped at piece
joined_is kept at piece bytes is =
    let behind : drop (length kept) bytes ≡ piece =
    ap (λ n. drop n bytes) (sym (length-bytes_of kept)) ∙ ap (drop (length (bytes_of kept))) is ∙ drop-append_seam (bytes_of kept) piece in
    ap (λ t. kept ++ stamped at t) behind

pub joined_is_stream : (kept : List Stamped) (at : Moment) (piece bytes : List ℕ) → bytes ≡ bytes_of kept ++ piece → bytes ≡ bytes_of (stream_of kept at bytes)
joined_is_stream kept at piece bytes is =
    is ∙ ap (λ t. bytes_of kept ++ t) (sym (bytes_of-stamped piece at)) ∙ sym (bytes_of-append kept (stamped at piece))
    ∙ ap bytes_of (sym (joined_is kept at piece bytes is))

dropped : (kept more : List Stamped) (rest gone : ℕ) → gone ≡ min rest (length kept) → drop rest (kept ++ more) ≡ drop gone kept ++ drop (rest - gone) more
dropped kept more rest gone is = elim (cases_lt (length kept) rest) [
  | inl past ↦
      let all : gone ≡ length kept = omega (arith, is) in
      let none : drop gone kept ≡ [] = drop_of_length-le kept (omega (arith, all)) in
      let whole : rest ≡ length kept + (rest - gone) = omega (arith, all) in
      ap (λ n. drop n (kept ++ more)) whole ∙ drop-append-add kept more (rest - gone) ∙ ap (λ t. t ++ drop (rest - gone) more) (sym none)
  | inr within ↦
      let all : gone ≡ rest = omega (arith, is) in
      let none : rest - gone ≡ 0 = omega (arith, all) in
      drop-append-le rest kept more within ∙ ap (λ n. drop n kept ++ more) (sym all) ∙ ap (λ n. drop gone kept ++ drop n more) (sym none)
]

-- the kept bytes and the piece were cut as one list
pub cut_of_joined : (kept : List Stamped) (at : Moment) (piece bytes : List ℕ) (packets : List PacketRecord) (rest gone : ℕ) (shift : Shift) → 0 < length kept →
    bytes ≡ bytes_of kept ++ piece → IsFound (stream_of kept at bytes) packets rest → gone ≡ min rest (length kept) →
    shift ≡ onward at gone (drop (rest - gone) piece) → IsCut kept at piece packets shift
cut_of_joined kept at piece bytes packets rest gone shift some joined found least is =
    let stream : stream_of kept at bytes ≡ kept ++ stamped at piece = joined_is kept at piece bytes joined in
    let left : applied shift kept ≡ rest_of (kept ++ stamped at piece) =
    ap (λ s. applied s kept) is
    ∙ ap (λ t. drop gone kept ++ t) (sym (drop-map (λ byte. (at, byte)) (rest - gone) piece))
    ∙ sym (dropped kept (stamped at piece) rest gone least)
    ∙ ap (drop rest) (sym stream) ∙ sym (found.rest_is) ∙ ap rest_of stream in
    record {
      packets_are = found.packets_are ∙ ap packets_of stream;
      rest_is = left;
      fits = record { short = rw left (rest_of_short (kept ++ stamped at piece)); room = λ e. some };
    }

-- a frame whose length is known waits for all its bytes
frame_waits : (class id low high : ℕ) (rest : List ℕ) → low + 256 * high ≤ 2048 → length rest + 6 < low + 256 * high + 8 →
    head_of (0xb5 ∷ 0x62 ∷ class ∷ id ∷ low ∷ high ∷ rest) ≡ Pending
unfolding head_of sentence_shape frame_shape shape_behind_first shape_behind_sync shape_of_length
frame_waits class id low high rest short waits =
    let fits : nat_lt 2048 (low + 256 * high) ≡ false = le-ltb 2048 (low + 256 * high) short in
    let open_still : nat_lt (length (class ∷ id ∷ low ∷ high ∷ rest)) (low + 256 * high + 6) ≡ true =
    lt-ltb (length (class ∷ id ∷ low ∷ high ∷ rest)) (low + 256 * high + 6) (omega arith) in
    rw (fits, open_still) refl

pub waits : (kept : List ℕ) (first second low high : ℕ) → 6 ≤ length kept → first ≡ get_or kept 0 0 → second ≡ get_or kept 1 0 →
    low ≡ get_or kept 4 0 → high ≡ get_or kept 5 0 → first ≡ 0xb5 → second ≡ 0x62 → low + 256 * high ≤ 2048 →
    (piece : List ℕ) → length piece < low + 256 * high + 8 - length kept → head_of (kept ++ piece) ≡ Pending
waits [] first second low high long is_first is_second is_low is_high b5 x62 short piece more = absurd (omega arith)
waits (a ∷ []) first second low high long is_first is_second is_low is_high b5 x62 short piece more = absurd (omega arith)
waits (a ∷ b ∷ []) first second low high long is_first is_second is_low is_high b5 x62 short piece more = absurd (omega arith)
waits (a ∷ b ∷ c ∷ []) first second low high long is_first is_second is_low is_high b5 x62 short piece more = absurd (omega arith)
waits (a ∷ b ∷ c ∷ d ∷ []) first second low high long is_first is_second is_low is_high b5 x62 short piece more = absurd (omega arith)
waits (a ∷ b ∷ c ∷ d ∷ e ∷ []) first second low high long is_first is_second is_low is_high b5 x62 short piece more = absurd (omega arith)
waits (a ∷ b ∷ c ∷ d ∷ e ∷ f ∷ kept) first second low high long is_first is_second is_low is_high b5 x62 short piece more =
    let a_is : a ≡ 0xb5 = sym is_first ∙ b5 in
    let b_is : b ≡ 0x62 = sym is_second ∙ x62 in
    rw (a_is, b_is) (frame_waits c d e f (kept ++ piece) (omega arith) (omega (arith, length-append kept piece)))
