-- A stream's packets are those of its bytes.
use Rattle.std.proofs.Common.{◌≡◌, ◌+◌, ◌-◌, ℕ, zero, suc, List, [], ◌∷◌, ◌++◌, length, take, drop, map, pos, Some, refl, sym, ap, ◌∙◌, append_assoc}
use Rattle.std.proofs.lemmas.List.{length-append, take-map, drop-map}
use Rattle.std.proofs.Math.Seq.{drop-append_seam}
use Rattle.std.specs.Prelude.{slice_get}
use Rattle.gps_report.specs.declared.packet.PacketKind.{PacketKind}
use Rattle.packet_cut.specs.declared.head.Head.{Head}
use Rattle.packet_cut.specs.declared.head.Head.TheVariants.{Packet, Pending, Junk}
use Rattle.packet_cut.specs.Heads.{head_of}
use Rattle.packet_cut.specs.Packets.{by_head, parts_from, rest_from, found, found_of, rest_of_bytes, Stamped, bytes_of, head_of_stream, packet, packets_of, rest_of, stamp_or, found_packet}
use Rattle.packet_cut.proofs.PacketLaws.{part_at}

rest_bytes_from : (skip : ℕ) (stream : List Stamped) → bytes_of (rest_from head_of_stream skip stream) ≡ rest_from head_of skip (bytes_of stream)
unfolding rest_from
rest_bytes_from zero [] = refl
rest_bytes_from (suc skip) [] = refl
rest_bytes_from (suc skip) (byte ∷ stream) = rest_bytes_from skip stream
rest_bytes_from zero (byte ∷ stream) = go (head_of_stream (byte ∷ stream)) (λ skip. rest_bytes_from skip stream)
  where
    go : (h : Head) → ((skip : ℕ) → bytes_of (rest_from head_of_stream skip stream) ≡ rest_from head_of skip (bytes_of stream)) →
        bytes_of (by_head (λ kind n. rest_from head_of_stream (n - 1) stream) (byte ∷ stream) (rest_from head_of_stream 0 stream) h)
        ≡ by_head (λ kind n. rest_from head_of (n - 1) (bytes_of stream)) (bytes_of (byte ∷ stream)) (rest_from head_of 0 (bytes_of stream)) h
    go (Packet kind n) behind = behind (n - 1)
    go Pending behind = refl
    go Junk behind = behind 0

pub rest_bytes : (stream : List Stamped) → bytes_of (rest_of stream) ≡ rest_of_bytes (bytes_of stream)
rest_bytes stream = rest_bytes_from 0 stream

get_seam : (done : List Stamped) (byte : Stamped) (stream : List Stamped) → slice_get (done ++ byte ∷ stream) (length done) ≡ Some byte
get_seam [] byte stream = refl
get_seam (d ∷ done) byte stream = get_seam done byte stream

take_taken : (n : ℕ) (bytes : List ℕ) → take (length (take n bytes)) bytes ≡ take n bytes
take_taken zero bytes = refl
take_taken (suc n) [] = refl
take_taken (suc n) (b ∷ bytes) = ap (λ t. b ∷ t) (take_taken n bytes)

-- one packet, after what was before
found_here : (done : List Stamped) (byte : Stamped) (stream : List Stamped) (kind : PacketKind) (n : ℕ) →
    packet (part_at head_of_stream byte stream (length done) kind n)
    ≡ found_packet (done ++ byte ∷ stream) (found (part_at head_of byte.1 (bytes_of stream) (length done) kind n))
found_here done byte stream kind n =
    let bytes : List ℕ = bytes_of (byte ∷ stream) in
    let behind : drop (length done) (bytes_of (done ++ byte ∷ stream)) ≡ bytes =
    drop-map (λ b. b.1) (length done) (done ++ byte ∷ stream) ∙ ap bytes_of (drop-append_seam done (byte ∷ stream)) in
    let text : bytes_of (take n (byte ∷ stream)) ≡ take (length (take n bytes)) (drop (length done) (bytes_of (done ++ byte ∷ stream))) =
    sym (take-map (λ b. b.1) n (byte ∷ stream)) ∙ sym (take_taken n bytes) ∙ ap (take (length (take n bytes))) (sym behind) in
    ap (λ t. record { kind = kind; at = byte.0; bytes = t }) text
    ∙ ap (λ o. record { kind = kind; at = stamp_or o (record { sec = pos 0; nsec = 0 }); bytes = take (length (take n bytes)) (drop (length done) (bytes_of (done ++ byte ∷ stream))) })
    (sym (get_seam done byte stream))

Same : List Stamped → ℕ → List Stamped → Type 0
Same done skip stream =
    map packet (parts_from head_of_stream (length done) skip stream)
    ≡ map (found_packet (done ++ stream)) (map found (parts_from head_of (length done) skip (bytes_of stream)))

shifted : (done : List Stamped) (byte : Stamped) (skip : ℕ) (stream : List Stamped) → Same (done ++ byte ∷ []) skip stream →
    map packet (parts_from head_of_stream (length done + 1) skip stream)
    ≡ map (found_packet (done ++ byte ∷ stream)) (map found (parts_from head_of (length done + 1) skip (bytes_of stream)))
unfolding Same
shifted done byte skip stream same =
    let size : length (done ++ byte ∷ []) ≡ length done + 1 = length-append done (byte ∷ []) in
    let whole : (done ++ byte ∷ []) ++ stream ≡ done ++ byte ∷ stream = append_assoc done (byte ∷ []) stream in
    ap (λ p. map packet (parts_from head_of_stream p skip stream)) (sym size) ∙ same
    ∙ ap (λ p. map (found_packet ((done ++ byte ∷ []) ++ stream)) (map found (parts_from head_of p skip (bytes_of stream)))) size
    ∙ ap (λ t. map (found_packet t) (map found (parts_from head_of (length done + 1) skip (bytes_of stream)))) whole

found_from : (done : List Stamped) (skip : ℕ) (stream : List Stamped) → Same done skip stream
unfolding Same parts_from
found_from done zero [] = refl
found_from done (suc skip) [] = refl
found_from done (suc skip) (byte ∷ stream) = shifted done byte skip stream (found_from (done ++ byte ∷ []) skip stream)
found_from done zero (byte ∷ stream) = go (head_of_stream (byte ∷ stream)) (λ skip. shifted done byte skip stream (found_from (done ++ byte ∷ []) skip stream))
  where
    go : (h : Head) →
        ((skip : ℕ) → map packet (parts_from head_of_stream (length done + 1) skip stream)
        ≡ map (found_packet (done ++ byte ∷ stream)) (map found (parts_from head_of (length done + 1) skip (bytes_of stream)))) →
        map packet (by_head
        (λ kind n. part_at head_of_stream byte stream (length done) kind n ∷ parts_from head_of_stream (length done + 1) (n - 1) stream)
        [] (parts_from head_of_stream (length done + 1) 0 stream) h)
        ≡ map (found_packet (done ++ byte ∷ stream)) (map found (by_head
        (λ kind n. part_at head_of byte.1 (bytes_of stream) (length done) kind n ∷ parts_from head_of (length done + 1) (n - 1) (bytes_of stream))
        [] (parts_from head_of (length done + 1) 0 (bytes_of stream)) h))
    go (Packet kind n) behind = rw (found_here done byte stream kind n, behind (n - 1)) refl
    go Pending behind = refl
    go Junk behind = behind 0

pub packets_found : (stream : List Stamped) → packets_of stream ≡ map (found_packet stream) (found_of (bytes_of stream))
unfolding Same
packets_found stream = found_from [] 0 stream
