-- A list that is too short for a frame has no payload, and so no message that is read.
use Rattle.std.proofs.Common.{◌≡◌, ℕ, suc, ◌-◌, ◌<◌, ◌==◌, ◌&&◌, Bool, true, false, cond, refl, sym, List, [], ◌∷◌, length, take, drop, slice_index_or, ap, ◌∙◌, arith, lt-ltb, Fits, w8}
use Rattle.std.specs.List.{list_all}
use Rattle.gps_report.specs.Note.{empty_note}
use Rattle.gps_report.specs.declared.note.Note.{Note}
use Rattle.gps_report.specs.declared.note.NoteKind.TheVariants.{Pvt, Sat, Dop, Eoe, Other}
use Rattle.ubx_frame.specs.Frame.{is_byte, class_of, id_of, payload_of}
use Rattle.ubx_decode.specs.Message.{kind_of, note_by_kind, note_of}

never : (a b : Bool) → (a && b && false) ≡ false
never true true = refl
never true false = refl
never false true = refl
never false false = refl

nothing_read : (class id : ℕ) → kind_of class id [] ≡ Other
unfolding kind_of
nothing_read class id =
    ap (λ t. cond t Pvt (cond ((class == 0x01) && (id == 0x35) && false) Sat (cond ((class == 0x01) && (id == 0x04) && false) Dop (cond ((class == 0x01) && (id == 0x61) && false) Eoe Other)))) (never (class == 0x01) (id == 0x07))
    ∙ ap (λ t. cond t Sat (cond ((class == 0x01) && (id == 0x04) && false) Dop (cond ((class == 0x01) && (id == 0x61) && false) Eoe Other))) (never (class == 0x01) (id == 0x35))
    ∙ ap (λ t. cond t Dop (cond ((class == 0x01) && (id == 0x61) && false) Eoe Other)) (never (class == 0x01) (id == 0x04))
    ∙ ap (λ t. cond t Eoe Other) (never (class == 0x01) (id == 0x61))

no_payload : (frame : List ℕ) → length frame < 8 → payload_of frame ≡ []
no_payload frame short =
    let e : length frame - 8 ≡ 0 = omega (arith, short) in
    ap (λ n. take n (drop 6 frame)) e

pub short_note : (frame : List ℕ) (note : Note) → length frame < 8 → note ≡ empty_note Other → note ≡ note_of frame
unfolding note_of
short_note frame note short is =
    is ∙ sym (ap (λ p. note_by_kind (kind_of (class_of frame) (id_of frame) p) p) (no_payload frame short)
    ∙ ap (λ k. note_by_kind k []) (nothing_read (class_of frame) (id_of frame)))

pub all_bytes : (bytes : List ℕ) → ((i : ℕ) → Fits w8 (slice_index_or bytes i 0)) → list_all is_byte bytes ≡ true
all_bytes [] fits = refl
all_bytes (b ∷ bytes) fits =
    let low : b < 256 = omega (arith, fits 0) in
    ap (λ t. t && list_all is_byte bytes) (lt-ltb b 256 low) ∙ all_bytes bytes (λ i. fits (suc i))
