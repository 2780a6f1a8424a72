-- A packet that a list of bytes begins with is one by itself: its head is all of it.
use Rattle.std.proofs.Common.{◌≡◌, ◌≤◌, ◌<◌, ◌+◌, ◌*◌, ◌==◌, ℕ, Bool, true, false, cond, List, [], ◌∷◌, ◌++◌, length, take, drop, refl, sym, ap, ◌∙◌, arith, take-append-drop}
use Rattle.std.specs.Prelude.{nat_lt}
use Rattle.std.proofs.lemmas.Bool.{ltb-true}
use Rattle.std.proofs.lemmas.List.{length-take-le, take-take}
use Rattle.nmea_frame.specs.declared.sentence.Shape.{Shape as SentenceShape}
use Rattle.nmea_frame.specs.declared.sentence.Shape.TheVariants.{Whole as WholeSentence, Pending as PendingSentence, No as NoSentence}
use Rattle.nmea_frame.specs.Sentence.{IsSentence}
use Rattle.nmea_frame.specs.Scan.{shape_of as sentence_shape}
use Rattle.nmea_frame.proofs.Stable as sentence
use Rattle.nmea_frame.proofs.Theorem.{whole_back, whole_forth}
use Rattle.ubx_frame.specs.declared.frame.Shape.{Shape as FrameShape}
use Rattle.ubx_frame.specs.declared.frame.Shape.TheVariants.{Whole as WholeFrame, Pending as PendingFrame, No as NoFrame}
use Rattle.ubx_frame.specs.Scan.{is_right, shape_behind_first, shape_behind_sync, shape_of as frame_shape, shape_of_length}
use Rattle.ubx_frame.proofs.Stable as frame
use Rattle.gps_report.specs.declared.packet.PacketKind.{PacketKind}
use Rattle.gps_report.specs.declared.packet.PacketKind.TheVariants.{Nmea, Ubx}
use Rattle.packet_cut.specs.declared.head.Head.TheVariants.{Packet, Pending}
use Rattle.packet_cut.specs.Heads.{first_of, head_of}

-- a sentence
sentence_alone : (bytes : List ℕ) (n : ℕ) → sentence_shape bytes ≡ WholeSentence n → sentence_shape (take n bytes) ≡ WholeSentence n
sentence_alone bytes n is =
    let whole : (n ≤ length bytes) × IsSentence (take n bytes) = whole_forth bytes n is in
    let fits : n ≤ length (take n bytes) = omega (arith, length-take-le n bytes whole.0) in
    whole_back (take n bytes) n (fits, rw (take-take n n bytes (omega arith)) whole.1)

-- the tests of a frame, in their order: all of them were passed, so what is pending is only its length
only_short : (first sync long short short' right right' : Bool) (m n : ℕ)
    → cond first (cond sync (cond long NoFrame (cond short PendingFrame (cond right (WholeFrame m) NoFrame))) NoFrame) NoFrame ≡ WholeFrame n
    → cond first (cond sync (cond long NoFrame (cond short' PendingFrame (cond right' (WholeFrame m) NoFrame))) NoFrame) NoFrame ≡ PendingFrame
    → (short' ≡ true) × (m ≡ n)
only_short false sync long short short' right right' m n whole pending = cc
only_short true false long short short' right right' m n whole pending = cc
only_short true true true short short' right right' m n whole pending = cc
only_short true true false true short' right right' m n whole pending = cc
only_short true true false false short' false right' m n whole pending = cc
only_short true true false false true true right' m n whole pending = (refl, cc)
only_short true true false false false true true m n whole pending = cc
only_short true true false false false true false m n whole pending = cc

not_pending : (front more : List ℕ) → 8 ≤ length front → frame_shape (front ++ more) ≡ WholeFrame (length front) → frame_shape front ≡ PendingFrame → ⊥
unfolding frame_shape shape_behind_first shape_behind_sync shape_of_length
not_pending [] more long whole pending = absurd (omega arith)
not_pending (a ∷ []) more long whole pending = absurd (omega arith)
not_pending (a ∷ b ∷ []) more long whole pending = absurd (omega arith)
not_pending (a ∷ b ∷ c ∷ []) more long whole pending = absurd (omega arith)
not_pending (a ∷ b ∷ c ∷ d ∷ []) more long whole pending = absurd (omega arith)
not_pending (a ∷ b ∷ c ∷ d ∷ low ∷ []) more long whole pending = absurd (omega arith)
not_pending (a ∷ b ∷ c ∷ d ∷ low ∷ high ∷ rest) more long whole pending =
    let len : ℕ = low + 256 * high in
    let short : (nat_lt (length (c ∷ d ∷ low ∷ high ∷ rest)) (len + 6) ≡ true) × (len + 8 ≡ length (a ∷ b ∷ c ∷ d ∷ low ∷ high ∷ rest)) =
    only_short (a == 0xb5) (b == 0x62) (nat_lt 2048 len) (nat_lt (length (c ∷ d ∷ low ∷ high ∷ rest ++ more)) (len + 6))
    (nat_lt (length (c ∷ d ∷ low ∷ high ∷ rest)) (len + 6)) (is_right (take (len + 4) (c ∷ d ∷ low ∷ high ∷ rest ++ more)) (drop (len + 4) (c ∷ d ∷ low ∷ high ∷ rest ++ more)))
    (is_right (take (len + 4) (c ∷ d ∷ low ∷ high ∷ rest)) (drop (len + 4) (c ∷ d ∷ low ∷ high ∷ rest))) (len + 8)
    (length (a ∷ b ∷ c ∷ d ∷ low ∷ high ∷ rest)) whole pending in
    let less : length (c ∷ d ∷ low ∷ high ∷ rest) < len + 6 = ltb-true (length (c ∷ d ∷ low ∷ high ∷ rest)) (len + 6) short.0 in
    omega (arith, short.1)

frame_alone : (bytes : List ℕ) (n : ℕ) → frame_shape bytes ≡ WholeFrame n → frame_shape (take n bytes) ≡ WholeFrame n
frame_alone bytes n is = go (frame_shape (take n bytes)) refl
  where
    least : (8 ≤ n) × (n ≤ length bytes)
    least = frame.whole_least bytes n is

    size : length (take n bytes) ≡ n
    size = length-take-le n bytes least.1

    cut : take n bytes ++ drop n bytes ≡ bytes
    cut = take-append-drop n bytes

    go : (s : FrameShape) → frame_shape (take n bytes) ≡ s → frame_shape (take n bytes) ≡ WholeFrame n
    go (WholeFrame m) e =
        let same : frame_shape bytes ≡ WholeFrame m = ap frame_shape (sym cut) ∙ frame.whole_stays (take n bytes) (drop n bytes) m e in
        let equal : m ≡ n = cc in
        e ∙ ap (λ k. WholeFrame k) equal
    go PendingFrame e =
        absurd (not_pending (take n bytes) (drop n bytes) (rw size least.0) (ap frame_shape cut ∙ is ∙ ap (λ k. WholeFrame k) (sym size)) e)
    go NoFrame e =
        let same : frame_shape bytes ≡ NoFrame = ap frame_shape (sym cut) ∙ frame.no_stays (take n bytes) (drop n bytes) e in cc

pub head_alone : (bytes : List ℕ) (kind : PacketKind) (n : ℕ) → head_of bytes ≡ Packet kind n → head_of (take n bytes) ≡ Packet kind n
unfolding head_of
head_alone bytes kind n e = go (sentence_shape bytes) (frame_shape bytes) refl refl e
  where
    of_frame : (m : ℕ) → frame_shape bytes ≡ WholeFrame m → m ≡ n → Ubx ≡ kind
        → ((k : ℕ) → sentence_shape bytes ≡ WholeSentence k → ⊥) → (s : SentenceShape) → sentence_shape (take n bytes) ≡ s → head_of (take n bytes) ≡ Packet kind n
    of_frame m b is ubx never (WholeSentence k) a =
        absurd (never k (ap sentence_shape (sym (take-append-drop n bytes)) ∙ sentence.whole_stays (take n bytes) (drop n bytes) k a))
    of_frame m b is ubx never PendingSentence a = rw (a, frame_alone bytes n (b ∙ ap (λ k. WholeFrame k) is), ubx) refl
    of_frame m b is ubx never NoSentence a = rw (a, frame_alone bytes n (b ∙ ap (λ k. WholeFrame k) is), ubx) refl

    go : (s : SentenceShape) (f : FrameShape) → sentence_shape bytes ≡ s → frame_shape bytes ≡ f → first_of s f ≡ Packet kind n → head_of (take n bytes) ≡ Packet kind n
    go (WholeSentence m) f a b e =
        let is : m ≡ n = cc in
        let nmea : Nmea ≡ kind = cc in
        rw (sentence_alone bytes n (a ∙ ap (λ k. WholeSentence k) is), nmea) refl
    go PendingSentence (WholeFrame m) a b e =
        let is : m ≡ n = cc in
        let ubx : Ubx ≡ kind = cc in
        of_frame m b is ubx (λ k w. let both : PendingSentence ≡ WholeSentence k = sym a ∙ w in cc) (sentence_shape (take n bytes)) refl
    go NoSentence (WholeFrame m) a b e =
        let is : m ≡ n = cc in
        let ubx : Ubx ≡ kind = cc in
        of_frame m b is ubx (λ k w. let both : NoSentence ≡ WholeSentence k = sym a ∙ w in cc) (sentence_shape (take n bytes)) refl
    go PendingSentence PendingFrame a b e = cc
    go PendingSentence NoFrame a b e = cc
    go NoSentence PendingFrame a b e = cc
    go NoSentence NoFrame a b e = cc

pub nothing_pending : head_of [] ≡ Pending
unfolding head_of sentence_shape frame_shape
nothing_pending = refl
