-- What a list begins with, under more bytes: from the laws of the two shapes.
use Rattle.std.proofs.Common.{◌≡◌, ◌≤◌, ◌<◌, ◌+◌, ◌-◌, ◌==◌, ◌||◌, ◌⊎◌, ◌↔◌, ℕ, zero, suc, true, false, List, [], ◌∷◌, ◌++◌, length, drop, Some, None, get_or, slice_index, refl, inl, inr, sym, subst, ap, arith, ◌∙◌}
use Rattle.std.proofs.lemmas.List.{drop_all, drop_more, drop-drop, length-drop}
use Rattle.memchr.specs.Find.{Nowhere, Passes, IsFirstByte, is_byte2}
use Rattle.std.proofs.lemmas.Bool.{cases_Bool, eqb-true}
use Rattle.nmea_frame.specs.declared.sentence.Shape.{Shape as SentenceShape}
use Rattle.nmea_frame.specs.declared.sentence.Shape.TheVariants.{Whole as WholeSentence, Pending as PendingSentence, No as NoSentence}
use Rattle.nmea_frame.specs.Scan.{shape_of as sentence_shape}
use Rattle.nmea_frame.proofs.Stable as sentence
use Rattle.ubx_frame.specs.declared.frame.Shape.{Shape as FrameShape}
use Rattle.ubx_frame.specs.declared.frame.Shape.TheVariants.{Whole as WholeFrame, Pending as PendingFrame, No as NoFrame}
use Rattle.ubx_frame.specs.Scan.{shape_of as frame_shape}
use Rattle.ubx_frame.proofs.Stable as frame
use Rattle.gps_report.specs.declared.packet.PacketKind.{PacketKind}
use Rattle.gps_report.specs.declared.packet.PacketKind.TheVariants.{Nmea, Ubx}
use Rattle.packet_cut.specs.declared.head.Head.TheVariants.{Packet, Pending, Junk}
use Rattle.packet_cut.specs.Heads.{first_of, head_of}
use Rattle.packet_cut.specs.Next.{JunkUpTo}

-- at most one of the two shapes says something, or nothing is there yet
data Alone : SentenceShape → FrameShape → Type 0 where
  no_sentence : {f : FrameShape} → Alone NoSentence f
  no_frame : {s : SentenceShape} → Alone s NoFrame
  both_pending : Alone PendingSentence PendingFrame

alone : (bytes : List ℕ) → Alone (sentence_shape bytes) (frame_shape bytes)
unfolding sentence_shape frame_shape
alone [] = both_pending
alone (c ∷ text) = elim (cases_Bool (c == 36)) [
  | inl is ↦ rw (eqb-true c 36 is) no_frame
  | inr isnt ↦ rw isnt no_sentence
]

sentence_only : (s : SentenceShape) (f : FrameShape) (n : ℕ) → first_of s f ≡ Packet Nmea n → s ≡ WholeSentence n
sentence_only (WholeSentence m) f n e = cc
sentence_only PendingSentence (WholeFrame m) n e = cc
sentence_only PendingSentence PendingFrame n e = cc
sentence_only PendingSentence NoFrame n e = cc
sentence_only NoSentence (WholeFrame m) n e = cc
sentence_only NoSentence PendingFrame n e = cc
sentence_only NoSentence NoFrame n e = cc

frame_only : (s : SentenceShape) (f : FrameShape) (n : ℕ) → first_of s f ≡ Packet Ubx n → f ≡ WholeFrame n
frame_only (WholeSentence m) f n e = cc
frame_only PendingSentence (WholeFrame m) n e = cc
frame_only PendingSentence PendingFrame n e = cc
frame_only PendingSentence NoFrame n e = cc
frame_only NoSentence (WholeFrame m) n e = cc
frame_only NoSentence PendingFrame n e = cc
frame_only NoSentence NoFrame n e = cc

pending_only : (s : SentenceShape) (f : FrameShape) → first_of s f ≡ Pending → (s ≡ PendingSentence) ⊎ (f ≡ PendingFrame)
pending_only (WholeSentence m) f e = cc
pending_only PendingSentence f e = inl refl
pending_only NoSentence (WholeFrame m) e = cc
pending_only NoSentence PendingFrame e = inr refl
pending_only NoSentence NoFrame e = cc

frame_first : (s : SentenceShape) (f : FrameShape) (n : ℕ) → Alone s f → f ≡ WholeFrame n → first_of s f ≡ Packet Ubx n
frame_first NoSentence f n no_sentence e = rw e refl
frame_first s NoFrame n no_frame e = cc
frame_first PendingSentence PendingFrame n both_pending e = cc

pending_first : (s : SentenceShape) (f : FrameShape) → Alone s f → (s ≡ PendingSentence) ⊎ (f ≡ PendingFrame) → first_of s f ≡ Pending
pending_first NoSentence f no_sentence (inl e) = cc
pending_first NoSentence f no_sentence (inr e) = rw e refl
pending_first s NoFrame no_frame (inl e) = rw e refl
pending_first s NoFrame no_frame (inr e) = cc
pending_first PendingSentence PendingFrame both_pending e = refl

-- the head against the sets of sentences and of frames, given what each shape says
pub sentence_exact : (bytes : List ℕ) (s : SentenceShape) (f : FrameShape) → s ≡ sentence_shape bytes → f ≡ frame_shape bytes → (P : ℕ → Type 0) →
    ((n : ℕ) → (s ≡ WholeSentence n) ↔ P n) → (n : ℕ) → (first_of s f ≡ Packet Nmea n) ↔ P n
sentence_exact bytes s f is_s is_f P exact n =
    (λ e. (exact n).0 (sentence_only s f n e), λ p. ap (λ x. first_of x f) ((exact n).1 p))

pub frame_exact : (bytes : List ℕ) (s : SentenceShape) (f : FrameShape) → s ≡ sentence_shape bytes → f ≡ frame_shape bytes → (P : ℕ → Type 0) →
    ((n : ℕ) → (f ≡ WholeFrame n) ↔ P n) → (n : ℕ) → (first_of s f ≡ Packet Ubx n) ↔ P n
frame_exact bytes s f is_s is_f P exact n =
    (λ e. (exact n).0 (frame_only s f n e), λ p. frame_first s f n (rw (is_s, is_f) (alone bytes)) ((exact n).1 p))

pub pending_exact : (bytes : List ℕ) (s : SentenceShape) (f : FrameShape) → s ≡ sentence_shape bytes → f ≡ frame_shape bytes → (P Q : Type 0) →
    ((s ≡ PendingSentence) ↔ P) → ((f ≡ PendingFrame) ↔ Q) → (first_of s f ≡ Pending) ↔ (P ⊎ Q)
pending_exact bytes s f is_s is_f P Q exact_s exact_f =
    (λ e. either (pending_only s f e), λ h. pending_first s f (rw (is_s, is_f) (alone bytes)) (back h))
  where
    either : (s ≡ PendingSentence) ⊎ (f ≡ PendingFrame) → P ⊎ Q
    either (inl e) = inl (exact_s.0 e)
    either (inr e) = inr (exact_f.0 e)

    back : P ⊎ Q → (s ≡ PendingSentence) ⊎ (f ≡ PendingFrame)
    back (inl p) = inl (exact_s.1 p)
    back (inr q) = inr (exact_f.1 q)

not_both : {m : ℕ} → Alone PendingSentence (WholeFrame m) → ⊥
not_both h = elim h [ ]

-- under more bytes a packet stays one, and junk stays junk
pub packet_stays : (bytes more : List ℕ) (kind : PacketKind) (n : ℕ) → head_of bytes ≡ Packet kind n → head_of (bytes ++ more) ≡ Packet kind n
unfolding head_of
packet_stays bytes more kind n e = go (sentence_shape bytes) (frame_shape bytes) refl refl e
  where
    go : (s : SentenceShape) (f : FrameShape) → sentence_shape bytes ≡ s → frame_shape bytes ≡ f →
        first_of s f ≡ Packet kind n → head_of (bytes ++ more) ≡ Packet kind n
    go (WholeSentence m) f a b e = rw (sentence.whole_stays bytes more m a) e
    go PendingSentence (WholeFrame m) a b e =
        let both : Alone PendingSentence (WholeFrame m) = rw (← a, ← b) (alone bytes) in absurd (not_both both)
    go NoSentence (WholeFrame m) a b e = rw (sentence.no_stays bytes more a, frame.whole_stays bytes more m b) e
    go PendingSentence PendingFrame a b e = cc
    go PendingSentence NoFrame a b e = cc
    go NoSentence PendingFrame a b e = cc
    go NoSentence NoFrame a b e = cc

pub junk_stays : (bytes more : List ℕ) → head_of bytes ≡ Junk → head_of (bytes ++ more) ≡ Junk
unfolding head_of
junk_stays bytes more e = go (sentence_shape bytes) (frame_shape bytes) refl refl e
  where
    go : (s : SentenceShape) (f : FrameShape) → sentence_shape bytes ≡ s → frame_shape bytes ≡ f → first_of s f ≡ Junk → head_of (bytes ++ more) ≡ Junk
    go (WholeSentence m) f a b e = cc
    go PendingSentence (WholeFrame m) a b e = cc
    go PendingSentence PendingFrame a b e = cc
    go PendingSentence NoFrame a b e = cc
    go NoSentence (WholeFrame m) a b e = cc
    go NoSentence PendingFrame a b e = cc
    go NoSentence NoFrame a b e = rw (sentence.no_stays bytes more a, frame.no_stays bytes more b) e

-- a frame has at least 8 bytes, a packet at least 6
frame_least : (bytes : List ℕ) (n : ℕ) → frame_shape bytes ≡ WholeFrame n → (6 ≤ n) × (n ≤ length bytes)
frame_least bytes n e = let long : (8 ≤ n) × (n ≤ length bytes) = frame.whole_least bytes n e in (omega (arith, long), long.1)

pub packet_least : (bytes : List ℕ) (kind : PacketKind) (n : ℕ) → head_of bytes ≡ Packet kind n → (6 ≤ n) × (n ≤ length bytes)
unfolding head_of
packet_least bytes kind n e = go (sentence_shape bytes) (frame_shape bytes) refl refl e
  where
    go : (s : SentenceShape) (f : FrameShape) → sentence_shape bytes ≡ s → frame_shape bytes ≡ f → first_of s f ≡ Packet kind n → (6 ≤ n) × (n ≤ length bytes)
    go (WholeSentence m) f a b e = let is : m ≡ n = cc in rw (← is) (sentence.whole_least bytes m a)
    go PendingSentence (WholeFrame m) a b e = let is : m ≡ n = cc in rw (← is) (frame_least bytes m b)
    go NoSentence (WholeFrame m) a b e = let is : m ≡ n = cc in rw (← is) (frame_least bytes m b)
    go PendingSentence PendingFrame a b e = cc
    go PendingSentence NoFrame a b e = cc
    go NoSentence PendingFrame a b e = cc
    go NoSentence NoFrame a b e = cc

pub pending_short : (bytes : List ℕ) → head_of bytes ≡ Pending → length bytes ≤ 2055
unfolding head_of
pending_short bytes e = go (pending_only (sentence_shape bytes) (frame_shape bytes) e)
  where
    go : (sentence_shape bytes ≡ PendingSentence) ⊎ (frame_shape bytes ≡ PendingFrame) → length bytes ≤ 2055
    go (inl s) = omega (arith, sentence.pending_short bytes s)
    go (inr f) = omega (arith, frame.pending_short bytes f)

pub nothing_pending : head_of [] ≡ Pending
unfolding head_of sentence_shape frame_shape
nothing_pending = refl

-- ---- by the first byte
-- a byte with which neither a sentence nor a frame begins is junk, whatever follows it
junk_first : (c : ℕ) (text : List ℕ) → (c == 36) ≡ false → (c == 0xb5) ≡ false → head_of (c ∷ text) ≡ Junk
unfolding head_of sentence_shape frame_shape
junk_first c text no_dollar no_sync = rw (no_dollar, no_sync) refl

pub junk_at : (bytes : List ℕ) (place byte : ℕ) → place < length bytes → byte ≡ get_or bytes place byte → (byte == 36) ≡ false → (byte == 0xb5) ≡ false
    → Junk ≡ head_of (drop place bytes)
junk_at bytes place byte within is no_dollar no_sync =
    sym (ap head_of (drop_more bytes place byte within ∙ ap (λ x. x ∷ drop (place + 1) bytes) (sym is)) ∙ junk_first byte (drop (place + 1) bytes) no_dollar no_sync)

sentence_first : (text : List ℕ) → first_of (sentence_shape (36 ∷ text)) NoFrame ≡ head_of (36 ∷ text)
unfolding head_of frame_shape
sentence_first text = refl

pub sentence_at_place : (bytes : List ℕ) (place byte : ℕ) (shape : SentenceShape) → place < length bytes → byte ≡ get_or bytes place byte → byte ≡ 36
    → shape ≡ sentence_shape (drop place bytes) → first_of shape NoFrame ≡ head_of (drop place bytes)
sentence_at_place bytes place byte shape within is dollar known =
    let here : drop place bytes ≡ 36 ∷ drop (place + 1) bytes = drop_more bytes place byte within ∙ ap (λ x. x ∷ drop (place + 1) bytes) (sym is ∙ dollar) in
    ap (λ s. first_of s NoFrame) (known ∙ ap sentence_shape here) ∙ sentence_first (drop (place + 1) bytes) ∙ ap head_of (sym here)

frame_first_byte : (text : List ℕ) → first_of NoSentence (frame_shape (0xb5 ∷ text)) ≡ head_of (0xb5 ∷ text)
unfolding head_of sentence_shape
frame_first_byte text = refl

pub frame_at_place : (bytes : List ℕ) (place byte : ℕ) (shape : FrameShape) → place < length bytes → byte ≡ get_or bytes place byte → byte ≡ 0xb5
    → shape ≡ frame_shape (drop place bytes) → first_of NoSentence shape ≡ head_of (drop place bytes)
frame_at_place bytes place byte shape within is sync known =
    let here : drop place bytes ≡ 0xb5 ∷ drop (place + 1) bytes = drop_more bytes place byte within ∙ ap (λ x. x ∷ drop (place + 1) bytes) (sym is ∙ sync) in
    ap (first_of NoSentence) (known ∙ ap frame_shape here) ∙ frame_first_byte (drop (place + 1) bytes) ∙ ap head_of (sym here)

pub nothing_at : (bytes : List ℕ) (place : ℕ) → length bytes ≤ place → Pending ≡ head_of (drop place bytes)
nothing_at bytes place over = sym (ap head_of (drop_all place bytes over) ∙ nothing_pending)

-- ---- the search for a first byte
quiet : (bytes : List ℕ) (k : ℕ) → k < length bytes → ¬ (is_byte2 36 0xb5 (slice_index bytes k) ≡ true) → head_of (drop k bytes) ≡ Junk
quiet [] k within fails = absurd (omega arith)
quiet (c ∷ bytes) zero within fails = elim (cases_Bool (c == 36)) [
  | inl dollar ↦ absurd (fails (ap (λ b. b || (c == 0xb5)) dollar))
  | inr no_dollar ↦ elim (cases_Bool (c == 0xb5)) [
    | inl sync ↦ absurd (fails (ap (λ b. b || (c == 0xb5)) no_dollar ∙ sync))
    | inr no_sync ↦ junk_first c bytes no_dollar no_sync
  ]
]
quiet (c ∷ bytes) (suc k) within fails = quiet bytes k (omega (arith, within)) fails

quiet_up_to : (bytes : List ℕ) (place count : ℕ) → place + count ≤ length bytes → Nowhere (Passes (is_byte2 36 0xb5) (drop place bytes)) 0 count
    → JunkUpTo bytes place (place + count)
quiet_up_to bytes place count within nowhere = record {
  forward = omega arith;
  inside = within;
  junk = λ k from to.
      let here : place + (k - place) ≡ k = omega (arith, from) in
      ap head_of (ap (λ n. drop n bytes) (sym here) ∙ sym (drop-drop (k - place) place bytes))
      ∙ quiet (drop place bytes) (k - place) (omega (arith, from, to, within, length-drop place bytes)) (nowhere (k - place) (omega arith) (omega (arith, from, to)));
}

pub first_byte_found : (bytes : List ℕ) (place behind : ℕ) → place ≤ length bytes → IsFirstByte (is_byte2 36 0xb5) (drop place bytes) (Some behind)
    → JunkUpTo bytes place (place + behind)
first_byte_found bytes place behind within is =
    quiet_up_to bytes place behind (omega (arith, within, is.0.high, length-drop place bytes)) is.0.before

pub no_first_byte : (bytes : List ℕ) (place : ℕ) → place ≤ length bytes → IsFirstByte (is_byte2 36 0xb5) (drop place bytes) None → JunkUpTo bytes place (length bytes)
no_first_byte bytes place within is =
    let all : place + length (drop place bytes) ≡ length bytes = omega (arith, within, length-drop place bytes) in
    subst (JunkUpTo bytes place) all (quiet_up_to bytes place (length (drop place bytes)) (omega (arith, all)) is)
