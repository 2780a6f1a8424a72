-- The shape at the head of a list under more bytes, from the sets alone.
use Rattle.std.proofs.Common.{◌≡◌, ◌≤◌, ◌<◌, ◌-◌, ℕ, Bool, true, false, List, ◌∷◌, ◌++◌, length, take, refl, inl, inr, sym, ap, arith, ◌∙◌, append_assoc}
use Rattle.std.proofs.lemmas.Bool.{cases_lt}
use Rattle.std.proofs.lemmas.List.{length-append, take-append-le, length-take-le}
use Rattle.std.proofs.Math.Seq.{take-append-add}
use Rattle.nmea_frame.specs.Sentence.{Parts, AreParts, line_end, spelling, IsSentence, IsProperPrefix}
use Rattle.nmea_frame.specs.Scan.{shape_of}
use Rattle.nmea_frame.specs.declared.sentence.Shape.{Shape}
use Rattle.nmea_frame.specs.declared.sentence.Shape.TheVariants.{Whole, Pending, No}
use Rattle.nmea_frame.proofs.Theorem.{whole_forth, whole_back, pending_forth, pending_back}

pub whole_stays : (b c : List ℕ) (n : ℕ) → shape_of b ≡ Whole n → shape_of (b ++ c) ≡ Whole n
whole_stays b c n e =
    let h : (n ≤ length b) × IsSentence (take n b) = whole_forth b n e in
    let inside : n ≤ length b = h.0 in
    let same : take n (b ++ c) ≡ take n b = take-append-le n b c inside in
    whole_back (b ++ c) n (omega (arith, length-append b c), rw same (h.1))

least_end : (has_return : Bool) → 1 ≤ length (line_end has_return)
least_end true = omega arith
least_end false = omega arith

-- `$`, one byte of a body, `*`, two digits and a line feed at least
least_spelling : (p : Parts) → AreParts p → 6 ≤ length (spelling p)
least_spelling p parts =
    omega (arith, parts.some, least_end p.has_return, length-append p.body (42 ∷ p.high ∷ p.low ∷ line_end p.has_return))

pub whole_least : (b : List ℕ) (n : ℕ) → shape_of b ≡ Whole n → (6 ≤ n) × (n ≤ length b)
whole_least b n e =
    let h : (n ≤ length b) × IsSentence (take n b) = whole_forth b n e in
    let least : 6 ≤ length (take n b) = rw (h.1.1.2) (least_spelling (h.1.0) (h.1.1.0)) in
    (omega (arith, least, length-take-le n b (h.0)), h.0)

pub whole_short : (b : List ℕ) (n : ℕ) → shape_of b ≡ Whole n → n ≤ 128
whole_short b n e =
    let h : (n ≤ length b) × IsSentence (take n b) = whole_forth b n e in
    let short : length (take n b) ≤ 128 = rw (h.1.1.2) (h.1.1.0.short) in
    omega (arith, length-take-le n b (h.0))

pub pending_short : (b : List ℕ) → shape_of b ≡ Pending → length b < 128
pending_short b e =
    let h : IsProperPrefix b = pending_forth b e in
    omega (arith, h.1.0, length-append b (h.0), ap length (h.1.1.1.1), h.1.1.1.0.short)

-- a beginning of a beginning is one
shorter : (b c : List ℕ) → IsProperPrefix (b ++ c) → IsProperPrefix b
shorter b c h = (c ++ h.0, (omega (arith, h.1.0, length-append c (h.0)), (h.1.1.0, (h.1.1.1.0, sym (append_assoc b c (h.0)) ∙ h.1.1.1.1))))

-- a sentence that ends after the list makes the list a beginning
begun : (b c : List ℕ) (n : ℕ) → length b < n → (n ≤ length (b ++ c)) × IsSentence (take n (b ++ c)) → IsProperPrefix b
begun b c n behind h =
    let k : ℕ = n - length b in
    let all : k ≤ length c = omega (arith, h.0, length-append b c) in
    let same : b ++ take k c ≡ take n (b ++ c) = sym (take-append-add b c k) ∙ ap (λ m. take m (b ++ c)) (omega arith) in
    (take k c, (omega (arith, length-take-le k c all), (h.1.0, (h.1.1.0, same ∙ h.1.1.2))))

pub no_stays : (b c : List ℕ) → shape_of b ≡ No → shape_of (b ++ c) ≡ No
no_stays b c e = go (shape_of (b ++ c)) refl
  where
    go : (s : Shape) → shape_of (b ++ c) ≡ s → shape_of (b ++ c) ≡ No
    go No is = is
    go Pending is = cc (pending_back b (shorter b c (pending_forth (b ++ c) is)))
    go (Whole n) is =
        let h : (n ≤ length (b ++ c)) × IsSentence (take n (b ++ c)) = whole_forth (b ++ c) n is in
        elim (cases_lt (length b) n) [
          | inl behind ↦ cc (pending_back b (begun b c n behind h))
          | inr inside ↦
              let same : take n (b ++ c) ≡ take n b = take-append-le n b c inside in
              cc (whole_back b n (inside, rw same at (h.1)))
        ]
