-- The fields of a body, one after the other.
use Rattle.std.proofs.Common.{◌≡◌, ℕ, zero, suc, ◌+◌, ◌<◌, Bool, true, not, ◌&&◌, List, [], ◌∷◌, ◌++◌, length, take, drop, refl, sym, ap, ◌∙◌, arith, append_assoc, append-nil}
use Rattle.std.specs.Prelude.{nat_le, slice_index_or}
use Rattle.std.specs.List.{list_all, prefix_len}
use Rattle.std.proofs.lemmas.Bool.{and_parts, cond-true}
use Rattle.std.proofs.lemmas.Bool.Decides.{nat_tests}
use Rattle.std.proofs.Math.Seq.{take-append_seam, drop-append_seam}
use Rattle.nmea_decode.specs.Fields.{is_comma, field as field_read, behind, skipped}
use Rattle.pseudo_nmea.specs.Sentences.{field}

-- from the minus to the letter Z: no comma, no star and no dollar
abbrev pub is_plain : ℕ → Bool
is_plain c = nat_le 45 c && nat_le c 90

-- fields, each after its comma
abbrev pub rows : List (List ℕ) → List ℕ
rows [] = []
rows (f ∷ fs) = 44 ∷ (f ++ rows fs)

-- the same, as they are added to what comes before
abbrev pub lefts : List ℕ → List (List ℕ) → List ℕ
lefts front [] = front
lefts front (f ∷ fs) = lefts (front ++ field f) fs

pub rows_behind : (front : List ℕ) (fs : List (List ℕ)) → lefts front fs ≡ front ++ rows fs
unfolding field
rows_behind front [] = sym (append-nil front)
rows_behind front (f ∷ fs) = rows_behind (front ++ field f) fs ∙ append_assoc front (field f) (rows fs)

abbrev pub all_plain : List (List ℕ) → Bool
all_plain fs = list_all (λ f. list_all is_plain f) fs

abbrev is_not_comma : ℕ → Bool
is_not_comma c = not (is_comma c)

at_comma : (fs : List (List ℕ)) → prefix_len is_not_comma (rows fs) ≡ 0
at_comma [] = refl
at_comma (f ∷ fs) = refl

run_is : (f : List ℕ) (fs : List (List ℕ)) → list_all is_plain f ≡ true → prefix_len is_not_comma (f ++ rows fs) ≡ length f
run_is [] fs all = nothing (rows fs) (at_comma fs)
  where
    nothing : (xs : List ℕ) → prefix_len is_not_comma xs ≡ 0 → prefix_len is_not_comma ([] ++ xs) ≡ 0
    nothing xs e = e
run_is (c ∷ f) fs all =
    let parts = and_parts (is_plain c) (list_all is_plain f) all in
    let test : is_not_comma c ≡ true = (let plain = parts.0 in grind (arith, nat_tests)) in
    let more = run_is f fs parts.1 in
    cond-true (is_not_comma c) (1 + prefix_len is_not_comma (f ++ rows fs)) 0 test ∙ omega arith

pub first_is : (f : List ℕ) (fs : List (List ℕ)) → list_all is_plain f ≡ true → field_read (rows (f ∷ fs)) ≡ f
unfolding field_read
first_is f fs all = ap (λ n. take n (f ++ rows fs)) (run_is f fs all) ∙ take-append_seam f (rows fs)

pub rest_is : (f : List ℕ) (fs : List (List ℕ)) → list_all is_plain f ≡ true → behind (rows (f ∷ fs)) ≡ rows fs
unfolding behind
rest_is f fs all = ap (λ n. drop n (f ++ rows fs)) (run_is f fs all) ∙ drop-append_seam f (rows fs)

pub row_is : (fs : List (List ℕ)) (k : ℕ) → all_plain fs ≡ true → k < length fs → field_read (skipped k (rows fs)) ≡ slice_index_or fs k []
row_is [] k all h = absurd (omega arith)
row_is (f ∷ fs) zero all h = first_is f fs (and_parts (list_all is_plain f) (all_plain fs) all).0
row_is (f ∷ fs) (suc k) all h =
    let parts = and_parts (list_all is_plain f) (all_plain fs) all in
    ap (λ t. field_read (skipped k t)) (rest_is f fs parts.0) ∙ row_is fs k parts.1 (omega arith)
