-- The words by positions, and how each store changes them.
use Rattle.std.proofs.Common.{◌≡◌, ℕ, zero, suc, ◌+◌, ◌*◌, ◌/◌, ◌%◌, ◌<◌, ◌≤◌, Bool, true, ◌&&◌, List, [], ◌∷◌, ◌++◌, length, set, refl, sym, ap, ◌∙◌, arith}
use Rattle.std.specs.Prelude.{nat_le, nat_lt, slice_index, if◌then◌else◌}
use Rattle.std.proofs.lemmas.Bool.Decides.{nat_tests}
use Rattle.shm_segment.specs.declared.sample.Sample.{Sample}
use Rattle.shm_segment.specs.Words.{count_at, count_after, body_at, body_words, body_after, words_at, words_of, body_places}
use Rattle.shm_segment.proofs.Samples.{body_more}

pub words_in : (first : ℕ) (samples : List Sample) (stores position published : ℕ) (some : Bool)
    → stores % 13 ≡ position → (stores + 1) / 13 ≡ published → nat_lt 0 stores ≡ some → words_of first samples stores ≡ words_at first samples position published some
unfolding words_of
words_in first samples stores position published some t p s = λ i. words_at first samples (t i) (p i) (s i)

pub count_in : (first stores position published : ℕ) → stores % 13 ≡ position → (stores + 1) / 13 ≡ published → count_after first stores ≡ count_at first position published
unfolding count_after
count_in first stores position published t p = λ i. count_at first (t i) (p i)

pub odd_count : (first position whole stores : ℕ) → 2 ≤ position → position ≤ 11 → stores % 13 ≡ position → (stores + 1) / 13 ≡ whole → count_after first stores ≡ 2 * (first + whole) + 1
odd_count first position whole stores low high t p =
    let test : (nat_le 2 position && nat_le position 11) ≡ true = grind (arith, nat_tests) in
    count_in first stores position whole t p ∙ ap (λ (b : Bool). 2 * (first + whole) + (if b then 1 else 0)) test

pub body_in : (samples : List Sample) (stores position published : ℕ) → stores % 13 ≡ position → (stores + 1) / 13 ≡ published → body_after samples stores ≡ body_words samples position published
unfolding body_after
body_in samples stores position published t p = λ i. body_words samples (t i) (p i)

-- at which position a number of stores is, and how many samples are published then
pub position_is : (stores whole position : ℕ) → stores ≡ 13 * whole + position → position < 13 → stores % 13 ≡ position
position_is stores whole position e h = omega arith

pub published_is : (stores whole position : ℕ) → stores ≡ 13 * whole + position → position < 12 → (stores + 1) / 13 ≡ whole
published_is stores whole position e h = omega arith

pub published_last : (stores whole : ℕ) → stores ≡ 13 * whole + 12 → (stores + 1) / 13 ≡ whole + 1
published_last stores whole e = omega arith

some_store : (stores : ℕ) → nat_lt 0 (stores + 1) ≡ true
some_store stores = grind (arith, nat_tests)

-- the words of a sample's thirteen stores but the first
module _ (first : ℕ) (samples : List Sample) (stores whole : ℕ) where
  -- K1: valid 0, with the first store of a sample
  pub stores_invalid : (s : Sample) → stores ≡ 13 * whole + 0 → whole ≤ length samples → set (words_of first samples stores) 9 0 ≡ words_of first (samples ++ s ∷ []) (stores + 1)
  stores_invalid s e h =
      let here = words_in first samples stores 0 whole (nat_lt 0 stores) (position_is stores whole 0 e (omega arith)) (published_is stores whole 0 e (omega arith)) refl in
      let e' : stores + 1 ≡ 13 * whole + 1 = omega arith in
      let next = words_in first (samples ++ s ∷ []) (stores + 1) 1 whole true (position_is (stores + 1) whole 1 e' (omega arith)) (published_is (stores + 1) whole 1 e' (omega arith)) (some_store stores) in
      let same = sym (body_more samples (s ∷ []) whole h) in
      ap (λ (ws : List ℕ). set ws 9 0) here
      ∙ (λ i. 1 ∷ count_at first 1 whole ∷ slice_index (same i) 0 ∷ slice_index (same i) 1 ∷ slice_index (same i) 2 ∷ slice_index (same i) 3 ∷ slice_index (same i) 4 ∷ slice_index (same i) 5 ∷ slice_index (same i) 6 ∷ 0 ∷ slice_index (same i) 7 ∷ slice_index (same i) 8 ∷ [])
      ∙ sym next

  -- a store at a position from 1 to 10, which publishes nothing
  within : (position word value : ℕ) → stores ≡ 13 * whole + position → 0 < position → position < 11 → set (words_at first samples position whole true) word value ≡ words_at first samples (position + 1) whole true
      → set (words_of first samples stores) word value ≡ words_of first samples (stores + 1)
  within position word value e some low law =
      let here = words_in first samples stores position whole true (position_is stores whole position e (omega arith)) (published_is stores whole position e (omega arith)) (grind (arith, nat_tests)) in
      let e' : stores + 1 ≡ 13 * whole + (position + 1) = omega arith in
      let next = words_in first samples (stores + 1) (position + 1) whole true (position_is (stores + 1) whole (position + 1) e' (omega arith)) (published_is (stores + 1) whole (position + 1) e' (omega arith)) (some_store stores) in
      ap (λ (ws : List ℕ). set ws word value) here ∙ law ∙ sym next

  -- K2: the odd count
  pub stores_odd : stores ≡ 13 * whole + 1 → set (words_of first samples stores) 1 (2 * (first + whole) + 1) ≡ words_of first samples (stores + 1)
  stores_odd e = within 1 1 (2 * (first + whole) + 1) e (omega arith) (omega arith) refl

  -- K3: a word of the body of the sample that is being written
  pub stores_body : (place : ℕ) → place < 9 → stores ≡ 13 * whole + (place + 2)
      → set (words_of first samples stores) (slice_index body_places place) (slice_index (body_at samples (whole + 1)) place) ≡ words_of first samples (stores + 1)
  stores_body zero h e = within 2 2 _ e (omega arith) (omega arith) refl
  stores_body (suc zero) h e = within 3 3 _ e (omega arith) (omega arith) refl
  stores_body (suc (suc zero)) h e = within 4 4 _ e (omega arith) (omega arith) refl
  stores_body (suc (suc (suc zero))) h e = within 5 5 _ e (omega arith) (omega arith) refl
  stores_body (suc (suc (suc (suc zero)))) h e = within 6 6 _ e (omega arith) (omega arith) refl
  stores_body (suc (suc (suc (suc (suc zero))))) h e = within 7 7 _ e (omega arith) (omega arith) refl
  stores_body (suc (suc (suc (suc (suc (suc zero)))))) h e = within 8 8 _ e (omega arith) (omega arith) refl
  stores_body (suc (suc (suc (suc (suc (suc (suc zero))))))) h e = within 9 10 _ e (omega arith) (omega arith) refl
  stores_body (suc (suc (suc (suc (suc (suc (suc (suc zero)))))))) h e = within 10 11 _ e (omega arith) (omega arith) refl
  stores_body (suc (suc (suc (suc (suc (suc (suc (suc (suc place))))))))) h e = absurd (omega arith)

  -- K4: the even count, which publishes the sample
  pub stores_even : stores ≡ 13 * whole + 11 → set (words_of first samples stores) 1 (2 * (first + whole) + 2) ≡ words_of first samples (stores + 1)
  stores_even e =
      let here = words_in first samples stores 11 whole true (position_is stores whole 11 e (omega arith)) (published_is stores whole 11 e (omega arith)) (grind (arith, nat_tests)) in
      let e' : stores + 1 ≡ 13 * whole + 12 = omega arith in
      let next = words_in first samples (stores + 1) 12 (whole + 1) true (position_is (stores + 1) whole 12 e' (omega arith)) (published_last (stores + 1) whole e') (some_store stores) in
      let count : 2 * (first + whole) + 2 ≡ 2 * (first + (whole + 1)) + 0 = omega arith in
      ap (λ (ws : List ℕ). set ws 1 (2 * (first + whole) + 2)) here ∙ ap (λ (n : ℕ). set (words_at first samples 12 (whole + 1) true) 1 n) count ∙ sym next

  -- K5: valid 1
  pub stores_valid : stores ≡ 13 * whole + 12 → set (words_of first samples stores) 9 1 ≡ words_of first samples (stores + 1)
  stores_valid e =
      let here = words_in first samples stores 12 (whole + 1) true (position_is stores whole 12 e (omega arith)) (published_last stores whole e) (grind (arith, nat_tests)) in
      let e' : stores + 1 ≡ 13 * (whole + 1) + 0 = omega arith in
      let next = words_in first samples (stores + 1) 0 (whole + 1) true (position_is (stores + 1) (whole + 1) 0 e' (omega arith)) (published_is (stores + 1) (whole + 1) 0 e' (omega arith)) (some_store stores) in
      ap (λ (ws : List ℕ). set ws 9 1) here ∙ sym next
