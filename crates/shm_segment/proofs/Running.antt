-- A running reading while the publisher stores, and what a whole one has read.
use Rattle.std.proofs.Common.{◌≡◌, ◌⊎◌, ℕ, ◌+◌, ◌*◌, ◌/◌, ◌%◌, ◌<◌, ◌≤◌, Bool, true, false, ◌&&◌, List, [], ◌∷◌, ◌++◌, length, take, refl, sym, ap, ◌∙◌, ⊎_elim, arith}
use Rattle.std.specs.Prelude.{nat_le, slice_index, if◌then◌else◌}
use Rattle.std.proofs.lemmas.Bool.Decides.{nat_tests}
use Rattle.shm_segment.specs.declared.sample.Sample.{Sample}
use Rattle.shm_segment.specs.Samples.{body_of}
use Rattle.shm_segment.specs.Words.{published_after, count_at, count_after, body_at, body_word, body_after, words_of}
use Rattle.shm_segment.specs.Rule.{IsWhole, IsRunning}
use Rattle.shm_segment.proofs.Samples.{body_more}

-- what a store does to count and body: count rises, or stays odd, or count, body and published samples stay
abbrev pub StoreEffect : ℕ → List Sample → List Sample → ℕ → Type 0
StoreEffect first samples next stores =
    (count_after first stores < count_after first (stores + 1))
    ⊎ ((count_after first stores ≡ count_after first (stores + 1)) × (count_after first stores % 2 ≡ 1))
    ⊎ ((count_after first stores ≡ count_after first (stores + 1)) × (body_after samples stores ≡ body_after next (stores + 1)))

pub published_rises : (stores : ℕ) → published_after stores ≤ published_after (stores + 1)
published_rises stores = omega arith

module _ (first : ℕ) (samples next : List Sample) (stores : ℕ) where
  pub count_rises : StoreEffect first samples next stores → count_after first stores ≤ count_after first (stores + 1)
  count_rises effect = ⊎_elim (λ (x : count_after first stores < count_after first (stores + 1)). omega arith) (λ x. ⊎_elim (λ (y : (count_after first stores ≡ count_after first (stores + 1)) × (count_after first stores % 2 ≡ 1)). omega arith) (λ (y : (count_after first stores ≡ count_after first (stores + 1)) × (body_after samples stores ≡ body_after next (stores + 1))). omega arith) x) effect

  whole_on : (count : ℕ) (body : List ℕ) → count ≤ count_after first stores → (count_after first stores ≡ count → IsWhole samples stores count body) → StoreEffect first samples next stores
      → count_after first (stores + 1) ≡ count → IsWhole next (stores + 1) count body
  whole_on count body below whole effect now =
      ⊎_elim (λ (x : count_after first stores < count_after first (stores + 1)). absurd (omega arith))
      (λ x.
      ⊎_elim (λ (y : (count_after first stores ≡ count_after first (stores + 1)) × (count_after first stores % 2 ≡ 1)).
      let was = whole (y.0 ∙ now) in
      let even = was.even in
      let odd : count % 2 ≡ 1 = ap (λ (n : ℕ). n % 2) (sym (y.0 ∙ now)) ∙ y.1 in
      absurd (omega arith))
      (λ (y : (count_after first stores ≡ count_after first (stores + 1)) × (body_after samples stores ≡ body_after next (stores + 1))).
      let was = whole (y.0 ∙ now) in
      record {
        even = was.even;
        some = let some = was.some in let rises = published_rises stores in omega arith;
        same = was.same ∙ ap (take (length body)) y.1;
      }) x) effect

  -- a running reading stays one while the publisher stores
  pub running_on : (last : ℕ) (reading : List ℕ) → StoreEffect first samples next stores → IsRunning first samples stores last reading → IsRunning first next (stores + 1) last reading
  running_on last [] effect running = tt
  running_on last (count ∷ []) effect running =
      record { below = let rises = count_rises effect in let below = running.below in omega arith; last_below = running.last_below }
  running_on last (count ∷ valid ∷ body) effect running =
      let counted = running.0 in (
        record { below = let rises = count_rises effect in let below = counted.below in omega arith; last_below = counted.last_below },
        running.1,
        whole_on count body counted.below running.2 effect,
      )

-- the words after a number of stores that the samples reach are the same with more samples
either_more : (samples more : List Sample) (b : Bool) (p : ℕ) → (b ≡ true → p + 1 ≤ length samples) → p ≤ length samples
    → body_at (samples ++ more) (if b then p + 1 else p) ≡ body_at samples (if b then p + 1 else p)
either_more samples more true p next here = body_more samples more (p + 1) (next refl)
either_more samples more false p next here = body_more samples more p here

word_more : (samples more : List Sample) (stores place : ℕ) → stores ≤ 13 * length samples
    → body_word (samples ++ more) (stores % 13) ((stores + 1) / 13) place ≡ body_word samples (stores % 13) ((stores + 1) / 13) place
word_more samples more stores place reach =
    let n : ℕ = length samples in
    let written : (nat_le (3 + place) (stores % 13) && nat_le (stores % 13) 11) ≡ true → 3 ≤ stores % 13 = λ h. grind (arith, nat_tests) in
    let ends : (nat_le (3 + place) (stores % 13) && nat_le (stores % 13) 11) ≡ true → stores % 13 ≤ 11 = λ h. grind (arith, nat_tests) in
    ap (λ (l : List ℕ). slice_index l place)
    (either_more samples more (nat_le (3 + place) (stores % 13) && nat_le (stores % 13) 11) ((stores + 1) / 13)
    (λ h. let w = written h in let x = ends h in omega arith) (omega arith))

pub words_more : (first : ℕ) (samples more : List Sample) (stores : ℕ) → stores ≤ 13 * length samples → words_of first (samples ++ more) stores ≡ words_of first samples stores
unfolding words_of
words_more first samples more stores reach =
    let e = word_more samples more stores in
    λ i. 1 ∷ count_at first (stores % 13) ((stores + 1) / 13) ∷ e 0 reach i ∷ e 1 reach i ∷ e 2 reach i ∷ e 3 reach i ∷ e 4 reach i ∷ e 5 reach i ∷ e 6 reach i ∷ slice_index (words_of first samples stores) 9 ∷ e 7 reach i ∷ e 8 reach i ∷ []

pub body_after_more : (samples more : List Sample) (stores : ℕ) → stores ≤ 13 * length samples → body_after (samples ++ more) stores ≡ body_after samples stores
unfolding body_after
body_after_more samples more stores reach =
    let e = word_more samples more stores in
    λ i. e 0 reach i ∷ e 1 reach i ∷ e 2 reach i ∷ e 3 reach i ∷ e 4 reach i ∷ e 5 reach i ∷ e 6 reach i ∷ e 7 reach i ∷ e 8 reach i ∷ []

-- an even count says that no word of the next sample's body was written
pub flag : (first stores : ℕ) → count_after first stores % 2 ≡ 0 → (nat_le 2 (stores % 13) && nat_le (stores % 13) 11) ≡ false
unfolding count_after
flag first stores even = by_case (nat_le 2 (stores % 13) && nat_le (stores % 13) 11) even
  where
    by_case : (b : Bool) → (2 * (first + (stores + 1) / 13) + (if b then 1 else 0)) % 2 ≡ 0 → b ≡ false
    by_case true odd = absurd (omega arith)
    by_case false is = refl

pub even_count : (first stores : ℕ) → count_after first stores % 2 ≡ 0 → count_after first stores ≡ 2 * (first + published_after stores)
unfolding count_after
even_count first stores even =
    ap (λ (b : Bool). 2 * (first + published_after stores) + (if b then 1 else 0)) (flag first stores even) ∙ (let e : 2 * (first + published_after stores) + 0 ≡ 2 * (first + published_after stores) = omega arith in e)

still_word : (first : ℕ) (samples : List Sample) (stores place : ℕ) → count_after first stores % 2 ≡ 0
    → body_word samples (stores % 13) ((stores + 1) / 13) place ≡ slice_index (body_at samples (published_after stores)) place
still_word first samples stores place even =
    let off = flag first stores even in
    let none : (nat_le (3 + place) (stores % 13) && nat_le (stores % 13) 11) ≡ false = grind (arith, nat_tests) in
    ap (λ (b : Bool). slice_index (body_at samples (if b then (stores + 1) / 13 + 1 else (stores + 1) / 13)) place) none

-- at an even count the body is that of the last published sample
pub still_body : (first : ℕ) (samples : List Sample) (stores : ℕ) (s : Sample) → count_after first stores % 2 ≡ 0 → body_at samples (published_after stores) ≡ body_of s → body_after samples stores ≡ body_of s
unfolding body_after
still_body first samples stores s even is =
    let e : (place : ℕ) → body_word samples (stores % 13) ((stores + 1) / 13) place ≡ slice_index (body_of s) place = λ place. still_word first samples stores place even ∙ ap (λ (l : List ℕ). slice_index l place) is in
    λ i. e 0 i ∷ e 1 i ∷ e 2 i ∷ e 3 i ∷ e 4 i ∷ e 5 i ∷ e 6 i ∷ e 7 i ∷ e 8 i ∷ []

-- half of count is the number of the last published sample
pub half_count : (first stores : ℕ) → count_after first stores / 2 ≡ first + published_after stores
unfolding count_after
half_count first stores = by_case (nat_le 2 (stores % 13) && nat_le (stores % 13) 11)
  where
    by_case : (b : Bool) → (2 * (first + (stores + 1) / 13) + (if b then 1 else 0)) / 2 ≡ first + (stores + 1) / 13
    by_case true = omega arith
    by_case false = omega arith
