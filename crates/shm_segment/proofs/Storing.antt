-- Each of the five kinds of store keeps the rule.
use Rattle.std.proofs.Common.{◌≡◌, ℕ, zero, suc, ◌+◌, ◌*◌, ◌/◌, ◌%◌, ◌<◌, ◌≤◌, List, [], ◌∷◌, ◌++◌, length, set, refl, sym, ap, ◌∙◌, subst, inl, inr, append-nil, arith, length-append}
use Rattle.std.specs.Prelude.{slice_index}
use Rattle.std.proofs.lemmas.List.Elements.{All-append, All-cons, All-nil}
use mathlib.Core.Option.{some, some-injective, some-ne-none}
use lib.ListN.{get_elem?}
use Rattle.atomic_table.specs.Table.{Me, Allows}
use Rattle.atomic_table.specs.Table.{keeps as no_slot}
use Rattle.shm_segment.specs.declared.sample.Sample.{Sample}
use Rattle.shm_segment.specs.declared.view.View.{View}
use Rattle.shm_segment.specs.Samples.{IsSample}
use Rattle.shm_segment.specs.Words.{count_after, body_at, body_after, words_of, body_places}
use Rattle.shm_segment.specs.Views.{publisher, begun, stored}
use Rattle.shm_segment.specs.Rule.{IsSound, IsPublished, WasShown, Fits, SegmentHolds, HoldsOf}
use Rattle.shm_segment.proofs.Samples.{body_more}
use Rattle.shm_segment.proofs.Words.{count_in, odd_count, body_in, position_is, published_is, published_last, stores_invalid, stores_odd, stores_body, stores_even, stores_valid}
use Rattle.shm_segment.proofs.Running.{StoreEffect}
use Rattle.shm_segment.proofs.Keeps.{fits_set, fits_on, at_writer, publishes_on}

-- the publisher's own view fits
pub publisher_fits : (seat first : ℕ) (samples : List Sample) (stores : ℕ) → stores ≤ 13 * length samples → Fits seat first samples stores seat (publisher first samples stores)
publisher_fits seat first samples stores reach =
    record {
      first_same = λ _. refl;
      publishes = λ _. (refl, refl, refl);
      told = record { earlier = omega arith; reaches = reach; begins = ([], append-nil samples) };
      met = record { earlier = omega arith; reaches = omega arith; begins = (samples, refl) };
      taken = All-nil (IsPublished first samples stores);
      rises = tt;
      last_below = omega arith;
      kept = All-nil (WasShown first samples stores);
      running = tt;
    }

-- a store of the publisher, of this word and value, adds these samples
module _ (first : ℕ) (samples more next : List Sample) (stores : ℕ) where
  pub store_keeps : (slots seat word value : ℕ) → samples ++ more ≡ next
      → (IsSound first samples stores → IsSound first next (stores + 1) × (set (words_of first samples stores) word value ≡ words_of first next (stores + 1)) × StoreEffect first samples next stores)
      → Allows {S = Unit {0}} (HoldsOf first) slots seat (publisher first samples stores, []) word (λ _. value) (λ _ (after : Me (Unit {0}) View). after ≡ (publisher first next (stores + 1), []))
  store_keeps slots seat word value e law s h homes at small =
      let here = at_writer first first s.words s.views seat samples stores h at in
      let new = law here.1 in
      let sound = new.0 in
      let reach = here.1.reaches in
      let w : View = publisher first next (stores + 1) in (
        w,
        no_slot,
        tt,
        record {
          writer = seat;
          samples = next;
          stores = stores + 1;
          publisher = publishes_on s.views seat seat (publisher first samples stores) w at refl (publisher first samples stores, at, refl);
          words_are = ap (λ (ws : List ℕ). set ws word value) here.0 ∙ new.1;
          sound = sound;
          fits = fits_set seat first next (stores + 1) s.views seat w
              (λ j u other at'. fits_on seat first samples more next stores j u e reach new.2 other (here.2 j u at'))
              (publisher_fits seat first next (stores + 1) sound.reaches);
        },
        refl,
      )

sound_on : (first : ℕ) (samples : List Sample) (stores : ℕ) → 0 < stores % 13 → IsSound first samples stores → IsSound first samples (stores + 1)
sound_on first samples stores position sound =
    record { reaches = let reach = sound.reaches in let n : ℕ = length samples in omega arith; ranges = sound.ranges; numbers = sound.numbers }

-- a store after the first of a sample
module _ (first slots seat : ℕ) (samples : List Sample) (stores : ℕ) (me : Me (Unit {0}) View) (is : me ≡ (publisher first samples stores, [])) where
  abbrev Keeps : ℕ → ℕ → Type 0
  Keeps word value = Allows {S = Unit {0}} (HoldsOf first) slots seat me word (λ _. value) (λ _ (after : Me (Unit {0}) View). after ≡ (stored me.0, []))

  further : (word value : ℕ) → 0 < stores % 13 → set (words_of first samples stores) word value ≡ words_of first samples (stores + 1) → StoreEffect first samples samples stores → Keeps word value
  further word value position law effect =
      subst (λ (u : Me (Unit {0}) View). Allows {S = Unit {0}} (HoldsOf first) slots seat u word (λ _. value) (λ _ (after : Me (Unit {0}) View). after ≡ (stored u.0, []))) (sym is)
      (store_keeps first samples [] samples stores slots seat word value (append-nil samples) (λ sound. (sound_on first samples stores position sound, law, effect)))

  -- K2: the odd count
  pub keeps_odd : (number : ℕ) → stores % 13 ≡ 1 → number ≡ first + stores / 13 → Keeps 1 (2 * number + 1)
  keeps_odd number position n =
      let whole : ℕ = stores / 13 in
      let e : stores ≡ 13 * whole + 1 = omega arith in
      let e' : stores + 1 ≡ 13 * whole + 2 = omega arith in
      let before = count_in first stores 1 whole position (published_is stores whole 1 e (omega arith)) in
      let after = count_in first (stores + 1) 2 whole (position_is (stores + 1) whole 2 e' (omega arith)) (published_is (stores + 1) whole 2 e' (omega arith)) in
      further 1 (2 * number + 1) (omega arith)
      (ap (λ (k : ℕ). set (words_of first samples stores) 1 (2 * k + 1)) n ∙ stores_odd first samples stores whole e)
      (inl (let b : count_after first stores ≡ 2 * (first + whole) + 0 = before in let a : count_after first (stores + 1) ≡ 2 * (first + whole) + 1 = after in omega arith))

  -- K3: a word of the body
  pub keeps_body : (place value : ℕ) → place < 9 → stores % 13 ≡ place + 2 → slice_index (body_at samples (stores / 13 + 1)) place ≡ value → Keeps (slice_index body_places place) value
  keeps_body place value within position v =
      let whole : ℕ = stores / 13 in
      let e : stores ≡ 13 * whole + (place + 2) = omega arith in
      let e' : stores + 1 ≡ 13 * whole + (place + 3) = omega arith in
      let before = odd_count first (place + 2) whole stores (omega arith) (omega arith) position (published_is stores whole (place + 2) e (omega arith)) in
      let after = odd_count first (place + 3) whole (stores + 1) (omega arith) (omega arith) (position_is (stores + 1) whole (place + 3) e' (omega arith)) (published_is (stores + 1) whole (place + 3) e' (omega arith)) in
      further (slice_index body_places place) value (omega arith)
      (ap (λ (x : ℕ). set (words_of first samples stores) (slice_index body_places place) x) (sym v) ∙ stores_body first samples stores whole place within e)
      (inr (inl (before ∙ sym after, ap (λ (n : ℕ). n % 2) before ∙ (let o : (2 * (first + whole) + 1) % 2 ≡ 1 = omega arith in o))))

  -- K4: the even count, which publishes the sample
  pub keeps_even : (number : ℕ) → stores % 13 ≡ 11 → number ≡ first + stores / 13 → Keeps 1 (2 * number + 2)
  keeps_even number position n =
      let whole : ℕ = stores / 13 in
      let e : stores ≡ 13 * whole + 11 = omega arith in
      let e' : stores + 1 ≡ 13 * whole + 12 = omega arith in
      let before = count_in first stores 11 whole position (published_is stores whole 11 e (omega arith)) in
      let after = count_in first (stores + 1) 12 (whole + 1) (position_is (stores + 1) whole 12 e' (omega arith)) (published_last (stores + 1) whole e') in
      further 1 (2 * number + 2) (omega arith)
      (ap (λ (k : ℕ). set (words_of first samples stores) 1 (2 * k + 2)) n ∙ stores_even first samples stores whole e)
      (inl (let b : count_after first stores ≡ 2 * (first + whole) + 1 = before in let a : count_after first (stores + 1) ≡ 2 * (first + (whole + 1)) + 0 = after in omega arith))

  -- K5: valid 1
  pub keeps_valid : stores % 13 ≡ 12 → Keeps 9 1
  keeps_valid position =
      let whole : ℕ = stores / 13 in
      let e : stores ≡ 13 * whole + 12 = omega arith in
      let e' : stores + 1 ≡ 13 * (whole + 1) + 0 = omega arith in
      let p = published_last stores whole e in
      let t' = position_is (stores + 1) (whole + 1) 0 e' (omega arith) in
      let p' = published_is (stores + 1) (whole + 1) 0 e' (omega arith) in
      further 9 1 (omega arith) (stores_valid first samples stores whole e)
      (inr (inr (count_in first stores 12 (whole + 1) position p ∙ sym (count_in first (stores + 1) 0 (whole + 1) t' p'), body_in samples stores 12 (whole + 1) position p ∙ sym (body_in samples (stores + 1) 0 (whole + 1) t' p'))))

  -- K1: valid 0, with which a sample joins the list
  pub keeps_invalid : (s : Sample) → stores % 13 ≡ 0 → first + length samples < 1_073_741_823 → IsSample s
      → Allows {S = Unit {0}} (HoldsOf first) slots seat me 9 (λ _. 0) (λ _ (after : Me (Unit {0}) View). after ≡ (begun me.0 s, []))
  keeps_invalid s position room range =
      let whole : ℕ = stores / 13 in
      let e : stores ≡ 13 * whole + 0 = omega arith in
      let e' : stores + 1 ≡ 13 * whole + 1 = omega arith in
      let next = samples ++ s ∷ [] in
      let p = published_is stores whole 0 e (omega arith) in
      let t' = position_is (stores + 1) whole 1 e' (omega arith) in
      let p' = published_is (stores + 1) whole 1 e' (omega arith) in
      let low : IsSound first samples stores → whole ≤ length samples = λ sound. let reach = sound.reaches in omega arith in
      let body : IsSound first samples stores → body_after samples stores ≡ body_after next (stores + 1) = λ sound.
      let same = sym (body_more samples (s ∷ []) whole (low sound)) in
      body_in samples stores 0 whole position p
      ∙ (λ i. slice_index (same i) 0 ∷ slice_index (same i) 1 ∷ slice_index (same i) 2 ∷ slice_index (same i) 3 ∷ slice_index (same i) 4 ∷ slice_index (same i) 5 ∷ slice_index (same i) 6 ∷ slice_index (same i) 7 ∷ slice_index (same i) 8 ∷ [])
      ∙ sym (body_in next (stores + 1) 1 whole t' p') in
      let long = length-append samples (s ∷ []) in
      subst (λ (u : Me (Unit {0}) View). Allows {S = Unit {0}} (HoldsOf first) slots seat u 9 (λ _. 0) (λ _ (after : Me (Unit {0}) View). after ≡ (begun u.0 s, []))) (sym is)
      (store_keeps first samples (s ∷ []) next stores slots seat 9 0 refl
      (λ sound. (
        record {
          reaches = let reach = sound.reaches in omega arith;
          ranges = All-append IsSample samples (s ∷ []) sound.ranges (All-cons IsSample s [] range (All-nil IsSample));
          numbers = omega arith;
        },
        stores_invalid first samples stores whole s e (low sound),
        inr (inr (count_in first stores 0 whole position p ∙ sym (count_in first (stores + 1) 1 whole t' p'), body sound)),
      )))

-- the words of the body are among the twelve
pub place_within : (place : ℕ) → place < 9 → slice_index body_places place < 12
place_within zero h = omega arith
place_within (suc zero) h = omega arith
place_within (suc (suc zero)) h = omega arith
place_within (suc (suc (suc zero))) h = omega arith
place_within (suc (suc (suc (suc zero)))) h = omega arith
place_within (suc (suc (suc (suc (suc zero))))) h = omega arith
place_within (suc (suc (suc (suc (suc (suc zero)))))) h = omega arith
place_within (suc (suc (suc (suc (suc (suc (suc zero))))))) h = omega arith
place_within (suc (suc (suc (suc (suc (suc (suc (suc zero)))))))) h = omega arith
place_within (suc (suc (suc (suc (suc (suc (suc (suc (suc place))))))))) h = absurd (omega arith)

pub new_words : (first : ℕ) → words_of first [] 0 ≡ 1 ∷ 2 * first ∷ 0 ∷ 0 ∷ 0 ∷ 0 ∷ 0 ∷ 0 ∷ 0 ∷ 0 ∷ 0 ∷ 0 ∷ []
unfolding words_of
new_words first = let e : 2 * (first + 0) + 0 ≡ 2 * first = omega arith in ap (λ (n : ℕ). 1 ∷ n ∷ 0 ∷ 0 ∷ 0 ∷ 0 ∷ 0 ∷ 0 ∷ 0 ∷ 0 ∷ 0 ∷ 0 ∷ []) e

-- a new segment keeps the rule
pub new_holds : (first : ℕ) → first ≤ 1_073_741_823 → SegmentHolds first (1 ∷ 2 * first ∷ 0 ∷ 0 ∷ 0 ∷ 0 ∷ 0 ∷ 0 ∷ 0 ∷ 0 ∷ 0 ∷ 0 ∷ []) (publisher first [] 0 ∷ [])
new_holds first low =
    record {
      writer = 0;
      samples = [];
      stores = 0;
      publisher = (publisher first [] 0, refl, refl);
      words_are = sym (new_words first);
      sound = record { reaches = omega arith; ranges = All-nil IsSample; numbers = omega arith };
      fits = λ seat v at. only seat v at;
    }
  where
    only : (seat : ℕ) (v : View) → get_elem? (publisher first [] 0 ∷ []) seat ≡ some v → Fits 0 first [] 0 seat v
    only zero v at = subst (Fits 0 first [] 0 0) (some-injective _ _ at) (publisher_fits 0 first [] 0 (omega arith))
    only (suc seat) v at = absurd (some-ne-none v (sym at))
