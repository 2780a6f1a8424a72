-- Each of the giver's five kinds of store keeps the rule.
use Rattle.std.proofs.Common.{◌≡◌, ◌≢◌, ℕ, zero, suc, ◌+◌, ◌*◌, ◌/◌, ◌%◌, ◌<◌, ◌≤◌, true, List, [], ◌∷◌, ◌++◌, length, set, refl, sym, ap, ◌∙◌, subst, inl, inr, append-nil, arith, length-append}
use Rattle.std.specs.Prelude.{slice_index}
use Rattle.std.proofs.lemmas.List.{set_comm, set-set}
use Rattle.std.proofs.lemmas.List.Elements.{All-append, All-cons, All-nil}
use Rattle.atomic_table.specs.Table.{Me, Allows}
use Rattle.atomic_table.specs.Table.{keeps as no_slot}
use Rattle.shm_segment.specs.declared.sample.Sample.{Sample}
use Rattle.shm_segment.specs.declared.view.KnownSamples.{KnownSamples}
use Rattle.shm_segment.specs.Samples.{IsSample}
use Rattle.shm_segment.specs.Words.{count_after, body_at, body_after, words_of, body_places}
use Rattle.shm_segment.specs.Rule.{IsSound, IsTold, IsPublished}
use Rattle.shm_segment.proofs.Samples.{body_more}
use Rattle.shm_segment.proofs.Words.{count_in, odd_count, body_in, position_is, published_is, published_last, stores_invalid, stores_odd, stores_body, stores_even, stores_valid}
use Rattle.shm_segment.proofs.Running.{StoreEffect}
use Rattle.shm_consumer.specs.declared.view.Role.{Role}
use Rattle.shm_consumer.specs.declared.view.Role.TheVariants.{Gives}
use Rattle.shm_consumer.specs.declared.view.View.{View}
use Rattle.shm_consumer.specs.Views.{idle, giver, begun, stored}
use Rattle.shm_consumer.specs.Rule.{words_with, IsValid, IsBehind, Fits, HoldsOf, may_give, may_take}
use Rattle.shm_consumer.proofs.Keeps.{role_on, fits_set, fits_on, at_giver, behind_on}

-- the view of a seat that has consumed nothing and reads nothing
pub idle_fits : (gives takes first : ℕ) (samples : List Sample) (stores last seat : ℕ) (role : Role) (k : KnownSamples)
    → (may_give role ≡ true → (seat ≡ gives) × (k.samples ≡ samples) × (k.stores ≡ stores)) → (may_take role ≡ true → (seat ≡ takes) × (0 ≡ last)) → IsTold samples stores k
    → Fits gives takes first samples stores last seat (idle role first k)
idle_fits gives takes first samples stores last seat role k give take told =
    record {
      first_same = λ _. refl;
      gives = give;
      takes = take;
      told = told;
      consumed = All-nil (IsPublished first samples stores);
      rises = tt;
      running = tt;
      read = tt;
    }

-- the giver's own view fits
pub giver_fits : (takes first seat : ℕ) (samples : List Sample) (stores last : ℕ) → stores ≤ 13 * length samples → Fits seat takes first samples stores last seat (giver first samples stores)
giver_fits takes first seat samples stores last reach =
    idle_fits seat takes first samples stores last seat Gives (record { samples = samples; stores = stores }) (λ _. (refl, refl, refl)) (λ none. absurd (cc))
    (record { earlier = omega arith; reaches = reach; begins = ([], append-nil samples) })

-- what a store of this word and value does, whatever valid and the taker's last number are
pub record Leads (first : ℕ) (samples next : List Sample) (stores word value last valid valid' : ℕ) : Type 0 where
  pub sound : IsSound first next (stores + 1)
  pub words : set (words_with first samples stores valid) word value ≡ words_with first next (stores + 1) valid'
  pub is : IsValid first (stores + 1) last valid'
  pub effect : StoreEffect first samples next stores

-- a store of the giver adds these samples
module _ (first : ℕ) (samples more next : List Sample) (stores : ℕ) where
  pub store_keeps : (slots seat word value : ℕ) → samples ++ more ≡ next
      → ((last valid : ℕ) → IsSound first samples stores → IsValid first stores last valid → IsBehind first stores last → (valid' : ℕ) × Leads first samples next stores word value last valid valid')
      → Allows {S = Unit {0}} (HoldsOf first) slots seat (giver first samples stores, []) word (λ _. value) (λ _ (after : Me (Unit {0}) View). after ≡ (giver first next (stores + 1), []))
  store_keeps slots seat word value e law s h homes at small =
      let here = at_giver first first s.words s.views seat samples stores h at in
      let new = law here.last here.valid here.sound here.valid_is here.behind in
      let leads = new.1 in
      let sound = leads.sound in
      let w : View = giver first next (stores + 1) in (
        w,
        no_slot,
        tt,
        record {
          giver = seat;
          taker = here.takes;
          samples = next;
          stores = stores + 1;
          last = here.last;
          valid = new.0;
          gives = role_on may_give s.views seat seat (giver first samples stores) w at refl here.giver_is;
          takes = role_on may_take s.views seat here.takes (giver first samples stores) w at refl here.taker_is;
          words_are = ap (λ (ws : List ℕ). set ws word value) here.words_are ∙ leads.words;
          valid_is = leads.is;
          sound = sound;
          behind = behind_on first stores here.last here.behind;
          fits = fits_set seat here.takes first next (stores + 1) here.last s.views seat w
              (λ j u other at'. fits_on seat here.takes first samples more next stores here.last j u e leads.effect other (here.fits j u at'))
              (giver_fits here.takes first seat next (stores + 1) here.last sound.reaches);
        },
        refl,
      )

sound_on : (first : ℕ) (samples : List Sample) (stores : ℕ) → 0 < stores % 13 → IsSound first samples stores → IsSound first samples (stores + 1)
sound_on first samples stores position sound =
    record { reaches = let reach = sound.reaches in let n : ℕ = length samples in omega arith; ranges = sound.ranges; numbers = sound.numbers }

-- a store of another word than valid
other_word : (ws next : List ℕ) (word value valid : ℕ) → word ≢ 9 → set ws word value ≡ next → set (set ws 9 valid) word value ≡ set next 9 valid
other_word ws next word value valid other law = set_comm ws 9 word valid value (λ same. other (sym same)) ∙ ap (λ (l : List ℕ). set l 9 valid) law

-- a store of valid
same_word : (ws next : List ℕ) (value valid : ℕ) → set ws 9 value ≡ next → set (set ws 9 valid) 9 value ≡ set next 9 value
same_word ws next value valid law = set-set ws 9 valid value ∙ sym (set-set ws 9 value value) ∙ ap (λ (l : List ℕ). set l 9 value) law

-- while a sample is stored, valid is 0 and stays 0
valid_low : (first stores last valid : ℕ) → 0 < stores % 13 → IsValid first stores last valid → valid ≡ 0
valid_low first stores last valid position is = by_value valid refl is.either
  where
    by_value : (n : ℕ) → valid ≡ n → n ≤ 1 → valid ≡ 0
    by_value zero e h = e
    by_value (suc zero) e h = let ended = is.ended e in absurd (omega arith)
    by_value (suc (suc n)) e h = absurd (omega arith)

pub valid_zero : (first stores last : ℕ) → IsValid first stores last 0
valid_zero first stores last =
    record { either = omega arith; ended = λ none. absurd (omega arith); some = λ none. absurd (omega arith); above = λ none. absurd (omega arith) }

-- a store after the first of a sample
module _ (first slots seat : ℕ) (samples : List Sample) (stores : ℕ) (me : Me (Unit {0}) View) (is : me ≡ (giver first samples stores, [])) where
  abbrev Keeps : ℕ → ℕ → Type 0
  Keeps word value = Allows {S = Unit {0}} (HoldsOf first) slots seat me word (λ _. value) (λ _ (after : Me (Unit {0}) View). after ≡ (stored me.0, []))

  at_seat : (word value : ℕ) → Allows {S = Unit {0}} (HoldsOf first) slots seat (giver first samples stores, []) word (λ _. value) (λ _ (after : Me (Unit {0}) View). after ≡ (giver first samples (stores + 1), [])) → Keeps word value
  at_seat word value = subst (λ (u : Me (Unit {0}) View). Allows {S = Unit {0}} (HoldsOf first) slots seat u word (λ _. value) (λ _ (after : Me (Unit {0}) View). after ≡ (stored u.0, []))) (sym is)

  -- a word but valid
  further : (word value : ℕ) → 0 < stores % 13 → word ≢ 9 → set (words_of first samples stores) word value ≡ words_of first samples (stores + 1) → StoreEffect first samples samples stores → Keeps word value
  further word value position other law effect =
      at_seat word value
      (store_keeps first samples [] samples stores slots seat word value (append-nil samples)
      (λ last valid sound low behind. (
        0,
        record {
          sound = sound_on first samples stores position sound;
          words = other_word (words_of first samples stores) (words_of first samples (stores + 1)) word value valid other law
              ∙ ap (λ (v : ℕ). words_with first samples (stores + 1) v) (valid_low first stores last valid position low);
          is = valid_zero first (stores + 1) last;
          effect = effect;
        },
      )))

  -- the odd count
  pub keeps_odd : (number : ℕ) → stores % 13 ≡ 1 → number ≡ first + stores / 13 → Keeps 1 (2 * number + 1)
  keeps_odd number position n =
      let whole : ℕ = stores / 13 in
      let e : stores ≡ 13 * whole + 1 = omega arith in
      let e' : stores + 1 ≡ 13 * whole + 2 = omega arith in
      let before = count_in first stores 1 whole position (published_is stores whole 1 e (omega arith)) in
      let after = count_in first (stores + 1) 2 whole (position_is (stores + 1) whole 2 e' (omega arith)) (published_is (stores + 1) whole 2 e' (omega arith)) in
      further 1 (2 * number + 1) (omega arith) (λ same. omega arith)
      (ap (λ (k : ℕ). set (words_of first samples stores) 1 (2 * k + 1)) n ∙ stores_odd first samples stores whole e)
      (inl (let b : count_after first stores ≡ 2 * (first + whole) + 0 = before in let a : count_after first (stores + 1) ≡ 2 * (first + whole) + 1 = after in omega arith))

  -- a word of the body
  pub keeps_body : (place value : ℕ) → place < 9 → slice_index body_places place ≢ 9 → stores % 13 ≡ place + 2 → slice_index (body_at samples (stores / 13 + 1)) place ≡ value → Keeps (slice_index body_places place) value
  keeps_body place value within other position v =
      let whole : ℕ = stores / 13 in
      let e : stores ≡ 13 * whole + (place + 2) = omega arith in
      let e' : stores + 1 ≡ 13 * whole + (place + 3) = omega arith in
      let before = odd_count first (place + 2) whole stores (omega arith) (omega arith) position (published_is stores whole (place + 2) e (omega arith)) in
      let after = odd_count first (place + 3) whole (stores + 1) (omega arith) (omega arith) (position_is (stores + 1) whole (place + 3) e' (omega arith)) (published_is (stores + 1) whole (place + 3) e' (omega arith)) in
      further (slice_index body_places place) value (omega arith) other
      (ap (λ (x : ℕ). set (words_of first samples stores) (slice_index body_places place) x) (sym v) ∙ stores_body first samples stores whole place within e)
      (inr (inl (before ∙ sym after, ap (λ (n : ℕ). n % 2) before ∙ (let o : (2 * (first + whole) + 1) % 2 ≡ 1 = omega arith in o))))

  -- the even count, which publishes the sample
  pub keeps_even : (number : ℕ) → stores % 13 ≡ 11 → number ≡ first + stores / 13 → Keeps 1 (2 * number + 2)
  keeps_even number position n =
      let whole : ℕ = stores / 13 in
      let e : stores ≡ 13 * whole + 11 = omega arith in
      let e' : stores + 1 ≡ 13 * whole + 12 = omega arith in
      let before = count_in first stores 11 whole position (published_is stores whole 11 e (omega arith)) in
      let after = count_in first (stores + 1) 12 (whole + 1) (position_is (stores + 1) whole 12 e' (omega arith)) (published_last (stores + 1) whole e') in
      further 1 (2 * number + 2) (omega arith) (λ same. omega arith)
      (ap (λ (k : ℕ). set (words_of first samples stores) 1 (2 * k + 2)) n ∙ stores_even first samples stores whole e)
      (inl (let b : count_after first stores ≡ 2 * (first + whole) + 1 = before in let a : count_after first (stores + 1) ≡ 2 * (first + (whole + 1)) + 0 = after in omega arith))

  -- valid 1: the sample's number is above the taker's last
  pub keeps_valid : stores % 13 ≡ 12 → Keeps 9 1
  keeps_valid position =
      let whole : ℕ = stores / 13 in
      let e : stores ≡ 13 * whole + 12 = omega arith in
      let e' : stores + 1 ≡ 13 * (whole + 1) + 0 = omega arith in
      let p = published_last stores whole e in
      let t' = position_is (stores + 1) (whole + 1) 0 e' (omega arith) in
      let p' = published_is (stores + 1) (whole + 1) 0 e' (omega arith) in
      at_seat 9 1
      (store_keeps first samples [] samples stores slots seat 9 1 (append-nil samples)
      (λ last valid sound low behind. (
        1,
        record {
          sound = sound_on first samples stores (omega arith) sound;
          words = same_word (words_of first samples stores) (words_of first samples (stores + 1)) 1 valid (stores_valid first samples stores whole e);
          is = record { either = omega arith; ended = λ _. t'; some = λ _. omega arith; above = λ _. let below = behind.below position in omega arith };
          effect = inr (inr (count_in first stores 12 (whole + 1) position p ∙ sym (count_in first (stores + 1) 0 (whole + 1) t' p'), body_in samples stores 12 (whole + 1) position p ∙ sym (body_in samples (stores + 1) 0 (whole + 1) t' p')));
        },
      )))

  -- valid 0, with which a sample joins the list
  pub keeps_invalid : (s : Sample) → stores % 13 ≡ 0 → first + length samples < 1_073_741_823 → IsSample s
      → Allows {S = Unit {0}} (HoldsOf first) slots seat me 9 (λ _. 0) (λ _ (after : Me (Unit {0}) View). after ≡ (begun me.0 s, []))
  keeps_invalid s position room range =
      let whole : ℕ = stores / 13 in
      let e : stores ≡ 13 * whole + 0 = omega arith in
      let e' : stores + 1 ≡ 13 * whole + 1 = omega arith in
      let next = samples ++ s ∷ [] in
      let p = published_is stores whole 0 e (omega arith) in
      let t' = position_is (stores + 1) whole 1 e' (omega arith) in
      let p' = published_is (stores + 1) whole 1 e' (omega arith) in
      let low : IsSound first samples stores → whole ≤ length samples = λ sound. let reach = sound.reaches in omega arith in
      let body : IsSound first samples stores → body_after samples stores ≡ body_after next (stores + 1) = λ sound.
      let same = sym (body_more samples (s ∷ []) whole (low sound)) in
      body_in samples stores 0 whole position p
      ∙ (λ i. slice_index (same i) 0 ∷ slice_index (same i) 1 ∷ slice_index (same i) 2 ∷ slice_index (same i) 3 ∷ slice_index (same i) 4 ∷ slice_index (same i) 5 ∷ slice_index (same i) 6 ∷ slice_index (same i) 7 ∷ slice_index (same i) 8 ∷ [])
      ∙ sym (body_in next (stores + 1) 1 whole t' p') in
      let long = length-append samples (s ∷ []) in
      subst (λ (u : Me (Unit {0}) View). Allows {S = Unit {0}} (HoldsOf first) slots seat u 9 (λ _. 0) (λ _ (after : Me (Unit {0}) View). after ≡ (begun u.0 s, []))) (sym is)
      (store_keeps first samples (s ∷ []) next stores slots seat 9 0 refl
      (λ last valid sound was behind. (
        0,
        record {
          sound = record {
            reaches = let reach = sound.reaches in omega arith;
            ranges = All-append IsSample samples (s ∷ []) sound.ranges (All-cons IsSample s [] range (All-nil IsSample));
            numbers = omega arith;
          };
          words = same_word (words_of first samples stores) (words_of first next (stores + 1)) 0 valid (stores_invalid first samples stores whole s e (low sound));
          is = valid_zero first (stores + 1) last;
          effect = inr (inr (count_in first stores 0 whole position p ∙ sym (count_in first (stores + 1) 1 whole t' p'), body sound));
        },
      )))

-- the words of the body are among the twelve, and none is valid
pub place_within : (place : ℕ) → place < 9 → (slice_index body_places place < 12) × (slice_index body_places place ≢ 9)
place_within zero h = (omega arith, λ e. omega arith)
place_within (suc zero) h = (omega arith, λ e. omega arith)
place_within (suc (suc zero)) h = (omega arith, λ e. omega arith)
place_within (suc (suc (suc zero))) h = (omega arith, λ e. omega arith)
place_within (suc (suc (suc (suc zero)))) h = (omega arith, λ e. omega arith)
place_within (suc (suc (suc (suc (suc zero))))) h = (omega arith, λ e. omega arith)
place_within (suc (suc (suc (suc (suc (suc zero)))))) h = (omega arith, λ e. omega arith)
place_within (suc (suc (suc (suc (suc (suc (suc zero))))))) h = (omega arith, λ e. omega arith)
place_within (suc (suc (suc (suc (suc (suc (suc (suc zero)))))))) h = (omega arith, λ e. omega arith)
place_within (suc (suc (suc (suc (suc (suc (suc (suc (suc place))))))))) h = absurd (omega arith)
