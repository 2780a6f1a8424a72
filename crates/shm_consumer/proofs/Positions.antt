-- A whole reading by steps, and that numbers which rise are of no two pairs.
use Rattle.std.proofs.Common.{◌≡◌, ◌≢◌, ℕ, zero, suc, ◌+◌, ◌<◌, ◌≤◌, List, [], ◌∷◌, ◌++◌, length, Some, refl, sym, ap, ◌∙◌, subst, arith, append_assoc, append-nil, length-append}
use Rattle.std.specs.Prelude.{slice_index, slice_get}
use Rattle.shm_segment.specs.declared.sample.Sample.{Sample}
use Rattle.shm_segment.specs.declared.view.Numbered.{Numbered}
use Rattle.shm_consumer.specs.declared.consumption.Consumption.{Consumption}
use Rattle.shm_consumer.specs.declared.consumption.Consumption.TheVariants.{Consumed, NotReady, Clash}
use Rattle.shm_consumer.specs.declared.consumption.TakeStep.{TakeStep}
use Rattle.shm_consumer.specs.declared.consumption.TakeStep.TheVariants.{Loaded, Cleared, Ended}
use Rattle.shm_consumer.specs.declared.view.Access.{Access}
use Rattle.shm_consumer.specs.declared.view.Access.TheVariants.{Load, Store}
use Rattle.shm_consumer.specs.Readings.{reading_words, loads_of, steps_of, EndsAs, pairs_with, IsRefusal}
use Rattle.shm_consumer.specs.Rule.{RisesStrictly, IsOnce}
use Rattle.shm_consumer.specs.Taking.{Taking, TakesAs, HasConsumed, IsAbove, HasSteps, HasLoaded}
use Rattle.shm_consumer.proofs.Reading.{above_snoc}

-- each number of a list that rises is above the number before the list
above_all : (low : ℕ) (xs : List Numbered) (j : ℕ) (b : Numbered) → RisesStrictly low xs → slice_get xs j ≡ Some b → low < b.number
above_all low [] j b rises e = absurd (cc)
above_all low (x ∷ xs) zero b rises e = let same : x ≡ b = cc in subst (λ (n : Numbered). low < n.number) same rises.0
above_all low (x ∷ xs) (suc j) b rises e = let more = above_all x.number xs j b rises.1 e in let here = rises.0 in omega arith

pub rises_once : (low : ℕ) (xs : List Numbered) → RisesStrictly low xs → IsOnce xs
rises_once low [] rises i j a b there here same = absurd (cc)
rises_once low (x ∷ xs) rises zero zero a b there here same = refl
rises_once low (x ∷ xs) rises zero (suc j) a b there here same =
    let first : x ≡ a = cc in
    let number = ap (λ (n : Numbered). n.number) first in
    let more = above_all x.number xs j b rises.1 here in
    absurd (omega arith)
rises_once low (x ∷ xs) rises (suc i) zero a b there here same =
    let first : x ≡ b = cc in
    let number = ap (λ (n : Numbered). n.number) first in
    let more = above_all x.number xs i a rises.1 there in
    absurd (omega arith)
rises_once low (x ∷ xs) rises (suc i) (suc j) a b there here same = let e = rises_once x.number xs rises.1 i j a b there here same in omega arith

-- one load more
loads_snoc : (words values : List ℕ) (value : ℕ) → length values < length words
    → loads_of words (values ++ value ∷ []) ≡ loads_of words values ++ Load (slice_index words (length values)) value ∷ []
loads_snoc [] values value h = absurd (omega arith)
loads_snoc (word ∷ words) [] value h = refl
loads_snoc (word ∷ words) (x ∷ values) value h = ap (λ (l : List Access). Load word x ∷ l) (loads_snoc words values value (omega arith))

length_loads : (words values : List ℕ) → length values ≤ length words → length (loads_of words values) ≡ length values
length_loads words [] h = refl
length_loads [] (x ∷ values) h = absurd (omega arith)
length_loads (word ∷ words) (x ∷ values) h = let e = length_loads words values (omega arith) in omega arith

twelve_long : (values : List ℕ) (before after valid : ℕ) (body : List ℕ) → length body ≡ 9 → values ≡ before ∷ valid ∷ (body ++ after ∷ []) → length values ≡ 12
twelve_long values before after valid body nine e = let l = ap length e in omega (arith, length-append body (after ∷ []))

-- how many values a reading has that ended so
abbrev values_in : Consumption → ℕ
values_in (Consumed number sample) = 12
values_in (NotReady count valid) = 2
values_in (Clash before after) = 12

ends_long : (end : Consumption) (values : List ℕ) → EndsAs end values → length values ≡ values_in end
ends_long (Consumed number sample) values e = let t = e.2 in twelve_long values e.0 e.0 t.0 e.1 t.2 t.3
ends_long (NotReady count valid) values e = ap length e.1
ends_long (Clash before after) values e = let t = e.1 in twelve_long values before after t.0 e.0 t.2 t.3

-- a running reading of this call
abbrev running : Taking → List ℕ → Taking
running old values =
    record { segment = old.segment; consumed = old.consumed; made = old.made ++ loads_of reading_words values; reading = values }

-- before the first load
pub starts : (view old : Taking) → view ≡ old → HasLoaded old (record { segment = view.segment; consumed = view.consumed; made = view.made; reading = [] }) 0
starts view old is =
    record {
      same = (λ i. record { segment = (is i).segment; consumed = (is i).consumed; made = (is i).made; reading = [] }) ∙ (λ i. record { segment = old.segment; consumed = old.consumed; made = sym (append-nil old.made) i; reading = [] });
      long = refl;
      more = omega arith;
    }

grown : (old : Taking) (values : List ℕ) (value : ℕ) → length values < 12 → (old.made ++ loads_of reading_words values) ++ Load (slice_index reading_words (length values)) value ∷ [] ≡ old.made ++ loads_of reading_words (values ++ value ∷ [])
grown old values value h =
    append_assoc old.made (loads_of reading_words values) (Load (slice_index reading_words (length values)) value ∷ [])
    ∙ ap (λ (l : List Access). old.made ++ l) (sym (loads_snoc reading_words values value h))

-- a load that goes on
pub goes : (old now : Taking) (n word value : ℕ) (new : Taking) → HasLoaded old now n → TakesAs now (Loaded word value) new → HasLoaded old new (n + 1)
goes old now n word value new has loads =
    let r : List ℕ = now.reading in
    let on = subst (λ (t : Taking). TakesAs t (Loaded word value) new) has.same loads in
    let more = on.1.more in
    let long = has.long in
    let next = r ++ value ∷ [] in
    let is : new ≡ running old next =
    on.2 ∙ (λ i. record { segment = old.segment; consumed = old.consumed; made = (old.made ++ loads_of reading_words r) ++ Load (on.0 i) value ∷ []; reading = next })
    ∙ (λ i. record { segment = old.segment; consumed = old.consumed; made = grown old r value more i; reading = next }) in
    subst (λ (t : Taking). HasLoaded old t (n + 1)) (sym is)
    (record { same = refl; long = omega (arith, length-append r (value ∷ [])); more = omega arith })

-- what holds at the end of a whole call
pub record Ends (old : Taking) (result : Consumption) (new : Taking) : Type 0 where
  pub consumed : HasConsumed old result new
  pub above : IsAbove old.consumed result
  pub steps : HasSteps result (length old.made) (length new.made)
  pub segment : new.segment ≡ old.segment

steps_refused : (end : Consumption) (before after k : ℕ) → IsRefusal end → k ≡ values_in end → after ≡ before + k → HasSteps end before after
steps_refused (Consumed number sample) before after k refused long made = absurd refused
steps_refused (NotReady count valid) before after k refused long made = omega arith
steps_refused (Clash first second) before after k refused long made = omega arith

above_refused : (end : Consumption) (pairs : List Numbered) → IsRefusal end → IsAbove pairs end
above_refused (Consumed number sample) pairs refused = absurd refused
above_refused (NotReady count valid) pairs refused = tt
above_refused (Clash before after) pairs refused = tt

refused_same : (end : Consumption) (old : Taking) (values : List ℕ) → IsRefusal end
    → ◌≡◌ {A = Taking} (record { segment = old.segment; consumed = old.consumed; made = old.made ++ loads_of reading_words values; reading = [] })
    (record { segment = old.segment; consumed = pairs_with end old.consumed; made = old.made ++ steps_of end values; reading = [] })
refused_same (Consumed number sample) old values refused = absurd refused
refused_same (NotReady count valid) old values refused = refl
refused_same (Clash before after) old values refused = refl

-- the load that ends the reading without a sample
pub ends : (old now : Taking) (n : ℕ) (end : Consumption) (new : Taking) → HasLoaded old now n → TakesAs now (Ended end) new → Ends old end new
ends old now n end new has loads =
    let r : List ℕ = now.reading in
    let on = subst (λ (t : Taking). TakesAs t (Ended end) new) has.same loads in
    let value : ℕ = on.0 in
    let values : List ℕ = r ++ value ∷ [] in
    let size = ends_long end values on.2 in
    let low = values_low end in
    let short : length r < 12 = omega (arith, length-append r (value ∷ [])) in
    let is : new ≡ record { segment = old.segment; consumed = old.consumed; made = old.made ++ loads_of reading_words values; reading = [] } =
    on.3 ∙ (λ i. record { segment = old.segment; consumed = old.consumed; made = grown old r value short i; reading = [] }) in
    let count = length_loads reading_words values (omega arith) in
    let all : length new.made ≡ length old.made + length values = ap (λ (t : Taking). length t.made) is ∙ (let e : length (old.made ++ loads_of reading_words values) ≡ length old.made + length values = omega (arith, length-append old.made (loads_of reading_words values)) in e) in
    record {
      consumed = (values, on.2, is ∙ refused_same end old values on.1);
      above = above_refused end old.consumed on.1;
      steps = steps_refused end (length old.made) (length new.made) (length values) on.1 size all;
      segment = ap (λ (t : Taking). t.segment) is;
    }
  where
    values_low : (e : Consumption) → values_in e ≤ 12
    values_low (Consumed number sample) = omega arith
    values_low (NotReady count valid) = omega arith
    values_low (Clash before after) = omega arith

-- the store that clears
pub clears : (old now : Taking) (n number : ℕ) (sample : Sample) (new : Taking) → HasLoaded old now n → TakesAs now (Cleared number sample) new → RisesStrictly 0 new.consumed
    → Ends old (Consumed number sample) new
clears old now n number sample new has stores rises =
    let r : List ℕ = now.reading in
    let pair : Numbered = record { number = number; sample = sample } in
    let on = subst (λ (t : Taking). TakesAs t (Cleared number sample) new) has.same stores in
    let size = ends_long (Consumed number sample) r on.0 in
    let loads = loads_of reading_words r in
    let is : new ≡ record { segment = old.segment; consumed = old.consumed ++ pair ∷ []; made = old.made ++ (loads ++ Store 9 0 ∷ []); reading = [] } =
    on.1 ∙ (λ i. record { segment = old.segment; consumed = old.consumed ++ pair ∷ []; made = append_assoc old.made loads (Store 9 0 ∷ []) i; reading = [] }) in
    let count = length_loads reading_words r (omega arith) in
    let all : length new.made ≡ length old.made + 13 = ap (λ (t : Taking). length t.made) is
    ∙ (let e : length (old.made ++ (loads ++ Store 9 0 ∷ [])) ≡ length old.made + 13 = omega (arith, length-append old.made (loads ++ Store 9 0 ∷ []), length-append loads (Store 9 0 ∷ [])) in e) in
    record {
      consumed = (r, on.0, is);
      above = above_snoc 0 old.consumed pair (subst (λ (t : Taking). RisesStrictly 0 t.consumed) is rises);
      steps = all;
      segment = ap (λ (t : Taking). t.segment) is;
    }

-- a step that can neither end the reading nor clear, by the number of its values
pub goes_by : (old now : Taking) (n : ℕ) (step : TakeStep) (new : Taking) → HasLoaded old now n → n < 11 → n ≢ 1 → TakesAs now step new → HasLoaded old new (n + 1)
goes_by old now n (Loaded word value) new has low other loads = goes old now n word value new has loads
goes_by old now n (Cleared number sample) new has low other stores =
    let size = ends_long (Consumed number sample) now.reading stores.0 in
    let long = has.long in
    absurd (omega arith)
goes_by old now n (Ended end) new has low other loads =
    absurd (ends_not end (let size = ends_long end (now.reading ++ loads.0 ∷ []) loads.2 in let long = has.long in omega (arith, length-append now.reading (loads.0 ∷ []))))
  where
    ends_not : (e : Consumption) → n + 1 ≡ values_in e → ⊥
    ends_not (Consumed number sample) e = omega arith
    ends_not (NotReady count valid) e = other (omega arith)
    ends_not (Clash before after) e = omega arith

-- the second count that does not end the reading
pub goes_again : (old now : Taking) (n : ℕ) (step : TakeStep) (new : Taking) → HasLoaded old now n → n ≡ 11 → ((end : Consumption) → step ≢ Ended end) → TakesAs now step new → HasLoaded old new 12
goes_again old now n (Loaded word value) new has full on loads =
    let next : n + 1 ≡ 12 = omega arith in
    subst (HasLoaded old new) next (goes old now n word value new has loads)
goes_again old now n (Cleared number sample) new has full on stores =
    let size = ends_long (Consumed number sample) now.reading stores.0 in
    let long = has.long in
    absurd (omega arith)
goes_again old now n (Ended end) new has full on loads = absurd (on end refl)
