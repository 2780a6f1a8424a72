-- A unit is stored as its first number, its samples and its stores say, through each change.
use Rattle.std.proofs.Common.{◌≡◌, ◌≢◌, ℕ, ◌+◌, ◌-◌, ◌*◌, ◌/◌, ◌%◌, ◌<◌, ◌≤◌, Bool, true, false, not, ◌&&◌, ◌||◌, List, [], ◌∷◌, ◌++◌, length, refl, sym, ap, ◌∙◌, subst, ⊎_elim, inl, inr, arith, length-append}
use Rattle.std.specs.Prelude.{nat_lt, ◌==◌, if◌then◌else◌}
use Rattle.std.proofs.lemmas.Bool.{ne_eqb, eqb-true}
use Rattle.std.proofs.lemmas.Bool.Decides.{nat_tests}
use Rattle.std.proofs.lemmas.List.{append_assoc, length-drop}
use Rattle.std.proofs.Math.Nat.{min-eq_left, min-eq_right}
use mathlib.Core.Logic.{◌⊎◌}
use Rattle.shm_segment.specs.declared.publisher.Phase.{Phase}
use Rattle.shm_segment.specs.declared.publisher.Phase.TheVariants.{Idle, ToInvalid, ToOdd, ToBody, ToEven, ToValid}
use Rattle.shm_segment.specs.declared.sample.Sample.{Sample}
use Rattle.shm_segment.specs.Publishing.{Publishing, IsPlace, beginning, count_of, next_of, samples_next, stepped as after_store, position_of, words_now}
use Rattle.shm_segment.specs.Words.{count_after, published_after, words_of}
use Rattle.shm_segment.proofs.Running.{words_more}
use Rattle.shm_segment.proofs.Words.{count_in}
use Rattle.book_units.specs.declared.unit.UnitStep.{UnitStep}
use Rattle.book_units.specs.declared.unit.UnitStep.TheVariants.{Stored, Empty, Spent}
use Rattle.book_units.specs.Changes.{UnitGains, turned}
use Rattle.book_units.specs.Steps.{Steps, StoresAs, state_of}
use Rattle.book_units.specs.Units.{UnitView, IsNew, all_of, begun_by, left_of, new_unit, unstored}
use Rattle.replay_player.specs.Stored.{IsStored, is_store, makes_store, shown_state, stores_at_end, stores_next}

pub is_new : (first : ℕ) (u : UnitView) → first ≤ 1_073_741_823 → IsNew first u → IsStored first [] 0 u
is_new first u low new =
    let begins : IsStored first [] 0 (new_unit u.publisher.segment) =
    record {
      first_is = new.0;
      stores_are = refl;
      samples_are = refl;
      position = refl;
      place = tt;
      begun = λ e. absurd (cc);
      count = refl;
      numbers = omega arith;
    } in
    subst (IsStored first [] 0) (sym new.1) begins

-- the publisher is as it was
module _ (first stores : ℕ) (samples : List Sample) (u v : UnitView) where
  pub moved : (longer : List Sample) → v.publisher ≡ u.publisher → all_of v ≡ longer → IsStored first samples stores u → IsStored first longer stores v
  moved longer same all is =
      record {
        first_is = ap (λ (p : Publishing). p.segment.first) same ∙ is.first_is;
        stores_are = ap (λ (p : Publishing). p.stores) same ∙ is.stores_are;
        samples_are = all;
        position = is.position ∙ sym (ap (λ (p : Publishing). position_of p.phase) same);
        place = subst (λ (p : Publishing). IsPlace p.phase) (sym same) is.place;
        begun = subst (λ (p : Publishing). p.phase ≢ ToInvalid) (sym same) is.begun;
        count = ap (λ (p : Publishing). length p.samples) same ∙ is.count;
        numbers = is.numbers;
      }

  pub gained : (more : List Sample) → IsStored first samples stores u → UnitGains more u v → IsStored first (samples ++ more) stores v
  gained more is gains =
      moved (samples ++ more) (ap (λ (x : UnitView). x.publisher) gains.becomes) (gains.all ∙ ap (λ (l : List Sample). l ++ more) is.samples_are) is

pub turned_unit : (first stores : ℕ) (samples : List Sample) (u : UnitView) → IsStored first samples stores u → IsStored first samples stores (turned u)
turned_unit first stores samples u is = moved first stores samples u (turned u) samples refl is.samples_are is

-- what follows a phase
position_next : (phase : Phase) (stores : ℕ) → phase ≢ Idle → IsPlace phase → stores % 13 ≡ position_of phase → (stores + 1) % 13 ≡ position_of (next_of phase)
position_next Idle stores busy place position = absurd (busy refl)
position_next ToInvalid stores busy place position = omega arith
position_next ToOdd stores busy place position = omega arith
position_next (ToBody place) stores busy within position = by_case (nat_lt place 8) refl
  where
    by_case : (b : Bool) → nat_lt place 8 ≡ b → (stores + 1) % 13 ≡ position_of (if b then ToBody (place + 1) else ToEven)
    by_case true test = let low : place < 8 = grind (arith, nat_tests) in omega arith
    by_case false test = let past : 8 ≤ place = grind (arith, nat_tests) in omega arith
position_next ToEven stores busy place position = omega arith
position_next ToValid stores busy place position = omega arith

place_next : (phase : Phase) → IsPlace (next_of phase)
place_next Idle = tt
place_next ToInvalid = tt
place_next ToOdd = omega arith
place_next (ToBody place) = by_case (nat_lt place 8) refl
  where
    by_case : (b : Bool) → nat_lt place 8 ≡ b → IsPlace (if b then ToBody (place + 1) else ToEven)
    by_case true test = let low : place < 8 = grind (arith, nat_tests) in omega arith
    by_case false test = tt
place_next ToEven = tt
place_next ToValid = tt

begun_next : (phase : Phase) → next_of phase ≢ ToInvalid
begun_next Idle = λ e. absurd (cc)
begun_next ToInvalid = λ e. absurd (cc)
begun_next ToOdd = λ e. absurd (cc)
begun_next (ToBody place) = by_case (nat_lt place 8)
  where
    by_case : (b : Bool) → (if b then ToBody (place + 1) else ToEven) ≢ ToInvalid
    by_case true = λ e. absurd (cc)
    by_case false = λ e. absurd (cc)
begun_next ToEven = λ e. absurd (cc)
begun_next ToValid = λ e. absurd (cc)

count_next : (phase : Phase) (samples : List Sample) (begun : Sample) (stores : ℕ) → phase ≢ Idle → IsPlace phase → stores % 13 ≡ position_of phase → length samples ≡ (stores + 12) / 13
    → length (samples_next phase samples begun) ≡ (stores + 1 + 12) / 13
count_next Idle samples begun stores busy place position count = absurd (busy refl)
count_next ToInvalid samples begun stores busy place position count = let parts = length-append samples (begun ∷ []) in omega arith
count_next ToOdd samples begun stores busy place position count = omega arith
count_next (ToBody p) samples begun stores busy place position count = omega arith
count_next ToEven samples begun stores busy place position count = omega arith
count_next ToValid samples begun stores busy place position count = omega arith

-- a publisher that has begun a sample, or is storing one
record IsBusy (first stores : ℕ) (p : Publishing) : Type 0 where
  first_is : p.segment.first ≡ first
  stores_are : p.stores ≡ stores
  position : stores % 13 ≡ position_of p.phase
  place : IsPlace p.phase
  busy : p.phase ≢ Idle
  count : length p.samples ≡ (stores + 12) / 13
  numbers : first + (stores + 13) / 13 ≤ 1_073_741_823

stored_next : (first stores : ℕ) (samples : List Sample) (p : Publishing) (v : UnitView) → IsBusy first stores p → v.publisher ≡ after_store p → all_of v ≡ samples → IsStored first samples (stores + 1) v
stored_next first stores samples p v is same all =
    record {
      first_is = ap (λ (q : Publishing). q.segment.first) same ∙ is.first_is;
      stores_are = ap (λ (q : Publishing). q.stores) same ∙ ap (λ (n : ℕ). n + 1) is.stores_are;
      samples_are = all;
      position = position_next p.phase stores is.busy is.place is.position ∙ sym (ap (λ (q : Publishing). position_of q.phase) same);
      place = subst (λ (q : Publishing). IsPlace q.phase) (sym same) (place_next p.phase);
      begun = subst (λ (q : Publishing). q.phase ≢ ToInvalid) (sym same) (begun_next p.phase);
      count = ap (λ (q : Publishing). length q.samples) same ∙ count_next p.phase p.samples p.begun stores is.busy is.place is.position is.count;
      numbers = let numbers = is.numbers in omega arith;
    }

-- the tests by which a store is made
by_tests : (first stores : ℕ) (samples : List Sample) (whole more full : Bool) → (stores % 13 == 0) ≡ whole → nat_lt (published_after stores) (length samples) ≡ more → (count_after first stores == 2_147_483_646) ≡ full
    → makes_store first samples stores ≡ (not whole || (more && not full))
unfolding makes_store
by_tests first stores samples whole more full a b c = λ i. not (a i) || (b i && not (c i))

storing : (phase : Phase) (stores : ℕ) → phase ≢ Idle → phase ≢ ToInvalid → stores % 13 ≡ position_of phase → 0 < stores % 13
storing Idle stores busy begun position = absurd (busy refl)
storing ToInvalid stores busy begun position = absurd (begun refl)
storing ToOdd stores busy begun position = omega arith
storing (ToBody place) stores busy begun position = omega arith
storing ToEven stores busy begun position = omega arith
storing ToValid stores busy begun position = omega arith

-- a test of several, if one decides
spoiled : (b : Bool) → (b && false) ≡ false
spoiled true = refl
spoiled false = refl

module _ (first stores : ℕ) (samples : List Sample) (u : UnitView) (is : IsStored first samples stores u) where
  -- between two samples
  idle_position : u.publisher.phase ≡ Idle → stores % 13 ≡ 0
  idle_position idle = is.position ∙ ap position_of idle

  count_whole : stores % 13 ≡ 0 → count_after first stores ≡ 2 * (first + published_after stores)
  count_whole position =
      count_in first stores 0 (published_after stores) position refl ∙ (let z : 2 * (first + published_after stores) + 0 ≡ 2 * (first + published_after stores) = omega arith in z)

  count_same : count_of u.publisher ≡ count_after first stores
  count_same = λ i. count_after (is.first_is i) (is.stores_are i)

  -- all samples: those with a store, and the waiting ones
  all_long : length samples ≡ (stores + 12) / 13 + length u.waiting
  all_long =
      let none = none_begun u.publisher.phase is.begun in
      let long = ap (λ (l : List Sample). length l) is.samples_are in
      let parts = length-append (begun_by u.publisher) u.waiting in
      let begun = length-append u.publisher.samples (unstored u.publisher.phase u.publisher.begun) in
      let count = is.count in
      omega arith
    where
      none_begun : (phase : Phase) → phase ≢ ToInvalid → length (unstored phase u.publisher.begun) ≡ 0
      none_begun Idle h = refl
      none_begun ToInvalid h = absurd (h refl)
      none_begun ToOdd h = refl
      none_begun (ToBody place) h = refl
      none_begun ToEven h = refl
      none_begun ToValid h = refl

  pub within : stores ≤ 13 * length samples
  within = let long = all_long in omega arith

  makes_while_storing : u.publisher.phase ≢ Idle → makes_store first samples stores ≡ true
  makes_while_storing busy =
      let some = storing u.publisher.phase stores busy is.begun is.position in
      by_tests first stores samples false _ _ (ne_eqb (stores % 13) 0 (λ none. omega arith)) refl refl

  makes_by_beginning : u.publisher.phase ≡ Idle → count_of u.publisher ≢ 2_147_483_646 → 0 < length u.waiting → makes_store first samples stores ≡ true
  makes_by_beginning idle free some =
      let position = idle_position idle in
      let long = all_long in
      let whole : (stores % 13 == 0) ≡ true = grind (arith, nat_tests) in
      let more : nat_lt (published_after stores) (length samples) ≡ true = grind (arith, nat_tests) in
      by_tests first stores samples true true false whole more (ne_eqb (count_after first stores) 2_147_483_646 (λ full. free (count_same ∙ full)))

  makes_none_empty : u.publisher.phase ≡ Idle → u.waiting ≡ [] → makes_store first samples stores ≡ false
  makes_none_empty idle none =
      let position = idle_position idle in
      let long = all_long in
      let waiting = ap (λ (l : List Sample). length l) none in
      let whole : (stores % 13 == 0) ≡ true = grind (arith, nat_tests) in
      let more : nat_lt (published_after stores) (length samples) ≡ false = grind (arith, nat_tests) in
      by_tests first stores samples true false _ whole more refl

  makes_none_spent : u.publisher.phase ≡ Idle → count_of u.publisher ≡ 2_147_483_646 → makes_store first samples stores ≡ false
  makes_none_spent idle spent =
      let position = idle_position idle in
      let count = sym count_same ∙ spent in
      let whole : (stores % 13 == 0) ≡ true = grind (arith, nat_tests) in
      let full : (count_after first stores == 2_147_483_646) ≡ true = grind (arith, nat_tests) in
      by_tests first stores samples true _ true whole refl full ∙ spoiled (nat_lt (published_after stores) (length samples))

  while_storing : u.publisher.phase ≢ Idle → IsBusy first stores u.publisher
  while_storing busy =
      let some = storing u.publisher.phase stores busy is.begun is.position in
      let numbers = is.numbers in
      record { first_is = is.first_is; stores_are = is.stores_are; position = is.position; place = is.place; busy = busy; count = is.count; numbers = omega arith }

  by_beginning : (sample : Sample) → u.publisher.phase ≡ Idle → count_of u.publisher ≢ 2_147_483_646 → IsBusy first stores (beginning u.publisher sample)
  by_beginning sample idle free =
      let position = idle_position idle in
      let count = count_whole position in
      let numbers = is.numbers in
      let short : first + (stores + 12) / 13 ≢ 1_073_741_823 = λ full. free (count_same ∙ omega arith) in
      record { first_is = is.first_is; stores_are = is.stores_are; position = position; place = tt; busy = λ e. absurd (cc); count = is.count; numbers = omega arith }

  -- the next step
  next_is : (b : Bool) (v : UnitView) → makes_store first samples stores ≡ b → IsStored first samples (if b then stores + 1 else stores) v → IsStored first samples (stores_next first samples stores) v
  unfolding stores_next
  next_is b v made stored = subst (λ (c : Bool). IsStored first samples (if c then stores + 1 else stores) v) (sym made) stored

  pub steps_as : (step : UnitStep) (v : UnitView) → Steps step u v → (is_store step ≡ makes_store first samples stores) × IsStored first samples (stores_next first samples stores) v
  steps_as (Stored word value) v steps =
      let ready : UnitView = steps.does.0 in
      let stored : StoresAs ready (Stored word value) v = steps.does.2 in
      let all = steps.all ∙ is.samples_are in
      let given : makes_store first samples stores ≡ true → IsBusy first stores ready.publisher → (true ≡ makes_store first samples stores) × IsStored first samples (stores_next first samples stores) v =
      λ made busy. (sym made, next_is true v made (stored_next first stores samples ready.publisher v busy stored.0.becomes all)) in
      ⊎_elim (λ on. given (makes_while_storing on.0) (subst (λ (x : UnitView). IsBusy first stores x.publisher) (sym on.1) (while_storing on.0)))
      (λ begins. given
      (makes_by_beginning begins.0 begins.1 (let some = ap (λ (l : List Sample). length l) begins.2.1 in omega arith))
      (subst (λ (x : UnitView). IsBusy first stores x.publisher) (sym begins.2.2) (by_beginning begins.2.0 begins.0 begins.1))) steps.does.1
  steps_as Empty v steps =
      let made = makes_none_empty steps.does.0 steps.does.1 in
      (sym made, next_is false v made (subst (IsStored first samples stores) (sym steps.does.2) is))
  steps_as Spent v steps =
      let made = makes_none_spent steps.does.0 steps.does.2 in
      (sym made, next_is false v made (subst (IsStored first samples stores) (sym steps.does.3) is))

  pub is_stored : (step : UnitStep) (v : UnitView) → Steps step u v → is_store step ≡ makes_store first samples stores
  is_stored step v steps = (steps_as step v steps).0

  pub stepped : (step : UnitStep) (v : UnitView) → Steps step u v → IsStored first samples (stores_next first samples stores) v
  stepped step v steps = (steps_as step v steps).1

  -- what the words are, and what the unit shows
  pub words_are : words_now u.publisher ≡ words_of first samples stores
  words_are =
      let p : Publishing = u.publisher in
      let later : List Sample = unstored p.phase p.begun ++ u.waiting in
      let parts : p.samples ++ later ≡ samples = sym (append_assoc p.samples (unstored p.phase p.begun) u.waiting) ∙ is.samples_are in
      let count = is.count in
      let reach : stores ≤ 13 * length p.samples = omega arith in
      (λ i. words_of (is.first_is i) p.samples (is.stores_are i)) ∙ sym (words_more first p.samples later stores reach) ∙ ap (λ (l : List Sample). words_of first l stores) parts

  pub state_is : state_of u ≡ shown_state first samples stores
  state_is =
      let left : length (left_of u) ≡ length samples - published_after stores =
      length-drop (published_after u.publisher.stores) (all_of u) ∙ (λ i. length (is.samples_are i) - published_after (is.stores_are i)) in
      λ i. record { published = published_after (is.stores_are i); count = count_after (is.first_is i) (is.stores_are i); left = left i }

  -- no store is made between two samples if none is to come, or count is at its greatest
  none_made : (whole more full : Bool) → (stores % 13 == 0) ≡ whole → nat_lt (published_after stores) (length samples) ≡ more → (count_after first stores == 2_147_483_646) ≡ full
      → makes_store first samples stores ≡ false → (stores % 13 ≡ 0) × ((length samples ≤ published_after stores) ⊎ (count_after first stores ≡ 2_147_483_646))
  none_made false more full a b c made = absurd (let some = by_tests first stores samples false more full a b c in cc)
  none_made true true false a b c made = absurd (let some = by_tests first stores samples true true false a b c in cc)
  none_made true false full a b c made = (eqb-true (stores % 13) 0 a, inl (grind (arith, nat_tests)))
  none_made true true true a b c made = (eqb-true (stores % 13) 0 a, inr (eqb-true (count_after first stores) 2_147_483_646 c))

  pub at_end : makes_store first samples stores ≡ false → stores ≡ stores_at_end first samples
  at_end made =
      let none = none_made (stores % 13 == 0) (nat_lt (published_after stores) (length samples)) (count_after first stores == 2_147_483_646) refl refl refl made in
      let position = none.0 in
      let long = all_long in
      let numbers = is.numbers in
      ⊎_elim
      (λ few.
      let all : length samples ≡ published_after stores = omega arith in
      let low : length samples ≤ 1_073_741_823 - first = omega arith in
      let least = min-eq_left low in
      omega arith)
      (λ full.
      let count = count_whole position in
      let reached : published_after stores ≡ 1_073_741_823 - first = omega arith in
      let low : 1_073_741_823 - first ≤ length samples = omega arith in
      let least = min-eq_right low in
      omega arith) none.1
