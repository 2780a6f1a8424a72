-- What a step does to what a taker keeps.
use Rattle.std.proofs.Common.{◌≡◌, ◌≢◌, ℕ, suc, ◌+◌, ◌-◌, ◌<◌, ◌≤◌, Bool, true, false, List, [], ◌∷◌, ◌++◌, length, take, set, Some, None, refl, sym, ap, ◌∙◌, subst, arith, length-append}
use Rattle.std.specs.Prelude.{Option, slice_index, if◌then◌else◌, ◌==◌}
use Rattle.std.proofs.lemmas.Bool.Decides.{nat_tests}
use Rattle.std.proofs.lemmas.List.{take_more_set, get_or_append_left, length-take, length-set, take-append-le, take_all}
use Rattle.atomic_table.specs.Seated.{TableId}
use Rattle.atomic_table.specs.Table.{Me}
use Rattle.shm_segment.specs.declared.view.Numbered.{Numbered}
use Rattle.shm_segment.specs.Words.{body_places}
use Rattle.shm_consumer.specs.declared.consumption.Consumption.TheVariants.{Clash}
use Rattle.shm_consumer.specs.declared.consumption.TakeStep.TheVariants.{Loaded, Ended}
use Rattle.shm_consumer.specs.declared.view.Access.TheVariants.{Load}
use Rattle.shm_consumer.specs.declared.view.View.{View}
use Rattle.shm_consumer.specs.Readings.{reading_words}
use Rattle.shm_consumer.specs.Rule.{IsRecounted}
use Rattle.shm_consumer.specs.Taking.{Taking, taking, values_of, IsTaker, TakesAs, after_step}
use Rattle.shm_consumer.specs.Views.{after, fetched, pair_of, pair_after, recounted}

-- the reading is as long as the number of its values
pub length_values : (at count : ℕ) (body : List ℕ) → at ≤ 12 → length body ≡ 9 → length (values_of at count body) ≡ at
length_values at count body h nine = omega (arith, length-take at (count ∷ 1 ∷ (body ++ count ∷ [])), length-append body (count ∷ []))

-- the values before the second count
values_short : (k count : ℕ) (body : List ℕ) → k ≤ length body → values_of (suc (suc k)) count body ≡ count ∷ 1 ∷ take k body
values_short k count body h = ap (λ (l : List ℕ). count ∷ 1 ∷ l) (take-append-le k body (count ∷ []) h)

more_values : (at k count value : ℕ) (body : List ℕ) → at ≡ k + 2 → k < length body → values_of (at + 1) count (set body k value) ≡ values_of at count body ++ value ∷ []
more_values at k count value body e h =
    let next : at + 1 ≡ suc (suc (k + 1)) = omega arith in
    let here : suc (suc k) ≡ at = omega arith in
    ap (λ (n : ℕ). values_of n count (set body k value)) next
    ∙ values_short (k + 1) count (set body k value) (omega (arith, length-set body k value))
    ∙ ap (λ (l : List ℕ). count ∷ 1 ∷ l) (take_more_set body k value h)
    ∙ ap (λ (l : List ℕ). l ++ value ∷ []) (sym (values_short k count body (omega arith)))
    ∙ ap (λ (n : ℕ). values_of n count body ++ value ∷ []) here

body_word : (at k : ℕ) → at ≡ k + 2 → k < 9 → slice_index body_places k ≡ slice_index reading_words at
body_word at k e h =
    let here : suc (suc k) ≡ at = omega arith in
    sym (get_or_append_left body_places (1 ∷ []) 0 k h) ∙ ap (λ (n : ℕ). slice_index reading_words n) here

-- a word of the body
body_here : (table : TableId) (me : Me (Unit {0}) View) (at count value : ℕ) (body : List ℕ) → IsTaker me at count body → 2 ≤ at → at < 11
    → IsTaker (fetched me.0 (slice_index body_places (at - 2)) value, []) (at + 1) count (set body (at - 2) value)
    × TakesAs (taking table me.0 (values_of at count body)) (Loaded (slice_index body_places (at - 2)) value)
    (taking table (fetched me.0 (slice_index body_places (at - 2)) value) (values_of (at + 1) count (set body (at - 2) value)))
body_here table me at count value body is low high =
    let nine = is.nine in
    let k : ℕ = at - 2 in
    let e : at ≡ k + 2 = omega arith in
    let within : k < length body = omega arith in
    let more = more_values at k count value body e within in
    let long = length_values at count body (omega arith) nine in
    let word = body_word at k e (omega arith) in
    let place = word ∙ ap (λ (n : ℕ). slice_index reading_words n) (sym long) in (
      record {
        role = is.role;
        free = refl;
        places = omega arith;
        nine = omega (arith, length-set body k value);
        values = λ _ _. ap (λ (l : List ℕ). l ++ value ∷ []) (is.values (omega arith) (omega arith)) ∙ sym more;
        whole = λ full. absurd (omega arith);
        pair = λ full. absurd (omega arith);
        rises = is.rises;
      },
      (
        place,
        record { more = omega arith; ready = λ none. absurd (omega arith); same = λ none. absurd (omega arith) },
        λ i. taking table (fetched me.0 (slice_index body_places k) value) (more i),
      ),
    )

pub body_seen : (table table' : TableId) (me me' : Me (Unit {0}) View) (at count value : ℕ) (body : List ℕ) (old : Taking) (index word : ℕ)
    → IsTaker me at count body → taking table me.0 (values_of at count body) ≡ old → 2 ≤ length old.reading → length old.reading < 11
    → index ≡ at - 2 → word ≡ slice_index body_places (at - 2) → table' ≡ table → me' ≡ (fetched me.0 (slice_index body_places (at - 2)) value, [])
    → IsTaker me' (at + 1) count (set body index value)
    × TakesAs old (Loaded word value) (taking table' me'.0 (values_of (at + 1) count (set body index value)))
body_seen table table' me me' at count value body old index word is view from to i w t m =
    let long : length old.reading ≡ at = ap (λ (x : Taking). length x.reading) (sym view) ∙ length_values at count body is.places is.nine in
    let low : 2 ≤ at = omega arith in
    let high : at < 11 = omega arith in
    subst
    (λ (x : Taking × ℕ × ℕ × TableId × Me (Unit {0}) View). IsTaker x.4 (at + 1) count (set body x.1 value) × TakesAs x.0 (Loaded x.2 value) (taking x.3 x.4.0 (values_of (at + 1) count (set body x.1 value))))
    (λ j. (view j, sym i j, sym w j, sym t j, sym m j))
    (body_here table me at count value body is low high)

-- the second count
module _ (table table' : TableId) (me me' : Me (Unit {0}) View) (at count again : ℕ) (body : List ℕ) (old : Taking) (is : IsTaker me at count body)
    (view : taking table me.0 (values_of at count body) ≡ old) (full : length old.reading ≡ 11) (t : table' ≡ table) (m : me' ≡ (recounted me.0 again, [])) (tells : IsRecounted me.0 again) where
  at_end : at ≡ 11
  at_end = sym (length_values at count body is.places is.nine) ∙ ap (λ (x : Taking). length x.reading) view ∙ full

  values : values_of at count body ≡ count ∷ 1 ∷ body
  values =
      let nine : 9 ≡ length body = sym is.nine in
      ap (λ (n : ℕ). values_of n count body) at_end ∙ values_short 9 count body (omega arith) ∙ ap (λ (l : List ℕ). count ∷ 1 ∷ l) (take_all 9 body (omega arith))

  reading : me.0.reading ≡ count ∷ 1 ∷ body
  reading = is.values (let e = at_end in omega arith) (let e = at_end in omega arith) ∙ values

  all_values : values_of 12 count body ≡ count ∷ 1 ∷ (body ++ count ∷ [])
  all_values =
      let nine = is.nine in
      take_all 12 (count ∷ 1 ∷ (body ++ count ∷ [])) (omega (arith, length-append body (count ∷ [])))

  old_reading : old.reading ≡ count ∷ 1 ∷ body
  old_reading = ap (λ (x : Taking). x.reading) (sym view) ∙ values

  word : 1 ≡ slice_index reading_words (length old.reading)
  word = ap (λ (n : ℕ). slice_index reading_words n) (sym full)

  -- the view after the load, with the pair that was read
  next : (read : Option Numbered) → pair_after (count ∷ 1 ∷ body) again ≡ read → me' ≡ (after me.0 (Load 1 again) [] read, [])
  next read e = m ∙ (λ i. (after me.0 (Load 1 again) [] ((ap (λ (l : List ℕ). pair_after l again) reading ∙ e) i), []))

  leaves : (read : Option Numbered) (left : List ℕ) → me' ≡ (after me.0 (Load 1 again) [] read, []) → taking table' me'.0 left ≡ after_step old (Load 1 again) old.consumed left
  leaves read left e =
      (λ i. taking (t i) (e i).0 left) ∙ ap (λ (x : Taking). after_step x (Load 1 again) x.consumed left) view

  pub clashes : count ≢ again → TakesAs old (Ended (Clash count again)) (taking table' me'.0 [])
  clashes differ =
      let test : (again == count) ≡ false = grind (arith, nat_tests) in
      let e = next None (ap (λ (b : Bool). if b then Some (pair_of count body) else None) test) in (
        again,
        tt,
        (body, (1, omega arith, is.nine, ap (λ (l : List ℕ). l ++ again ∷ []) old_reading), differ),
        leaves None [] e ∙ (λ i. after_step old (Load (word i) again) old.consumed []),
      )

  reads_it : count ≡ again → IsTaker me' 12 count body × TakesAs old (Loaded 1 again) (taking table' me'.0 (values_of 12 count body))
  reads_it same =
      let test : (again == count) ≡ true = grind (arith, nat_tests) in
      let read : Option Numbered = Some (pair_of count body) in
      let e = next read (ap (λ (b : Bool). if b then Some (pair_of count body) else None) test) in
      let grows : values_of 12 count body ≡ old.reading ++ again ∷ [] = all_values ∙ (λ i. count ∷ 1 ∷ (body ++ same i ∷ [])) ∙ ap (λ (l : List ℕ). l ++ again ∷ []) (sym old_reading) in (
        subst (λ (x : Me (Unit {0}) View). IsTaker x 12 count body) (sym e)
            (record {
              role = is.role;
              free = refl;
              places = omega arith;
              nine = is.nine;
              values = λ _ few. absurd (omega arith);
              whole = λ _. tells.1 count 1 body reading is.nine (sym same);
              pair = λ _. refl;
              rises = is.rises;
            }),
        (
          word,
          record {
            more = omega arith;
            ready = λ none. absurd (omega arith);
            same = λ _. sym same ∙ ap (λ (l : List ℕ). slice_index l 0) (sym old_reading);
          },
          leaves read (values_of 12 count body) e ∙ ap (λ (l : List ℕ). after_step old (Load 1 again) old.consumed l) grows,
        ),
      )

  pub reads : count ≡ again → (value : ℕ) → value ≡ again → IsTaker me' 12 count body × TakesAs old (Loaded 1 value) (taking table' me'.0 (values_of 12 count body))
  reads same value found = subst (λ (x : ℕ). IsTaker me' 12 count body × TakesAs old (Loaded 1 x) (taking table' me'.0 (values_of 12 count body))) (sym found) (reads_it same)
