-- What a load does to what a monitor keeps.
use Rattle.std.proofs.Common.{◌≡◌, ◌≢◌, ℕ, suc, ◌+◌, ◌-◌, ◌/◌, ◌<◌, ◌≤◌, Bool, true, false, List, [], ◌∷◌, ◌++◌, length, take, set, refl, sym, ap, ◌∙◌, subst, arith}
use Rattle.std.specs.Prelude.{slice_index, if◌then◌else◌, ◌==◌}
use Rattle.std.proofs.lemmas.Bool.Decides.{nat_tests}
use Rattle.std.proofs.lemmas.List.{take_more_set, get_or_append_left, length-take, length-set}
use Rattle.std.proofs.Math.Seq.{take-length}
use Rattle.atomic_table.specs.Seated.{TableId}
use Rattle.atomic_table.specs.Table.{Me}
use Rattle.shm_segment.specs.declared.sample.Sample.{Sample}
use Rattle.shm_segment.specs.declared.view.Numbered.{Numbered}
use Rattle.shm_segment.specs.declared.view.View.{View}
use Rattle.shm_segment.specs.Samples.{IsBody, sample_of}
use Rattle.shm_segment.specs.Words.{body_places}
use Rattle.shm_segment.specs.Rule.{last_from}
use Rattle.shm_monitor.specs.declared.reading.MonStep.TheVariants.{Loaded, Done}
use Rattle.shm_monitor.specs.declared.reading.Reading.TheVariants.{Taken, Clash}
use Rattle.shm_monitor.specs.Loads.{read, recounted, taken_after, IsLastCount, IsRecounted, loaded}
use Rattle.shm_monitor.specs.Readings.{reading_words}
use Rattle.shm_monitor.specs.MonitorView.{MonitorView, watching, IsMonitor, LoadsAs, after_load}
use Rattle.shm_monitor.proofs.Keeping.{last_snoc, rises_snoc}

-- the reading is as long as the number of its values
pub length_reading : (at count valid : ℕ) (body : List ℕ) → at ≤ 11 → length body ≡ 9 → length (take at (count ∷ valid ∷ body)) ≡ at
length_reading at count valid body h nine = omega (arith, length-take at (count ∷ valid ∷ body))

one_more : (k count valid value : ℕ) (body : List ℕ) → k < length body → take (suc (suc (k + 1))) (count ∷ valid ∷ set body k value) ≡ take (suc (suc k)) (count ∷ valid ∷ body) ++ value ∷ []
one_more k count valid value body h = ap (λ (l : List ℕ). count ∷ valid ∷ l) (take_more_set body k value h)

more_values : (at k count valid value : ℕ) (body : List ℕ) → at ≡ k + 2 → k < length body → take (at + 1) (count ∷ valid ∷ set body k value) ≡ take at (count ∷ valid ∷ body) ++ value ∷ []
more_values at k count valid value body e h =
    let next : at + 1 ≡ suc (suc (k + 1)) = omega arith in
    let here : suc (suc k) ≡ at = omega arith in
    ap (λ (n : ℕ). take n (count ∷ valid ∷ set body k value)) next ∙ one_more k count valid value body h ∙ ap (λ (n : ℕ). take n (count ∷ valid ∷ body) ++ value ∷ []) here

body_word : (at k : ℕ) → at ≡ k + 2 → k < 9 → slice_index body_places k ≡ slice_index reading_words at
body_word at k e h =
    let here : suc (suc k) ≡ at = omega arith in
    sym (get_or_append_left body_places (1 ∷ []) 0 k h) ∙ ap (λ (n : ℕ). slice_index reading_words n) here

-- a word of the body
body_here : (table : TableId) (me : Me (Unit {0}) View) (at count valid last value : ℕ) (body : List ℕ) → IsMonitor me at count valid body last → 2 ≤ at → at < 11
    → IsMonitor (read me.0 (slice_index body_places (at - 2)) value, []) (at + 1) count valid (set body (at - 2) value) last
    × LoadsAs (watching table me.0 (take at (count ∷ valid ∷ body))) (Loaded (slice_index body_places (at - 2)) value)
    (watching table (read me.0 (slice_index body_places (at - 2)) value) (take (at + 1) (count ∷ valid ∷ set body (at - 2) value)))
body_here table me at count valid last value body is low high =
    let nine = is.nine in
    let k : ℕ = at - 2 in
    let e : at ≡ k + 2 = omega arith in
    let within : k < length body = omega arith in
    let more = more_values at k count valid value body e within in
    let long = length_reading at count valid body (omega arith) nine in
    let word = body_word at k e (omega arith) in
    let place = word ∙ ap (λ (n : ℕ). slice_index reading_words n) (sym long) in (
      record {
        role = is.role;
        free = refl;
        met = is.met;
        places = omega arith;
        values = λ _. ap (λ (l : List ℕ). l ++ value ∷ []) (is.values (omega arith)) ∙ sym more;
        nine = omega (arith, length-set body k value);
        last_is = is.last_is;
        rises = is.rises;
      },
      (
        place,
        record { more = omega arith; ready = λ none. absurd (omega arith); first = λ none. absurd (omega arith) },
        λ i. watching table (loaded me.0 (place i) value me.0.taken (me.0.reading ++ value ∷ [])) (more i),
      ),
    )

pub body_seen : (table table' : TableId) (me me' : Me (Unit {0}) View) (at count valid last value : ℕ) (body : List ℕ) (old : MonitorView) (index word : ℕ)
    → IsMonitor me at count valid body last → watching table me.0 (take at (count ∷ valid ∷ body)) ≡ old → 2 ≤ length old.reading → length old.reading < 11
    → index ≡ at - 2 → word ≡ slice_index body_places (at - 2) → table' ≡ table → me' ≡ (read me.0 (slice_index body_places (at - 2)) value, [])
    → IsMonitor me' (at + 1) count valid (set body index value) last
    × LoadsAs old (Loaded word value) (watching table' me'.0 (take (at + 1) (count ∷ valid ∷ set body index value)))
body_seen table table' me me' at count valid last value body old index word is view from to i w t m =
    let long : length old.reading ≡ at = ap (λ (x : MonitorView). length x.reading) (sym view) ∙ length_reading at count valid body is.places is.nine in
    let low : 2 ≤ at = omega arith in
    let high : at < 11 = omega arith in
    subst
    (λ (x : MonitorView × ℕ × ℕ × TableId × Me (Unit {0}) View). IsMonitor x.4 (at + 1) count valid (set body x.1 value) last × LoadsAs x.0 (Loaded x.2 value) (watching x.3 x.4.0 (take (at + 1) (count ∷ valid ∷ set body x.1 value))))
    (λ j. (view j, sym i j, sym w j, sym t j, sym m j))
    (body_here table me at count valid last value body is low high)

-- the second count
module _ (table table' : TableId) (me me' : Me (Unit {0}) View) (at count valid last again : ℕ) (body : List ℕ) (old : MonitorView) (is : IsMonitor me at count valid body last)
    (view : watching table me.0 (take at (count ∷ valid ∷ body)) ≡ old) (full : length old.reading ≡ 11) (t : table' ≡ table) (m : me' ≡ (recounted me.0 again, [])) (tells : IsRecounted me.0 again) where
  whole_body : take 9 body ≡ body
  whole_body = ap (λ (n : ℕ). take n body) (sym is.nine) ∙ take-length body

  at_end : at ≡ 11
  at_end = sym (length_reading at count valid body is.places is.nine) ∙ ap (λ (x : MonitorView). length x.reading) view ∙ full

  values : take at (count ∷ valid ∷ body) ≡ count ∷ valid ∷ body
  values = ap (λ (n : ℕ). take n (count ∷ valid ∷ body)) at_end ∙ ap (λ (l : List ℕ). count ∷ valid ∷ l) whole_body

  reading : me.0.reading ≡ count ∷ valid ∷ body
  reading = is.values (let e = at_end in omega arith) ∙ values

  told : IsLastCount (last_from 0 me.0.taken) count valid body again
  told = tells count valid body reading is.nine

  -- the view after the load, with the pairs that follow
  after : (taken : List Numbered) → taken_after me.0.taken (count ∷ valid ∷ body) again ≡ taken → me' ≡ (loaded me.0 1 again taken [], [])
  after taken e = m ∙ (λ i. (loaded me.0 1 again ((ap (λ (l : List ℕ). taken_after me.0.taken l again) reading ∙ e) i) [], []))

  abbrev new : List Numbered → MonitorView
  new taken = watching table (loaded me.0 1 again taken []) []

  leaves : (taken : List Numbered) → me' ≡ (loaded me.0 1 again taken [], []) → watching table' me'.0 [] ≡ after_load old again taken []
  leaves taken e =
      let word : 1 ≡ slice_index reading_words (length old.reading) = ap (λ (n : ℕ). slice_index reading_words n) (sym full) in
      (λ i. watching (t i) (e i).0 [])
      ∙ (λ i. watching table (loaded me.0 (word i) again taken []) [])
      ∙ ap (λ (w : MonitorView). record { segment = w.segment; known = w.known; taken = taken; kept = w.kept ++ record { told = w.known.stores; word = slice_index reading_words (length old.reading); value = again } ∷ []; reading = [] }) view

  read_all : old.reading ++ again ∷ [] ≡ count ∷ valid ∷ (body ++ again ∷ [])
  read_all = ap (λ (l : List ℕ). l ++ again ∷ []) (ap (λ (w : MonitorView). w.reading) (sym view) ∙ values)

  pub clashes : count ≢ again → LoadsAs old (Done (Clash count again)) (watching table' me'.0 [])
  clashes differ =
      let test : (again == count) ≡ false = grind (arith, nat_tests) in
      let pair : Numbered = record { number = again / 2; sample = sample_of body } in
      let e = after me.0.taken (ap (λ (b : Bool). if b then me.0.taken ++ pair ∷ [] else me.0.taken) test) in (
        again,
        (body, (valid, told.ready, is.nine, read_all), differ),
        leaves me.0.taken e ∙ ap (λ (w : MonitorView). after_load old again w.taken []) view,
      )

  pub takes : count ≡ again → (sample : Sample) → sample ≡ sample_of body
      → IsBody body × IsMonitor me' 0 count valid body (again / 2) × LoadsAs old (Done (Taken (record { number = again / 2; sample = sample }))) (watching table' me'.0 [])
  takes same sample s =
      let test : (again == count) ≡ true = grind (arith, nat_tests) in
      let pair : Numbered = record { number = again / 2; sample = sample_of body } in
      let taken : List Numbered = me.0.taken ++ pair ∷ [] in
      let e = after taken (ap (λ (b : Bool). if b then me.0.taken ++ pair ∷ [] else me.0.taken) test) in
      let whole = told.whole (sym same) in (
        whole.0,
        subst (λ (x : Me (Unit {0}) View). IsMonitor x 0 count valid body (again / 2)) (sym e)
            (record {
              role = is.role;
              free = refl;
              met = is.met;
              places = omega arith;
              values = λ none. absurd (omega arith);
              nine = is.nine;
              last_is = sym (last_snoc 0 me.0.taken pair);
              rises = rises_snoc 0 me.0.taken pair is.rises whole.1;
            }),
        (
          again,
          (
            again,
            body,
            (valid, told.ready, is.nine, read_all ∙ ap (λ (n : ℕ). n ∷ valid ∷ (body ++ again ∷ [])) same),
            refl,
            s,
          ),
          leaves taken e ∙ (λ i. after_load old again ((view i).taken ++ record { number = again / 2; sample = sym s i } ∷ []) []),
        ),
      )
