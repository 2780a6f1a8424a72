-- What a monitor reads of words that are known at each of its loads, while the unit's stores and samples grow.
use Rattle.std.proofs.Common.{◌≡◌, ◌≢◌, ◌⊎◌, ℕ, zero, suc, ◌+◌, ◌-◌, ◌*◌, ◌/◌, ◌%◌, ◌<◌, ◌≤◌, Bool, true, false, ◌&&◌, List, [], ◌∷◌, ◌++◌, length, take, Some, refl, sym, ap, ◌∙◌, subst, inl, inr, ⊎_elim, arith, length-append}
use Rattle.std.specs.Prelude.{nat_le, slice_get, slice_index, slice_index_or, if◌then◌else◌, ◌==◌}
use Rattle.std.specs.List.{AllByRecursion}
use Rattle.std.proofs.lemmas.Bool.{eqb-true, eqb-false}
use Rattle.std.proofs.lemmas.Bool.Decides.{nat_tests}
use Rattle.std.proofs.lemmas.List.{take_more}
use Rattle.std.proofs.lemmas.Option.{slice_get-get_or}
use Rattle.shm_segment.specs.declared.sample.Sample.{Sample}
use Rattle.shm_segment.specs.declared.view.Numbered.{Numbered}
use Rattle.shm_segment.specs.Samples.{body_of, no_sample, sample_of}
use Rattle.shm_segment.specs.Words.{published_after, count_after, body_at, body_word, body_after, words_of, body_places}
use Rattle.shm_segment.specs.Rule.{IsCounted, IsPublished, IsRunning, IsWhole, Rises, last_from}
use Rattle.shm_segment.proofs.Samples.{body_there}
use Rattle.shm_segment.proofs.Running.{body_after_more, even_count, flag, half_count, still_body}
use Rattle.shm_monitor.specs.declared.reading.MonStep.{MonStep}
use Rattle.shm_monitor.specs.declared.reading.MonStep.TheVariants.{Loaded, Done}
use Rattle.shm_monitor.specs.declared.reading.Reading.{Reading}
use Rattle.shm_monitor.specs.declared.reading.Reading.TheVariants.{Taken, NotReady, Clash}
use Rattle.shm_monitor.specs.Readings.{EndsAs, reading_words}
use Rattle.shm_segment.proofs.Reading.{length_body}
use Rattle.shm_monitor.proofs.Whole.{word_body, word_count, word_valid}
use Rattle.replay_player.specs.Loads.{end_of, is_whole, next_value, next_word, reading_after, step_of, with_next}
use Rattle.replay_player.proofs.Readings.{ends_as, goes_on}
use Rattle.replay_player.specs.Effects.{reading_after_loads}
use Rattle.replay_laws.specs.Readings.{ended_by, readings_in, taken_in}

-- the body of a sample gives it back
abbrev pub IsKept : Sample → Type 0
IsKept s = sample_of (body_of s) ≡ s

pub all_at : {X : Type 0} (P : X → Type 0) (xs : List X) (k : ℕ) (x : X) → AllByRecursion P xs → slice_get xs k ≡ Some x → P x
all_at P [] k x all there = absurd (cc)
all_at P (y ∷ xs) zero x all there = let same : y ≡ x = cc in subst P same all.0
all_at P (y ∷ xs) (suc k) x all there = all_at P xs k x all.1 there

-- ---- stores and samples that grow

not_both : (a b : Bool) → (a && b) ≡ false → (a ≡ false) ⊎ (b ≡ false)
not_both true b e = inr e
not_both false b e = inl refl

-- count does not fall while stores are made
pub count_up : (first m n : ℕ) → m ≤ n → count_after first m ≤ count_after first n
unfolding count_after
count_up first m n up = by_flags (nat_le 2 (m % 13) && nat_le (m % 13) 11) (nat_le 2 (n % 13) && nat_le (n % 13) 11) refl refl
  where
    by_flags : (a b : Bool) → (nat_le 2 (m % 13) && nat_le (m % 13) 11) ≡ a → (nat_le 2 (n % 13) && nat_le (n % 13) 11) ≡ b
        → 2 * (first + (m + 1) / 13) + (if a then 1 else 0) ≤ 2 * (first + (n + 1) / 13) + (if b then 1 else 0)
    by_flags true true x y = omega arith
    by_flags false true x y = omega arith
    by_flags false false x y = omega arith
    by_flags true false x y =
        let low : 2 ≤ m % 13 = grind (arith, nat_tests) in
        let high : m % 13 ≤ 11 = grind (arith, nat_tests) in
        ⊎_elim (λ (c : nat_le 2 (n % 13) ≡ false). let n_low : n % 13 < 2 = grind (arith, nat_tests) in omega arith)
        (λ (d : nat_le (n % 13) 11 ≡ false). let n_high : 11 < n % 13 = grind (arith, nat_tests) in omega arith)
        (not_both (nat_le 2 (n % 13)) (nat_le (n % 13) 11) y)

abbrev nine : List ℕ → List ℕ
nine body = slice_index body 0 ∷ slice_index body 1 ∷ slice_index body 2 ∷ slice_index body 3 ∷ slice_index body 4 ∷ slice_index body 5 ∷ slice_index body 6 ∷ slice_index body 7 ∷ slice_index body 8 ∷ []

-- at an even count the body is that of the last published sample
still : (first : ℕ) (samples : List Sample) (stores : ℕ) → count_after first stores % 2 ≡ 0 → body_after samples stores ≡ nine (body_at samples (published_after stores))
unfolding body_after
still first samples stores even =
    let off = flag first stores even in
    let e : (place : ℕ) → body_word samples (stores % 13) ((stores + 1) / 13) place ≡ slice_index (body_at samples (published_after stores)) place = λ place.
    let none : (nat_le (3 + place) (stores % 13) && nat_le (stores % 13) 11) ≡ false = grind (arith, nat_tests) in
    ap (λ (b : Bool). slice_index (body_at samples (if b then (stores + 1) / 13 + 1 else (stores + 1) / 13)) place) none in
    λ i. e 0 i ∷ e 1 i ∷ e 2 i ∷ e 3 i ∷ e 4 i ∷ e 5 i ∷ e 6 i ∷ e 7 i ∷ e 8 i ∷ []

-- a reading that runs, with its first number, its unit's samples and stores, and the number that its monitor took last
pub record Reads (first : ℕ) (samples : List Sample) (stores last : ℕ) (reading : List ℕ) : Type 0 where
  pub low : 2 * last ≤ count_after first stores
  pub running : IsRunning first samples stores last reading
  pub short : length reading ≤ 11

counted_later : (first m n last count : ℕ) → m ≤ n → IsCounted first m last count → IsCounted first n last count
counted_later first m n last count up is = record { below = let below = is.below in let more = count_up first m n up in omega arith; last_below = is.last_below }

whole_later : (first : ℕ) (samples : List Sample) (m n count : ℕ) (body : List ℕ) → m ≤ n → count ≤ count_after first m → (count_after first m ≡ count → IsWhole samples m count body)
    → count_after first n ≡ count → IsWhole samples n count body
whole_later first samples m n count body up below whole now =
    let more = count_up first m n up in
    let was : count_after first m ≡ count = omega arith in
    let is = whole was in
    let even = is.even in
    let m_even : count_after first m % 2 ≡ 0 = ap (λ (k : ℕ). k % 2) was ∙ even in
    let n_even : count_after first n % 2 ≡ 0 = ap (λ (k : ℕ). k % 2) now ∙ even in
    let m_count = even_count first m m_even in
    let n_count = even_count first n n_even in
    let same : published_after m ≡ published_after n = omega arith in
    let some = is.some in
    record {
      even = even;
      some = omega arith;
      same = is.same ∙ ap (take (length body)) (still first samples m m_even ∙ ap (λ (p : ℕ). nine (body_at samples p)) same ∙ sym (still first samples n n_even));
    }

-- more stores are made
pub reads_later : (first : ℕ) (samples : List Sample) (m n last : ℕ) (reading : List ℕ) → m ≤ n → Reads first samples m last reading → Reads first samples n last reading
reads_later first samples m n last reading up reads =
    record { low = let low = reads.low in let more = count_up first m n up in omega arith; running = running_later reading reads.running; short = reads.short }
  where
    running_later : (r : List ℕ) → IsRunning first samples m last r → IsRunning first samples n last r
    running_later [] is = tt
    running_later (count ∷ []) is = counted_later first m n last count up is
    running_later (count ∷ valid ∷ body) is =
        (counted_later first m n last count up is.0, is.1, whole_later first samples m n count body up (let counted = is.0 in counted.below) is.2)

-- more samples come
pub reads_more : (first : ℕ) (samples more : List Sample) (stores last : ℕ) (reading : List ℕ) → stores ≤ 13 * length samples → Reads first samples stores last reading → Reads first (samples ++ more) stores last reading
reads_more first samples more stores last reading reach reads = record { low = reads.low; running = running_more reading reads.running; short = reads.short }
  where
    running_more : (r : List ℕ) → IsRunning first samples stores last r → IsRunning first (samples ++ more) stores last r
    running_more [] is = tt
    running_more (count ∷ []) is = is
    running_more (count ∷ valid ∷ body) is = (
      is.0,
      is.1,
      λ now.
          let whole = is.2 now in
          record { even = whole.even; some = whole.some; same = whole.same ∙ ap (take (length body)) (sym (body_after_more samples more stores reach)) },
    )

-- ---- one load

-- what a body says that was read at one count: the published sample of its number
whole : (first : ℕ) (samples : List Sample) (stores count : ℕ) (body : List ℕ) → stores ≤ 13 * length samples → AllByRecursion IsKept samples → count_after first stores ≡ count → length body ≡ 9
    → IsWhole samples stores count body → IsPublished first samples stores (record { number = count / 2; sample = sample_of body })
whole first samples stores count body reach kept now long is =
    let p : ℕ = published_after stores in
    let some : 1 ≤ p = is.some in
    let low : p - 1 < length samples = omega arith in
    let s : Sample = slice_index_or samples (p - 1) no_sample in
    let there = slice_get-get_or samples (p - 1) no_sample low in
    let place : p - 1 + 1 ≡ p = omega arith in
    let at : body_at samples p ≡ body_of s = ap (λ (k : ℕ). body_at samples k) (sym place) ∙ body_there samples (p - 1) s there in
    let even : count_after first stores % 2 ≡ 0 = ap (λ (n : ℕ). n % 2) now ∙ is.even in
    let same : body ≡ body_of s = is.same ∙ ap (λ (n : ℕ). take n (body_after samples stores)) long ∙ ap (take 9) (still_body first samples stores s even at) in
    let sample : sample_of body ≡ s = ap sample_of same ∙ all_at IsKept samples (p - 1) s kept there in
    let half : count / 2 ≡ first + p = ap (λ (n : ℕ). n / 2) (sym now) ∙ half_count first stores in
    let index : count / 2 - first - 1 ≡ p - 1 = omega arith in
    record {
      above = omega arith;
      reached = omega arith;
      same = ap (λ (k : ℕ). slice_get samples k) index ∙ there ∙ ap (λ (x : Sample). Some x) (sym sample);
    }

-- what a step says: a sample that is taken is the published one of its number, which is not below the last
abbrev pub Tells : ℕ → List Sample → ℕ → ℕ → Reading → Type 0
Tells first samples stores last (Taken pair) = IsPublished first samples stores pair × (last ≤ pair.number)
Tells first samples stores last (NotReady count valid) = Unit {0}
Tells first samples stores last (Clash before after) = Unit {0}

abbrev StepTells : ℕ → List Sample → ℕ → ℕ → MonStep → Type 0
StepTells first samples stores last (Loaded word value) = Unit {0}
StepTells first samples stores last (Done reading) = Tells first samples stores last reading

abbrev pub pairs_in : List Reading → List Numbered
pairs_in [] = []
pairs_in (reading ∷ more) = taken_in reading ++ pairs_in more

-- the number that was taken last, after these readings
abbrev pub last_after : ℕ → List Reading → ℕ
last_after last readings = last_from last (pairs_in readings)

record Steps (first : ℕ) (samples : List Sample) (stores last : ℕ) (words reading : List ℕ) : Type 0 where
  tells : StepTells first samples stores last (step_of words reading)
  reads : Reads first samples stores (last_after last (ended_by (step_of words reading))) (reading_after words reading)

goes : (words reading : List ℕ) → is_whole (with_next words reading) ≡ false → (step_of words reading ≡ Loaded (next_word reading) (next_value words reading)) × (reading_after words reading ≡ with_next words reading)
unfolding step_of reading_after
goes words reading e = (
  ap (λ (b : Bool). if b then Done (end_of (with_next words reading)) else Loaded (next_word reading) (next_value words reading)) e,
  ap (λ (b : Bool). if b then [] else with_next words reading) e,
)

ends : (words reading : List ℕ) (end : Reading) → EndsAs end (with_next words reading) → (step_of words reading ≡ Done end) × (reading_after words reading ≡ [])
unfolding step_of reading_after
ends words reading end ended =
    let both = ends_as end (with_next words reading) ended in (
      ap (λ (b : Bool). if b then Done (end_of (with_next words reading)) else Loaded (next_word reading) (next_value words reading)) both.0 ∙ ap (λ (r : Reading). Done r) both.1,
      ap (λ (b : Bool). if b then [] else with_next words reading) both.0,
    )

module _ (first : ℕ) (samples : List Sample) (stores last : ℕ) (reach : stores ≤ 13 * length samples) (kept : AllByRecursion IsKept samples) where
  abbrev words : List ℕ
  words = words_of first samples stores

  abbrev Made : MonStep → List ℕ → Type 0
  Made step reading = StepTells first samples stores last step × Reads first samples stores (last_after last (ended_by step)) reading

  from_made : (reading : List ℕ) (step : MonStep) (next : List ℕ) → step_of words reading ≡ step → reading_after words reading ≡ next → Made step next → Steps first samples stores last words reading
  from_made reading step next s n made =
      let back : Made (step_of words reading) (reading_after words reading) = subst (λ (x : MonStep × List ℕ). Made x.0 x.1) (λ i. (sym s i, sym n i)) made in
      record { tells = back.0; reads = back.1 }

  going : (reading : List ℕ) → is_whole (with_next words reading) ≡ false → Reads first samples stores last (with_next words reading) → Steps first samples stores last words reading
  going reading e reads = let both = goes words reading e in from_made reading _ _ both.0 both.1 (tt, reads)

  ending : (reading : List ℕ) (end : Reading) → EndsAs end (with_next words reading) → Tells first samples stores last end → 2 * last_after last (end ∷ []) ≤ count_after first stores → Steps first samples stores last words reading
  ending reading end ended tells low = let both = ends words reading end ended in from_made reading _ _ both.0 both.1 (tells, record { low = low; running = tt; short = omega arith })

  -- count, at the beginning and at the end of a reading
  count_now : slice_index words 1 ≡ count_after first stores
  count_now = word_count first samples stores

  begins : 2 * last ≤ count_after first stores → Steps first samples stores last words []
  begins low =
      let now = count_now in
      let below : slice_index words 1 ≤ count_after first stores = omega arith in
      let last_below : 2 * last ≤ slice_index words 1 = omega arith in
      going [] (goes_on [] (slice_index words 1) (omega arith) (λ none. absurd (omega arith))) (record {
        low = low;
        running = record { below = below; last_below = last_below };
        short = omega arith;
      })

  -- valid
  validates : (count : ℕ) → Reads first samples stores last (count ∷ []) → Steps first samples stores last words (count ∷ [])
  validates count reads = by_value (slice_index words 9 == 0) refl
    where
      by_value : (b : Bool) → (slice_index words 9 == 0) ≡ b → Steps first samples stores last words (count ∷ [])
      by_value true test =
          let zero_valid : slice_index words 9 ≡ 0 = eqb-true (slice_index words 9) 0 test in
          ending (count ∷ []) (NotReady count (slice_index words 9)) (zero_valid, refl) tt reads.low
      by_value false test =
          let some : 0 < slice_index words 9 = grind (arith, nat_tests) in
          let valid = word_valid first samples stores some in
          going (count ∷ []) (goes_on (count ∷ []) (slice_index words 9) (omega arith) (λ one. some)) (record {
            low = reads.low;
            running = (reads.running, some, λ now. record { even = ap (λ (k : ℕ). k % 2) (sym now) ∙ valid.0; some = valid.1; same = refl });
            short = omega arith;
          })

  -- a word of the body
  copies : (count valid : ℕ) (body : List ℕ) → Reads first samples stores last (count ∷ valid ∷ body) → length body < 9 → Steps first samples stores last words (count ∷ valid ∷ body)
  copies count valid body reads few =
      let place : ℕ = length body in
      let n : ℕ = slice_index words (slice_index body_places place) in
      let running : IsRunning first samples stores last (count ∷ valid ∷ body) = reads.running in
      let now_body = body_after samples stores in
      let more = take_more now_body place 0 (omega (arith, length_body samples stores)) in
      let longer : length (body ++ n ∷ []) ≡ place + 1 = omega (arith, length-append body (n ∷ [])) in
      let next : next_value words (count ∷ valid ∷ body) ≡ n = ap (λ (w : ℕ). slice_index words w) (word_at place few) in
      let R : ℕ → Type 0 = λ k. Reads first samples stores last (count ∷ valid ∷ (body ++ k ∷ [])) in
      going (count ∷ valid ∷ body)
      (goes_on (count ∷ valid ∷ body) (next_value words (count ∷ valid ∷ body)) (omega arith) (λ one. absurd (omega arith)))
      (subst R (sym next) (record {
        low = reads.low;
        running = (
          running.0,
          running.1,
          λ now.
              let whole = running.2 now in
              record {
                even = whole.even;
                some = whole.some;
                same = ap (λ (l : List ℕ). l ++ n ∷ []) whole.same ∙ ap (λ (k : ℕ). take place now_body ++ k ∷ []) (word_body first samples stores place few) ∙ sym more ∙ ap (λ (k : ℕ). take k now_body) (sym longer);
              },
        );
        short = omega arith;
      }))
    where
      word_at : (k : ℕ) → k < 9 → slice_index reading_words (suc (suc k)) ≡ slice_index body_places k
      word_at zero h = refl
      word_at (suc zero) h = refl
      word_at (suc (suc zero)) h = refl
      word_at (suc (suc (suc zero))) h = refl
      word_at (suc (suc (suc (suc zero)))) h = refl
      word_at (suc (suc (suc (suc (suc zero))))) h = refl
      word_at (suc (suc (suc (suc (suc (suc zero)))))) h = refl
      word_at (suc (suc (suc (suc (suc (suc (suc zero))))))) h = refl
      word_at (suc (suc (suc (suc (suc (suc (suc (suc zero)))))))) h = refl
      word_at (suc (suc (suc (suc (suc (suc (suc (suc (suc k))))))))) h = absurd (omega arith)

  -- the second count
  last_word : (count valid : ℕ) (body : List ℕ) → length body ≡ 9 → with_next words (count ∷ valid ∷ body) ≡ count ∷ valid ∷ (body ++ slice_index words 1 ∷ [])
  last_word count valid body full =
      ap (λ (k : ℕ). count ∷ valid ∷ (body ++ slice_index words (slice_index reading_words (suc (suc k))) ∷ [])) full

  recounts : (count valid : ℕ) (body : List ℕ) → Reads first samples stores last (count ∷ valid ∷ body) → length body ≡ 9 → Steps first samples stores last words (count ∷ valid ∷ body)
  recounts count valid body reads full = by_count (slice_index words 1 == count) refl reads.running
    where
      by_count : (b : Bool) → (slice_index words 1 == count) ≡ b → IsRunning first samples stores last (count ∷ valid ∷ body) → Steps first samples stores last words (count ∷ valid ∷ body)
      by_count true test running =
          let same : slice_index words 1 ≡ count = eqb-true (slice_index words 1) count test in
          let now : count_after first stores ≡ count = sym count_now ∙ same in
          let is = whole first samples stores count body reach kept now full (running.2 now) in
          let counted = running.0 in
          let last_low = counted.last_below in
          let up : last ≤ count / 2 = omega arith in
          let low : 2 * (count / 2) ≤ count_after first stores = omega arith in
          ending (count ∷ valid ∷ body) (Taken (record { number = count / 2; sample = sample_of body }))
          (count, body, (valid, running.1, full, last_word count valid body full ∙ ap (λ (k : ℕ). count ∷ valid ∷ (body ++ k ∷ [])) same), refl, refl)
          (is, up) low
      by_count false test running =
          let other : slice_index words 1 ≢ count = eqb-false (slice_index words 1) count test in
          ending (count ∷ valid ∷ body) (Clash count (slice_index words 1)) (body, (valid, running.1, full, last_word count valid body full), λ e. other (sym e)) tt reads.low

  -- any load
  steps : (reading : List ℕ) → Reads first samples stores last reading → Steps first samples stores last words reading
  steps [] reads = begins reads.low
  steps (count ∷ []) reads = validates count reads
  steps (count ∷ valid ∷ body) reads = by_length (length body == 9) refl
    where
      by_length : (b : Bool) → (length body == 9) ≡ b → Steps first samples stores last words (count ∷ valid ∷ body)
      by_length true test = recounts count valid body reads (eqb-true (length body) 9 test)
      by_length false test = let other = eqb-false (length body) 9 test in let short = reads.short in copies count valid body reads (omega arith)

-- ---- many loads

pub record LoadsTell (first : ℕ) (samples : List Sample) (stores last : ℕ) (readings : List Reading) (after : List ℕ) : Type 0 where
  pub told : AllByRecursion (λ (r : Reading). Tells first samples stores 0 r) readings
  pub rises : Rises last (pairs_in readings)
  pub reads : Reads first samples stores (last_after last readings) after

pub rises_on : (low : ℕ) (xs ys : List Numbered) → Rises low xs → Rises (last_from low xs) ys → Rises low (xs ++ ys)
rises_on low [] ys one other = other
rises_on low (x ∷ xs) ys one other = (one.0, rises_on x.number xs ys one.1 other)

-- a step, and then what follows it
joined : (first : ℕ) (samples : List Sample) (stores last : ℕ) (step : MonStep) (more : List Reading) (after : List ℕ) → StepTells first samples stores last step
    → LoadsTell first samples stores (last_after last (ended_by step)) more after → LoadsTell first samples stores last (ended_by step ++ more) after
joined first samples stores last (Loaded word value) more after tells rest = rest
joined first samples stores last (Done (Taken pair)) more after tells rest = record { told = ((tells.0, omega arith), rest.told); rises = (tells.1, rest.rises); reads = rest.reads }
joined first samples stores last (Done (NotReady count valid)) more after tells rest = record { told = (tt, rest.told); rises = rest.rises; reads = rest.reads }
joined first samples stores last (Done (Clash before other)) more after tells rest = record { told = (tt, rest.told); rises = rest.rises; reads = rest.reads }

pub loads_tell : (first : ℕ) (samples : List Sample) (stores : ℕ) → stores ≤ 13 * length samples → AllByRecursion IsKept samples
    → (loads last : ℕ) (reading : List ℕ) → Reads first samples stores last reading
    → LoadsTell first samples stores last (readings_in loads (words_of first samples stores) reading) (reading_after_loads loads (words_of first samples stores) reading)
unfolding readings_in reading_after_loads
loads_tell first samples stores reach kept zero last reading reads = record { told = tt; rises = tt; reads = reads }
loads_tell first samples stores reach kept (suc loads) last reading reads =
    let words = words_of first samples stores in
    let one = steps first samples stores last reach kept reading reads in
    joined first samples stores last (step_of words reading) (readings_in loads words (reading_after words reading)) (reading_after_loads loads words (reading_after words reading)) one.tells
    (loads_tell first samples stores reach kept loads (last_after last (ended_by (step_of words reading))) (reading_after words reading) one.reads)
