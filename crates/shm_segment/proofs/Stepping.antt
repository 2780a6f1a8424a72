-- What the publisher's calls do to what it keeps.
use Rattle.std.proofs.Common.{◌≡◌, ◌≢◌, ℕ, zero, suc, ◌+◌, ◌*◌, ◌/◌, ◌%◌, ◌<◌, ◌≤◌, Bool, true, false, List, [], ◌∷◌, ◌++◌, length, take, refl, sym, ap, ◌∙◌, subst, arith, length-append}
use Rattle.std.specs.Prelude.{slice_index, slice_index_or, slice_set, nat_lt, if◌then◌else◌}
use Rattle.std.proofs.lemmas.Bool.Decides.{nat_tests}
use Rattle.std.proofs.Math.Seq.{take-append_seam}
use Rattle.std.proofs.lemmas.List.{length-take}
use Rattle.atomic_table.specs.Seated.{TableId}
use Rattle.atomic_table.specs.Table.{Me}
use Rattle.shm_segment.specs.declared.publisher.Phase.{Phase}
use Rattle.shm_segment.specs.declared.publisher.Phase.TheVariants.{Idle, ToInvalid, ToOdd, ToBody, ToEven, ToValid}
use Rattle.shm_segment.specs.declared.publisher.PubStep.{PubStep}
use Rattle.shm_segment.specs.declared.publisher.PubStep.TheVariants.{Stored}
use Rattle.shm_segment.specs.declared.sample.Sample.{Sample}
use Rattle.shm_segment.specs.declared.view.View.{View}
use Rattle.shm_segment.specs.Samples.{body_of}
use Rattle.shm_segment.specs.Words.{count_after, body_at, body_places, stores_of, words_of}
use Rattle.shm_segment.specs.Views.{begun, stored}
use Rattle.shm_segment.specs.Seats.{SegmentId}
use Rattle.shm_segment.specs.Publishing.{Publishing, publishing, IsPublishing, IsPublisher, StepsAs, stepped, count_of, position_of, beginning, next_of, flag_of, IsPlace}
use Rattle.shm_segment.proofs.Samples.{body_last}
use Rattle.shm_segment.proofs.Words.{count_in, odd_count, published_is, stores_invalid, stores_odd, stores_body, stores_even, stores_valid}

-- count while the publisher is idle
pub idle_count : (p : Publishing) → IsPublishing p → p.phase ≡ Idle → count_of p ≡ 2 * (p.segment.first + p.stores / 13)
idle_count p keeps idle =
    let whole : ℕ = p.stores / 13 in
    let position : p.stores % 13 ≡ 0 = keeps.position ∙ ap position_of idle in
    let e : p.stores ≡ 13 * whole + 0 = omega arith in
    count_in p.segment.first p.stores 0 whole position (published_is p.stores whole 0 e (omega arith)) ∙ (let z : 2 * (p.segment.first + whole) + 0 ≡ 2 * (p.segment.first + whole) = omega arith in z)

pub spent : (view old : Publishing) (number : ℕ) → view ≡ old → IsPublishing view → number ≡ view.segment.first + view.stores / 13 → view.phase ≡ Idle → number ≡ 1_073_741_823
    → (old.phase ≡ Idle) × (count_of old ≡ 2_147_483_646) × (old ≡ old)
spent view old number is keeps numbers idle full =
    let count = idle_count view keeps idle in
    subst (λ (p : Publishing). (p.phase ≡ Idle) × (count_of p ≡ 2_147_483_646) × (p ≡ p)) is (idle, omega arith, refl)

pub begins_free : (view old : Publishing) (number : ℕ) (sample : Sample) → view ≡ old → IsPublishing view → number ≡ view.segment.first + view.stores / 13 → view.phase ≡ Idle → number ≢ 1_073_741_823
    → (old.phase ≡ Idle) × (count_of old ≢ 2_147_483_646) × (beginning view sample ≡ beginning old sample)
begins_free view old number sample is keeps numbers idle free =
    let count = idle_count view keeps idle in
    subst (λ (p : Publishing). (p.phase ≡ Idle) × (count_of p ≢ 2_147_483_646) × (beginning view sample ≡ beginning p sample)) is (idle, (λ full. free (omega arith)), refl)

-- a whole division by thirteen, at a position but the last
same_whole : (stores position : ℕ) → stores % 13 ≡ position → position < 12 → (stores + 1) / 13 ≡ stores / 13
same_whole stores position t h = omega arith

-- the samples of a publisher that writes the last of them
writes_on : (samples : List Sample) (s : Sample) (stores : ℕ) → stores % 13 < 12 → samples ≡ take (stores / 13) samples ++ s ∷ [] → samples ≡ take ((stores + 1) / 13) samples ++ s ∷ []
writes_on samples s stores position e = subst (λ (n : ℕ). samples ≡ take n samples ++ s ∷ []) (sym (same_whole stores (stores % 13) refl position)) e

-- what a publisher keeps, it keeps by a store
module _ (segment : SegmentId) (samples : List Sample) (stores : ℕ) (sample : Sample) where
  abbrev at : Phase → Publishing
  at phase = record { segment = segment; samples = samples; stores = stores; phase = phase; begun = sample }

  after_invalid : IsPublishing (at ToInvalid) → IsPublishing (stepped (at ToInvalid))
  after_invalid k =
      let position = k.position in
      let count = k.count in
      let numbers = k.numbers in
      let long = length-append samples (sample ∷ []) in
      let whole : (stores + 1) / 13 ≡ length samples = omega arith in
      record {
        position = omega arith;
        place = tt;
        count = omega arith;
        numbers = omega arith;
        writes = λ _. sym (ap (λ (n : ℕ). take n (samples ++ sample ∷ []) ++ sample ∷ []) whole ∙ ap (λ (l : List Sample). l ++ sample ∷ []) (take-append_seam samples (sample ∷ [])));
        range = k.range;
      }

  after_odd : IsPublishing (at ToOdd) → IsPublishing (stepped (at ToOdd))
  after_odd k =
      let position = k.position in
      let count = k.count in
      let numbers = k.numbers in
      record { position = omega arith; place = omega arith; count = omega arith; numbers = omega arith; writes = λ _. writes_on samples sample stores (omega arith) (k.writes (omega arith)); range = k.range }

  after_body : (place : ℕ) → IsPublishing (at (ToBody place)) → IsPublishing (stepped (at (ToBody place)))
  after_body place k = by_case (nat_lt place 8) refl
    where
      by_case : (b : Bool) → nat_lt place 8 ≡ b → IsPublishing (record { segment = segment; samples = samples; stores = stores + 1; phase = if b then ToBody (place + 1) else ToEven; begun = sample })
      by_case true test =
          let within : place < 8 = grind (arith, nat_tests) in
          let position = k.position in
          let count = k.count in
          let numbers = k.numbers in
          record { position = omega arith; place = omega arith; count = omega arith; numbers = omega arith; writes = λ _. writes_on samples sample stores (omega arith) (k.writes (omega arith)); range = k.range }
      by_case false test =
          let past : 8 ≤ place = grind (arith, nat_tests) in
          let place' = k.place in
          let position = k.position in
          let count = k.count in
          let numbers = k.numbers in
          record { position = omega arith; place = tt; count = omega arith; numbers = omega arith; writes = λ _. writes_on samples sample stores (omega arith) (k.writes (omega arith)); range = k.range }

  after_even : IsPublishing (at ToEven) → IsPublishing (stepped (at ToEven))
  after_even k =
      let position = k.position in
      let count = k.count in
      let numbers = k.numbers in
      record { position = omega arith; place = tt; count = omega arith; numbers = omega arith; writes = λ _. writes_on samples sample stores (omega arith) (k.writes (omega arith)); range = k.range }

  after_valid : IsPublishing (at ToValid) → IsPublishing (stepped (at ToValid))
  after_valid k =
      let position = k.position in
      let count = k.count in
      let numbers = k.numbers in
      record { position = omega arith; place = tt; count = omega arith; numbers = omega arith; writes = λ none. absurd (omega arith); range = k.range }

-- the body that is being written is that of the last sample
pub writing : (samples : List Sample) (s : Sample) (whole : ℕ) → whole ≤ length samples → samples ≡ take whole samples ++ s ∷ [] → body_at samples (whole + 1) ≡ body_of s
writing samples s whole low e =
    let long : length (take whole samples) ≡ whole = omega (arith, length-take whole samples) in
    ap (λ (l : List Sample). body_at l (whole + 1)) e ∙ ap (λ (n : ℕ). body_at (take whole samples ++ s ∷ []) (n + 1)) (sym long) ∙ body_last (take whole samples) s

-- the store at a place of the body is the one after the odd count and the places before it
body_order : (count : ℕ) (s : Sample) (place : ℕ) → place < 9 → (slice_index body_places place, slice_index (body_of s) place) ≡ slice_index_or (stores_of count s) (place + 2) (0, 0)
body_order count s zero h = refl
body_order count s (suc zero) h = refl
body_order count s (suc (suc zero)) h = refl
body_order count s (suc (suc (suc zero))) h = refl
body_order count s (suc (suc (suc (suc zero)))) h = refl
body_order count s (suc (suc (suc (suc (suc zero))))) h = refl
body_order count s (suc (suc (suc (suc (suc (suc zero)))))) h = refl
body_order count s (suc (suc (suc (suc (suc (suc (suc zero))))))) h = refl
body_order count s (suc (suc (suc (suc (suc (suc (suc (suc zero)))))))) h = refl
body_order count s (suc (suc (suc (suc (suc (suc (suc (suc (suc place))))))))) h = absurd (omega arith)

-- what a call of step leaves: the publisher is kept, and the call is a step
abbrev pub Stepped : Publishing → TableId → Me (Unit {0}) View → ℕ → Phase → Sample → PubStep → Type 0
Stepped old table me number phase sample result = IsPublisher table me number phase sample × StepsAs old result (publishing table me.0 phase sample)

-- the same of the values that the code has
as_code : (view old : Publishing) (table table' : TableId) (me' : Me (Unit {0}) View) (next : View) (number : ℕ) (phase : Phase) (sample : Sample) (result result' : PubStep)
    → view ≡ old → table' ≡ table → me' ≡ (next, []) → result' ≡ result → Stepped view table (next, []) number phase sample result → Stepped old table' me' number phase sample result'
as_code view old table table' me' next number phase sample result result' v t m r =
    subst (λ (x : Publishing × TableId × Me (Unit {0}) View × PubStep). Stepped x.0 x.1 x.2 number phase sample x.3) (λ i. (v i, sym t i, sym m i, sym r i))

-- what the code knows at an arm of step
abbrev pub Was : TableId → Me (Unit {0}) View → ℕ → Sample → Publishing → TableId → Phase → Type 0
Was table me number sample old table' phase = IsPublisher table me number phase sample × (publishing table me.0 phase sample ≡ old) × (table' ≡ table)

pub was : (table : TableId) (me : Me (Unit {0}) View) (number : ℕ) (sample : Sample) (old : Publishing) (table' : TableId) (phase found : Phase)
    → found ≡ phase → IsPublisher table me number found sample → publishing table me.0 found sample ≡ old → table' ≡ table → Was table me number sample old table' phase
was table me number sample old table' phase found is keeps view part = subst (Was table me number sample old table') is (keeps, view, part)

-- each arm of step
module _ (table : TableId) (me : Me (Unit {0}) View) (number : ℕ) (sample : Sample) (old : Publishing) (table' : TableId) (me' : Me (Unit {0}) View) (result : PubStep) where
  abbrev Before : Phase → Type 0
  Before phase = Was table me number sample old table' phase

  pub steps_invalid : Before ToInvalid → me' ≡ (begun me.0 sample, []) → result ≡ Stored 9 0 → Stepped old table' me' number ToOdd sample result
  steps_invalid was m r =
      let keeps = was.0.keeps in
      let position = keeps.position in
      let count = keeps.count in
      let stores : ℕ = me.0.known.stores in
      let samples : List Sample = me.0.known.samples in
      as_code (publishing table me.0 ToInvalid sample) old table table' me' (begun me.0 sample) number ToOdd sample (Stored 9 0) result was.1 was.2 m r (
        record { view = refl; numbers = was.0.numbers ∙ ap (λ (k : ℕ). me.0.first + k) (sym (same_whole stores 0 position (omega arith))); keeps = after_invalid (record { table = table; first = me.0.first }) samples stores sample keeps },
        (
          (λ idle. cc),
          record {
            order = refl;
            leads = stores_invalid me.0.first samples stores (stores / 13) sample (omega arith) (omega arith);
            becomes = refl;
          },
        ),
      )

  pub steps_odd : Before ToOdd → me' ≡ (stored me.0, []) → result ≡ Stored 1 (2 * number + 1) → Stepped old table' me' number (ToBody 0) sample result
  steps_odd was m r =
      let position = was.0.keeps.position in
      let stores : ℕ = me.0.known.stores in
      let n : number ≡ me.0.first + stores / 13 = was.0.numbers in
      as_code (publishing table me.0 ToOdd sample) old table table' me' (stored me.0) number (ToBody 0) sample (Stored 1 (2 * number + 1)) result was.1 was.2 m r (
        record { view = refl; numbers = n ∙ ap (λ (k : ℕ). me.0.first + k) (sym (same_whole stores 1 position (omega arith))); keeps = after_odd (record { table = table; first = me.0.first }) me.0.known.samples stores sample was.0.keeps },
        (
          (λ idle. cc),
          record {
            order = ap (λ (k : ℕ). (1, 2 * k + 1)) n;
            leads = ap (λ (k : ℕ). slice_set (words_of me.0.first me.0.known.samples stores) 1 (2 * k + 1)) n ∙ stores_odd me.0.first me.0.known.samples stores (stores / 13) (omega arith);
            becomes = refl;
          },
        ),
      )

  pub steps_body : (place : ℕ) (next : Phase) → Before (ToBody place) → next ≡ next_of (ToBody place) → me' ≡ (stored me.0, []) → result ≡ Stored (slice_index body_places place) (slice_index (body_of sample) place) → Stepped old table' me' number next sample result
  steps_body place next was p m r =
      let keeps = was.0.keeps in
      let position : me.0.known.stores % 13 ≡ place + 2 = keeps.position in
      let within : place < 9 = keeps.place in
      let stores : ℕ = me.0.known.stores in
      let samples : List Sample = me.0.known.samples in
      let count = keeps.count in
      let low : stores / 13 ≤ length samples = omega arith in
      let body = writing samples sample (stores / 13) low (keeps.writes (omega arith)) in
      let word = slice_index body_places place in
      subst (λ (q : Phase). Stepped old table' me' number q sample result) (sym p)
      (as_code (publishing table me.0 (ToBody place) sample) old table table' me' (stored me.0) number (next_of (ToBody place)) sample (Stored word (slice_index (body_of sample) place)) result was.1 was.2 m r (
        record { view = refl; numbers = was.0.numbers ∙ ap (λ (k : ℕ). me.0.first + k) (sym (same_whole stores (place + 2) position (omega arith))); keeps = after_body (record { table = table; first = me.0.first }) samples stores sample place keeps },
        (
          (λ idle. cc),
          record {
            order = body_order (2 * (me.0.first + stores / 13)) sample place within;
            leads = ap (λ (l : List ℕ). slice_set (words_of me.0.first samples stores) word (slice_index l place)) (sym body) ∙ stores_body me.0.first samples stores (stores / 13) place within (omega arith);
            becomes = refl;
          },
        ),
      ))

  pub steps_even : Before ToEven → me' ≡ (stored me.0, []) → result ≡ Stored 1 (2 * number + 2) → Stepped old table' me' number ToValid sample result
  steps_even was m r =
      let position = was.0.keeps.position in
      let stores : ℕ = me.0.known.stores in
      let n : number ≡ me.0.first + stores / 13 = was.0.numbers in
      as_code (publishing table me.0 ToEven sample) old table table' me' (stored me.0) number ToValid sample (Stored 1 (2 * number + 2)) result was.1 was.2 m r (
        record { view = refl; numbers = n ∙ ap (λ (k : ℕ). me.0.first + k) (sym (same_whole stores 11 position (omega arith))); keeps = after_even (record { table = table; first = me.0.first }) me.0.known.samples stores sample was.0.keeps },
        (
          (λ idle. cc),
          record {
            order = ap (λ (k : ℕ). (1, 2 * k + 2)) n;
            leads = ap (λ (k : ℕ). slice_set (words_of me.0.first me.0.known.samples stores) 1 (2 * k + 2)) n ∙ stores_even me.0.first me.0.known.samples stores (stores / 13) (omega arith);
            becomes = refl;
          },
        ),
      )

  pub steps_valid : (number' : ℕ) → Before ToValid → number' ≡ number + 1 → me' ≡ (stored me.0, []) → result ≡ Stored 9 1 → Stepped old table' me' number' Idle sample result
  steps_valid number' was up m r =
      let position : me.0.known.stores % 13 ≡ 12 = was.0.keeps.position in
      let stores : ℕ = me.0.known.stores in
      let n : number ≡ me.0.first + stores / 13 = was.0.numbers in
      let whole : (stores + 1) / 13 ≡ stores / 13 + 1 = omega arith in
      as_code (publishing table me.0 ToValid sample) old table table' me' (stored me.0) number' Idle sample (Stored 9 1) result was.1 was.2 m r (
        record { view = refl; numbers = omega arith; keeps = after_valid (record { table = table; first = me.0.first }) me.0.known.samples stores sample was.0.keeps },
        (
          (λ idle. cc),
          record {
            order = refl;
            leads = stores_valid me.0.first me.0.known.samples stores (stores / 13) (omega arith);
            becomes = refl;
          },
        ),
      )

-- what count is, by the phase
count_by : (first stores number : ℕ) → number ≡ first + stores / 13 → (phase : Phase) → stores % 13 ≡ position_of phase → IsPlace phase → count_after first stores ≡ 2 * number + flag_of phase
count_by first stores number n Idle position place = count_in first stores 0 (stores / 13) position (same_whole stores 0 position (omega arith)) ∙ (let e : 2 * (first + stores / 13) + 0 ≡ 2 * number + 0 = omega arith in e)
count_by first stores number n ToInvalid position place = count_in first stores 0 (stores / 13) position (same_whole stores 0 position (omega arith)) ∙ (let e : 2 * (first + stores / 13) + 0 ≡ 2 * number + 0 = omega arith in e)
count_by first stores number n ToOdd position place = count_in first stores 1 (stores / 13) position (same_whole stores 1 position (omega arith)) ∙ (let e : 2 * (first + stores / 13) + 0 ≡ 2 * number + 0 = omega arith in e)
count_by first stores number n (ToBody place) position within = odd_count first (place + 2) (stores / 13) stores (omega arith) (omega arith) position (same_whole stores (place + 2) position (omega arith)) ∙ (let e : 2 * (first + stores / 13) + 1 ≡ 2 * number + 1 = omega arith in e)
count_by first stores number n ToEven position place = odd_count first 11 (stores / 13) stores (omega arith) (omega arith) position (same_whole stores 11 position (omega arith)) ∙ (let e : 2 * (first + stores / 13) + 1 ≡ 2 * number + 1 = omega arith in e)
count_by first stores number n ToValid position place =
    let last : (stores + 1) / 13 ≡ stores / 13 + 1 = omega arith in
    count_in first stores 12 (stores / 13 + 1) position last ∙ (let e : 2 * (first + (stores / 13 + 1)) + 0 ≡ 2 * number + 2 = omega arith in e)

pub count_is : (p : Publishing) (number flag : ℕ) → IsPublishing p → number ≡ p.segment.first + p.stores / 13 → flag ≡ flag_of p.phase → 2 * number + flag ≡ count_of p
count_is p number flag k n f =
    ap (λ (x : ℕ). 2 * number + x) f ∙ sym (count_by p.segment.first p.stores number n p.phase k.position k.place)
