-- Each kind of the taker's steps keeps the rule.
use Rattle.std.proofs.Common.{◌≡◌, ◌≢◌, ℕ, zero, suc, ◌+◌, ◌-◌, ◌*◌, ◌/◌, ◌<◌, ◌≤◌, ◌^◌, Bool, true, false, List, [], ◌∷◌, ◌++◌, length, take, set, Some, None, refl, sym, ap, ◌∙◌, subst, arith, length-append}
use Rattle.std.specs.Prelude.{Option, slice_get, slice_index, slice_index_or, if◌then◌else◌, ◌==◌}
use Rattle.std.specs.List.{All}
use Rattle.std.proofs.lemmas.Bool.Decides.{nat_tests}
use Rattle.std.proofs.lemmas.List.{take_more, set-get_or, set-set}
use Rattle.std.proofs.lemmas.List.Elements.{All-append, All-cons, All-nil}
use Rattle.atomic_table.specs.Table.{Me, Allows}
use Rattle.atomic_table.specs.Table.{keeps as no_slot}
use Rattle.shm_segment.specs.declared.sample.Sample.{Sample}
use Rattle.shm_segment.specs.declared.view.Numbered.{Numbered}
use Rattle.shm_segment.specs.Words.{published_after, count_after, body_after, words_of, body_places}
use Rattle.shm_segment.specs.Rule.{IsSound, IsPublished, last_from}
use Rattle.shm_segment.proofs.Words.{count_in, published_is}
use Rattle.shm_segment.proofs.Running.{half_count}
use Rattle.shm_consumer.specs.declared.view.Access.{Access}
use Rattle.shm_consumer.specs.declared.view.Access.TheVariants.{Load}
use Rattle.shm_consumer.specs.declared.view.Role.TheVariants.{Takes}
use Rattle.shm_consumer.specs.declared.view.View.{View}
use Rattle.shm_consumer.specs.Views.{after, counted, validated, fetched, pair_of, pair_after, recounted, consumed_with, cleared}
use Rattle.shm_consumer.specs.Rule.{words_with, IsValid, IsRunning, IsRead, RisesStrictly, Fits, HoldsOf, IsRecounted, Agrees, may_give, may_take}
use Rattle.shm_consumer.proofs.Keeps.{role_on, fits_set}
use Rattle.shm_consumer.proofs.Storing.{valid_zero}
use Rattle.shm_segment.proofs.Reading.{length_body, count_fits}
use Rattle.shm_consumer.proofs.Reading.{word_count, word_valid, word_body, whole, one, two, last_snoc, rises_snoc}

-- a load: the seat has a new view, which may depend on the value found
looks : (first slots seat word : ℕ) (v : View) (next : ℕ → View) (tells : ℕ → Type 0) → ((n : ℕ) → (next n).role ≡ v.role)
    → ((gives takes : ℕ) (samples : List Sample) (stores last valid : ℕ) → IsSound first samples stores → IsValid first stores last valid → Fits gives takes first samples stores last seat v
    → Fits gives takes first samples stores last seat (next (slice_index (words_with first samples stores valid) word)) × tells (slice_index (words_with first samples stores valid) word))
    → Allows {S = Unit {0}} (HoldsOf first) slots seat (v, []) word (λ n. n) (λ n (after : Me (Unit {0}) View). (after ≡ (next n, [])) × tells n)
looks first slots seat word v next tells same law s h homes at small =
    let is = h.words_are in
    let found : slice_index (words_with first h.samples h.stores h.valid) word ≡ slice_index s.words word = ap (λ (ws : List ℕ). slice_index ws word) (sym is) in
    let told = law h.giver h.taker h.samples h.stores h.last h.valid h.sound h.valid_is (h.fits seat v at) in
    let told' = subst (λ (n : ℕ). Fits h.giver h.taker first h.samples h.stores h.last seat (next n) × tells n) found told in (
      next (slice_index s.words word),
      no_slot,
      tt,
      record {
        giver = h.giver;
        taker = h.taker;
        samples = h.samples;
        stores = h.stores;
        last = h.last;
        valid = h.valid;
        gives = role_on may_give s.views seat h.giver v (next (slice_index s.words word)) at (ap may_give (same (slice_index s.words word))) h.gives;
        takes = role_on may_take s.views seat h.taker v (next (slice_index s.words word)) at (ap may_take (same (slice_index s.words word))) h.takes;
        words_are = set-get_or s.words word 0 ∙ is;
        valid_is = h.valid_is;
        sound = h.sound;
        behind = h.behind;
        fits = fits_set h.giver h.taker first h.samples h.stores h.last s.views seat (next (slice_index s.words word)) (λ j u other at'. h.fits j u at') told'.0;
      },
      (refl, told'.1),
    )

-- a load that tells nothing more
plainly : (first slots seat word : ℕ) (v : View) (next : ℕ → View) → ((n : ℕ) → (next n).role ≡ v.role)
    → ((gives takes : ℕ) (samples : List Sample) (stores last valid : ℕ) → IsSound first samples stores → IsValid first stores last valid → Fits gives takes first samples stores last seat v
    → Fits gives takes first samples stores last seat (next (slice_index (words_with first samples stores valid) word)))
    → Allows {S = Unit {0}} (HoldsOf first) slots seat (v, []) word (λ n. n) (λ n (after : Me (Unit {0}) View). after ≡ (next n, []))
plainly first slots seat word v next same law s h homes at small =
    let a = looks first slots seat word v next (λ _. Unit {0}) same (λ gives takes samples stores last valid sound is fits. (law gives takes samples stores last valid sound is fits, tt)) s h homes at small in
    (a.0, a.1, a.2, a.3, a.4.0)

slice_get_short : {A : Type 0} (xs ys : List A) (k : ℕ) (x : A) → slice_get (xs ++ ys) k ≡ Some x → k < length xs → slice_get xs k ≡ Some x
slice_get_short [] ys k x e h = absurd (omega arith)
slice_get_short (y ∷ xs) ys zero x e h = e
slice_get_short (y ∷ xs) ys (suc k) x e h = slice_get_short xs ys k x e (omega arith)

some_read : (read : Option Numbered) → read ≢ None → (pair : Numbered) × (read ≡ Some pair)
some_read None not = absurd (not refl)
some_read (Some pair) not = (pair, refl)

module _ (first slots seat : ℕ) (v : View) (role : v.role ≡ Takes) where
  -- the view after a load fits, with this reading and this pair read
  after_fits : (gives takes : ℕ) (samples : List Sample) (stores last : ℕ) (access : Access) (reading : List ℕ) (read : Option Numbered) → Fits gives takes first samples stores last seat v
      → IsRunning first samples stores (last_from 0 v.consumed) reading → IsRead first samples stores (last_from 0 v.consumed) read → Fits gives takes first samples stores last seat (after v access reading read)
  after_fits gives takes samples stores last access reading read fits running is =
      record {
        first_same = fits.first_same;
        gives = fits.gives;
        takes = fits.takes;
        told = fits.told;
        consumed = fits.consumed;
        rises = fits.rises;
        running = running;
        read = is;
      }

  taker_is : (gives takes : ℕ) (samples : List Sample) (stores last : ℕ) → Fits gives takes first samples stores last seat v → (seat ≡ takes) × (last_from 0 v.consumed ≡ last)
  taker_is gives takes samples stores last fits = fits.takes (ap may_take role)

  -- the first count
  pub counts : Allows {S = Unit {0}} (HoldsOf first) slots seat (v, []) 1 (λ n. n) (λ n (after : Me (Unit {0}) View). (after ≡ (counted v n, [])) × (n < 2 ^ 32))
  counts =
      looks first slots seat 1 v (counted v) (λ n. n < 2 ^ 32) (λ _. refl)
      (λ gives takes samples stores last valid sound is fits.
      let n : ℕ = slice_index (words_with first samples stores valid) 1 in
      let now : n ≡ count_after first stores = word_count first samples stores valid in
      let small = count_fits first samples stores sound in (
        after_fits gives takes samples stores last (Load 1 n) (n ∷ []) None fits (omega arith) tt,
        omega arith,
      ))

  -- valid
  pub validates : length v.reading ≡ 1 → Allows {S = Unit {0}} (HoldsOf first) slots seat (v, []) 9 (λ n. n) (λ n (after : Me (Unit {0}) View). (after ≡ (validated v n, [])) × (n ≤ 1))
  validates long =
      looks first slots seat 9 v (validated v) (λ n. n ≤ 1) (λ _. refl)
      (λ gives takes samples stores last valid sound is fits.
      let n : ℕ = slice_index (words_with first samples stores valid) 9 in
      let now : n ≡ valid = word_valid first samples stores valid in
      let either = is.either in (
        after_fits gives takes samples stores last (Load 9 n) (if n == 0 then [] else v.reading ++ n ∷ []) None fits (goes_on gives takes samples stores last valid n now is fits (n == 0) refl) tt,
        omega arith,
      ))
    where
      goes_on : (gives takes : ℕ) (samples : List Sample) (stores last valid n : ℕ) → n ≡ valid → IsValid first stores last valid → Fits gives takes first samples stores last seat v → (b : Bool) → (n == 0) ≡ b
          → IsRunning first samples stores (last_from 0 v.consumed) (if b then [] else v.reading ++ n ∷ [])
      goes_on gives takes samples stores last valid n now is fits true test = tt
      goes_on gives takes samples stores last valid n now is fits false test =
          let some : 0 < n = grind (arith, nat_tests) in
          let either = is.either in
          let one_is : valid ≡ 1 = omega arith in
          let ended = is.ended one_is in
          let made = is.some one_is in
          let above = is.above one_is in
          let mine = (taker_is gives takes samples stores last fits).1 in
          let reading = one v.reading long in
          let count : ℕ = reading.0 in
          let below = subst (IsRunning first samples stores (last_from 0 v.consumed)) reading.1 fits.running in
          let even : count_after first stores ≡ 2 * (first + stores / 13) + 0 = count_in first stores 0 (stores / 13) ended (published_is stores (stores / 13) 0 (omega arith) (omega arith)) in
          let half = half_count first stores in
          subst (λ (l : List ℕ). IsRunning first samples stores (last_from 0 v.consumed) (l ++ n ∷ [])) (sym reading.1)
          (below, some, λ same. record { above = omega arith; even = omega arith; some = omega arith; position = omega arith; same = refl })

  -- a word of the body
  pub fetches : (place : ℕ) → place < 9 → length v.reading ≡ place + 2
      → Allows {S = Unit {0}} (HoldsOf first) slots seat (v, []) (slice_index body_places place) (λ n. n) (λ n (after : Me (Unit {0}) View). after ≡ (fetched v (slice_index body_places place) n, []))
  fetches place within long =
      plainly first slots seat (slice_index body_places place) v (fetched v (slice_index body_places place)) (λ _. refl)
      (λ gives takes samples stores last valid sound is fits.
      let word : ℕ = slice_index body_places place in
      let n : ℕ = slice_index (words_with first samples stores valid) word in
      let values = two v.reading place long in
      let was = subst (IsRunning first samples stores (last_from 0 v.consumed)) values.3 fits.running in
      let body : List ℕ = values.2 in
      let now_body = body_after samples stores in
      let more = take_more now_body place 0 (omega (arith, length_body samples stores)) in
      let longer : length (body ++ n ∷ []) ≡ place + 1 = let l = values.4 in omega (arith, length-append body (n ∷ [])) in
      after_fits gives takes samples stores last (Load word n) (v.reading ++ n ∷ []) None fits
      (subst (λ (l : List ℕ). IsRunning first samples stores (last_from 0 v.consumed) (l ++ n ∷ [])) (sym values.3) (
        was.0,
        was.1,
        λ now.
            let still = was.2 now in
            let front : body ≡ take place now_body = still.same ∙ ap (λ (k : ℕ). take k now_body) values.4 in
            record {
              above = still.above;
              even = still.even;
              some = still.some;
              position = still.position;
              same = ap (λ (l : List ℕ). l ++ n ∷ []) front ∙ ap (λ (k : ℕ). take place now_body ++ k ∷ []) (word_body first samples stores valid place within) ∙ sym more ∙ ap (λ (k : ℕ). take k now_body) (sym longer);
            },
      )) tt)

  -- the second count
  pub recounts : length v.reading ≡ 11 → Allows {S = Unit {0}} (HoldsOf first) slots seat (v, []) 1 (λ n. n) (λ n (after : Me (Unit {0}) View). (after ≡ (recounted v n, [])) × IsRecounted v n)
  recounts long =
      looks first slots seat 1 v (recounted v) (IsRecounted v) (λ _. refl)
      (λ gives takes samples stores last valid sound is fits.
      let values = two v.reading 9 long in
      let n : ℕ = slice_index (words_with first samples stores valid) 1 in
      let now : n ≡ count_after first stores = word_count first samples stores valid in
      let small = count_fits first samples stores sound in
      let was = subst (IsRunning first samples stores (last_from 0 v.consumed)) values.3 fits.running in
      let read = subst (λ (l : List ℕ). IsRead first samples stores (last_from 0 v.consumed) (pair_after l n)) (sym values.3) (reads samples stores sound values.0 values.1 values.2 values.4 was n now (n == values.0) refl) in (
        after_fits gives takes samples stores last (Load 1 n) [] (pair_after v.reading n) fits tt read,
        (
          omega arith,
          λ count valid' body reading nine again.
              let was' = subst (IsRunning first samples stores (last_from 0 v.consumed)) reading fits.running in
              (whole first samples stores (last_from 0 v.consumed) count body sound (sym now ∙ again) nine (was'.2 (sym now ∙ again))).0,
        ),
      ))
    where
      reads : (samples : List Sample) (stores : ℕ) → IsSound first samples stores → (count valid : ℕ) (body : List ℕ) → length body ≡ 9
          → IsRunning first samples stores (last_from 0 v.consumed) (count ∷ valid ∷ body) → (n : ℕ) → n ≡ count_after first stores → (b : Bool) → (n == count) ≡ b
          → IsRead first samples stores (last_from 0 v.consumed) (if b then Some (pair_of count body) else None)
      reads samples stores sound count valid body nine was n now false test = tt
      reads samples stores sound count valid body nine was n now true test =
          let same : n ≡ count = grind (arith, nat_tests) in
          let here : count_after first stores ≡ count = sym now ∙ same in
          let still = was.2 here in
          let position = still.position in
          let half : count / 2 ≡ first + published_after stores = ap (λ (k : ℕ). k / 2) (sym here) ∙ half_count first stores in (
            (whole first samples stores (last_from 0 v.consumed) count body sound here nine still).1,
            still.above,
            record { most = omega arith; below = λ last_position. absurd (omega arith) },
          )

  -- the store of valid 0: the pair that was read is consumed
  pub clears : v.read ≢ None → Allows {S = Unit {0}} (HoldsOf first) slots seat (v, []) 9 (λ _. 0) (λ _ (after : Me (Unit {0}) View). (after ≡ (cleared v, [])) × RisesStrictly 0 after.0.consumed)
  clears some s h homes at small =
      let found = some_read v.read some in
      let pair : Numbered = found.0 in
      let fits = h.fits seat v at in
      let mine = fits.takes (ap may_take role) in
      let read = subst (IsRead first h.samples h.stores (last_from 0 v.consumed)) found.1 fits.read in
      let pairs : (cleared v).consumed ≡ v.consumed ++ pair ∷ [] = ap (λ (o : Option Numbered). consumed_with o v.consumed) found.1 in
      let rises = subst (RisesStrictly 0) (sym pairs) (rises_snoc 0 v.consumed pair fits.rises read.1) in (
        cleared v,
        no_slot,
        tt,
        record {
          giver = h.giver;
          taker = h.taker;
          samples = h.samples;
          stores = h.stores;
          last = pair.number;
          valid = 0;
          gives = role_on may_give s.views seat h.giver v (cleared v) at refl h.gives;
          takes = role_on may_take s.views seat h.taker v (cleared v) at refl h.takes;
          words_are = ap (λ (ws : List ℕ). set ws 9 0) h.words_are ∙ set-set (words_of first h.samples h.stores) 9 h.valid 0;
          valid_is = valid_zero first h.stores pair.number;
          sound = h.sound;
          behind = read.2;
          fits = fits_set h.giver h.taker first h.samples h.stores pair.number s.views seat (cleared v)
              (λ j u other at'.
              let was = h.fits j u at' in
              record {
                first_same = was.first_same;
                gives = was.gives;
                takes = λ takes. absurd (other ((was.takes takes).0 ∙ sym mine.0));
                told = was.told;
                consumed = was.consumed;
                rises = was.rises;
                running = was.running;
                read = was.read;
              })
              (record {
                first_same = fits.first_same;
                gives = fits.gives;
                takes = λ _. (mine.0, ap (last_from 0) pairs ∙ last_snoc 0 v.consumed pair);
                told = fits.told;
                consumed = subst (All (IsPublished first h.samples h.stores)) (sym pairs)
                    (All-append (IsPublished first h.samples h.stores) v.consumed (pair ∷ []) fits.consumed (All-cons (IsPublished first h.samples h.stores) pair [] read.0 (All-nil (IsPublished first h.samples h.stores))));
                rises = rises;
                running = tt;
                read = tt;
              });
        },
        (refl, rises),
      )

  -- the load at which the pairs and a notice agree
  pub meets : Allows {S = Unit {0}} (HoldsOf first) slots seat (v, []) 0 (λ n. n) (λ _ (after : Me (Unit {0}) View). (after ≡ (v, [])) × Agrees v.first v.known v.consumed)
  meets =
      looks first slots seat 0 v (λ _. v) (λ _. Agrees v.first v.known v.consumed) (λ _. refl)
      (λ gives takes samples stores last valid sound is fits. (fits, agrees gives takes samples stores last fits))
    where
      agrees : (gives takes : ℕ) (samples : List Sample) (stores last : ℕ) → Fits gives takes first samples stores last seat v → Agrees v.first v.known v.consumed
      agrees gives takes samples stores last fits k d h reached =
          let pair : Numbered = slice_index_or v.consumed k d in
          let same : v.first ≡ first = fits.first_same (λ spent. cc) in
          let is = fits.consumed k d h in
          let above = is.above in
          let told = fits.told in
          let reach = told.reaches in
          let long : published_after v.known.stores ≤ length v.known.samples = omega arith in
          let there : slice_get samples (pair.number - v.first - 1) ≡ Some pair.sample = subst (λ (f : ℕ). slice_get samples (pair.number - f - 1) ≡ Some pair.sample) (sym same) is.same in
          record {
            above = omega arith;
            reached = reached;
            same = slice_get_short v.known.samples told.begins.0 (pair.number - v.first - 1) pair.sample (subst (λ (l : List Sample). slice_get l (pair.number - v.first - 1) ≡ Some pair.sample) (sym told.begins.1) there) (omega arith);
          }

-- the same at a seat that holds no slot
module _ (first slots seat : ℕ) (me : Me (Unit {0}) View) (role : me.0.role ≡ Takes) (free : me.1 ≡ []) where
  here : (me.0, []) ≡ me
  here = λ i. (me.0, sym free i)

  pub counts_as : Allows {S = Unit {0}} (HoldsOf first) slots seat me 1 (λ n. n) (λ n (after : Me (Unit {0}) View). (after ≡ (counted me.0 n, [])) × (n < 2 ^ 32))
  counts_as = subst (λ (u : Me (Unit {0}) View). Allows {S = Unit {0}} (HoldsOf first) slots seat u 1 (λ n. n) (λ n (after : Me (Unit {0}) View). (after ≡ (counted u.0 n, [])) × (n < 2 ^ 32))) here (counts first slots seat me.0 role)

  pub validates_as : length me.0.reading ≡ 1 → Allows {S = Unit {0}} (HoldsOf first) slots seat me 9 (λ n. n) (λ n (after : Me (Unit {0}) View). (after ≡ (validated me.0 n, [])) × (n ≤ 1))
  validates_as long = subst (λ (u : Me (Unit {0}) View). Allows {S = Unit {0}} (HoldsOf first) slots seat u 9 (λ n. n) (λ n (after : Me (Unit {0}) View). (after ≡ (validated u.0 n, [])) × (n ≤ 1))) here (validates first slots seat me.0 role long)

  pub fetches_as : (place : ℕ) → place < 9 → length me.0.reading ≡ place + 2
      → Allows {S = Unit {0}} (HoldsOf first) slots seat me (slice_index body_places place) (λ n. n) (λ n (after : Me (Unit {0}) View). after ≡ (fetched me.0 (slice_index body_places place) n, []))
  fetches_as place within long =
      subst (λ (u : Me (Unit {0}) View). Allows {S = Unit {0}} (HoldsOf first) slots seat u (slice_index body_places place) (λ n. n) (λ n (after : Me (Unit {0}) View). after ≡ (fetched u.0 (slice_index body_places place) n, []))) here
      (fetches first slots seat me.0 role place within long)

  pub recounts_as : length me.0.reading ≡ 11 → Allows {S = Unit {0}} (HoldsOf first) slots seat me 1 (λ n. n) (λ n (after : Me (Unit {0}) View). (after ≡ (recounted me.0 n, [])) × IsRecounted me.0 n)
  recounts_as long = subst (λ (u : Me (Unit {0}) View). Allows {S = Unit {0}} (HoldsOf first) slots seat u 1 (λ n. n) (λ n (after : Me (Unit {0}) View). (after ≡ (recounted u.0 n, [])) × IsRecounted u.0 n)) here (recounts first slots seat me.0 role long)

  pub clears_as : me.0.read ≢ None → Allows {S = Unit {0}} (HoldsOf first) slots seat me 9 (λ _. 0) (λ _ (after : Me (Unit {0}) View). (after ≡ (cleared me.0, [])) × RisesStrictly 0 after.0.consumed)
  clears_as some = subst (λ (u : Me (Unit {0}) View). Allows {S = Unit {0}} (HoldsOf first) slots seat u 9 (λ _. 0) (λ _ (after : Me (Unit {0}) View). (after ≡ (cleared u.0, [])) × RisesStrictly 0 after.0.consumed)) here (clears first slots seat me.0 role some)

  pub meets_as : Allows {S = Unit {0}} (HoldsOf first) slots seat me 0 (λ n. n) (λ _ (after : Me (Unit {0}) View). (after ≡ me) × Agrees me.0.first me.0.known me.0.consumed)
  meets_as = subst (λ (u : Me (Unit {0}) View). Allows {S = Unit {0}} (HoldsOf first) slots seat u 0 (λ n. n) (λ _ (after : Me (Unit {0}) View). (after ≡ u) × Agrees u.0.first u.0.known u.0.consumed)) here (meets first slots seat me.0 role)
