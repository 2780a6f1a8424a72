-- Each kind of a monitor's steps keeps the segment's rule.
use Rattle.std.proofs.Common.{◌≡◌, ◌≢◌, ℕ, zero, suc, ◌+◌, ◌-◌, ◌*◌, ◌/◌, ◌%◌, ◌<◌, ◌≤◌, Bool, true, false, List, [], ◌∷◌, ◌++◌, length, take, Some, refl, sym, ap, ◌∙◌, subst, arith, length-append}
use Rattle.std.specs.Prelude.{nat_le, slice_get, slice_index, slice_index_or, if◌then◌else◌, ◌==◌}
use Rattle.std.specs.List.{All}
use Rattle.std.proofs.lemmas.Bool.Decides.{nat_tests}
use Rattle.std.proofs.lemmas.List.{take_more}
use Rattle.std.proofs.lemmas.List.Elements.{All-append, All-cons, All-nil}
use Rattle.atomic_table.specs.Table.{Me, Allows, Splits, Joins}
use Rattle.shm_segment.specs.declared.sample.Sample.{Sample}
use Rattle.shm_segment.specs.declared.view.Numbered.{Numbered}
use Rattle.shm_segment.specs.declared.view.Role.TheVariants.{Publishes, Monitors}
use Rattle.shm_segment.specs.declared.view.View.{View}
use Rattle.shm_segment.specs.Samples.{sample_of}
use Rattle.shm_segment.specs.Words.{published_after, count_after, body_after, words_of, body_places}
use Rattle.shm_segment.specs.Views.{spent, account_of, with_notice}
use Rattle.shm_segment.specs.Rule.{IsSound, IsTold, IsPublished, WasShown, IsWhole, IsRunning, Rises, last_from, Fits, HoldsOf}
use Rattle.shm_segment.proofs.Running.{half_count}
use Rattle.shm_segment.proofs.Looking.{looks, splits, joins, nothing_told}
use Rattle.shm_monitor.specs.Loads.{load, loaded, counted, IsFirstCount, validated, read, taken_after, recounted, IsRecounted, agreed, Agrees}
use Rattle.shm_segment.proofs.Reading.{length_body, count_fits}
use Rattle.shm_monitor.proofs.Whole.{word_count, word_body, word_valid, whole}

pub last_snoc : (low : ℕ) (xs : List Numbered) (pair : Numbered) → last_from low (xs ++ pair ∷ []) ≡ pair.number
last_snoc low [] pair = refl
last_snoc low (x ∷ xs) pair = last_snoc x.number xs pair

pub rises_snoc : (low : ℕ) (xs : List Numbered) (pair : Numbered) → Rises low xs → last_from low xs ≤ pair.number → Rises low (xs ++ pair ∷ [])
rises_snoc low [] pair rises h = (h, tt)
rises_snoc low (x ∷ xs) pair rises h = (rises.0, rises_snoc x.number xs pair rises.1 h)

pub one : (l : List ℕ) → length l ≡ 1 → (count : ℕ) × (l ≡ count ∷ [])
one [] e = absurd (omega arith)
one (x ∷ []) e = (x, refl)
one (x ∷ y ∷ l) e = absurd (omega arith)

pub two : (l : List ℕ) (n : ℕ) → length l ≡ n + 2 → (count valid : ℕ) × (body : List ℕ) × (l ≡ count ∷ valid ∷ body) × (length body ≡ n)
two [] n e = absurd (omega arith)
two (x ∷ []) n e = absurd (omega arith)
two (x ∷ y ∷ l) n e = (x, y, l, refl, omega arith)

slice_get_short : {A : Type 0} (xs ys : List A) (k : ℕ) (x : A) → slice_get (xs ++ ys) k ≡ Some x → k < length xs → slice_get xs k ≡ Some x
slice_get_short [] ys k x e h = absurd (omega arith)
slice_get_short (y ∷ xs) ys zero x e h = e
slice_get_short (y ∷ xs) ys (suc k) x e h = slice_get_short xs ys k x e (omega arith)

published_low : (a b : ℕ) → a ≤ b → published_after a ≤ published_after b
published_low a b h = omega arith

-- a load that tells nothing more
plainly : (first slots seat word : ℕ) (v : View) (next : ℕ → View) → ((n : ℕ) → (next n).role ≡ v.role)
    → ((writer : ℕ) (samples : List Sample) (stores : ℕ) → IsSound first samples stores → Fits writer first samples stores seat v → Fits writer first samples stores seat (next (slice_index (words_of first samples stores) word)))
    → Allows {S = Unit {0}} (HoldsOf first) slots seat (v, []) word (λ n. n) (λ n (after : Me (Unit {0}) View). after ≡ (next n, []))
plainly first slots seat word v next same law s h homes at small =
    let a = looks first slots seat word v next (λ _. Unit {0}) same (λ writer samples stores sound fits. (law writer samples stores sound fits, tt)) s h homes at small in
    (a.0, a.1, a.2, a.3, a.4.0)

module _ (first slots seat : ℕ) (v : View) (role : v.role ≡ Monitors) where
  -- the view after a load fits, with these pairs and this reading
  loaded_fits : (writer : ℕ) (samples : List Sample) (stores word : ℕ) (taken : List Numbered) (reading : List ℕ) → Fits writer first samples stores seat v
      → All (IsPublished first samples stores) taken → Rises 0 taken → 2 * last_from 0 taken ≤ count_after first stores → IsRunning first samples stores (last_from 0 taken) reading
      → Fits writer first samples stores seat (loaded v word (slice_index (words_of first samples stores) word) taken reading)
  loaded_fits writer samples stores word taken reading fits pairs rises low running =
      let n : ℕ = slice_index (words_of first samples stores) word in
      record {
        first_same = fits.first_same;
        publishes = fits.publishes;
        told = fits.told;
        met = fits.met;
        taken = pairs;
        rises = rises;
        last_below = low;
        kept = All-append (WasShown first samples stores) v.kept (load v.known.stores word n ∷ []) fits.kept
            (All-cons (WasShown first samples stores) (load v.known.stores word n) [] (stores, fits.told.earlier, (let e : stores ≤ stores = omega arith in e), refl) (All-nil (WasShown first samples stores)));
        running = running;
      }

  same_first : (writer : ℕ) (samples : List Sample) (stores : ℕ) → Fits writer first samples stores seat v → v.first ≡ first
  same_first writer samples stores fits = fits.first_same (λ is. cc)

  -- K6: the first count
  pub counts : Allows {S = Unit {0}} (HoldsOf first) slots seat (v, []) 1 (λ n. n) (λ n (after : Me (Unit {0}) View). (after ≡ (counted v n, [])) × IsFirstCount v n)
  counts =
      looks first slots seat 1 v (counted v) (IsFirstCount v) (λ _. refl)
      (λ writer samples stores sound fits.
      let n : ℕ = slice_index (words_of first samples stores) 1 in
      let is : n ≡ count_after first stores = word_count first samples stores in
      let same = same_first writer samples stores fits in
      let half = half_count first stores in
      let earlier = fits.told.earlier in
      let low = published_low v.known.stores stores earlier in
      let last = fits.last_below in
      let small = count_fits first samples stores sound in (
        loaded_fits writer samples stores 1 v.taken (n ∷ []) fits fits.taken fits.rises fits.last_below (record { below = omega arith; last_below = omega arith }),
        record { last = omega arith; told = omega arith; fits = omega arith },
      ))

  -- K7: valid
  pub validates : length v.reading ≡ 1 → Allows {S = Unit {0}} (HoldsOf first) slots seat (v, []) 9 (λ n. n) (λ n (after : Me (Unit {0}) View). after ≡ (validated v n, []))
  validates long =
      plainly first slots seat 9 v (validated v) (λ _. refl)
      (λ writer samples stores sound fits.
      let n : ℕ = slice_index (words_of first samples stores) 9 in
      loaded_fits writer samples stores 9 v.taken (if n == 0 then [] else v.reading ++ n ∷ []) fits fits.taken fits.rises fits.last_below (goes_on writer samples stores fits (n == 0) refl))
    where
      goes_on : (writer : ℕ) (samples : List Sample) (stores : ℕ) → Fits writer first samples stores seat v → (b : Bool) → (slice_index (words_of first samples stores) 9 == 0) ≡ b
          → IsRunning first samples stores (last_from 0 v.taken) (if b then [] else v.reading ++ slice_index (words_of first samples stores) 9 ∷ [])
      goes_on writer samples stores fits true test = tt
      goes_on writer samples stores fits false test =
          let n : ℕ = slice_index (words_of first samples stores) 9 in
          let some : 0 < n = grind (arith, nat_tests) in
          let valid = word_valid first samples stores some in
          let is = one v.reading long in
          let counted = subst (IsRunning first samples stores (last_from 0 v.taken)) is.1 fits.running in
          subst (λ (l : List ℕ). IsRunning first samples stores (last_from 0 v.taken) (l ++ n ∷ [])) (sym is.1)
          (counted, some, λ now. record { even = ap (λ (k : ℕ). k % 2) (sym now) ∙ valid.0; some = valid.1; same = refl })

  -- K8: a word of the body
  pub reads : (place : ℕ) → place < 9 → length v.reading ≡ place + 2
      → Allows {S = Unit {0}} (HoldsOf first) slots seat (v, []) (slice_index body_places place) (λ n. n) (λ n (after : Me (Unit {0}) View). after ≡ (read v (slice_index body_places place) n, []))
  reads place within long =
      plainly first slots seat (slice_index body_places place) v (read v (slice_index body_places place)) (λ _. refl)
      (λ writer samples stores sound fits.
      let word : ℕ = slice_index body_places place in
      let n : ℕ = slice_index (words_of first samples stores) word in
      let is = two v.reading place long in
      let was = subst (IsRunning first samples stores (last_from 0 v.taken)) is.3 fits.running in
      let body : List ℕ = is.2 in
      let now_body = body_after samples stores in
      let more = take_more now_body place 0 (omega (arith, length_body samples stores)) in
      let longer : length (body ++ n ∷ []) ≡ place + 1 = let l = is.4 in omega (arith, length-append body (n ∷ [])) in
      loaded_fits writer samples stores word v.taken (v.reading ++ n ∷ []) fits fits.taken fits.rises fits.last_below
      (subst (λ (l : List ℕ). IsRunning first samples stores (last_from 0 v.taken) (l ++ n ∷ [])) (sym is.3) (
        was.0,
        was.1,
        λ now.
            let whole = was.2 now in
            let front : body ≡ take place now_body = whole.same ∙ ap (λ (k : ℕ). take k now_body) is.4 in
            record {
              even = whole.even;
              some = whole.some;
              same = ap (λ (l : List ℕ). l ++ n ∷ []) front ∙ ap (λ (k : ℕ). take place now_body ++ k ∷ []) (word_body first samples stores place within) ∙ sym more ∙ ap (λ (k : ℕ). take k now_body) (sym longer);
            },
      )))

  -- K9: the second count
  pub recounts : length v.reading ≡ 11 → Allows {S = Unit {0}} (HoldsOf first) slots seat (v, []) 1 (λ n. n) (λ n (after : Me (Unit {0}) View). (after ≡ (recounted v n, [])) × IsRecounted v n)
  recounts long =
      looks first slots seat 1 v (recounted v) (IsRecounted v) (λ _. refl)
      (λ writer samples stores sound fits.
      let is = two v.reading 9 long in
      let n : ℕ = slice_index (words_of first samples stores) 1 in
      let now : n ≡ count_after first stores = word_count first samples stores in
      let was = subst (IsRunning first samples stores (last_from 0 v.taken)) is.3 fits.running in
      let pairs = subst (λ (l : List ℕ). Good samples stores (taken_after v.taken l n)) (sym is.3) (ends writer samples stores sound fits is.0 is.1 is.2 is.4 was n now (n == is.0) refl) in (
        loaded_fits writer samples stores 1 (taken_after v.taken v.reading n) [] fits pairs.0 pairs.1 pairs.2 tt,
        λ count valid body reading nine.
            let was' = subst (IsRunning first samples stores (last_from 0 v.taken)) reading fits.running in
            let counted = was'.0 in
            let last = counted.last_below in
            let small = count_fits first samples stores sound in
            record {
              ready = was'.1;
              fits = omega arith;
              whole = λ again. ((whole first samples stores count body sound (sym now ∙ again) nine (was'.2 (sym now ∙ again))).0, omega arith);
            },
      ))
    where
      Good : List Sample → ℕ → List Numbered → Type 0
      Good samples stores taken = All (IsPublished first samples stores) taken × Rises 0 taken × (2 * last_from 0 taken ≤ count_after first stores)

      ends : (writer : ℕ) (samples : List Sample) (stores : ℕ) → IsSound first samples stores → Fits writer first samples stores seat v → (count valid : ℕ) (body : List ℕ) → length body ≡ 9
          → IsRunning first samples stores (last_from 0 v.taken) (count ∷ valid ∷ body) → (n : ℕ) → n ≡ count_after first stores → (b : Bool) → (n == count) ≡ b
          → Good samples stores (if b then v.taken ++ record { number = n / 2; sample = sample_of body } ∷ [] else v.taken)
      ends writer samples stores sound fits count valid body nine was n now false test = (fits.taken, fits.rises, fits.last_below)
      ends writer samples stores sound fits count valid body nine was n now true test =
          let same : n ≡ count = grind (arith, nat_tests) in
          let counted = was.0 in
          let last = counted.last_below in
          let pair : Numbered = record { number = n / 2; sample = sample_of body } in
          let is = whole first samples stores n body sound (sym now) nine (subst (λ (k : ℕ). IsWhole samples stores k body) (sym same) (was.2 (sym now ∙ same))) in
          let up : last_from 0 v.taken ≤ n / 2 = omega arith in
          let new = last_snoc 0 v.taken pair in (
            All-append (IsPublished first samples stores) v.taken (pair ∷ []) fits.taken (All-cons (IsPublished first samples stores) pair [] is.1 (All-nil (IsPublished first samples stores))),
            rises_snoc 0 v.taken pair fits.rises up,
            omega arith,
          )

  -- K10: an account
  pub gives_account : Splits {S = Unit {0}} (HoldsOf first) seat v v (account_of v)
  gives_account =
      splits first seat v (account_of v)
      (λ writer samples stores new fits.
      record {
        first_same = λ _. same_first writer samples stores fits;
        publishes = λ is. absurd (cc);
        told = nothing_told samples stores;
        met = nothing_told samples stores;
        taken = fits.taken;
        rises = fits.rises;
        last_below = fits.last_below;
        kept = fits.kept;
        running = tt;
      })

  -- K11: a notice is taken in
  pub takes_notice : (other : ℕ) (w : View) → w.role ≢ Publishes → Joins {S = Unit {0}} (HoldsOf first) seat v other w (with_notice v w) spent
  takes_notice other w no_publisher =
      joins first seat v other w (with_notice v w) refl no_publisher
      (λ writer samples stores fits theirs.
      record {
        first_same = fits.first_same;
        publishes = fits.publishes;
        told = fits.told;
        met = theirs.told;
        taken = fits.taken;
        rises = fits.rises;
        last_below = fits.last_below;
        kept = fits.kept;
        running = fits.running;
      })

  -- K12: the pairs and the notice agree
  pub meets : Allows {S = Unit {0}} (HoldsOf first) slots seat (v, []) 0 (λ n. n) (λ _ (after : Me (Unit {0}) View). (after ≡ (agreed v, [])) × Agrees v.first v.met v.taken)
  meets =
      looks first slots seat 0 v (λ _. agreed v) (λ _. Agrees v.first v.met v.taken) (λ _. refl)
      (λ writer samples stores sound fits. (
        record {
          first_same = fits.first_same;
          publishes = λ is. absurd (cc);
          told = later samples stores (nat_le v.known.stores v.met.stores) fits.told fits.met;
          met = nothing_told samples stores;
          taken = fits.taken;
          rises = fits.rises;
          last_below = fits.last_below;
          kept = fits.kept;
          running = fits.running;
        },
        agrees writer samples stores fits,
      ))
    where
      later : (samples : List Sample) (stores : ℕ) (b : Bool) → IsTold samples stores v.known → IsTold samples stores v.met → IsTold samples stores (if b then v.met else v.known)
      later samples stores true told met = met
      later samples stores false told met = told

      agrees : (writer : ℕ) (samples : List Sample) (stores : ℕ) → Fits writer first samples stores seat v → Agrees v.first v.met v.taken
      agrees writer samples stores fits k d h reached =
          let pair : Numbered = slice_index_or v.taken k d in
          let same = same_first writer samples stores fits in
          let is = fits.taken k d h in
          let above = is.above in
          let told = fits.met in
          let reach = told.reaches in
          let long : published_after v.met.stores ≤ length v.met.samples = omega arith in
          let there : slice_get samples (pair.number - v.first - 1) ≡ Some pair.sample = subst (λ (f : ℕ). slice_get samples (pair.number - f - 1) ≡ Some pair.sample) (sym same) is.same in
          record {
            above = omega arith;
            reached = reached;
            same = slice_get_short v.met.samples told.begins.0 (pair.number - v.first - 1) pair.sample (subst (λ (l : List Sample). slice_get l (pair.number - v.first - 1) ≡ Some pair.sample) (sym told.begins.1) there) (omega arith);
          }

-- the same at a seat that holds no slot
module _ (first slots seat : ℕ) (me : Me (Unit {0}) View) (role : me.0.role ≡ Monitors) (free : me.1 ≡ []) where
  here : (me.0, []) ≡ me
  here = λ i. (me.0, sym free i)

  pub counts_as : Allows {S = Unit {0}} (HoldsOf first) slots seat me 1 (λ n. n) (λ n (after : Me (Unit {0}) View). (after ≡ (counted me.0 n, [])) × IsFirstCount me.0 n)
  counts_as = subst (λ (u : Me (Unit {0}) View). Allows {S = Unit {0}} (HoldsOf first) slots seat u 1 (λ n. n) (λ n (after : Me (Unit {0}) View). (after ≡ (counted u.0 n, [])) × IsFirstCount u.0 n)) here (counts first slots seat me.0 role)

  pub validates_as : length me.0.reading ≡ 1 → Allows {S = Unit {0}} (HoldsOf first) slots seat me 9 (λ n. n) (λ n (after : Me (Unit {0}) View). after ≡ (validated me.0 n, []))
  validates_as long = subst (λ (u : Me (Unit {0}) View). Allows {S = Unit {0}} (HoldsOf first) slots seat u 9 (λ n. n) (λ n (after : Me (Unit {0}) View). after ≡ (validated u.0 n, []))) here (validates first slots seat me.0 role long)

  pub reads_as : (place : ℕ) → place < 9 → length me.0.reading ≡ place + 2
      → Allows {S = Unit {0}} (HoldsOf first) slots seat me (slice_index body_places place) (λ n. n) (λ n (after : Me (Unit {0}) View). after ≡ (read me.0 (slice_index body_places place) n, []))
  reads_as place within long =
      subst (λ (u : Me (Unit {0}) View). Allows {S = Unit {0}} (HoldsOf first) slots seat u (slice_index body_places place) (λ n. n) (λ n (after : Me (Unit {0}) View). after ≡ (read u.0 (slice_index body_places place) n, []))) here
      (reads first slots seat me.0 role place within long)

  pub recounts_as : length me.0.reading ≡ 11 → Allows {S = Unit {0}} (HoldsOf first) slots seat me 1 (λ n. n) (λ n (after : Me (Unit {0}) View). (after ≡ (recounted me.0 n, [])) × IsRecounted me.0 n)
  recounts_as long =
      subst (λ (u : Me (Unit {0}) View). Allows {S = Unit {0}} (HoldsOf first) slots seat u 1 (λ n. n) (λ n (after : Me (Unit {0}) View). (after ≡ (recounted u.0 n, [])) × IsRecounted u.0 n)) here (recounts first slots seat me.0 role long)

  pub meets_as : Allows {S = Unit {0}} (HoldsOf first) slots seat me 0 (λ n. n) (λ _ (after : Me (Unit {0}) View). (after ≡ (agreed me.0, [])) × Agrees me.0.first me.0.met me.0.taken)
  meets_as = subst (λ (u : Me (Unit {0}) View). Allows {S = Unit {0}} (HoldsOf first) slots seat u 0 (λ n. n) (λ _ (after : Me (Unit {0}) View). (after ≡ (agreed u.0, [])) × Agrees u.0.first u.0.met u.0.taken)) here (meets first slots seat me.0 role)
