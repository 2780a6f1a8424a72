-- The steps on seats: the first is parted into the giver's and the taker's, a notice is cut off and joined, and a new segment keeps the rule.
use Rattle.std.proofs.Common.{◌≡◌, ◌≢◌, ◌⊎◌, ℕ, zero, suc, ◌*◌, ◌≤◌, Bool, List, [], ◌∷◌, ◌++◌, length, set, refl, sym, ap, ◌∙◌, subst, inl, inr, ⊎_elim, arith}
use Rattle.std.proofs.lemmas.List.Elements.{All-nil}
use mathlib.Core.Option.{some, some-injective, some-ne-none}
use lib.ListN.{get_elem?}
use Rattle.atomic_table.specs.Table.{Me, Splits, Joins}
use Rattle.atomic_table.proofs.Lists.{at_set, at_snoc, at_longer, at_last, set_again}
use Rattle.shm_segment.specs.declared.sample.Sample.{Sample}
use Rattle.shm_segment.specs.Samples.{IsSample}
use Rattle.shm_segment.specs.Rule.{IsPublished}
use Rattle.shm_segment.specs.Views.{nothing}
use Rattle.shm_segment.proofs.Looking.{nothing_told}
use Rattle.shm_segment.proofs.Storing.{new_words}
use Rattle.shm_consumer.specs.declared.view.Role.{Role}
use Rattle.shm_consumer.specs.declared.view.Role.TheVariants.{Opens, Gives, Takes, Notices}
use Rattle.shm_consumer.specs.declared.view.View.{View}
use Rattle.shm_consumer.specs.Views.{opener, giver, giver_of, newcomer_of, notice_of, with_notice, spent}
use Rattle.shm_consumer.specs.Rule.{Fits, HasRole, HandOffHolds, HoldsOf, may_give, may_take}
use Rattle.shm_consumer.proofs.Keeps.{role_on, fits_set}
use Rattle.shm_consumer.proofs.Storing.{idle_fits, valid_zero}

-- the last of a list is at its end
at_end : {A : Type 0} → (l : List A) (a b : A) (j : ℕ) → get_elem? (l ++ a ∷ []) j ≡ some b → (get_elem? l j ≡ some b) ⊎ ((j ≡ length l) × (a ≡ b))
at_end [] a b zero e = inr (refl, some-injective a b e)
at_end [] a b (suc j) e = absurd (some-ne-none b (sym e))
at_end (x ∷ xs) a b zero e = inl e
at_end (x ∷ xs) a b (suc j) e = ⊎_elim (λ t. inl t) (λ t. let same = t.0 in inr (omega arith, t.1)) (at_end xs a b j e)

-- the first seat is parted
pub parts : (first seat : ℕ) → Splits {S = Unit {0}} (HoldsOf first) seat (opener first) (giver_of (opener first)) (newcomer_of (opener first))
parts first seat s h at =
    let both = h.fits seat (opener first) at in
    let gives = both.gives refl in
    let takes = both.takes refl in
    let left = giver_of (opener first) in
    let right = newcomer_of (opener first) in
    let views = set s.views seat left in
    let end : ℕ = length views in
    let told = nothing_told h.samples h.stores in
    record {
      giver = h.giver;
      taker = end;
      samples = h.samples;
      stores = h.stores;
      last = h.last;
      valid = h.valid;
      gives = (let is = role_on may_give s.views seat h.giver (opener first) left at refl h.gives in (is.0, at_longer views (right ∷ []) h.giver is.0 is.1, is.2));
      takes = (right, at_last views right end refl, refl);
      words_are = h.words_are;
      valid_is = h.valid_is;
      sound = h.sound;
      behind = h.behind;
      fits = λ j u at'.
          ⊎_elim (λ was.
          fits_set h.giver end first h.samples h.stores h.last s.views seat left
          (λ k w other there.
          let fits = h.fits k w there in
          record {
            first_same = fits.first_same;
            gives = fits.gives;
            takes = λ took. absurd (other ((fits.takes took).0 ∙ sym takes.0));
            told = fits.told;
            consumed = fits.consumed;
            rises = fits.rises;
            running = fits.running;
            read = fits.read;
          })
          (idle_fits h.giver end first h.samples h.stores h.last seat Gives nothing (λ _. gives) (λ took. absurd (cc)) told)
          j u was)
          (λ (new : (j ≡ end) × (right ≡ u)).
          subst (Fits h.giver end first h.samples h.stores h.last j) new.1
          (idle_fits h.giver end first h.samples h.stores h.last j Takes nothing (λ gave. absurd (cc)) (λ _. (new.0, takes.1)) told))
          (at_end views right u j at');
    }

pub parts_as : (first seat : ℕ) (me : Me (Unit {0}) View) → me ≡ (opener first, []) → Splits {S = Unit {0}} (HoldsOf first) seat me.0 (giver_of me.0) (newcomer_of me.0)
parts_as first seat me is = subst (λ (u : Me (Unit {0}) View). Splits {S = Unit {0}} (HoldsOf first) seat u.0 (giver_of u.0) (newcomer_of u.0)) (sym is) (parts first seat)

-- a notice is cut off the giver's seat
gives_notice : (first seat : ℕ) (samples : List Sample) (stores : ℕ) → Splits {S = Unit {0}} (HoldsOf first) seat (giver first samples stores) (giver first samples stores) (notice_of (giver first samples stores))
gives_notice first seat samples stores s h at =
    let v = giver first samples stores in
    let fits = h.fits seat v at in
    let longer = λ (may : Role → Bool) (one : ℕ) (is : HasRole may s.views one).
    let on = role_on may s.views seat one v v at refl is in
    let there : HasRole may (set s.views seat v ++ notice_of v ∷ []) one = (on.0, at_longer (set s.views seat v) (notice_of v ∷ []) one on.0 on.1, on.2) in
    there in
    record {
      giver = h.giver;
      taker = h.taker;
      samples = h.samples;
      stores = h.stores;
      last = h.last;
      valid = h.valid;
      gives = longer may_give h.giver h.gives;
      takes = longer may_take h.taker h.takes;
      words_are = h.words_are;
      valid_is = h.valid_is;
      sound = h.sound;
      behind = h.behind;
      fits = λ j u at'. ⊎_elim (λ was. h.fits j u (subst (λ (l : List View). get_elem? l j ≡ some u) (set_again s.views seat v at) was))
          (λ (same : notice_of v ≡ u). subst (Fits h.giver h.taker first h.samples h.stores h.last j) same
          (idle_fits h.giver h.taker first h.samples h.stores h.last j Notices v.known (λ gave. absurd (cc)) (λ took. absurd (cc)) fits.told))
          (at_snoc (set s.views seat v) (notice_of v) u j at');
    }

pub gives_notice_as : (first seat : ℕ) (me : Me (Unit {0}) View) → me.0.first ≡ first → me ≡ (giver me.0.first me.0.known.samples me.0.known.stores, []) → Splits {S = Unit {0}} (HoldsOf first) seat me.0 me.0 (notice_of me.0)
gives_notice_as first seat me same is =
    let view : me.0 ≡ giver first me.0.known.samples me.0.known.stores = ap (λ (m : Me (Unit {0}) View). m.0) is ∙ ap (λ (f : ℕ). giver f me.0.known.samples me.0.known.stores) same in
    subst (λ (v : View). Splits {S = Unit {0}} (HoldsOf first) seat v v (notice_of v)) (sym view) (gives_notice first seat me.0.known.samples me.0.known.stores)

-- the fixed view that a joined seat leaves
spent_fits : (gives takes first : ℕ) (samples : List Sample) (stores last seat : ℕ) → Fits gives takes first samples stores last seat spent
spent_fits gives takes first samples stores last seat =
    record {
      first_same = λ not. absurd (not refl);
      gives = λ gave. absurd (cc);
      takes = λ took. absurd (cc);
      told = nothing_told samples stores;
      consumed = All-nil (IsPublished first samples stores);
      rises = tt;
      running = tt;
      read = tt;
    }

-- the taker takes a notice in
pub takes_notice : (first seat : ℕ) (v : View) → v.role ≡ Takes → (other : ℕ) (w : View) → w.role ≡ Notices → Joins {S = Unit {0}} (HoldsOf first) seat v other w (with_notice v w) spent
takes_notice first seat v role other w kind s h at apart there =
    let both = with_notice v w in
    let mine = h.fits seat v at in
    let theirs = ⊎_elim (λ (t : (other ≡ seat) × (both ≡ w)). absurd (apart t.0)) (λ (t : (other ≢ seat) × (get_elem? s.views other ≡ some w)). h.fits other w t.1) (at_set s.views seat other both w there) in
    let joined = fits_set h.giver h.taker first h.samples h.stores h.last s.views seat both (λ j u _ at'. h.fits j u at')
    (record {
      first_same = mine.first_same;
      gives = λ gave. absurd (let none = sym (ap may_give role) ∙ gave in cc);
      takes = mine.takes;
      told = theirs.told;
      consumed = mine.consumed;
      rises = mine.rises;
      running = mine.running;
      read = mine.read;
    }) in
    record {
      giver = h.giver;
      taker = h.taker;
      samples = h.samples;
      stores = h.stores;
      last = h.last;
      valid = h.valid;
      gives = role_on may_give (set s.views seat both) other h.giver w spent there (sym (ap may_give kind)) (role_on may_give s.views seat h.giver v both at refl h.gives);
      takes = role_on may_take (set s.views seat both) other h.taker w spent there (sym (ap may_take kind)) (role_on may_take s.views seat h.taker v both at refl h.takes);
      words_are = h.words_are;
      valid_is = h.valid_is;
      sound = h.sound;
      behind = h.behind;
      fits = fits_set h.giver h.taker first h.samples h.stores h.last (set s.views seat both) other spent (λ j u _ at'. joined j u at') (spent_fits h.giver h.taker first h.samples h.stores h.last other);
    }

-- a new segment keeps the rule
pub new_holds : (first : ℕ) → first ≤ 1_073_741_823 → HandOffHolds first (1 ∷ 2 * first ∷ 0 ∷ 0 ∷ 0 ∷ 0 ∷ 0 ∷ 0 ∷ 0 ∷ 0 ∷ 0 ∷ 0 ∷ []) (opener first ∷ [])
new_holds first low =
    record {
      giver = 0;
      taker = 0;
      samples = [];
      stores = 0;
      last = 0;
      valid = 0;
      gives = (opener first, refl, refl);
      takes = (opener first, refl, refl);
      words_are = sym (ap (λ (ws : List ℕ). set ws 9 0) (new_words first));
      valid_is = valid_zero first 0 0;
      sound = record { reaches = omega arith; ranges = All-nil IsSample; numbers = omega arith };
      behind = record { most = omega arith; below = λ position. absurd (omega arith) };
      fits = λ seat v at. only seat v at;
    }
  where
    only : (seat : ℕ) (v : View) → get_elem? (opener first ∷ []) seat ≡ some v → Fits 0 0 first [] 0 0 seat v
    only zero v at = subst (Fits 0 0 first [] 0 0 0) (some-injective _ _ at) (idle_fits 0 0 first [] 0 0 0 Opens nothing (λ _. (refl, refl, refl)) (λ _. (refl, refl)) (nothing_told [] 0))
    only (suc seat) v at = absurd (some-ne-none v (sym at))
