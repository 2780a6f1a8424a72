-- What holds of a number, of a running reading and of one seat's view goes on to hold while the giver stores.
use Rattle.std.proofs.Common.{◌≡◌, ◌≢◌, ℕ, zero, suc, ◌+◌, ◌-◌, ◌*◌, ◌/◌, ◌%◌, ◌<◌, ◌≤◌, Bool, List, [], ◌∷◌, ◌++◌, length, take, set, Some, None, refl, sym, ap, ◌∙◌, subst, ⊎_elim, append_assoc, arith}
use Rattle.std.specs.Prelude.{Option, slice_get}
use mathlib.Core.Option.{some, some-injective, some-ne-none}
use lib.ListN.{get_elem?}
use Rattle.atomic_table.proofs.Lists.{at_set}
use Rattle.shm_segment.specs.declared.sample.Sample.{Sample}
use Rattle.shm_segment.specs.declared.view.KnownSamples.{KnownSamples}
use Rattle.shm_segment.specs.declared.view.Numbered.{Numbered}
use Rattle.shm_segment.specs.Words.{count_after, body_after}
use Rattle.shm_segment.specs.Rule.{IsSound, IsTold, IsPublished}
use Rattle.shm_segment.proofs.Samples.{slice_get_front}
use Rattle.shm_segment.proofs.Words.{count_in, position_is, published_is}
use Rattle.shm_segment.proofs.Running.{StoreEffect, published_rises, count_rises}
use Rattle.shm_consumer.specs.declared.view.Role.{Role}
use Rattle.shm_consumer.specs.declared.view.View.{View}
use Rattle.shm_consumer.specs.Rule.{may_give, may_take, HasRole, words_with, IsValid, IsBehind, IsStill, IsRunning, IsRead, Fits, HandOffHolds}
use Rattle.shm_consumer.specs.Views.{giver}

-- each view fits
abbrev pub AllFit : ℕ → ℕ → ℕ → List Sample → ℕ → ℕ → List View → Type 0
AllFit gives takes first samples stores last views =
    (seat : ℕ) (v : View) → get_elem? views seat ≡ some v → Fits gives takes first samples stores last seat v

pub fits_set : (gives takes first : ℕ) (samples : List Sample) (stores last : ℕ) (views : List View) (seat : ℕ) (w : View)
    → ((j : ℕ) (u : View) → j ≢ seat → get_elem? views j ≡ some u → Fits gives takes first samples stores last j u) → Fits gives takes first samples stores last seat w
    → AllFit gives takes first samples stores last (set views seat w)
fits_set gives takes first samples stores last views seat w others mine j u e =
    ⊎_elim (λ (x : (j ≡ seat) × (w ≡ u)). subst (λ (y : ℕ × View). Fits gives takes first samples stores last y.0 y.1) (λ i. (sym x.0 i, x.1 i)) mine)
    (λ (x : (j ≢ seat) × (get_elem? views j ≡ some u)). others j u x.0 x.1) (at_set views seat j w u e)

-- a seat with a new view of the same use; the giver's seat, or the taker's, stays so
pub role_on : (may : Role → Bool) (views : List View) (seat one : ℕ) (v w : View) → get_elem? views seat ≡ some v → may w.role ≡ may v.role → HasRole may views one → HasRole may (set views seat w) one
role_on may [] seat one v w at same is = absurd (some-ne-none v (sym at))
role_on may (x ∷ views) zero zero v w at same is = (w, refl, same ∙ ap (λ (u : View). may u.role) (sym (some-injective x v at) ∙ some-injective x is.0 is.1) ∙ is.2)
role_on may (x ∷ views) zero (suc one) v w at same is = is
role_on may (x ∷ views) (suc seat) zero v w at same is = is
role_on may (x ∷ views) (suc seat) (suc one) v w at same is = role_on may views seat one v w at same is

-- the rule, if the giver is this seat and its samples and stores are these
pub record HoldsAt (first : ℕ) (words : List ℕ) (views : List View) (gives : ℕ) (samples : List Sample) (stores : ℕ) : Type 0 where
  pub takes : ℕ
  pub last : ℕ
  pub valid : ℕ
  pub giver_is : HasRole may_give views gives
  pub taker_is : HasRole may_take views takes
  pub words_are : words ≡ words_with first samples stores valid
  pub valid_is : IsValid first stores last valid
  pub sound : IsSound first samples stores
  pub behind : IsBehind first stores last
  pub fits : AllFit gives takes first samples stores last views

-- the seat with the giver's view is the giver
pub at_giver : (first first' : ℕ) (words : List ℕ) (views : List View) (seat : ℕ) (samples : List Sample) (stores : ℕ)
    → HandOffHolds first words views → get_elem? views seat ≡ some (giver first' samples stores) → HoldsAt first words views seat samples stores
at_giver first first' words views seat samples stores h at =
    let mine = (h.fits seat (giver first' samples stores) at).gives refl in
    subst (λ (x : ℕ × List Sample × ℕ). HoldsAt first words views x.0 x.1 x.2) (λ i. (sym mine.0 i, sym mine.1 i, sym mine.2 i))
    (record { takes = h.taker; last = h.last; valid = h.valid; giver_is = h.gives; taker_is = h.takes; words_are = h.words_are; valid_is = h.valid_is; sound = h.sound; behind = h.behind; fits = h.fits })

told_on : (samples more next : List Sample) (stores : ℕ) (k : KnownSamples) → samples ++ more ≡ next → IsTold samples stores k → IsTold next (stores + 1) k
told_on samples more next stores k e told =
    record {
      earlier = let earlier = told.earlier in omega arith;
      reaches = told.reaches;
      begins = (told.begins.0 ++ more, sym (append_assoc k.samples told.begins.0 more) ∙ ap (λ (l : List Sample). l ++ more) told.begins.1 ∙ e);
    }

published_on : (first : ℕ) (samples more next : List Sample) (stores : ℕ) (pair : Numbered) → samples ++ more ≡ next → IsPublished first samples stores pair → IsPublished first next (stores + 1) pair
published_on first samples more next stores pair e is =
    record {
      above = is.above;
      reached = let reached = is.reached in let rises = published_rises stores in omega arith;
      same = subst (λ (l : List Sample). slice_get l (pair.number - first - 1) ≡ Some pair.sample) e (slice_get_front samples more (pair.number - first - 1) pair.sample is.same);
    }

-- a number that is behind stays behind: the even count publishes a further sample before the position of valid 1 comes
pub behind_on : (first stores number : ℕ) → IsBehind first stores number → IsBehind first (stores + 1) number
behind_on first stores number is =
    let most = is.most in
    record { most = omega arith; below = λ position. omega arith }

-- if count stays, the next sample is begun by its first store at most
position_on : (first stores : ℕ) → stores % 13 ≤ 1 → count_after first stores ≡ count_after first (stores + 1) → (stores + 1) % 13 ≤ 1
position_on first stores low same = by_position (stores % 13) refl low
  where
    by_position : (r : ℕ) → stores % 13 ≡ r → r ≤ 1 → (stores + 1) % 13 ≤ 1
    by_position zero t h = omega arith
    by_position (suc zero) t h =
        let whole : ℕ = stores / 13 in
        let e : stores ≡ 13 * whole + 1 = omega arith in
        let e' : stores + 1 ≡ 13 * whole + 2 = omega arith in
        let before : count_after first stores ≡ 2 * (first + whole) + 0 = count_in first stores 1 whole t (published_is stores whole 1 e (omega arith)) in
        let after : count_after first (stores + 1) ≡ 2 * (first + whole) + 1 = count_in first (stores + 1) 2 whole (position_is (stores + 1) whole 2 e' (omega arith)) (published_is (stores + 1) whole 2 e' (omega arith)) in
        absurd (omega arith)
    by_position (suc (suc r)) t h = absurd (omega arith)

module _ (first : ℕ) (samples next : List Sample) (stores : ℕ) where
  still_on : (last count : ℕ) (body : List ℕ) → count ≤ count_after first stores → (count_after first stores ≡ count → IsStill samples stores last count body) → StoreEffect first samples next stores
      → count_after first (stores + 1) ≡ count → IsStill next (stores + 1) last count body
  still_on last count body below still effect now =
      ⊎_elim (λ (x : count_after first stores < count_after first (stores + 1)). absurd (omega arith))
      (λ x.
      ⊎_elim (λ (y : (count_after first stores ≡ count_after first (stores + 1)) × (count_after first stores % 2 ≡ 1)).
      let was = still (y.0 ∙ now) in
      let even = was.even in
      let odd : count % 2 ≡ 1 = ap (λ (n : ℕ). n % 2) (sym (y.0 ∙ now)) ∙ y.1 in
      absurd (omega arith))
      (λ (y : (count_after first stores ≡ count_after first (stores + 1)) × (body_after samples stores ≡ body_after next (stores + 1))).
      let was = still (y.0 ∙ now) in
      record {
        above = was.above;
        even = was.even;
        some = let some = was.some in let rises = published_rises stores in omega arith;
        position = position_on first stores was.position y.0;
        same = was.same ∙ ap (take (length body)) y.1;
      }) x) effect

  -- a running reading stays one while the giver stores
  running_on : (last : ℕ) (reading : List ℕ) → StoreEffect first samples next stores → IsRunning first samples stores last reading → IsRunning first next (stores + 1) last reading
  running_on last [] effect running = tt
  running_on last (count ∷ []) effect running = let rises = count_rises first samples next stores effect in let below : count ≤ count_after first stores = running in omega arith
  running_on last (count ∷ valid ∷ body) effect running =
      let rises = count_rises first samples next stores effect in
      let below = running.0 in
      (omega arith, running.1, still_on last count body below running.2 effect)

read_on : (first : ℕ) (samples more next : List Sample) (stores last : ℕ) (read : Option Numbered) → samples ++ more ≡ next → IsRead first samples stores last read → IsRead first next (stores + 1) last read
read_on first samples more next stores last None e is = tt
read_on first samples more next stores last (Some pair) e is =
    (published_on first samples more next stores pair e is.0, is.1, behind_on first stores pair.number is.2)

-- another seat's view after a store
pub fits_on : (gives takes first : ℕ) (samples more next : List Sample) (stores last seat : ℕ) (v : View) → samples ++ more ≡ next → StoreEffect first samples next stores → seat ≢ gives
    → Fits gives takes first samples stores last seat v → Fits gives takes first next (stores + 1) last seat v
fits_on gives takes first samples more next stores last seat v e effect other fits =
    record {
      first_same = fits.first_same;
      gives = λ p. absurd (other ((fits.gives p).0));
      takes = fits.takes;
      told = told_on samples more next stores v.known e fits.told;
      consumed = λ k d h. published_on first samples more next stores _ e (fits.consumed k d h);
      rises = fits.rises;
      running = running_on first samples next stores _ v.reading effect fits.running;
      read = read_on first samples more next stores _ v.read e fits.read;
    }
