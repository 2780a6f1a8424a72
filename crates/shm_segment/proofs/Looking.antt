-- The rule at a load, at a cut of a seat in two, and if two seats are joined.
use Rattle.std.proofs.Common.{◌≡◌, ◌≢◌, ℕ, List, [], ◌∷◌, set, refl, sym, ap, ◌∙◌, subst, ⊎_elim, arith}
use Rattle.std.specs.Prelude.{slice_index}
use Rattle.std.proofs.lemmas.List.{set-get_or}
use Rattle.std.proofs.lemmas.List.Elements.{All-nil}
use mathlib.Core.Option.{some}
use lib.ListN.{get_elem?}
use Rattle.atomic_table.specs.Table.{Me, Allows, Splits, Joins}
use Rattle.atomic_table.specs.Table.{keeps as no_slot}
use Rattle.atomic_table.proofs.Lists.{at_set, at_snoc, at_longer, set_again}
use Rattle.shm_segment.specs.declared.sample.Sample.{Sample}
use Rattle.shm_segment.specs.declared.view.Role.TheVariants.{Publishes}
use Rattle.shm_segment.specs.declared.view.View.{View}
use Rattle.shm_segment.specs.Words.{words_of}
use Rattle.shm_segment.specs.Views.{nothing, spent}
use Rattle.shm_segment.specs.Rule.{IsSound, IsTold, IsPublished, WasShown, Fits, HoldsOf}
use Rattle.shm_segment.proofs.Keeps.{fits_set, publishes_on, publishes_beside}

-- a load: the seat has a new view of its role, which may depend on the value found
pub looks : (first slots seat word : ℕ) (v : View) (next : ℕ → View) (tells : ℕ → Type 0) → ((n : ℕ) → (next n).role ≡ v.role)
    → ((writer : ℕ) (samples : List Sample) (stores : ℕ) → IsSound first samples stores → Fits writer first samples stores seat v
    → Fits writer first samples stores seat (next (slice_index (words_of first samples stores) word)) × tells (slice_index (words_of first samples stores) word))
    → Allows {S = Unit {0}} (HoldsOf first) slots seat (v, []) word (λ n. n) (λ n (after : Me (Unit {0}) View). (after ≡ (next n, [])) × tells n)
looks first slots seat word v next tells same law s h homes at small =
    let is = h.words_are in
    let found : slice_index (words_of first h.samples h.stores) word ≡ slice_index s.words word = ap (λ (ws : List ℕ). slice_index ws word) (sym is) in
    let told = law h.writer h.samples h.stores h.sound (h.fits seat v at) in
    let told' = subst (λ (n : ℕ). Fits h.writer first h.samples h.stores seat (next n) × tells n) found told in (
      next (slice_index s.words word),
      no_slot,
      tt,
      record {
        writer = h.writer;
        samples = h.samples;
        stores = h.stores;
        publisher = publishes_on s.views seat h.writer v (next (slice_index s.words word)) at (same (slice_index s.words word)) h.publisher;
        words_are = set-get_or s.words word 0 ∙ is;
        sound = h.sound;
        fits = fits_set h.writer first h.samples h.stores s.views seat (next (slice_index s.words word)) (λ j u other at'. h.fits j u at') told'.0;
      },
      (refl, told'.1),
    )

-- K10: a seat is cut in two, and stays as it is
pub splits : (first seat : ℕ) (v right : View)
    → ((writer : ℕ) (samples : List Sample) (stores new : ℕ) → Fits writer first samples stores seat v → Fits writer first samples stores new right)
    → Splits {S = Unit {0}} (HoldsOf first) seat v v right
splits first seat v right law s h at =
    record {
      writer = h.writer;
      samples = h.samples;
      stores = h.stores;
      publisher = (
        h.publisher.0,
        at_longer (set s.views seat v) (right ∷ []) h.writer h.publisher.0 (ap (λ (l : List View). get_elem? l h.writer) (set_again s.views seat v at) ∙ h.publisher.1),
        h.publisher.2,
      );
      words_are = h.words_are;
      sound = h.sound;
      fits = λ j u at'. ⊎_elim (λ was. h.fits j u (subst (λ (l : List View). get_elem? l j ≡ some u) (set_again s.views seat v at) was))
          (λ (same : right ≡ u). subst (Fits h.writer first h.samples h.stores j) same (law h.writer h.samples h.stores j (h.fits seat v at)))
          (at_snoc (set s.views seat v) right u j at');
    }

pub nothing_told : (samples : List Sample) (stores : ℕ) → IsTold samples stores nothing
nothing_told samples stores = record { earlier = omega arith; reaches = omega arith; begins = (samples, refl) }

-- the fixed view that a joined seat leaves
pub spent_fits : (writer first : ℕ) (samples : List Sample) (stores seat : ℕ) → Fits writer first samples stores seat spent
spent_fits writer first samples stores seat =
    record {
      first_same = λ not. absurd (not refl);
      publishes = λ is. absurd (cc);
      told = nothing_told samples stores;
      met = nothing_told samples stores;
      taken = All-nil (IsPublished first samples stores);
      rises = tt;
      last_below = omega arith;
      kept = All-nil (WasShown first samples stores);
      running = tt;
    }

-- K11: a seat takes another in, which is no publisher's and is spent
pub joins : (first seat : ℕ) (v : View) (other : ℕ) (w both : View) → both.role ≡ v.role → w.role ≢ Publishes
    → ((writer : ℕ) (samples : List Sample) (stores : ℕ) → Fits writer first samples stores seat v → Fits writer first samples stores other w → Fits writer first samples stores seat both)
    → Joins {S = Unit {0}} (HoldsOf first) seat v other w both spent
joins first seat v other w both same no_publisher law s h at apart there =
    let theirs = ⊎_elim (λ (t : (other ≡ seat) × (both ≡ w)). absurd (apart t.0)) (λ (t : (other ≢ seat) × (get_elem? s.views other ≡ some w)). h.fits other w t.1) (at_set s.views seat other both w there) in
    let joined = fits_set h.writer first h.samples h.stores s.views seat both (λ j u _ at'. h.fits j u at') (law h.writer h.samples h.stores (h.fits seat v at) theirs) in
    record {
      writer = h.writer;
      samples = h.samples;
      stores = h.stores;
      publisher = publishes_beside (set s.views seat both) other h.writer w spent there no_publisher (publishes_on s.views seat h.writer v both at same h.publisher);
      words_are = h.words_are;
      sound = h.sound;
      fits = fits_set h.writer first h.samples h.stores (set s.views seat both) other spent (λ j u _ at'. joined j u at') (spent_fits h.writer first h.samples h.stores other);
    }
