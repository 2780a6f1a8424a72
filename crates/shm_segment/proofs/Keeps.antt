-- What one seat's view says goes on to hold while another seat steps; and the rule, once one view has changed.
use Rattle.std.proofs.Common.{◌≡◌, ◌≢◌, ℕ, zero, suc, ◌+◌, ◌-◌, ◌*◌, ◌≤◌, List, [], ◌∷◌, ◌++◌, length, set, Some, refl, sym, ap, ◌∙◌, subst, ⊎_elim, append_assoc, arith}
use Rattle.std.specs.Prelude.{slice_get, slice_index}
use mathlib.Core.Option.{some, some-injective, some-ne-none}
use lib.ListN.{get_elem?}
use Rattle.std.proofs.lemmas.List.{set-get_or}
use Rattle.atomic_table.proofs.Lists.{at_set}
use Rattle.shm_segment.specs.declared.sample.Sample.{Sample}
use Rattle.shm_segment.specs.declared.view.KnownSamples.{KnownSamples}
use Rattle.shm_segment.specs.declared.view.Load.{Load}
use Rattle.shm_segment.specs.declared.view.Numbered.{Numbered}
use Rattle.shm_segment.specs.declared.view.Role.TheVariants.{Publishes}
use Rattle.shm_segment.specs.declared.view.View.{View}
use Rattle.shm_segment.specs.Words.{words_of}
use Rattle.shm_segment.specs.Views.{publisher}
use Rattle.shm_segment.specs.Rule.{IsSound, IsTold, IsPublished, WasShown, Fits, HasPublisher, SegmentHolds}
use Rattle.shm_segment.proofs.Samples.{slice_get_front}
use Rattle.shm_segment.proofs.Running.{StoreEffect, published_rises, count_rises, running_on, words_more}

-- each view fits
abbrev pub AllFit : ℕ → ℕ → List Sample → ℕ → List View → Type 0
AllFit writer first samples stores views = (seat : ℕ) (v : View) → get_elem? views seat ≡ some v → Fits writer first samples stores seat v

pub fits_set : (writer first : ℕ) (samples : List Sample) (stores : ℕ) (views : List View) (seat : ℕ) (w : View)
    → ((j : ℕ) (u : View) → j ≢ seat → get_elem? views j ≡ some u → Fits writer first samples stores j u) → Fits writer first samples stores seat w → AllFit writer first samples stores (set views seat w)
fits_set writer first samples stores views seat w others mine j u e =
    ⊎_elim (λ (x : (j ≡ seat) × (w ≡ u)). subst (λ (y : ℕ × View). Fits writer first samples stores y.0 y.1) (λ i. (sym x.0 i, x.1 i)) mine)
    (λ (x : (j ≢ seat) × (get_elem? views j ≡ some u)). others j u x.0 x.1) (at_set views seat j w u e)

-- a seat with a new view of the same role; the publisher stays
pub publishes_on : (views : List View) (seat writer : ℕ) (v w : View) → get_elem? views seat ≡ some v → w.role ≡ v.role → HasPublisher views writer → HasPublisher (set views seat w) writer
publishes_on [] seat writer v w at same is = absurd (some-ne-none v (sym at))
publishes_on (x ∷ views) zero zero v w at same is = (w, refl, same ∙ ap (λ (u : View). u.role) (sym (some-injective x v at) ∙ some-injective x is.0 is.1) ∙ is.2)
publishes_on (x ∷ views) zero (suc writer) v w at same is = is
publishes_on (x ∷ views) (suc seat) zero v w at same is = is
publishes_on (x ∷ views) (suc seat) (suc writer) v w at same is = publishes_on views seat writer v w at same is

-- a seat that was no publisher's has any new view; the publisher stays
pub publishes_beside : (views : List View) (seat writer : ℕ) (v w : View) → get_elem? views seat ≡ some v → v.role ≢ Publishes → HasPublisher views writer → HasPublisher (set views seat w) writer
publishes_beside [] seat writer v w at other is = absurd (some-ne-none v (sym at))
publishes_beside (x ∷ views) zero zero v w at other is = absurd (other (ap (λ (u : View). u.role) (sym (some-injective x v at) ∙ some-injective x is.0 is.1) ∙ is.2))
publishes_beside (x ∷ views) zero (suc writer) v w at other is = is
publishes_beside (x ∷ views) (suc seat) zero v w at other is = is
publishes_beside (x ∷ views) (suc seat) (suc writer) v w at other is = publishes_beside views seat writer v w at other is

-- the rule, if the writer is this seat and its samples and stores are these
abbrev pub HoldsAt : ℕ → List ℕ → List View → ℕ → List Sample → ℕ → Type 0
HoldsAt first words views writer samples stores =
    (words ≡ words_of first samples stores) × IsSound first samples stores × AllFit writer first samples stores views

-- the seat with the publisher's view is the writer
pub at_writer : (first first' : ℕ) (words : List ℕ) (views : List View) (seat : ℕ) (samples : List Sample) (stores : ℕ)
    → SegmentHolds first words views → get_elem? views seat ≡ some (publisher first' samples stores) → HoldsAt first words views seat samples stores
at_writer first first' words views seat samples stores h at =
    let mine = (h.fits seat (publisher first' samples stores) at).publishes refl in
    subst (λ (x : ℕ × List Sample × ℕ). HoldsAt first words views x.0 x.1 x.2) (λ i. (sym mine.0 i, sym mine.1 i, sym mine.2 i)) (h.words_are, h.sound, h.fits)

told_on : (samples more next : List Sample) (stores : ℕ) (k : KnownSamples) → samples ++ more ≡ next → IsTold samples stores k → IsTold next (stores + 1) k
told_on samples more next stores k e told =
    record {
      earlier = let earlier = told.earlier in omega arith;
      reaches = told.reaches;
      begins = (told.begins.0 ++ more, sym (append_assoc k.samples told.begins.0 more) ∙ ap (λ (l : List Sample). l ++ more) told.begins.1 ∙ e);
    }

published_on : (first : ℕ) (samples more next : List Sample) (stores : ℕ) (pair : Numbered) → samples ++ more ≡ next → IsPublished first samples stores pair → IsPublished first next (stores + 1) pair
published_on first samples more next stores pair e is =
    record {
      above = is.above;
      reached = let reached = is.reached in let rises = published_rises stores in omega arith;
      same = subst (λ (l : List Sample). slice_get l (pair.number - first - 1) ≡ Some pair.sample) e (slice_get_front samples more (pair.number - first - 1) pair.sample is.same);
    }

shown_on : (first : ℕ) (samples more next : List Sample) (stores : ℕ) (load : Load) → samples ++ more ≡ next → stores ≤ 13 * length samples → WasShown first samples stores load → WasShown first next (stores + 1) load
shown_on first samples more next stores load e reach shown =
    let late : shown.0 ≤ stores = shown.2 in (
      shown.0,
      shown.1,
      omega arith,
      subst (λ (l : List Sample). slice_index (words_of first l shown.0) load.word ≡ load.value) e
          (ap (λ (ws : List ℕ). slice_index ws load.word) (words_more first samples more shown.0 (omega arith)) ∙ shown.3),
    )

-- another seat's view after a store
pub fits_on : (writer first : ℕ) (samples more next : List Sample) (stores seat : ℕ) (v : View) → samples ++ more ≡ next → stores ≤ 13 * length samples → StoreEffect first samples next stores → seat ≢ writer
    → Fits writer first samples stores seat v → Fits writer first next (stores + 1) seat v
fits_on writer first samples more next stores seat v e reach effect other fits =
    record {
      first_same = fits.first_same;
      publishes = λ p. absurd (other ((fits.publishes p).0));
      told = told_on samples more next stores v.known e fits.told;
      met = told_on samples more next stores v.met e fits.met;
      taken = λ k d h. published_on first samples more next stores _ e (fits.taken k d h);
      rises = fits.rises;
      last_below = let low = fits.last_below in let rises = count_rises first samples next stores effect in omega arith;
      kept = λ k d h. shown_on first samples more next stores _ e reach (fits.kept k d h);
      running = running_on first samples next stores _ v.reading effect fits.running;
    }

-- a load changes no word
pub same_words : (words : List ℕ) (i : ℕ) → set words i (slice_index words i) ≡ words
same_words words i = set-get_or words i 0
