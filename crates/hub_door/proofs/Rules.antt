-- Each kind of step keeps the rule of the door's table.
use Rattle.std.proofs.Common.{◌≡◌, ◌≢◌, ℕ, zero, suc, true, false, List, [], ◌∷◌, ◌++◌, set, refl, sym, ap, ◌∙◌, subst, ⊎_elim, append_assoc, append-nil}
use Rattle.std.specs.Prelude.{slice_index}
use mathlib.Core.Option.{some, some-injective, some-ne-none}
use lib.ListN.{get_elem?}
use Rattle.atomic_table.proofs.Lists.{at_set, at_snoc, set_else, set_again}
use Rattle.atomic_table.specs.Table.{Me, Allows, Splits, Joins}
use Rattle.atomic_table.specs.Table.{keeps as no_slot}
use Rattle.hub_door.specs.declared.view.DoorView.{DoorView}
use Rattle.hub_door.specs.declared.view.Entry.{Entry}
use Rattle.hub_door.specs.Views.{keeper, noted, meeting}
use Rattle.gps_fixed.specs.Lists.{IsPrefix}
use Rattle.hub_door.specs.Rule.{Fits, DoorHolds, HoldsOf}

pub nothing_begins : (all : List Entry) → IsPrefix [] all
nothing_begins all = (all, refl)

pub all_begins : (all : List Entry) → IsPrefix all all
all_begins all = ([], sym (append-nil all))

begins_on : (first all more : List Entry) → IsPrefix first all → IsPrefix first (all ++ more)
begins_on first all more is = (is.0 ++ more, ap (λ (l : List Entry). l ++ more) is.1 ∙ append_assoc first is.0 more)

-- each view fits
abbrev AllFit : ℕ → List Entry → List DoorView → Type 0
AllFit hub all views = (seat : ℕ) (v : DoorView) → get_elem? views seat ≡ some v → Fits hub all seat v

fits_set : (hub : ℕ) (all : List Entry) (views : List DoorView) (seat : ℕ) (w : DoorView) → AllFit hub all views → Fits hub all seat w → AllFit hub all (set views seat w)
fits_set hub all views seat w others mine j u e =
    ⊎_elim (λ (x : (j ≡ seat) × (w ≡ u)). subst (λ (y : ℕ × DoorView). Fits hub all y.0 y.1) (λ i. (sym x.0 i, x.1 i)) mine)
    (λ (x : (j ≢ seat) × (get_elem? views j ≡ some u)). others j u x.1) (at_set views seat j w u e)

pub note_fits : (hub : ℕ) (all list : List Entry) (seat : ℕ) → IsPrefix list all → Fits hub all seat (noted list)
note_fits hub all list seat begins =
    record { keeps = λ is. absurd (cc); begins = begins; told = nothing_begins all }

pub keeper_fits : (all : List Entry) (seat : ℕ) → Fits seat all seat (keeper all)
keeper_fits all seat = record { keeps = λ _. (refl, refl); begins = all_begins all; told = nothing_begins all }

-- a store by the hub's seat that adds an entry
pub adds : (slots seat : ℕ) (list : List Entry) (e : Entry)
    → Allows {S = Unit {0}} HoldsOf slots seat (keeper list, []) 0 (λ _. 0) (λ _ (after : Me (Unit {0}) DoorView). after ≡ (keeper (list ++ e ∷ []), []))
adds slots seat list e s h homes at small =
    let mine = (h.fits seat (keeper list) at).keeps refl in (
      keeper (list ++ e ∷ []),
      no_slot,
      tt,
      record {
        hub = seat;
        all = list ++ e ∷ [];
        fits = fits_set' (subst (λ (x : ℕ × List Entry). AllFit x.0 x.1 s.views) (λ i. (sym mine.0 i, sym mine.1 i)) h.fits);
      },
      refl,
    )
  where
    fits_set' : AllFit seat list s.views → AllFit seat (list ++ e ∷ []) (set s.views seat (keeper (list ++ e ∷ [])))
    fits_set' fits j u found =
        ⊎_elim (λ (x : (j ≡ seat) × (keeper (list ++ e ∷ []) ≡ u)). subst (λ (y : ℕ × DoorView). Fits seat (list ++ e ∷ []) y.0 y.1) (λ i. (sym x.0 i, x.1 i)) (keeper_fits (list ++ e ∷ []) seat))
        (λ (x : (j ≢ seat) × (get_elem? s.views j ≡ some u)).
        let f = fits j u x.1 in
        record {
          keeps = λ is. absurd (x.0 ((f.keeps is).0));
          begins = begins_on u.list list (e ∷ []) f.begins;
          told = begins_on u.told list (e ∷ []) f.told;
        })
        (at_set s.views seat j (keeper (list ++ e ∷ [])) u found)

-- the split of a note
pub notes : (seat : ℕ) (v : DoorView) → Splits {S = Unit {0}} HoldsOf seat v v (noted v.list)
notes seat v s h at =
    record {
      hub = h.hub;
      all = h.all;
      fits = λ j u found.
          ⊎_elim (λ (x : get_elem? (set s.views seat v) j ≡ some u). fits_set h.hub h.all s.views seat v h.fits (h.fits seat v at) j u x)
          (λ (x : noted v.list ≡ u). subst (λ (y : DoorView). Fits h.hub h.all j y) x (note_fits h.hub h.all v.list j (h.fits seat v at).begins))
          (at_snoc (set s.views seat v) (noted v.list) u j found);
    }

-- the join of a note
pub meets : (seat : ℕ) (v : DoorView) (other : ℕ) (w : DoorView) → Joins {S = Unit {0}} HoldsOf seat v other w (meeting v w.list) (noted [])
meets seat v other w s h at apart theirs =
    let there : get_elem? s.views other ≡ some w = sym (set_else s.views seat other (meeting v w.list) apart) ∙ theirs in
    let mine = h.fits seat v at in
    record {
      hub = h.hub;
      all = h.all;
      fits = fits_set h.hub h.all (set s.views seat (meeting v w.list)) other (noted [])
          (fits_set h.hub h.all s.views seat (meeting v w.list) h.fits (record { keeps = mine.keeps; begins = mine.begins; told = (h.fits other w there).begins }))
          (note_fits h.hub h.all [] other (nothing_begins h.all));
    }

-- a load at which the hub's list and a note agree
pub checks : (slots seat : ℕ) (list told : List Entry)
    → Allows {S = Unit {0}} HoldsOf slots seat (meeting (keeper list) told, []) 0 (λ n. n) (λ _ (after : Me (Unit {0}) DoorView). (after ≡ (keeper list, [])) × IsPrefix told list)
checks slots seat list told s h homes at small =
    let f = h.fits seat (meeting (keeper list) told) at in
    let mine = f.keeps refl in (
      keeper list,
      no_slot,
      tt,
      record {
        hub = h.hub;
        all = h.all;
        fits = fits_set h.hub h.all s.views seat (keeper list) h.fits (record { keeps = λ _. mine; begins = f.begins; told = nothing_begins h.all });
      },
      (refl, subst (IsPrefix told) (sym mine.1) f.told),
    )

-- at the start
pub opens : DoorHolds (keeper [] ∷ [])
opens = record { hub = 0; all = []; fits = λ seat v at. only seat v at }
  where
    only : (seat : ℕ) (v : DoorView) → get_elem? (keeper [] ∷ []) seat ≡ some v → Fits 0 [] seat v
    only zero v at = subst (Fits 0 [] 0) (some-injective _ _ at) (keeper_fits [] 0)
    only (suc seat) v at = absurd (some-ne-none v (sym at))

-- the same at a seat that is the hub's
module _ (seat : ℕ) (me : Me (Unit {0}) DoorView) (is : me ≡ (keeper me.0.list, [])) where
  pub adds_as : (slots : ℕ) (e : Entry) → Allows {S = Unit {0}} HoldsOf slots seat me 0 (λ _. 0) (λ _ (after : Me (Unit {0}) DoorView). after ≡ (keeper (me.0.list ++ e ∷ []), []))
  adds_as slots e =
      subst (λ (u : Me (Unit {0}) DoorView). Allows {S = Unit {0}} HoldsOf slots seat u 0 (λ _. 0) (λ _ (after : Me (Unit {0}) DoorView). after ≡ (keeper (u.0.list ++ e ∷ []), []))) (sym is)
      (adds slots seat me.0.list e)

pub checks_as : (slots seat : ℕ) (me : Me (Unit {0}) DoorView) (list told : List Entry) → me ≡ (meeting (keeper list) told, [])
    → Allows {S = Unit {0}} HoldsOf slots seat me 0 (λ n. n) (λ _ (after : Me (Unit {0}) DoorView). (after ≡ (keeper me.0.list, [])) × IsPrefix me.0.told me.0.list)
checks_as slots seat me list told is =
    subst (λ (u : Me (Unit {0}) DoorView). Allows {S = Unit {0}} HoldsOf slots seat u 0 (λ n. n) (λ _ (after : Me (Unit {0}) DoorView). (after ≡ (keeper u.0.list, [])) × IsPrefix u.0.told u.0.list)) (sym is)
    (checks slots seat list told)
