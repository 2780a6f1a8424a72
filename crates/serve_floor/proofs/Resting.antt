-- Units whose samples are all published, one after another.
use Rattle.std.proofs.Common.{◌≡◌, ℕ, ◌<◌, ◌≤◌, ◌+◌, ◌⊎◌, inl, inr, zero, suc, ◌||◌, Bool, true, false, List, [], ◌∷◌, slice_index_or, slice_set, refl, sym, ◌∙◌, ap, subst, arith}
use Rattle.book_units.specs.declared.unit.UnitStep.{UnitStep}
use Rattle.book_units.specs.declared.unit.UnitStep.TheVariants.{Empty, Spent}
use Rattle.book_units.specs.Steps.{PublishesAs, Publishes}
use Rattle.book_units.specs.Units.{UnitView}
use Rattle.report_book.specs.BookView.{BookView}
use Rattle.report_book.specs.Moves.{PublishesAt}
use Rattle.serve_floor.specs.Bursts.{AreAtRest, IsAtRest, IsAtRestIn}

set_same : (units : List UnitView) (u : ℕ) (next : UnitView) → ((x : UnitView) → next ≡ slice_index_or units u x) → slice_set units u next ≡ units
set_same [] u next is = refl
set_same (unit ∷ units) zero next is = ap (λ x. x ∷ units) (is unit)
set_same (unit ∷ units) (suc u) next is = ap (λ l. unit ∷ l) (set_same units u next is)

at_rest : (u : ℕ) (old new : List UnitView) → new ≡ old → IsAtRestIn u old → (new ≡ old) × IsAtRestIn u new
at_rest u old new same rests = (same, subst (IsAtRestIn u) (sym same) rests)

-- no store was made
empty_in : (u : ℕ) (old new : List UnitView) → Publishes u Empty old new → (new ≡ old) × IsAtRestIn u new
empty_in u old new p =
    at_rest u old new (p.units ∙ set_same old u p.next (λ x. (p.steps x).does.2)) (λ x. record { idle = (p.steps x).does.0; none = inl (p.steps x).does.1 })

spent_in : (u : ℕ) (old new : List UnitView) → Publishes u Spent old new → (new ≡ old) × IsAtRestIn u new
spent_in u old new p =
    at_rest u old new (p.units ∙ set_same old u p.next (λ x. (p.steps x).does.3)) (λ x. record { idle = (p.steps x).does.0; none = inr (p.steps x).does.2 })

pub empty_rests : (u : ℕ) (step : UnitStep) (old new : BookView) → PublishesAt u step old new → step ≡ Empty → (new.units ≡ old.units) × IsAtRestIn u new.units
empty_rests u step old new p is = empty_in u old.units new.units (subst (λ (s : UnitStep). Publishes u s old.units new.units) is p.units)

pub spent_rests : (u : ℕ) (step : UnitStep) (old new : BookView) → PublishesAt u step old new → step ≡ Spent → (new.units ≡ old.units) × IsAtRestIn u new.units
spent_rests u step old new p is = spent_in u old.units new.units (subst (λ (s : UnitStep). Publishes u s old.units new.units) is p.units)

-- one unit after another
pub rest_none : (units : List UnitView) → AreAtRest 0 units
rest_none units unit there = absurd (omega arith)

pub rest_more : (units units' : List UnitView) (u : ℕ) → AreAtRest u units → units' ≡ units → IsAtRestIn u units' → AreAtRest (u + 1) units'
rest_more units units' u so same next unit there =
    by_place (split unit u there)
  where
    split : (unit u : ℕ) → unit < u + 1 → (unit < u) ⊎ (unit ≡ u)
    split zero zero t = inr refl
    split zero (suc u) t = inl (omega arith)
    split (suc unit) zero t = absurd (omega arith)
    split (suc unit) (suc u) t = elim (split unit u (omega arith)) [ inl less ↦ inl (omega arith) | inr is ↦ inr (ap suc is) ]

    by_place : (unit < u) ⊎ (unit ≡ u) → IsAtRestIn unit units'
    by_place (inl less) = subst (IsAtRestIn unit) (sym same) (so unit less)
    by_place (inr is) = subst (λ n. IsAtRestIn n units') (sym is) next

neither : (a b : Bool) → (a || b) ≡ false → (a ≡ false) × (b ≡ false)
neither true b e = absurd cc
neither false b e = (refl, e)

-- the next unit is at rest too, if no store was made
pub rest_next : (before some after : Bool) (units units' : List UnitView) (u : ℕ) → (before ≡ false → AreAtRest u units)
    → (some ≡ false → (units' ≡ units) × IsAtRestIn u units') → after ≡ (before || some) → after ≡ false → AreAtRest (u + 1) units'
rest_next before some after units units' u so next is e =
    let both = neither before some (sym is ∙ e) in
    let here = next both.1 in
    rest_more units units' u (so both.0) here.0 here.1

pub rest_all : (n m : ℕ) (units : List UnitView) → AreAtRest n units → m ≤ n → AreAtRest m units
rest_all n m units rests few unit there = rests unit (omega (arith, few, there))
