-- Each kind of step keeps the rule of a lane's table.
use Rattle.std.proofs.Common.{◌≡◌, ℕ, true, false, List, [], ◌∷◌, refl, sym, ◌∙◌, subst, length, set}
use Rattle.atomic_table.specs.Table.{Me, Allows, Splits, Joins}
use Rattle.atomic_table.specs.Table.{keeps as no_slot}
use Rattle.atomic_table.proofs.Lists.{set_again}
use Rattle.gps_lane.specs.declared.bond.Bond.{Bond}
use Rattle.gps_lane.specs.declared.order.LaneLog.{LaneLog}
use Rattle.gps_lane.specs.Lane.{AllFit, log}
use Rattle.gps_lane.specs.Bonds.{Agrees, AgreesOf, both_ends, no_bond}
use Rattle.gps_lane.proofs.Moves.{joined, one_fits, parted, tied}

module _ {T : Type 0} where
  pub opens : Agrees {T = T} (both_ends no_bond no_bond ∷ [])
  opens = (0, 0, no_bond, one_fits no_bond no_bond)

  -- the split of the seat that gets
  pub parts : (seat : ℕ) (v : LaneLog (Bond T)) → v.gets ≡ true → Splits {S = Unit {0}} AgreesOf seat v (log v.puts false v.put v.put) (log false true v.got v.got)
  parts seat v may s h at = (
    h.0,
    length (set s.views seat (log v.puts false v.put v.put)),
    h.2,
    parted h.0 h.1 h.2 h.2 s.views seat v v.put v.got may h.3 at,
  )

  -- the join of it
  pub joins : (seat : ℕ) (v : LaneLog (Bond T)) (other : ℕ) (u : LaneLog (Bond T)) → u.gets ≡ true
      → Joins {S = Unit {0}} AgreesOf seat v other u (log v.puts true v.put u.got) (log false false no_bond no_bond)
  joins seat v other u may s h at apart at' = (h.0, seat, h.2, joined h.0 h.1 h.2 h.2 s.views seat v other u no_bond no_bond may h.3 at apart at')

  -- a store by a seat that has both roles
  ties : (slots seat : ℕ) (a b x : Bond T)
      → Allows {S = Unit {0}} AgreesOf slots seat (both_ends a b, []) 0 (λ _. 0) (λ _ (after : Me (Unit {0}) (LaneLog (Bond T))). after ≡ (both_ends x x, []))
  ties slots seat a b x s h homes at small =
      (both_ends x x, no_slot, tt, (seat, seat, x, tied h.0 h.1 h.2 h.2 s.views seat (both_ends a b) x refl refl h.3 at), refl)

  -- a load by it: both roles know the same
  checks : (slots seat : ℕ) (a b : Bond T)
      → Allows {S = Unit {0}} AgreesOf slots seat (both_ends a b, []) 0 (λ n. n) (λ _ (after : Me (Unit {0}) (LaneLog (Bond T))). (after ≡ (both_ends a b, [])) × (a ≡ b))
  checks slots seat a b s h homes at small =
      let mine = h.3 seat (both_ends a b) at in (
        both_ends a b,
        no_slot,
        tt,
        subst (λ (l : List (LaneLog (Bond T))). Agrees l) (sym (set_again s.views seat (both_ends a b) at)) h,
        (refl, (mine.0 refl).1 ∙ sym (mine.1 refl).1),
      )

  -- the same at a seat that is known to have both roles
  module _ (seat : ℕ) (me : Me (Unit {0}) (LaneLog (Bond T))) (is : me ≡ (both_ends me.0.put me.0.got, [])) where
    pub ties_as : (slots : ℕ) (x : Bond T) → Allows {S = Unit {0}} AgreesOf slots seat me 0 (λ _. 0) (λ _ (after : Me (Unit {0}) (LaneLog (Bond T))). after ≡ (both_ends x x, []))
    ties_as slots x =
        subst (λ (u : Me (Unit {0}) (LaneLog (Bond T))). Allows {S = Unit {0}} AgreesOf slots seat u 0 (λ _. 0) (λ _ (after : Me (Unit {0}) (LaneLog (Bond T))). after ≡ (both_ends x x, []))) (sym is)
        (ties slots seat me.0.put me.0.got x)

    pub checks_as : (slots : ℕ)
        → Allows {S = Unit {0}} AgreesOf slots seat me 0 (λ n. n) (λ _ (after : Me (Unit {0}) (LaneLog (Bond T))). (after ≡ me) × (me.0.put ≡ me.0.got))
    checks_as slots =
        subst (λ (u : Me (Unit {0}) (LaneLog (Bond T))). Allows {S = Unit {0}} AgreesOf slots seat u 0 (λ n. n) (λ _ (after : Me (Unit {0}) (LaneLog (Bond T))). (after ≡ u) × (u.0.put ≡ u.0.got))) (sym is)
        (checks slots seat me.0.put me.0.got)
