-- What two ends of a lane that know the same have of its queue.
use Rattle.std.proofs.Common.{◌≡◌, List, Option, Some, None, ap, sym, ◌∙◌, refl, subst}
use Rattle.std.specs.Prelude.{IfSome}
use Rattle.atomic_table.specs.Seated.{TableId}
use Rattle.gps_lane.specs.declared.bond.Bond.{Bond}
use Rattle.gps_lane.specs.Bonds.{bond_by, let_go}

id_of : {Q T : Type 0} (q : Option Q) (id : TableId) (all : List T) → (bond_by q id all).queue.name ≡ id
id_of None id all = refl
id_of (Some x) id all = refl

module _ {A B T : Type 0} where
  -- they are of one queue
  pub same_ids : (q : Option A) (r : Option B) (id id' : TableId) (all all' : List T) → bond_by q id all ≡ bond_by r id' all' → id' ≡ id
  same_ids q r id id' all all' same = sym (id_of r id' all') ∙ (sym (ap (λ (b : Bond T). b.queue.name) same) ∙ id_of q id all)

  -- if the one still has it the other has it too
  pub still_there : (P : B → Type 0) (q : Option A) (r : Option B) (x : A) (id id' : TableId) (all all' : List T)
      → q ≡ Some x → bond_by q id all ≡ bond_by r id' all' → IfSome r P → (y : B) × P y
  still_there P q None x id id' all all' is same has =
      let gone : None ≡ Some all' = ap (λ (b : Bond T). b.all) (subst (λ o. bond_by o id all ≡ let_go id' all') is same) in absurd cc
  still_there P q (Some y) x id id' all all' is same has = (y, has)
