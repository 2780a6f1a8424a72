-- The links of sessions that are admitted one after another.
use Rattle.std.proofs.Common.{◌≡◌, ℕ, ◌≤◌, ◌⊎◌, inl, inr, Bool, true, false, List, [], ◌∷◌, ◌++◌, map, Option, refl, sym, ◌∙◌, ap, subst, arith}
use Rattle.std.proofs.lemmas.List.{map-append}
use Rattle.std.specs.List.{AllZip}
use Rattle.gps_outside.specs.Counts.{Rose}
use Rattle.hub_door.specs.Admissions.{Admissions, admitting, link_of}
use Rattle.serve_workers.specs.declared.session.SessionLink.{SessionLink}
use Rattle.serve_door.specs.Doors.{AreSeated, DoorNow, EachLink, FailsBy, HasNewLanes, Tended, Tends, Way, lanes_of, way_of}

each_more : {L : Type 0} (P : L → Type 0) (links : List L) (link : L) → EachLink P links → P link → EachLink P (links ++ link ∷ [])
each_more P [] link each p = (p, tt)
each_more P (first ∷ links) link each p = (each.0, each_more P links link each.1 p)

module _ {S K R : Type 0} (P : SessionLink S K R → Type 0) (queue : ℕ) where
  pub seated_none : (seat : Admissions) → seat.links ≡ [] → AreSeated P queue [] seat
  seated_none seat none = record { lanes = sym none; unused = tt; each = tt }

  -- one more session, admitted with its lanes
  pub seated_more : (links : List (SessionLink S K R)) (link : SessionLink S K R) (old new : Admissions)
      → AreSeated P queue links old → new ≡ admitting (lanes_of queue link) old → HasNewLanes link → P link
      → AreSeated P queue (links ++ link ∷ []) new
  seated_more links link old new seated is unused p = record {
    lanes = map-append (lanes_of queue) links (link ∷ []) ∙ ap (λ l. l ++ lanes_of queue link ∷ []) seated.lanes ∙ sym (ap (λ a. a.links) is);
    unused = each_more HasNewLanes links link seated.unused unused;
    each = each_more P links link seated.each p;
  }

  pub same_links : (links links' : List (SessionLink S K R)) (old new : Admissions) → AreSeated P queue links old → links' ≡ links → new.links ≡ old.links
      → AreSeated P queue links' new
  same_links links links' old new seated same is = record {
    lanes = ap (map (lanes_of queue)) same ∙ seated.lanes ∙ sym is;
    unused = subst (EachLink HasNewLanes) (sym same) seated.unused;
    each = subst (EachLink P) (sym same) seated.each;
  }

-- all that were seated have run
pub tended : {S K R Run : Type 0} (P : SessionLink S K R → Type 0) (Runs : SessionLink S K R → Run → Type 0) (queue : ℕ) (links : List (SessionLink S K R)) (told : Option (List (Way S K)))
    (now : DoorNow S K) (seat : Admissions) (runs : List Run) → AreSeated P queue links seat → AllZip Runs links runs → Tends told now (map way_of links) seat.done false
    → Tended P Runs queue told now seat runs
tended P Runs queue links told now seat runs seated ran tends = record { links = links; seated = seated; ran = ran; tends = tends }

pub fails_none : (faults : ℕ) → FailsBy false faults faults
fails_none faults = record { faults_stay = omega arith; cause = λ (e : false ≡ true). absurd cc; still = λ none. refl }

-- after one more question
pub fails_more : (failed failed' : Bool) (first before after : ℕ) → FailsBy failed first before → before ≤ after
    → (failed' ≡ true → (failed ≡ true) ⊎ Rose before after) → (failed' ≡ false → (failed ≡ false) × (after ≡ before)) → FailsBy failed' first after
fails_more failed failed' first before after so stay more none = record {
  faults_stay = let p = so.faults_stay in omega arith;
  cause = λ (e : failed' ≡ true). elim (more e) [
    | inl was ↦ let r = so.cause was in omega (arith, r)
    | inr rose ↦ let p = so.faults_stay in omega (arith, rose)
  ];
  still = λ (e : failed' ≡ false). (none e).1 ∙ so.still (none e).0;
}

-- if the door and what is said of it are the same
pub still_fails : {G : Type 0} (faults : G → ℕ) (failed failed' : Bool) (first : ℕ) (gate gate' : G) → FailsBy failed first (faults gate) → failed' ≡ failed → gate' ≡ gate
    → FailsBy failed' first (faults gate')
still_fails {G} faults failed failed' first gate gate' so same is =
    subst (λ f. FailsBy f first (faults gate')) (sym same) (subst (λ (x : G). FailsBy failed first (faults x)) (sym is) so)
