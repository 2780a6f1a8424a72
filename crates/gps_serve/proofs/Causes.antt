-- What the counts of the outside say once the threads have ended.
use Rattle.std.proofs.Common.{◌≡◌, ℕ, ◌<◌, ◌⊎◌, inl, inr, Bool, true, false, ◌||◌, List, [], ◌∷◌, ◌++◌, Option, Some, None, IfSome, refl, sym, ◌∙◌, subst, arith}
use Rattle.serve_end.specs.Failing.{AnyOf, SourceFailed}
use Rattle.serve_end.proofs.Causes.{failed_front, failed_last}
use Rattle.std.specs.Prelude.{Result, Err}
use Rattle.gps_outside.specs.Counts.{Rose}
use Rattle.gps_world.specs.declared.opening.Stop.{Stop}
use Rattle.gps_world.specs.declared.opening.Stop.TheVariants.{Input, Listen}
use Rattle.gps_world.specs.OpenInOrder.{OpeningHasCause, world_faults}
use Rattle.serve_door.specs.Doors.{FailsBy}

either : (before now : Bool) → (before || now) ≡ true → (before ≡ true) ⊎ (now ≡ true)
either true now is = inl refl
either false now is = inr is

-- one more device
pub failed_more : {X : Type 0} (P : X → Type 0) (before now failed : Bool) (xs xs' : List X) (x : X) → (before ≡ true → AnyOf P xs) → (now ≡ true → P x)
    → failed ≡ (before || now) → xs' ≡ xs ++ x ∷ [] → failed ≡ true → AnyOf P xs'
failed_more P before now failed xs xs' x so one is more e =
    subst (AnyOf P) (sym more)
    (elim (either before now (sym is ∙ e)) [ inl first ↦ failed_front P xs x (so first) | inr last ↦ failed_last P xs x (one last) ])

-- what the door's failing says of its count
pub gate_cause : (failed : Bool) (before now : ℕ) → FailsBy failed before now → failed ≡ true → 0 < now
gate_cause failed before now fails is = let rose = fails.cause is in omega (arith, rose)

-- a door that had no fault before, and did not fail, has none
pub gate_sound : (failed : Bool) (before now : ℕ) → FailsBy failed before now → before ≡ 0 → failed ≡ false → now ≡ 0
gate_sound failed before now fails none is = fails.still is ∙ none

-- if no door is handed back, none failed
pub no_gate : {G : Type 0} (faults : G → ℕ) (given : Option G) (status : ℕ) → given ≡ None → SourceFailed faults given → (status ≡ 3) ⊎ (status ≡ 8)
no_gate faults None status none some = absurd some
no_gate faults (Some gate) status none some = absurd (cc)

-- nor did one that counted no fault
pub none_counted : {G : Type 0} (faults : G → ℕ) (given gate : Option G) → given ≡ gate → IfSome gate (λ (g : G). faults g ≡ 0) → SourceFailed faults given → ⊥
none_counted faults None gate same none some = some
none_counted {G} faults (Some g) gate same none some =
    let zero : faults g ≡ 0 = subst (λ (x : Option G). IfSome x (λ (y : G). faults y ≡ 0)) (sym same) none in omega (arith, zero, some)

-- if nothing was served, something could not be opened, or it was out of memory
pub none_of : (X : Type 0) {W : Type 0} (input listen : W → ℕ) (world world' world'' : W) (stop : Stop) (status : ℕ)
    → OpeningHasCause {X = X} (Err stop) (world_faults (input world) (listen world)) (world_faults (input world') (listen world'))
    → ((status ≡ 3) × (stop ≡ Input)) ⊎ ((status ≡ 8) × (stop ≡ Listen)) ⊎ (status ≡ 7) → world'' ≡ world'
    → ((status ≡ 3) × Rose (input world) (input world'')) ⊎ ((status ≡ 8) × Rose (listen world) (listen world'')) ⊎ (status ≡ 7)
none_of X {W} input listen world world' world'' stop status cause each is = elim each [
  | inl first ↦ inl (
    first.0,
    subst (λ (w : W). Rose (input world) (input w)) (sym is)
        (subst (λ (s : Stop). OpeningHasCause {X = X} (Err s) (world_faults (input world) (listen world)) (world_faults (input world') (listen world'))) first.1 cause),
  )
  | inr (inl door) ↦ inr (inl (
    door.0,
    subst (λ (w : W). Rose (listen world) (listen w)) (sym is)
        (subst (λ (s : Stop). OpeningHasCause {X = X} (Err s) (world_faults (input world) (listen world)) (world_faults (input world') (listen world'))) door.1 cause),
  ))
  | inr (inr memory) ↦ inr (inr memory)
]
