-- What the world was asked.
use Rattle.std.proofs.Common.{◌≡◌, ◌≢◌, ℕ, ◌≤◌, ◌+◌, ◌⊎◌, inl, inr, List, [], ◌∷◌, ◌++◌, length, Option, Some, None, Result, Ok, Err, refl, sym, ◌∙◌, ap, arith, subst}
use Rattle.std.proofs.lemmas.List.{append-nil}
use Rattle.gps_world.specs.Asking.{Asking, asked_nothing}
use Rattle.gps_world.specs.declared.place.Place.{Place}
use Rattle.gps_world.specs.declared.opening.Stop.{Stop}
use Rattle.gps_serve.specs.Outcome.{status_of}
use Rattle.gps_world.specs.OpenInOrder.{AsksAll, AsksPrefix, OpenAsks, places_in}

pub all_of : {X : Type 0} (x : X) (old new : Asking) (places : List Place) (listen : List ℕ) → old ≡ asked_nothing → OpenAsks {X = X} (Ok x) old new places listen
    → AsksAll new places listen
all_of x old new places listen none asks = (asks.0 ∙ ap (λ (a : Asking). a.places ++ places) none, asks.1)

pub some_of : {X : Type 0} (result : Result X Stop) (old new : Asking) (places : List Place) (listen : List ℕ) → old ≡ asked_nothing → OpenAsks result old new places listen
    → AsksPrefix new places listen
some_of (Ok x) old new places listen none asks =
    (([], sym (asks.0 ∙ ap (λ (a : Asking). a.places ++ places) none) ∙ sym (append-nil new.places)), inr asks.1)
some_of (Err stop) old new places listen none asks =
    ((asks.0.0, sym (ap (λ (a : Asking). a.places ++ places) none) ∙ asks.0.1), elim asks.1 [ inl unheard ↦ inl unheard | inr heard ↦ inr heard.0 ])

-- if the opening stopped after the daemon had listened, listening failed
pub stopped_at_door : (X : Type 0) {W : Type 0} (asked : W → Asking) (old : Asking) (w w' : W) (stop : Stop) (status : ℕ) (places : List Place) (listen : List ℕ)
    → OpenAsks {X = X} (Err stop) old (asked w) places listen → w' ≡ w → status ≡ status_of stop → (asked w').address ≢ None → status ≡ 8
stopped_at_door X {W} asked old w w' stop status places listen asks is status_is some = elim asks.1 [
  | inl unheard ↦ absurd (some (ap (λ (x : W). (asked x).address) is ∙ unheard))
  | inr heard ↦ status_is ∙ ap status_of heard.1
]

-- a device has one place of edges at most
few : (edges : List (Option Place)) → length (places_in edges) ≤ length edges
few [] = omega arith
few (None ∷ edges) = let h = few edges in omega arith
few (Some place ∷ edges) = let h = few edges in omega arith

pub few_of : (asked : Asking) (inputs : List Place) (edges : List (Option Place)) (devices : ℕ) → asked ≡ asked_nothing → length inputs ≡ devices → length edges ≡ devices
    → devices ≤ 8 → length asked.places + (length inputs + length (places_in edges)) ≤ 16
few_of asked inputs edges devices none is are eight =
    let no_place : length asked.places ≡ 0 = ap (λ (a : Asking). length a.places) none in
    let h = few edges in
    omega arith

-- if the world is the same
pub still_asked : {W : Type 0} (asked : W → Asking) (w w' : W) (places : List Place) (listen : List ℕ) → w' ≡ w → AsksPrefix (asked w) places listen
    → AsksPrefix (asked w') places listen
still_asked {W} asked w w' places listen is so = subst (λ (x : W). AsksPrefix (asked x) places listen) (sym is) so
