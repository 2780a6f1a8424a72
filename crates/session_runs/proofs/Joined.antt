-- Stretches of two generations, at places of the whole history.
use Rattle.std.proofs.Common.{◌≡◌, ◌<◌, ℕ, ◌+◌, List, [], ◌∷◌, ◌++◌, length, map, refl, sym, ap, arith}
use Rattle.gps_report.specs.declared.policy.Policy.{Policy}
use Rattle.session_core.specs.declared.mark.Mark.{Mark}
use Rattle.session_core.specs.Stretches.{Stretch, AreInOrder, last_watched, left_of, mark_of, next_place, placed_from, plain_stretch}

next_placed : (base end : ℕ) (stretches : List Stretch) → next_place (base + end) (map (placed_from base) stretches) ≡ base + next_place end stretches
next_placed base end [] = refl
next_placed base end (stretch ∷ more) = refl

watched_placed : (base : ℕ) (policy : Policy) (stretches : List Stretch) → last_watched policy (map (placed_from base) stretches) ≡ last_watched policy stretches
watched_placed base policy [] = refl
watched_placed base policy (stretch ∷ more) = watched_placed base stretch.policy more

watched_joined : (base : ℕ) (policy : Policy) (earlier later : List Stretch)
    → last_watched (last_watched policy earlier) later ≡ last_watched policy (earlier ++ map (placed_from base) later)
watched_joined base policy [] later = sym (watched_placed base policy later)
watched_joined base policy (stretch ∷ earlier) later = watched_joined base stretch.policy earlier later

pub left_joined : (base : ℕ) (earlier later : List Stretch) → left_of (left_of earlier ++ later) ≡ left_of (earlier ++ map (placed_from base) later)
left_joined base [] [] = refl
left_joined base [] (stretch ∷ later) = ap (λ policy. plain_stretch 0 policy ∷ []) (sym (watched_placed base stretch.policy later))
left_joined base (stretch ∷ earlier) later = ap (λ policy. plain_stretch 0 policy ∷ []) (watched_joined base stretch.policy earlier later)

order_placed : (base end : ℕ) (stretches : List Stretch) → AreInOrder end stretches → AreInOrder (base + end) (map (placed_from base) stretches)
order_placed base end [] order = tt
order_placed base end (stretch ∷ more) order = (omega (arith, next_placed base end more, order.0), order_placed base end more order.1)

pub order_joined : (base end : ℕ) (earlier later : List Stretch) → AreInOrder base earlier → AreInOrder end later
    → AreInOrder (base + end) (earlier ++ map (placed_from base) later)
order_joined base end [] later before behind = order_placed base end later behind
order_joined base end (stretch ∷ []) later before behind = (omega (arith, next_placed base end later, before.0), order_placed base end later behind)
order_joined base end (stretch ∷ second ∷ earlier) later before behind = (before.0, order_joined base end (second ∷ earlier) later before.1 behind)

-- without the one that a turn left
pub order_later : (end : ℕ) (earlier later : List Stretch) → AreInOrder end (left_of earlier ++ later) → AreInOrder end later
order_later end [] later order = order
order_later end (stretch ∷ earlier) later order = order.1

-- if there is a mark, a turn leaves one with the last policy
pub left_is : (policy : Policy) (marks : List Mark) (stretches : List Stretch) → 0 < length marks → map mark_of stretches ≡ marks
    → last_watched policy stretches ≡ policy → left_of stretches ≡ plain_stretch 0 policy ∷ []
left_is policy marks [] some is watched = let none : length marks ≡ 0 = ap length (sym is) in absurd (omega (arith, none, some))
left_is policy marks (stretch ∷ more) some is watched = ap (λ p. plain_stretch 0 p ∷ []) watched
