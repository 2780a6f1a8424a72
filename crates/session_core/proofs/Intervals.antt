-- Parts of a history from one place to another, and stretches in order.
use Rattle.std.proofs.Common.{◌≡◌, ◌≤◌, ◌<◌, ⊎_elim, ℕ, ◌-◌, Bool, true, false, ◌&&◌, ◌==◌, ◌||◌, List, [], ◌∷◌, ◌++◌, length, take, drop, map, is_some, refl, sym, ◌∙◌, ap, subst, le_trans, le_refl, take_all, lit≤, arith}
use Rattle.std.proofs.lemmas.List.{take-append-le, drop-append-le, length-drop}
use Rattle.std.proofs.lemmas.Bool.Decides.{nat_tests}
use Rattle.std.proofs.lemmas.Bool.{cases_lt}
use Rattle.std.specs.List.{list_all}
use Rattle.gps_report.specs.declared.policy.Policy.{Policy}
use Rattle.session_core.specs.Stretches.{Stretch, between, next_place, AreInOrder, last_watched, mark_of, stretches_at}
use Rattle.session_core.specs.SessionView.{last_place}
use Rattle.session_core.specs.Holding.{AreReplied}

pub next_within : (end : ℕ) (stretches : List Stretch) → AreInOrder end stretches → next_place end stretches ≤ end
next_within end [] order = le_refl end
next_within end (stretch ∷ more) order = le_trans order.0 (next_within end more order.1)

placed_from_on : (place end : ℕ) (stretches : List Stretch) → place ≤ end → AreInOrder end stretches → last_place place (map mark_of stretches) ≤ end
placed_from_on place end [] before order = before
placed_from_on place end (stretch ∷ more) before order =
    placed_from_on stretch.place end more (le_trans order.0 (next_within end more order.1)) order.1

pub placed_within : (end : ℕ) (stretches : List Stretch) → AreInOrder end stretches → last_place 0 (map mark_of stretches) ≤ end
placed_within end stretches order = let start : 0 ≤ end = omega arith in placed_from_on 0 end stretches start order

pub order_longer : (end later : ℕ) (stretches : List Stretch) → end ≤ later → AreInOrder end stretches → AreInOrder later stretches
order_longer end later [] after order = tt
order_longer end later (stretch ∷ []) after order = (le_trans order.0 after, tt)
order_longer end later (stretch ∷ second ∷ more) after order = (order.0, order_longer end later (second ∷ more) after order.1)

pub next_marked : (end : ℕ) (stretches : List Stretch) (last : Stretch) → last.place ≡ end → next_place end (stretches ++ last ∷ []) ≡ next_place end stretches
next_marked end [] last at = at
next_marked end (stretch ∷ more) last at = refl

pub order_marked : (end : ℕ) (stretches : List Stretch) (last : Stretch) → last.place ≡ end → AreInOrder end stretches → AreInOrder end (stretches ++ last ∷ [])
order_marked end [] last at order = let below : last.place ≤ end = omega (arith, at) in (below, tt)
order_marked end (stretch ∷ more) last at order =
    let P : ℕ → Type 0 = λ n. stretch.place ≤ n in
    (subst P (sym (next_marked end more last at)) order.0, order_marked end more last at order.1)

pub watched_marked : (policy : Policy) (stretches : List Stretch) (last : Stretch) → last_watched policy (stretches ++ last ∷ []) ≡ last.policy
watched_marked policy [] last = refl
watched_marked policy (stretch ∷ more) last = watched_marked stretch.policy more last

pub all_replied_marked : (stretches : List Stretch) (last : Stretch) → is_some last.reply ≡ true → list_all (λ s. is_some s.reply) stretches ≡ true
    → list_all (λ s. is_some s.reply) (stretches ++ last ∷ []) ≡ true
all_replied_marked [] last has all = rw has refl
all_replied_marked (stretch ∷ more) last has all = all_more (is_some stretch.reply) (list_all (λ s. is_some s.reply) more) (list_all (λ s. is_some s.reply) (more ++ last ∷ [])) (all_replied_marked more last has) all
  where
    all_more : (a b c : Bool) → (b ≡ true → c ≡ true) → (a && b) ≡ true → (a && c) ≡ true
    all_more true b c then e = then e
    all_more false b c then e = e

pub replied_marked : (first : Bool) (stretches : List Stretch) (last : Stretch) → is_some last.reply ≡ true → AreReplied first stretches
    → AreReplied ((length (map mark_of stretches) == 0) || first) (stretches ++ last ∷ [])
replied_marked first [] last has replied = (has, refl)
replied_marked first (stretch ∷ more) last has replied =
    let some : (length (map mark_of (stretch ∷ more)) == 0) ≡ false = grind (arith, nat_tests) in
    let P : Bool → Type 0 = λ b. AreReplied (b || first) (stretch ∷ more ++ last ∷ []) in
    subst P (sym some) (replied.0, all_replied_marked more last has replied.1)

none_before : (index end : ℕ) (stretches : List Stretch) → index < next_place end stretches → AreInOrder end stretches → stretches_at index end stretches ≡ 0
none_before index end [] before order = refl
none_before index end (stretch ∷ more) before order =
    let next : index < next_place end more = omega (arith, before, order.0) in
    let rest = none_before index end more next order.1 in
    grind (arith, nat_tests, rest, before)

-- an index is in one stretch at most
pub one_stretch : (index end : ℕ) (stretches : List Stretch) → AreInOrder end stretches → stretches_at index end stretches ≤ 1
one_stretch index end [] order = lit≤ tt
one_stretch index end (stretch ∷ more) order =
    ⊎_elim (λ before. let rest = none_before index end more before order.1 in grind (arith, nat_tests, rest))
    (λ behind. let rest = one_stretch index end more order.1 in grind (arith, nat_tests, rest, behind))
    (cases_lt index (next_place end more))

module _ {R : Type 0} where
  pub between_longer : (from to : ℕ) (history more : List R) → from ≤ to → to ≤ length history → between from to (history ++ more) ≡ between from to history
  between_longer from to history more upward inside =
      let there : from ≤ length history = le_trans upward inside in
      let fits : to - from ≤ length (drop from history) = omega (arith, length-drop from history, upward, inside) in
      ap (take (to - from)) (drop-append-le from history more there) ∙ take-append-le (to - from) (drop from history) more fits

  pub between_empty : (place end : ℕ) (history : List R) → place ≡ end → between place end history ≡ []
  between_empty place end history at = let none : end - place ≡ 0 = omega (arith, at) in ap (λ n. take n (drop place history)) none

  -- from a place on: with more reports the part is longer by these
  pub between_to_end : (from : ℕ) (history more : List R) → from ≤ length history
      → between from (length (history ++ more)) (history ++ more) ≡ between from (length history) history ++ more
  between_to_end from history more there =
      let long : length (drop from (history ++ more)) ≤ length (history ++ more) - from = omega (arith, length-drop from (history ++ more)) in
      let short : length (drop from history) ≤ length history - from = omega (arith, length-drop from history) in
      take_all (length (history ++ more) - from) (drop from (history ++ more)) long
      ∙ drop-append-le from history more there
      ∙ ap (λ l. l ++ more) (sym (take_all (length history - from) (drop from history) short))
