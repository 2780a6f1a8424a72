-- The items of a session: at each of its marks the reply, if there is one, and then what the mark's policy selects of the reports up to
-- the next mark.
use Rattle.std.specs.Prelude.{◌≤◌, ℕ, ◌+◌, ◌-◌, ◌&&◌, nat_le, nat_lt, cond, List, [], ◌∷◌, ◌++◌, length, take, drop, Option, Some, None, option_to_list}
use Rattle.std.specs.List.{flat_map}
use Rattle.gps_report.specs.declared.policy.Policy.{Policy}
use Rattle.session_core.specs.declared.mark.Close.{Close}
use Rattle.session_core.specs.declared.mark.Mark.{Mark}

-- from a mark to the next: where it begins, what is watched in it, and the reply that begins it
pub record Stretch : Type 0 where
  pub place : ℕ
  pub policy : Policy
  pub reply : Option (List ℕ)

abbrev pub mark_of : Stretch → Mark
mark_of stretch = record { place = stretch.place; policy = stretch.policy }

-- the place of the next mark, or the end
abbrev pub next_place : ℕ → List Stretch → ℕ
next_place end [] = end
next_place end (stretch ∷ more) = stretch.place

abbrev pub between : {R : Type 0} → ℕ → ℕ → List R → List R
between from to history = take (to - from) (drop from history)

-- the lines that a policy selects of some reports
abbrev pub selected : {R : Type 0} → (Policy → R → List (List ℕ)) → Policy → List R → List (List ℕ)
selected lines policy reports = flat_map (lines policy) reports

abbrev pub items_to : {R : Type 0} → (Policy → R → List (List ℕ)) → ℕ → List Stretch → List R → List (List ℕ)
items_to lines end [] history = []
items_to lines end (stretch ∷ more) history =
    (option_to_list stretch.reply ++ selected lines stretch.policy (between stretch.place (next_place end more) history))
    ++ items_to lines end more history

-- the end of the last stretch: the closing place, or the history's length
abbrev pub end_of : {R : Type 0} → Option (ℕ × Close) → List R → ℕ
end_of None history = length history
end_of (Some closing) history = closing.0

abbrev pub session_items : {R : Type 0} → (Policy → R → List (List ℕ)) → Option (ℕ × Close) → List Stretch → List R → List (List ℕ)
session_items lines closing stretches history = items_to lines (end_of closing history) stretches history

-- no stretch begins after the next one or after the end
abbrev pub AreInOrder : ℕ → List Stretch → Type 0
AreInOrder end [] = Unit {0}
AreInOrder end (stretch ∷ more) = (stretch.place ≤ next_place end more) × AreInOrder end more

-- in how many stretches an index is
abbrev pub stretches_at : ℕ → ℕ → List Stretch → ℕ
stretches_at index end [] = 0
stretches_at index end (stretch ∷ more) =
    cond (nat_le stretch.place index && nat_lt index (next_place end more)) 1 0 + stretches_at index end more

abbrev pub last_watched : Policy → List Stretch → Policy
last_watched policy [] = policy
last_watched policy (stretch ∷ more) = last_watched stretch.policy more

abbrev pub plain_stretch : ℕ → Policy → Stretch
plain_stretch place policy = record { place = place; policy = policy; reply = None }

abbrev pub answer_stretch : ℕ → Policy → List ℕ → Stretch
answer_stretch place policy reply = record { place = place; policy = policy; reply = Some reply }

-- what a turn leaves of the stretches of an open session
abbrev pub left_of : List Stretch → List Stretch
left_of [] = []
left_of (stretch ∷ more) = plain_stretch 0 (last_watched stretch.policy more) ∷ []

-- a stretch of a generation that begins at this place of the whole history
abbrev pub placed_from : ℕ → Stretch → Stretch
placed_from base stretch = record stretch { place = base + stretch.place }
