-- The rule of the table of stamps: one seat knows all that was given; one knows how many shares were begun; and each share is in one seat, and is what
-- was given to it.
use Rattle.std.specs.Prelude.{◌≡◌, ◌<◌, ◌≤◌, ℕ, true, List, [], ◌∷◌}
use mathlib.Core.Option.{some}
use lib.ListN.{get_elem?}
use Rattle.atomic_table.specs.Table.{State}
use Rattle.stamp_shares.specs.declared.view.Given.{Given}
use Rattle.stamp_shares.specs.declared.view.SeatView.{SeatView}
use Rattle.stamp_shares.specs.declared.view.ShareView.{ShareView}
use Rattle.stamp_shares.specs.Shares.{IsShareOf, stamps_for}

-- what was given, how many shares were begun, which seat gives, which one begins shares, and in which seat each share is
pub record Facts : Type 0 where
  pub given : List Given
  pub begun : ℕ
  pub giver : ℕ
  pub counter : ℕ
  pub holder : ℕ → ℕ

-- a share in this seat
pub record Belongs (x : Facts) (seat : ℕ) (share : ShareView) : Type 0 where
  pub here : x.holder share.whose ≡ seat
  pub begun : share.whose < x.begun
  pub is : IsShareOf x.given share

abbrev pub Belong : Facts → ℕ → List ShareView → Type 0
Belong x seat [] = Unit {0}
Belong x seat (share ∷ shares) = Belongs x seat share × Belong x seat shares

-- what holds of one seat's view
pub record Fits (x : Facts) (seat : ℕ) (v : SeatView) : Type 0 where
  pub gives : v.gives ≡ true → (seat ≡ x.giver) × (v.given ≡ x.given)
  pub counts : v.counts ≡ true → (seat ≡ x.counter) × (v.begun ≡ x.begun)
  pub shares : Belong x seat v.shares

pub record ShareHolds (views : List SeatView) : Type 0 where
  pub facts : Facts
  pub none : (whose : ℕ) → facts.begun ≤ whose → stamps_for whose facts.given ≡ []
  pub fits : (seat : ℕ) (v : SeatView) → get_elem? views seat ≡ some v → Fits facts seat v

abbrev pub HoldsOf : State (Unit {0}) SeatView → Type 0
HoldsOf state = ShareHolds state.views
