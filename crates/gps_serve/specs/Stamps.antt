-- Which stamps the pieces of the devices have.
use Rattle.std.specs.Prelude.{◌≡◌, ◌≤◌, ℕ, suc, List, [], ◌∷◌, ◌++◌, length, Option}
use Rattle.gps_fixed.specs.Moment.{Moment}
use Rattle.gps_outside.specs.Ticks.{Dial}
use Rattle.gps_lane.specs.declared.piece.Piece.{Piece}
use Rattle.gps_lane.specs.Carried.{stamps_of}
use Rattle.serve_workers.specs.Clocks.{Gave}
use Rattle.stamp_shares.specs.declared.view.Given.{Given}
use Rattle.stamp_shares.specs.Shares.{stamps_for, stamps_in}

-- A device's pieces have the first of the stamps that were given for it, in order and each once: all of them, or all but the last.
abbrev pub HasStampsFor : List Given → ℕ → List Piece → Type 0
HasStampsFor given device pieces = (late : List Moment) × ((length late ≤ 1) × (stamps_for device given ≡ stamps_of pieces ++ late))

-- the same of the devices from this number on
abbrev pub HaveStampsFrom : ℕ → List Given → List (List Piece) → Type 0
HaveStampsFrom device given [] = Unit {0}
HaveStampsFrom device given (pieces ∷ others) = HasStampsFor given device pieces × HaveStampsFrom (suc device) given others

-- The clock gave stamps one after another, each for one device. The pieces of each device have those that were given for it.
pub record StampsAreGiven (clock : Option Dial) (devices : List (List Piece)) : Type 0 where
  pub given : List Given
  pub by_clock : Gave clock (stamps_in given)
  pub each : HaveStampsFrom 0 given devices
