-- A clock in memory: its stamps in order, and then the last one for ever.
use Rattle.std.specs.Prelude.{List, [], ◌∷◌, drop}
use Rattle.gps_fixed.specs.Moment.{Moment}
use Rattle.gps_outside.specs.Ticks.{Dial}

pub record Set : Type 0 where
  pub dial : Dial
  pub last : Moment

abbrev pub head_or : Moment → List Moment → Moment
head_or last [] = last
head_or last (stamp ∷ left) = stamp

abbrev pub stamp_of : Set → Moment
stamp_of clock = head_or clock.last clock.dial.left

abbrev pub set_after : Set → Set
set_after clock = record clock { dial = record { may = clock.dial.may; left = drop 1 clock.dial.left } }
