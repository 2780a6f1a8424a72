-- The stamps of a clock.
use Rattle.std.specs.Prelude.{◌≡◌, ℕ, pos, ◌/◌, ◌%◌, nat_le, if◌then◌else◌, List, [], ◌∷◌, ◌⊎◌}
use Rattle.std.specs.List.{IsAmong}
use Rattle.gps_fixed.specs.Moment.{Moment}

-- the stamps that a clock may give, and those left, which it gives in order
pub record Dial : Type 0 where
  pub may : List Moment
  pub left : List Moment

-- One stamp is given: one of those that the clock may give, which stay the same. It is the next of those left, if one is left.
pub record Gives (stamp : Moment) (before after : Dial) : Type 0 where
  pub allowed : IsAmong before.may stamp
  pub same : after.may ≡ before.may
  pub next : (before.left ≡ stamp ∷ after.left) ⊎ ((before.left ≡ []) × (after.left ≡ []))

-- the stamp that is the given number of nanoseconds after 1970-01-01T00:00:00Z, or the last one if that is later
abbrev pub nearest_stamp : ℕ → Moment
nearest_stamp nanos =
    if nat_le (nanos / 1_000_000_000) 9_999_999_999
    then record { sec = pos (nanos / 1_000_000_000); nsec = nanos % 1_000_000_000 }
    else record { sec = pos 9_999_999_999; nsec = 999_999_999 }

-- these stamps are given one after another
abbrev pub GivesAll : List Moment → Dial → Dial → Type 0
GivesAll [] before after = before ≡ after
GivesAll (stamp ∷ stamps) before after = (middle : Dial) × (Gives stamp before middle × GivesAll stamps middle after)
