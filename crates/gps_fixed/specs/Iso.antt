-- What an ISO 8601 text of a stamp says: the stamp in whole milliseconds that is written so.
use Rattle.std.specs.Prelude.{◌≡◌, ℕ, ◌+◌, ◌*◌, ◌/◌, ◌%◌, ◌^◌, List, slice_index}
use Rattle.gps_fixed.specs.Moment.{Moment, IsMoment}
use Rattle.gps_fixed.specs.Text.{iso_of}

-- the last whole millisecond at a point of time or before it
abbrev pub in_milliseconds : Moment → Moment
in_milliseconds at = record { sec = at.sec; nsec = at.nsec / 10 ^ 6 * 10 ^ 6 }

-- a stamp of whole milliseconds
pub record IsWhole (at : Moment) : Type 0 where
  pub stamp : IsMoment at.sec at.nsec
  pub whole : in_milliseconds at ≡ at

-- the text is that of this stamp, which has whole milliseconds
pub record IsIsoOf (at : Moment) (text : List ℕ) : Type 0 where
  pub stamp : IsWhole at
  pub written : text ≡ iso_of at

-- the number that the digits at two places write, for what is computed with them; the lower half of a digit is its value
abbrev pub two_at : ℕ → List ℕ → ℕ
two_at place text = 10 * (slice_index text place % 16) + slice_index text (place + 1) % 16
