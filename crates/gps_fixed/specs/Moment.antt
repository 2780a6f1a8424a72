-- What contracts see of a Stamp: whole seconds since 1970-01-01T00:00:00Z, and the nanoseconds of the second.
use Rattle.std.specs.Prelude.{ℕ, ℤ, pos, ◌≤ℤ◌, ◌<◌}

pub record Moment : Type 0 where
  pub sec : ℤ
  pub nsec : ℕ

-- from the year 1970 to the last second with ten digits, in the year 2286
pub record IsMoment (sec : ℤ) (nsec : ℕ) : Type 0 where
  pub from : pos 0 ≤ℤ sec
  pub to : sec ≤ℤ pos 9_999_999_999
  pub within : nsec < 1_000_000_000
