-- The point of time of a day and a time of that day, in UTC, if each day has 86,400 seconds.
use Rattle.std.specs.Prelude.{ℕ, ◌/◌, ◌%◌, ◌^◌, ℤ, pos, ◌+ℤ◌, ◌*ℤ◌}
use Rattle.gps_fixed.specs.Moment.{Moment}

-- days since 1970-01-01, and nanoseconds of the day
abbrev pub utc : ℤ → ℕ → Moment
utc day tod = record {
  sec = pos 86_400 *ℤ day +ℤ pos (tod / 10 ^ 9);
  nsec = tod % 10 ^ 9;
}
