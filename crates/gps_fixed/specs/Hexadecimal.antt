-- Hexadecimal digits as text (ASCII).
use Rattle.std.specs.Prelude.{ℕ, ◌+◌, nat_lt, if◌then◌else◌}

abbrev pub lower_digit : ℕ → ℕ
lower_digit n = if nat_lt n 10 then 48 + n else 87 + n

abbrev pub upper_digit : ℕ → ℕ
upper_digit n = if nat_lt n 10 then 48 + n else 55 + n
