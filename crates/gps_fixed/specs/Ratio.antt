-- A whole number times a ratio, rounded to the nearest whole number, halves upwards.
use Rattle.std.specs.Prelude.{ℤ, pos, ◌+ℤ◌, ◌*ℤ◌}
use Rattle.std.specs.Int.{int_div_euclid}

-- the floor of (2 v n + d) / (2 d), for d above zero
abbrev pub nearest : ℤ → ℤ → ℤ → ℤ
nearest value num den = int_div_euclid (pos 2 *ℤ (value *ℤ num) +ℤ den) (pos 2 *ℤ den)
