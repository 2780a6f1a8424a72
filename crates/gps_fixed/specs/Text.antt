-- How numbers and times are written: fixed point with a fixed number of decimals, and stamps as ISO 8601 writes them, with milliseconds.
use Rattle.std.specs.Prelude.{ℕ, zero, suc, ◌+◌, ◌/◌, ◌%◌, ◌^◌, List, [], ◌∷◌, ◌++◌, ℤ, pos, negsuc, unsigned_abs, codes}
use Rattle.std.specs.Fmt.{decimal}
use Rattle.gps_fixed.specs.Moment.{Moment}
use Rattle.gps_fixed.specs.Civil.{CivilDate, civil_of}

-- the last k digits of n, zeros in front if it has fewer
abbrev pub digits_in : ℕ → ℕ → List ℕ
digits_in zero n = []
digits_in (suc k) n = (48 + n / 10 ^ k % 10) ∷ digits_in k n

-- n / 10 ^ k, with k decimals
abbrev pub unsigned_text : ℕ → ℕ → List ℕ
unsigned_text k n = decimal (n / 10 ^ k) ++ codes "." ++ digits_in k (n % 10 ^ k)

-- the same with `-` in front of a value below zero
abbrev pub scaled_text : ℕ → ℤ → List ℕ
scaled_text k (pos n) = unsigned_text k n
scaled_text k (negsuc n) = codes "-" ++ unsigned_text k (suc n)

-- YYYY-MM-DD
abbrev pub date_text : CivilDate → List ℕ
date_text d = digits_in 4 d.year ++ codes "-" ++ digits_in 2 d.month ++ codes "-" ++ digits_in 2 d.day

-- HH:MM:SS of a second of the day
abbrev pub clock_text : ℕ → List ℕ
clock_text s = digits_in 2 (s / 3_600) ++ codes ":" ++ digits_in 2 (s / 60 % 60) ++ codes ":" ++ digits_in 2 (s % 60)

-- YYYY-MM-DDTHH:MM:SS.mmmZ, further digits dropped
unfoldable pub iso_of : Moment → List ℕ
iso_of at =
    let second = unsigned_abs at.sec in
    date_text (civil_of (second / 86_400)) ++ codes "T" ++ clock_text (second % 86_400)
    ++ codes "." ++ digits_in 3 (at.nsec / 10 ^ 6) ++ codes "Z"
