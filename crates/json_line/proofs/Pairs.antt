-- The table of the two digits of each number below 100.
use Rattle.std.proofs.Common.{◌≡◌, ℕ, ◌+◌, ◌*◌, ◌/◌, ◌%◌, ◌<◌, ◌==◌, true, get_or, refl, eqb-true}
use Rattle.std.proofs.lemmas.Bool.{agree_below_at}
use Rattle.json_line.specs.declared.placing.TheConstants.{PAIRS}

pub tens_at : (n : ℕ) → n < 100 → get_or PAIRS (n * 2) 0 ≡ 48 + n / 10 % 10
tens_at n small =
    eqb-true _ _ (agree_below_at (λ k. get_or PAIRS (k * 2) 0 == 48 + k / 10 % 10) (λ k. true) 100 n refl small)

pub ones_at : (n : ℕ) → n < 100 → get_or PAIRS (n * 2 + 1) 0 ≡ 48 + n % 10
ones_at n small =
    eqb-true _ _ (agree_below_at (λ k. get_or PAIRS (k * 2 + 1) 0 == 48 + k % 10) (λ k. true) 100 n refl small)
