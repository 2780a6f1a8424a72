-- Counts of faults and quiets: what it means that one rose in a call.
use Rattle.std.specs.Prelude.{ℕ, zero, suc, ◌+◌, ◌-◌, ◌^◌, ◌≤◌, min}

-- The count is greater by n or more, or it is at the greatest value of a u64 or above.
abbrev pub RoseBy : ℕ → ℕ → ℕ → Type 0
RoseBy n before now = min (before + n) (2 ^ 64 - 1) ≤ now

abbrev pub Rose : ℕ → ℕ → Type 0
Rose before now = RoseBy 1 before now

-- a u64 counter after one more: at its greatest value it stays there
abbrev pub one_more : ℕ → ℕ
one_more count = min (count + 1) (2 ^ 64 - 1)

-- a u64 counter after n more
unfoldable pub many_more : ℕ → ℕ → ℕ
many_more zero count = count
many_more (suc n) count = one_more (many_more n count)

-- what a source counts
pub record Tally : Type 0 where
  pub faults : ℕ
  pub quiets : ℕ
