-- What begins with a byte, case by case.
use Rattle.std.proofs.Common.{◌≡◌, ◌<◌, ◌≤◌, ℕ, zero, suc, true, false, List, [], ◌∷◌, length, take, drop, cond, refl, arith}
use Rattle.std.specs.List.{list_any}
use Rattle.std.proofs.lemmas.Bool.{cond_both, le-ltb, lt-ltb, ltb-false, ltb-true}
use Rattle.gps_command.specs.declared.request.Quote.TheVariants.{Outside}
use Rattle.gps_command.specs.declared.request.RawCommand.TheVariants.{Words, Long}
use Rattle.gps_command.specs.Kept.{kept_from, kept_open, kept_skipping}
use Rattle.gps_command.specs.Requests.{by_begin, is_gap, is_line_feed, long_length, open_length, requests_from}

-- what holds in each case
pub begins_by : {X : Type 0} (c : ℕ) (b : List ℕ) (gap long ended begun : X) (P : X → Type 0) → (is_gap c ≡ true → P gap)
    → (is_gap c ≡ false → 1024 < open_length Outside (c ∷ b) → P long)
    → (is_gap c ≡ false → open_length Outside (c ∷ b) ≤ 1024 → open_length Outside (c ∷ b) < suc (length b) → P ended)
    → (is_gap c ≡ false → open_length Outside (c ∷ b) ≤ 1024 → suc (length b) ≤ open_length Outside (c ∷ b) → P begun)
    → P (by_begin c b gap long ended begun)
begins_by c b gap long ended begun P in_gap in_long in_ended in_begun =
    cond_both _ _ _ P in_gap (λ g. cond_both _ _ _ P (λ l. in_long g (ltb-true _ _ l)) (λ s. let short = ltb-false _ _ s in
    cond_both _ _ _ P (λ e. in_ended g short (ltb-true _ _ e)) (λ o. in_begun g short (ltb-false _ _ o))))

-- what is passed over whole ends nothing and leaves nothing
pub at_past : (k : ℕ) (b : List ℕ) → length b ≤ k → (requests_from k b ≡ []) × (kept_from k b ≡ kept_open [])
unfolding requests_from kept_from
at_past k [] h = (refl, refl)
at_past zero (c ∷ b) h = absurd (omega arith)
at_past (suc k) (c ∷ b) h = at_past k b (omega arith)

pub at_gap : (c : ℕ) (b : List ℕ) → is_gap c ≡ true
    → (requests_from 0 (c ∷ b) ≡ requests_from 0 b) × (kept_from 0 (c ∷ b) ≡ kept_from 0 b)
unfolding requests_from kept_from
at_gap c b g = (rw g, rw g)

pub at_long : (c : ℕ) (b : List ℕ) → is_gap c ≡ false → 1024 < open_length Outside (c ∷ b)
    → (requests_from 0 (c ∷ b) ≡ Long ∷ requests_from (long_length b) b)
    × (kept_from 0 (c ∷ b) ≡ cond (list_any is_line_feed (drop 1023 b)) (kept_from (long_length b) b) kept_skipping)
unfolding requests_from kept_from
at_long c b g l = (rw (g, lt-ltb _ _ l), rw (g, lt-ltb _ _ l))

pub at_ended : (c : ℕ) (b : List ℕ) (n : ℕ) → is_gap c ≡ false → open_length Outside (c ∷ b) ≡ n → n ≤ 1024 → n < suc (length b)
    → (requests_from 0 (c ∷ b) ≡ Words (take n (c ∷ b)) ∷ requests_from n b) × (kept_from 0 (c ∷ b) ≡ kept_from n b)
unfolding requests_from kept_from
at_ended c b n g is l e = (rw (g, is, le-ltb _ _ l, lt-ltb _ _ e), rw (g, is, le-ltb _ _ l, lt-ltb _ _ e))

pub at_begun : (c : ℕ) (b : List ℕ) → is_gap c ≡ false → open_length Outside (c ∷ b) ≤ 1024 → suc (length b) ≤ open_length Outside (c ∷ b)
    → (requests_from 0 (c ∷ b) ≡ []) × (kept_from 0 (c ∷ b) ≡ kept_open (c ∷ b))
unfolding requests_from kept_from
at_begun c b g l e = (rw (g, le-ltb _ _ l, le-ltb _ _ e), rw (g, le-ltb _ _ l, le-ltb _ _ e))
