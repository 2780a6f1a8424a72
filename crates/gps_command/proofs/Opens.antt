-- How far an open text and a line go, when more bytes come.
use Rattle.std.proofs.Common.{◌≡◌, ◌<◌, ◌≤◌, ◌+◌, inl, inr, ℕ, suc, true, false, List, [], ◌∷◌, ◌++◌, length, cond, fold, ap, refl, arith}
use Rattle.std.specs.List.{list_any}
use Rattle.std.proofs.lemmas.Bool.{cases_Bool, cond_both, or_parts}
use Rattle.gps_command.specs.declared.request.Quote.{Quote}
use Rattle.gps_command.specs.Requests.{ends, is_line_feed, line_length, open_length, quote_after}

pub open-le : (quote : Quote) (b : List ℕ) → open_length quote b ≤ length b
unfolding open_length
open-le quote [] = omega arith
open-le quote (c ∷ b) = cond_both (ends quote c) _ _ (λ n. n ≤ suc (length b)) (λ e. omega arith) (λ e. omega (arith, open-le (quote_after quote c) b))

pub open-more : (quote : Quote) (b d : List ℕ) → open_length quote b ≤ open_length quote (b ++ d)
unfolding open_length
open-more quote [] d = omega arith
open-more quote (c ∷ b) d =
    elim (cases_Bool (ends quote c)) [ inl e ↦ rw e (omega arith) | inr e ↦ rw e (omega (arith, open-more (quote_after quote c) b d)) ]

-- if there is an end, nothing after it matters
pub open-stays : (quote : Quote) (b d : List ℕ) → open_length quote b < length b → open_length quote (b ++ d) ≡ open_length quote b
unfolding open_length
open-stays quote [] d h = absurd (omega arith)
open-stays quote (c ∷ b) d h =
    elim (cases_Bool (ends quote c)) [
      | inl e ↦ rw e
      | inr e ↦ let below = rw e at h in rw e (ap suc (open-stays (quote_after quote c) b d (omega arith)))
    ]

-- if there is none, one more byte is one more, or the end
pub open-grows : (quote : Quote) (b : List ℕ) (x : ℕ) → open_length quote b ≡ length b
    → open_length quote (b ++ x ∷ []) ≡ length b + cond (ends (fold quote_after quote b) x) 0 1
unfolding open_length
open-grows quote [] x h = omega arith
open-grows quote (c ∷ b) x h =
    elim (cases_Bool (ends quote c)) [
      | inl e ↦ let none = rw e at h in absurd (omega arith)
      | inr e ↦ let all = rw e at h in rw e (omega (arith, open-grows (quote_after quote c) b x (omega arith)))
    ]

pub line-le : (b : List ℕ) → line_length b ≤ length b
unfolding line_length
line-le [] = omega arith
line-le (c ∷ b) = cond_both (is_line_feed c) _ _ (λ n. n ≤ suc (length b)) (λ f. omega arith) (λ f. omega (arith, line-le b))

pub line-stays : (b d : List ℕ) → list_any is_line_feed b ≡ true → line_length (b ++ d) ≡ line_length b
unfolding line_length
line-stays [] d h = absurd (cc)
line-stays (c ∷ b) d h =
    elim (cases_Bool (is_line_feed c)) [ inl f ↦ rw f | inr f ↦ rw f (ap suc (line-stays b d (rw f at h))) ]

pub line-all : (b : List ℕ) → list_any is_line_feed b ≡ false → line_length b ≡ length b
unfolding line_length
line-all [] h = refl
line-all (c ∷ b) h = let none = or_parts (is_line_feed c) _ h in rw none.0 (ap suc (line-all b none.1))

-- a line that has not ended goes through the next byte, whatever it is
pub line-grows : (b : List ℕ) (x : ℕ) → list_any is_line_feed b ≡ false → line_length (b ++ x ∷ []) ≡ length b + 1
unfolding line_length
line-grows [] x h = cond_both (is_line_feed x) _ _ (λ n. n ≡ 1) (λ f. refl) (λ f. refl)
line-grows (c ∷ b) x h = let none = or_parts (is_line_feed c) _ h in rw none.0 (omega (arith, line-grows b x none.1))
