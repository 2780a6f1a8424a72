-- The two parts that std's `split_once` gives at a character.
use Rattle.std.proofs.Common.{◌≡◌, ℕ, ◌<◌, Bool, true, false, cond, List, length, nat_lt, ◌==◌, Option, Some, None, option_map, MatchOption, take, drop, ◌+◌, sym, ap, ◌∙◌, arith}
use Rattle.std.specs.List.{after_first, before_first, position_or_len}
use Rattle.std.proofs.lemmas.Bool.Decides.{nat_tests}
use Rattle.gps_words.specs.Devices.{halves}
use denote.Ref.{Bor}

-- a split at the first such byte
abbrev IsSplit : ℕ → List ℕ → Option (Bor (List ℕ) × Bor (List ℕ)) → Type 0
IsSplit mark s r = MatchOption r (position_or_len (λ c. c == mark) s ≡ length s)
    (λ x. (x.0.now ≡ before_first (λ c. c == mark) s) × (x.1.now ≡ after_first (λ c. c == mark) s) × (position_or_len (λ c. c == mark) s < length s))

cut : ℕ → List ℕ → Bool → Option (List ℕ × List ℕ)
cut place s found = option_map (λ k. (take k s, drop (k + 1) s)) (cond found (Some place) None)

pub split_is : (mark : ℕ) (s : List ℕ) (r : Option (Bor (List ℕ) × Bor (List ℕ))) → IsSplit mark s r
    → option_map (λ parts. (parts.0.now, parts.1.now)) r ≡ halves mark s
unfolding halves cut
split_is mark s None h =
    let none : nat_lt (position_or_len (λ c. c == mark) s) (length s) ≡ false = grind (arith, nat_tests, h) in
    sym (ap (cut (position_or_len (λ c. c == mark) s) s) none)
split_is mark s (Some x) h =
    let some : nat_lt (position_or_len (λ c. c == mark) s) (length s) ≡ true = grind (arith, nat_tests, h.2) in
    ap (λ a. Some (a, x.1.now)) h.0 ∙ ap (λ b. Some (take (position_or_len (λ c. c == mark) s) s, b)) h.1
    ∙ sym (ap (cut (position_or_len (λ c. c == mark) s) s) some)
