-- The first place of a byte, from what a search for it answers.
use Rattle.std.proofs.Common.{◌≡◌, ℕ, refl, arith, Bool, true, false, List, length, Some, None, slice_index}
use Rattle.std.specs.List.{position_or_len}
use Rattle.std.proofs.lemmas.List.Sums.{position_or_len_is}
use Rattle.memchr.specs.Find.{IsFirstByte}

not_true : (b : Bool) → ¬ (b ≡ true) → b ≡ false
not_true true fails = absurd (fails refl)
not_true false fails = refl

pub place_is : (test : ℕ → Bool) (text : List ℕ) (place : ℕ) → IsFirstByte test text (Some place) → position_or_len test text ≡ place
place_is test text place is =
    position_or_len_is test text place 0 (omega (arith, is.0.high))
    (λ k below. not_true (test (slice_index text k)) (is.0.before k (omega arith) below))
    (λ _. is.1)

pub nowhere_is : (test : ℕ → Bool) (text : List ℕ) → IsFirstByte test text None → position_or_len test text ≡ length text
nowhere_is test text is =
    position_or_len_is test text (length text) 0 (omega arith)
    (λ k below. not_true (test (slice_index text k)) (is k (omega arith) below))
    (λ more. absurd (omega (arith, more)))
