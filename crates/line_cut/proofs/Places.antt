-- Where the first line feed is, from what a search for it answers.
use Rattle.std.proofs.Common.{◌≡◌, ◌<◌, ◌+◌, ℕ, zero, suc, Bool, true, false, ◌||◌, List, [], ◌∷◌, ◌++◌, length, take, Some, None, slice_index, refl, sym, ap, ◌∙◌, arith, eqb-true}
use Rattle.std.proofs.lemmas.List.{take_all, take_more}
use Rattle.memchr.specs.Find.{IsFirstByte, is_byte}
use Rattle.line_cut.specs.Lines.{EndsAt, has_feed, is_feed}

not_true : (b : Bool) → ¬ (b ≡ true) → b ≡ false
not_true true fails = absurd (fails refl)
not_true false fails = refl

none_below : (piece : List ℕ) (n : ℕ) → ((k : ℕ) → k < n → is_feed (slice_index piece k) ≡ true → ⊥) → has_feed (take n piece) ≡ false
none_below piece zero none = refl
none_below [] (suc n) none = refl
none_below (c ∷ piece) (suc n) none =
    ap (λ b. b || has_feed (take n piece)) (not_true (is_feed c) (none 0 (omega arith)))
    ∙ none_below piece n (λ k below is. none (suc k) (omega arith) is)

split_at_place : (piece : List ℕ) (n : ℕ) → n < length piece → is_feed (slice_index piece n) ≡ true → take (n + 1) piece ≡ take n piece ++ 10 ∷ []
split_at_place piece n inside is = take_more piece n 0 inside ∙ ap (λ c. take n piece ++ c ∷ []) (eqb-true (slice_index piece n) 10 is)

pub ends_at : (piece : List ℕ) (place : ℕ) → IsFirstByte (is_byte 10) piece (Some place) → EndsAt piece (place + 1)
ends_at piece place is = record {
  inside = omega (arith, is.0.high);
  some = omega arith;
  is = record {
    text = take place piece;
    plain = none_below piece place (λ k below. is.0.before k (omega arith) below);
    spelled = split_at_place piece place is.0.high is.1;
  };
}

pub nowhere : (piece : List ℕ) → IsFirstByte (is_byte 10) piece None → has_feed piece ≡ false
nowhere piece is = ap has_feed (sym (take_all (length piece) piece (omega arith))) ∙ none_below piece (length piece) (λ k below. is k (omega arith) below)
