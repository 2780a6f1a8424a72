-- The last `:` of a text, from its end.
use Rattle.std.proofs.Common.{◌≡◌, ℕ, ◌+◌, ◌-◌, ◌<◌, ◌≤◌, Bool, true, false, cond, List, [], ◌∷◌, ◌++◌, length, take, slice_index_or, Option, Some, None, refl, sym, ap, ◌∙◌, subst, arith}
use Rattle.std.proofs.Math.Seq.{take-length}
use Rattle.std.proofs.lemmas.List.{length-take, take_more}
use Rattle.std.proofs.lemmas.Grind.{common_steps}
use Rattle.std.specs.Prelude.{◌==◌, ◌||◌}
use Rattle.std.specs.List.{list_any}
use Rattle.gps_words.specs.Devices.{last_colon, later}

abbrev is_colon : ℕ → Bool
is_colon b = b == 58

abbrev first_if : Bool → Option ℕ
first_if test = cond test (Some 0) None

or_true : (b : Bool) → (b || true) ≡ true
or_true true = refl
or_true false = refl

any_last : (front : List ℕ) → list_any is_colon (front ++ 58 ∷ []) ≡ true
any_last [] = refl
any_last (c ∷ front) = ap (λ b. is_colon c || b) (any_last front) ∙ or_true (is_colon c)

pub found : (front : List ℕ) → last_colon (front ++ 58 ∷ []) ≡ Some (length front)
unfolding last_colon
found [] = refl
found (c ∷ front) =
    ap (λ b. cond b (later (last_colon (front ++ 58 ∷ []))) (first_if (is_colon c))) (any_last front) ∙ ap later (found front)
    ∙ ap (λ n. Some n) (omega arith)

any_passed : (front : List ℕ) (c : ℕ) → is_colon c ≡ false → list_any is_colon (front ++ c ∷ []) ≡ list_any is_colon front
any_passed [] c other = ap (λ b. b || false) other
any_passed (d ∷ front) c other = ap (λ b. is_colon d || b) (any_passed front c other)

pub passed : (front : List ℕ) (c : ℕ) → is_colon c ≡ false → last_colon (front ++ c ∷ []) ≡ last_colon front
unfolding last_colon
passed [] c other = ap first_if other
passed (d ∷ front) c other =
    ap (λ b. cond b (later (last_colon (front ++ c ∷ []))) (first_if (is_colon d))) (any_passed front c other)
    ∙ ap (λ p. cond (list_any is_colon front) (later p) (first_if (is_colon d))) (passed front c other)

-- a text is what comes before its last byte, and that byte
split_last : (text : List ℕ) (d : ℕ) → 0 < length text
    → take (length text - 1) text ++ slice_index_or text (length text - 1) d ∷ [] ≡ text
split_last text d some =
    let near : length text - 1 < length text = omega arith in
    let whole : length text - 1 + 1 ≡ length text = omega arith in
    sym (take_more text (length text - 1) d near) ∙ ap (λ n. take n text) whole ∙ take-length text

pub last_found : (text : List ℕ) (d : ℕ) → 0 < length text → slice_index_or text (length text - 1) d ≡ 58
    → last_colon text ≡ Some (length (take (length text - 1) text))
last_found text d some e =
    ap last_colon (sym (split_last text d some))
    ∙ ap (λ c. last_colon (take (length text - 1) text ++ c ∷ [])) e
    ∙ found (take (length text - 1) text)

pub last_passed : (all text : List ℕ) (d : ℕ) → 0 < length text → is_colon (slice_index_or text (length text - 1) d) ≡ false
    → last_colon text ≡ last_colon all → length text ≤ length all
    → (last_colon (take (length text - 1) text) ≡ last_colon all) × (length (take (length text - 1) text) ≤ length all)
last_passed all text d some e same within =
    let shorter = length-take (length text - 1) text in (
      sym (passed (take (length text - 1) text) _ e) ∙ ap last_colon (split_last text d some) ∙ same,
      grind (arith, common_steps),
    )

pub no_colon : (text : List ℕ) → length text < 1 → last_colon text ≡ None
unfolding last_colon
no_colon [] few = refl
no_colon (c ∷ text) few = absurd (omega (arith, few))
