-- An item's text by its runs of plain bytes.
use Rattle.std.proofs.Common.{◌≡◌, ℕ, suc, ◌+◌, ◌-◌, ◌/◌, ◌%◌, ◌<◌, ◌≤◌, Bool, true, false, cond, List, [], ◌∷◌, ◌++◌, append_assoc, append-nil, length, take, drop, slice_index, refl, sym, ap, ◌∙◌, arith}
use Rattle.std.proofs.lemmas.List.{take_all}
use Rattle.std.specs.List.{prefix_len, flat_map}
use Rattle.gps_fixed.specs.Hexadecimal.{lower_digit}
use Rattle.output_lines.specs.Items.{escaped, escaped_text, is_plain}

-- the first byte of a text, and the run after it
by_first : (b : Bool) (x n : ℕ) (xs : List ℕ) → is_plain x ≡ b → flat_map escaped xs ≡ take n xs ++ flat_map escaped (drop n xs)
    → flat_map escaped (x ∷ xs) ≡ take (cond b (1 + n) 0) (x ∷ xs) ++ flat_map escaped (drop (cond b (1 + n) 0) (x ∷ xs))
by_first true x n xs plain rest =
    let one : suc n ≡ 1 + n = omega arith in
    let code : List ℕ = 92 ∷ 120 ∷ lower_digit (x / 16) ∷ lower_digit (x % 16) ∷ [] in
    ap (λ b. cond b (x ∷ []) code ++ flat_map escaped xs) plain
    ∙ (ap (λ l. x ∷ l) rest ∙ ap (λ k. take k (x ∷ xs) ++ flat_map escaped (drop k (x ∷ xs))) one)
by_first false x n xs other rest = refl

-- a text begins with its first run as it is
run_first : (text : List ℕ) → flat_map escaped text ≡ take (prefix_len is_plain text) text ++ flat_map escaped (drop (prefix_len is_plain text) text)
run_first [] = refl
run_first (x ∷ xs) = by_first (is_plain x) x (prefix_len is_plain xs) xs refl (run_first xs)

-- what is added while a run and what follows it are still to be added
begun : (out text run behind : List ℕ) (n : ℕ) → n ≡ prefix_len is_plain text → run ≡ take n text → behind ≡ drop n text
    → (out ++ run) ++ flat_map escaped behind ≡ out ++ flat_map escaped text
begun out text run behind n is front back =
    append_assoc out run (flat_map escaped behind)
    ∙ ap (λ l. out ++ (l ++ flat_map escaped behind)) front
    ∙ ap (λ l. out ++ (take n text ++ flat_map escaped l)) back
    ∙ ap (λ k. out ++ (take k text ++ flat_map escaped (drop k text))) is
    ∙ ap (λ l. out ++ l) (sym (run_first text))

-- a byte after a run is added
by_byte : (first behind : List ℕ) → 1 ≤ length behind
    → (first ++ escaped (slice_index behind 0)) ++ flat_map escaped (take (length behind - 1) (drop 1 behind)) ≡ first ++ flat_map escaped behind
by_byte first [] some = absurd (omega (arith, some))
by_byte first (byte ∷ rest) some =
    ap (λ l. (first ++ escaped byte) ++ flat_map escaped l) (take_all (length (byte ∷ rest) - 1) rest (omega arith))
    ∙ append_assoc first (escaped byte) (flat_map escaped rest)

none_behind : (first behind : List ℕ) → length behind < 1 → first ≡ first ++ flat_map escaped behind
none_behind first [] none = sym (append-nil first)
none_behind first (byte ∷ rest) none = absurd (omega (arith, none))

-- a run and the byte after it are added
pub run_passed : (out text run behind first added whole : List ℕ) (n : ℕ) → n ≡ prefix_len is_plain text → run ≡ take n text → behind ≡ drop n text
    → 1 ≤ length behind → first ≡ out ++ run → added ≡ first ++ escaped (slice_index behind 0) → out ++ escaped_text text ≡ whole
    → added ++ escaped_text (take (length behind - 1) (drop 1 behind)) ≡ whole
unfolding escaped_text
run_passed out text run behind first added whole n is front back some run_added byte_added so_far =
    ap (λ l. l ++ flat_map escaped (take (length behind - 1) (drop 1 behind))) byte_added
    ∙ by_byte first behind some
    ∙ ap (λ l. l ++ flat_map escaped behind) run_added
    ∙ begun out text run behind n is front back
    ∙ so_far

-- the last run is added
pub run_ended : (out text run behind added whole : List ℕ) (n : ℕ) → n ≡ prefix_len is_plain text → run ≡ take n text → behind ≡ drop n text
    → length behind < 1 → added ≡ out ++ run → out ++ escaped_text text ≡ whole → added ≡ whole
unfolding escaped_text
run_ended out text run behind added whole n is front back none run_added so_far =
    none_behind added behind none
    ∙ ap (λ l. l ++ flat_map escaped behind) run_added
    ∙ begun out text run behind n is front back
    ∙ so_far
