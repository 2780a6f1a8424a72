-- The closing lines of a daemon's run, one after another.
use Rattle.std.proofs.Common.{◌≡◌, ℕ, zero, suc, ◌+◌, ◌-◌, ◌≤◌, List, [], ◌∷◌, ◌++◌, length, take, Option, Some, None, option_map, slice_get, refl, sym, ◌∙◌, ap, append-nil, append_assoc, arith}
use Rattle.std.specs.List.{enumerate_from, flat_map, last_or}
use Rattle.std.specs.Option.{option_and_then, option_map_or}
use Rattle.std.proofs.lemmas.List.{take_all}
use Rattle.std.proofs.lemmas.Option.{none-some, same_Some}
use Rattle.session_core.specs.declared.mark.Close.{Close}
use Rattle.book_sessions.specs.MemberView.{MemberView}
use Rattle.book_units.specs.Steps.{state_of}
use Rattle.book_units.specs.Units.{UnitView}
use Rattle.output_lines.specs.declared.closing.SessionEnd.{SessionEnd}
use Rattle.output_lines.specs.Closings.{closing_line, unit_text}
use Rattle.serve_end.specs.Lines.{closed_text, unit_text_at, units_text}

-- ---- the line of a session

module _ (number : ℕ) (end : SessionEnd) where
  abbrev line_if : ℕ → Option (ℕ × Close) → List ℕ
  line_if items closing = option_map_or (λ (at : ℕ × Close). closing_line number end at.1 items) closing []

  pub not_closed : (a : Option MemberView) → option_and_then (λ (one : MemberView). one.session.closing) a ≡ None → option_map_or (closed_text number end) a [] ≡ []
  not_closed None is = refl
  not_closed (Some a) is = ap (line_if a.session.items) is

  pub not_there : (a : Option MemberView) → option_map (λ (one : MemberView). one.session.items) a ≡ None → option_map_or (closed_text number end) a [] ≡ []
  not_there None is = refl
  not_there (Some a) is = absurd (none-some a.session.items (sym is))

  pub was_closed : (a : Option MemberView) (place : ℕ) (why : Close) (items : ℕ)
      → option_and_then (λ (one : MemberView). one.session.closing) a ≡ Some (place, why) → option_map (λ (one : MemberView). one.session.items) a ≡ Some items
      → option_map_or (closed_text number end) a [] ≡ closing_line number end why items
  was_closed None place why items closed counts = absurd (none-some items counts)
  was_closed (Some a) place why items closed counts =
      ap (line_if a.session.items) closed ∙ ap (closing_line number end why) (same_Some a.session.items items counts)

-- ---- the last of a list, and texts of elements by their numbers

module _ {X : Type 0} where
  last_from : (x : X) (xs : List X) → slice_get (x ∷ xs) (length (x ∷ xs) - 1) ≡ last_or (Some x) xs
  last_from x [] = refl
  last_from x (y ∷ ys) =
      let one : length (x ∷ y ∷ ys) - 1 ≡ suc (length (y ∷ ys) - 1) = omega arith in
      ap (slice_get (x ∷ y ∷ ys)) one ∙ last_from y ys

  pub last_is : (xs : List X) → slice_get xs (length xs - 1) ≡ last_or None xs
  last_is [] = refl
  last_is (x ∷ xs) = last_from x xs

module _ {X : Type 0} (f : ℕ → X → List ℕ) where
  -- the texts of elements that are numbered from k on
  abbrev texts : ℕ → List X → List ℕ
  texts k xs = flat_map (λ (at : ℕ × X). f at.0 at.1) (enumerate_from k xs)

  abbrev text_at : ℕ → Option X → List ℕ
  text_at n x = option_map_or (f n) x []

  next_text : (k n : ℕ) (xs : List X) → texts k (take n xs) ++ text_at (k + n) (slice_get xs n) ≡ texts k (take (suc n) xs)
  next_text k zero [] = refl
  next_text k (suc n) [] = refl
  next_text k zero (x ∷ xs) =
      let same : k + 0 ≡ k = omega arith in
      ap (λ m. f m x) same ∙ sym (append-nil (f k x))
  next_text k (suc n) (x ∷ xs) =
      let same : k + suc n ≡ k + 1 + n = omega arith in
      append_assoc (f k x) (texts (k + 1) (take n xs)) (text_at (k + suc n) (slice_get xs n))
      ∙ ap (λ m. f k x ++ (texts (k + 1) (take n xs) ++ text_at m (slice_get xs n))) same
      ∙ ap (λ l. f k x ++ l) (next_text (k + 1) n xs)

  one_more : (out out' out'' : List ℕ) (n : ℕ) (xs : List X) → out' ≡ out ++ texts 0 (take n xs) → out'' ≡ out' ++ text_at n (slice_get xs n)
      → out'' ≡ out ++ texts 0 (take (n + 1) xs)
  one_more out out' out'' n xs so_far next =
      let same : suc n ≡ n + 1 = omega arith in
      let here : 0 + n ≡ n = omega arith in
      next ∙ ap (λ l. l ++ text_at n (slice_get xs n)) so_far ∙ append_assoc out (texts 0 (take n xs)) (text_at n (slice_get xs n))
      ∙ ap (λ m. out ++ (texts 0 (take n xs) ++ text_at m (slice_get xs n))) (sym here)
      ∙ ap (λ l. out ++ l) (next_text 0 n xs) ∙ ap (λ m. out ++ texts 0 (take m xs)) same

  all_texts : (out out' : List ℕ) (n : ℕ) (xs : List X) → length xs ≤ n → out' ≡ out ++ texts 0 (take n xs) → out' ≡ out ++ texts 0 xs
  all_texts out out' n xs few so_far = so_far ∙ ap (λ l. out ++ texts 0 l) (take_all n xs few)

-- ---- the lines of the units

pub unit_more : (out out' out'' : List ℕ) (n : ℕ) (units : List UnitView) → out' ≡ out ++ units_text (take n units) → out'' ≡ out' ++ unit_text_at units n
    → out'' ≡ out ++ units_text (take (n + 1) units)
unit_more = one_more (λ unit u. unit_text unit (state_of u))

pub all_units : (out out' : List ℕ) (n : ℕ) (units : List UnitView) → length units ≤ n → out' ≡ out ++ units_text (take n units) → out' ≡ out ++ units_text units
all_units = all_texts (λ unit u. unit_text unit (state_of u))
