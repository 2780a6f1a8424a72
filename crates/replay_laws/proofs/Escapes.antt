-- The line of an item determines the item.
use Rattle.std.proofs.Common.{◌≡◌, ℕ, ◌+◌, ◌/◌, ◌%◌, ◌<◌, Bool, true, false, List, [], ◌∷◌, ◌++◌, length, drop, refl, sym, ap, ◌∙◌, append_assoc, arith, codes, if◌then◌else◌, nat_lt}
use Rattle.std.specs.Prelude.{slice_index}
use Rattle.std.specs.List.{flat_map, list_all}
use Rattle.std.proofs.lemmas.Bool.{and_parts}
use Rattle.std.proofs.lemmas.Bool.Decides.{nat_tests}
use Rattle.std.proofs.Math.Seq.{drop-append_seam}
use Rattle.gps_fixed.specs.Hexadecimal.{lower_digit}
use Rattle.ubx_frame.specs.Frame.{is_byte}
use Rattle.output_lines.specs.Items.{escaped, escaped_text, is_plain, item_line}
use Rattle.output_lines.specs.Words.{line_end, numbered}

digit_tells : (m n : ℕ) → lower_digit m ≡ lower_digit n → m < 16 → n < 16 → m ≡ n
digit_tells m n e few small = by_sizes (nat_lt m 10) (nat_lt n 10) refl refl e
  where
    by_sizes : (a b : Bool) → nat_lt m 10 ≡ a → nat_lt n 10 ≡ b → (if a then 48 + m else 87 + m) ≡ (if b then 48 + n else 87 + n) → m ≡ n
    by_sizes true true one two is = omega (arith, is)
    by_sizes true false one two is =
        let low : m < 10 = grind (arith, nat_tests) in
        absurd (omega (arith, is, low))
    by_sizes false true one two is =
        let low : n < 10 = grind (arith, nat_tests) in
        absurd (omega (arith, is, low))
    by_sizes false false one two is = omega (arith, is)

not_plain : (x : ℕ) → x ≡ 92 → is_plain x ≡ true → ⊥
not_plain x same plain = let never : is_plain 92 ≡ true = ap is_plain (sym same) ∙ plain in cc

record Tells (x y : ℕ) (r q : List ℕ) : Type 0 where
  first : x ≡ y
  rest : r ≡ q

byte_tells : (x y : ℕ) (r q : List ℕ) → is_byte x ≡ true → is_byte y ≡ true → escaped x ++ r ≡ escaped y ++ q → Tells x y r q
byte_tells x y r q bx by e = by_kinds (is_plain x) (is_plain y) refl refl e
  where
    by_kinds : (a b : Bool) → is_plain x ≡ a → is_plain y ≡ b
        → (if a then x ∷ [] else 92 ∷ 120 ∷ lower_digit (x / 16) ∷ lower_digit (x % 16) ∷ []) ++ r
        ≡ (if b then y ∷ [] else 92 ∷ 120 ∷ lower_digit (y / 16) ∷ lower_digit (y % 16) ∷ []) ++ q → Tells x y r q
    by_kinds true true one two is = record { first = ap (λ (l : List ℕ). slice_index l 0) is; rest = ap (drop 1) is }
    by_kinds true false one two is = absurd (not_plain x (ap (λ (l : List ℕ). slice_index l 0) is) one)
    by_kinds false true one two is = absurd (not_plain y (sym (ap (λ (l : List ℕ). slice_index l 0) is)) two)
    by_kinds false false one two is =
        let fx : x < 256 = grind (arith, nat_tests) in
        let fy : y < 256 = grind (arith, nat_tests) in
        let high : x / 16 ≡ y / 16 = digit_tells (x / 16) (y / 16) (ap (λ (l : List ℕ). slice_index l 2) is) (omega (arith, fx)) (omega (arith, fy)) in
        let low : x % 16 ≡ y % 16 = digit_tells (x % 16) (y % 16) (ap (λ (l : List ℕ). slice_index l 3) is) (omega arith) (omega arith) in
        record { first = omega (arith, high, low); rest = ap (drop 4) is }

-- a byte's text is no line feed
no_end : (x : ℕ) (r : List ℕ) → 10 ∷ [] ≡ escaped x ++ r → ⊥
no_end x r e = by_kind (is_plain x) refl e
  where
    by_kind : (b : Bool) → is_plain x ≡ b → 10 ∷ [] ≡ (if b then x ∷ [] else 92 ∷ 120 ∷ lower_digit (x / 16) ∷ lower_digit (x % 16) ∷ []) ++ r → ⊥
    by_kind true plain is =
        let same : 10 ≡ x = ap (λ (l : List ℕ). slice_index l 0) is in
        let never : is_plain 10 ≡ true = ap is_plain same ∙ plain in
        cc
    by_kind false plain is = let never : 10 ≡ 92 = ap (λ (l : List ℕ). slice_index l 0) is in omega (arith, never)

texts_tell : (a b : List ℕ) → list_all is_byte a ≡ true → list_all is_byte b ≡ true → flat_map escaped a ++ 10 ∷ [] ≡ flat_map escaped b ++ 10 ∷ [] → a ≡ b
texts_tell [] [] ba bb e = refl
texts_tell [] (y ∷ b) ba bb e = absurd (no_end y (flat_map escaped b ++ 10 ∷ []) (e ∙ append_assoc (escaped y) (flat_map escaped b) (10 ∷ [])))
texts_tell (x ∷ a) [] ba bb e = absurd (no_end x (flat_map escaped a ++ 10 ∷ []) (sym e ∙ append_assoc (escaped x) (flat_map escaped a) (10 ∷ [])))
texts_tell (x ∷ a) (y ∷ b) ba bb e =
    let p : (is_byte x ≡ true) × (list_all is_byte a ≡ true) = and_parts _ _ ba in
    let q : (is_byte y ≡ true) × (list_all is_byte b ≡ true) = and_parts _ _ bb in
    let t : Tells x y (flat_map escaped a ++ 10 ∷ []) (flat_map escaped b ++ 10 ∷ []) =
    byte_tells x y (flat_map escaped a ++ 10 ∷ []) (flat_map escaped b ++ 10 ∷ []) p.0 q.0
    (sym (append_assoc (escaped x) (flat_map escaped a) (10 ∷ [])) ∙ e ∙ append_assoc (escaped y) (flat_map escaped b) (10 ∷ [])) in
    let rest : a ≡ b = texts_tell a b p.1 q.1 t.rest in
    λ i. t.first i ∷ rest i

pub lines_tell : (s : ℕ) (a b : List ℕ) → list_all is_byte a ≡ true → list_all is_byte b ≡ true → item_line s a ≡ item_line s b → a ≡ b
unfolding item_line escaped_text
lines_tell s a b ba bb e =
    let word : List ℕ = numbered (codes "s") s ++ codes " " in
    let text : List ℕ → List ℕ = λ item. flat_map escaped item ++ line_end in
    let joined : word ++ text a ≡ word ++ text b = sym (append_assoc word (flat_map escaped a) line_end) ∙ e ∙ append_assoc word (flat_map escaped b) line_end in
    texts_tell a b ba bb (sym (drop-append_seam word (text a)) ∙ ap (drop (length word)) joined ∙ drop-append_seam word (text b))
