-- The halves of a text are the two texts between which the first such byte is.
use Rattle.std.proofs.Common.{ℕ, ◌≡◌, ◌+◌, ◌<◌, Bool, true, false, cond, not, List, [], ◌∷◌, ◌++◌, length, take, drop, refl, sym, ap, ◌∙◌, arith, nat_lt, Option, Some, None}
use Rattle.std.specs.Prelude.{◌==◌, option_map}
use Rattle.std.specs.List.{list_all, prefix_len}
use Rattle.std.proofs.Math.Seq.{take-append_seam}
use Rattle.std.proofs.lemmas.List.{append_assoc, length_push, length-append, drop_at}
use Rattle.std.proofs.lemmas.Bool.{and_parts, and_from}
use Rattle.std.proofs.lemmas.Bool.Decides.{nat_tests}
use Rattle.replay_script.specs.Words.{halves, HasNone}

abbrev is_other : ℕ → ℕ → Bool
is_other mark c = not (c == mark)

-- the byte's place, if it follows a text without it
place : (mark : ℕ) (word rest : List ℕ) → HasNone mark word → prefix_len (is_other mark) (word ++ mark ∷ rest) ≡ length word
place mark [] rest none = let e : is_other mark mark ≡ false = grind (arith, nat_tests) in ap (λ b. cond b (1 + prefix_len (is_other mark) rest) 0) e
place mark (c ∷ word) rest none =
    let p : (is_other mark c ≡ true) × (list_all (is_other mark) word ≡ true) = and_parts _ _ none in
    let h : prefix_len (is_other mark) (word ++ mark ∷ rest) ≡ length word = place mark word rest p.1 in
    ap (λ b. cond b (1 + prefix_len (is_other mark) (word ++ mark ∷ rest)) 0) p.0 ∙ omega (arith, h)

abbrev both : List ℕ → List ℕ → Option (List ℕ × List ℕ)
both word rest = Some (word, rest)

abbrev front_of : Option (List ℕ × List ℕ) → List ℕ
front_of None = []
front_of (Some p) = p.0

abbrev back_of : Option (List ℕ × List ℕ) → List ℕ
back_of None = []
back_of (Some p) = p.1

abbrev parts_at : ℕ → List ℕ → List ℕ × List ℕ
parts_at k text = (take k text, drop (k + 1) text)

behind : (mark : ℕ) (word rest : List ℕ) → drop (length word + 1) (word ++ mark ∷ rest) ≡ rest
behind mark word rest =
    ap (λ t. drop (length word + 1) t) (sym (append_assoc word (mark ∷ []) rest)) ∙ drop_at (word ++ mark ∷ []) rest (length word + 1) (length_push word mark)

pub from_parts : (mark : ℕ) (word rest : List ℕ) → HasNone mark word → halves mark (word ++ mark ∷ rest) ≡ Some (word, rest)
unfolding halves
from_parts mark word rest none =
    let at : prefix_len (is_other mark) (word ++ mark ∷ rest) ≡ length word = place mark word rest none in
    let long = length-append word (mark ∷ rest) in
    let within : nat_lt (prefix_len (is_other mark) (word ++ mark ∷ rest)) (length (word ++ mark ∷ rest)) ≡ true = grind (arith, nat_tests) in
    ap (λ b. option_map (λ k. parts_at k (word ++ mark ∷ rest)) (cond b (Some (prefix_len (is_other mark) (word ++ mark ∷ rest))) None)) within
    ∙ ap (λ k. Some (parts_at k (word ++ mark ∷ rest))) at
    ∙ ap (λ w. Some (w, drop (length word + 1) (word ++ mark ∷ rest))) (take-append_seam word (mark ∷ rest))
    ∙ ap (λ r. Some (word, r)) (behind mark word rest)

-- the first such byte, the text before it and the text after it; or none
abbrev IsParted : ℕ → List ℕ → Type 0
IsParted mark text = (word rest : List ℕ) × (text ≡ word ++ mark ∷ rest) × HasNone mark word

parted : (mark : ℕ) (text : List ℕ) → prefix_len (is_other mark) text < length text → IsParted mark text
parted mark [] within = absurd (omega (arith, within))
parted mark (c ∷ text) within = by_first (λ low. parted mark text low) (is_other mark c) refl
  where
    by_first : (prefix_len (is_other mark) text < length text → IsParted mark text) → (b : Bool) → is_other mark c ≡ b → IsParted mark (c ∷ text)
    by_first behind_it false is =
        let e : c ≡ mark = grind (arith, nat_tests) in
        ([], text, ap (λ d. d ∷ text) e, refl)
    by_first behind_it true is =
        let one : prefix_len (is_other mark) (c ∷ text) ≡ 1 + prefix_len (is_other mark) text = ap (λ b. cond b (1 + prefix_len (is_other mark) text) 0) is in
        let low : prefix_len (is_other mark) text < length text = omega (arith, one, within) in
        let rest = behind_it low in
        (c ∷ rest.0, rest.1, ap (λ t. c ∷ t) rest.2, and_from _ _ is rest.3)

no_place : (mark : ℕ) (text : List ℕ) → nat_lt (prefix_len (is_other mark) text) (length text) ≡ false → halves mark text ≡ None
unfolding halves
no_place mark text test = ap (λ b. option_map (λ k. parts_at k text) (cond b (Some (prefix_len (is_other mark) text)) None)) test

pub to_parts : (mark : ℕ) (text word rest : List ℕ) → halves mark text ≡ both word rest → (text ≡ word ++ mark ∷ rest) × HasNone mark word
to_parts mark text word rest seen = by_place (nat_lt (prefix_len (is_other mark) text) (length text)) refl
  where
    same : (w r : List ℕ) → text ≡ w ++ mark ∷ r → HasNone mark w → both word rest ≡ both w r → (text ≡ word ++ mark ∷ rest) × HasNone mark word
    same w r is none e =
        let first : word ≡ w = ap front_of e in
        let second : rest ≡ r = ap back_of e in
        (is ∙ ap (λ v. v ++ mark ∷ r) (sym first) ∙ ap (λ v. word ++ mark ∷ v) (sym second), ap (λ v. list_all (is_other mark) v) first ∙ none)

    by_place : (b : Bool) → nat_lt (prefix_len (is_other mark) text) (length text) ≡ b → (text ≡ word ++ mark ∷ rest) × HasNone mark word
    by_place false test = absurd (let e : both word rest ≡ None = sym seen ∙ no_place mark text test in cc)
    by_place true test =
        let within : prefix_len (is_other mark) text < length text = grind (arith, nat_tests) in
        let p = parted mark text within in
        same p.0 p.1 p.2 p.3 (sym seen ∙ ap (λ t. halves mark t) p.2 ∙ from_parts mark p.0 p.1 p.3)
