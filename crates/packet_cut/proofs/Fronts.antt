-- The first items of a list go, and the others move to its front.
use Rattle.std.proofs.Common.{◌≡◌, ◌+◌, ◌-◌, ℕ, List, length, take, drop, min, inl, inr, sym, ap, arith, ◌∙◌, zero-add, take_all}
use Rattle.std.proofs.lemmas.Bool.{cases_lt}
use Rattle.std.proofs.lemmas.List.{drop_all, length-drop}
use Rattle.std.proofs.lemmas.List.Edits.{take-paste}
use Rattle.std.proofs.Math.Seq.{paste}
use Rattle.std.specs.List.{copy_within}

-- no more go than there are
within_length : {A : Type 0} (old : List A) (asked count : ℕ) → count ≡ min asked (length old) → drop count old ≡ drop asked old
within_length old asked count is = elim (cases_lt (length old) asked) [
  | inl all ↦ drop_all count old (omega (arith, is, all)) ∙ sym (drop_all asked old (omega (arith, all)))
  | inr some ↦ let same : count ≡ asked = omega (arith, is, some) in ap (λ n. drop n old) same
]

pub none_gone : {A : Type 0} (old : List A) (asked : ℕ) → min asked (length old) ≡ 0 → old ≡ drop asked old
none_gone old asked none = within_length old asked 0 (sym none)

pub front_gone : {A : Type 0} (old : List A) (asked count len : ℕ) → len ≡ length old → count ≡ min asked len
    → take (len - count) (copy_within old count len 0) ≡ drop asked old
front_gone old asked count len long is =
    let left : length (drop count old) ≡ len - count = omega (arith, long, length-drop count old) in
    let moved : take (0 + (len - count)) (paste old 0 (drop count old) (len - count)) ≡ take (len - count) (drop count old)
    = take-paste old 0 (drop count old) (len - count) (omega arith) (omega (arith, left)) in
    ap (λ n. take n (copy_within old count len 0)) (sym (zero-add (len - count)))
    ∙ (moved
    ∙ (take_all (len - count) (drop count old) (omega (arith, left))
    ∙ within_length old asked count (is ∙ ap (min asked) long)))
