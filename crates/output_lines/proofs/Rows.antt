-- Runs of bytes that pass a test, by rows of sixteen bytes.
use Rattle.std.proofs.Common.{◌≡◌, ℕ, suc, ◌+◌, ◌%◌, ◌^◌, ◌<◌, ◌≤◌, eqb, Bool, true, cond, not, List, [], ◌∷◌, map, length, drop, get_or, refl, sym, ap, ◌∙◌, arith}
use Rattle.std.proofs.lemmas.Bool.{agree_below, agree_below_at}
use Rattle.std.proofs.lemmas.List.{length-map}
use Rattle.std.proofs.lemmas.List.Folds.{prefix_len-append}
use Rattle.std.proofs.lemmas.Simd.{Each1-get_or, chunk-drop, leading_from_mask_l, length-chunk, map-map, mask_l-mod}
use Rattle.std.specs.List.{prefix_len}
use lib.Lanes.{Each1, chunk, mask_l, top}

-- two tests that agree on all elements have the same run
same_run : (p q : ℕ → Bool) (xs : List ℕ) → ((k : ℕ) → k < length xs → p (get_or xs k 0) ≡ q (get_or xs k 0)) → prefix_len p xs ≡ prefix_len q xs
same_run p q [] same = refl
same_run p q (x ∷ xs) same =
    let rest = same_run p q xs (λ k within. same (suc k) (omega (arith, within))) in
    ap (λ b. cond b (1 + prefix_len p xs) 0) (same 0 (omega arith)) ∙ ap (λ n. cond (q x) (1 + n) 0) rest

-- a row in which no lane is marked passes the test
pub unmarked : (q : ℕ → Bool) (f : ℕ → ℕ) (row lanes : List ℕ) → length row ≡ 16 → Each1 (λ x. x < 256) row → lanes ≡ map f row
    → agree_below (λ x. not (top 7 (f x))) q 256 ≡ true → mask_l (map (top 7) lanes) % 2 ^ 64 ≡ 0 → prefix_len q row ≡ 16
unmarked q f row lanes long bytes lanes_are agree none =
    let marks : List Bool = map (λ x. top 7 (f x)) row in
    let mask : mask_l (map (top 7) lanes) % 2 ^ 64 ≡ mask_l marks =
    ap (λ l. mask_l l % 2 ^ 64) (ap (map (top 7)) lanes_are ∙ map-map (top 7) f row) ∙ mask_l-mod marks 64 (omega (arith, length-map row (λ x. top 7 (f x)), long)) in
    let same = same_run (λ x. not (top 7 (f x))) q row
    (λ k within. agree_below_at (λ x. not (top 7 (f x))) q 256 (get_or row k 0) agree (Each1-get_or (λ x. x < 256) row k 0 within bytes)) in
    sym same ∙ (leading_from_mask_l (λ x. top 7 (f x)) row (sym mask ∙ none) ∙ long)

-- a row that passes is after what was passed
pub row_passed : (p : ℕ → Bool) (text : List ℕ) (at : ℕ) → at + 16 ≤ length text → prefix_len p (chunk at 16 text) ≡ 16
    → prefix_len p text ≡ at + prefix_len p (drop at text) → prefix_len p text ≡ (at + 16) + prefix_len p (drop (at + 16) text)
row_passed p text at room whole so_far =
    let row = chunk at 16 text in
    let long = length-chunk at 16 text room in
    let rest = prefix_len p (drop (at + 16) text) in
    let on : prefix_len p (drop at text) ≡ 16 + rest =
    ap (prefix_len p) (chunk-drop at 16 text)
    ∙ (prefix_len-append p row (drop (at + 16) text)
    ∙ (ap (λ n. cond (eqb n (length row)) (length row + rest) n) whole
    ∙ (ap (λ n. cond (eqb 16 n) (n + rest) 16) long))) in
    omega (arith, so_far, on)
