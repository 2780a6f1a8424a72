-- Runs of bytes that pass a test, by blocks of sixteen bytes: from the mask of a block to its run, and from block to block.
use Rattle.std.proofs.Common.{◌≡◌, ℕ, suc, ◌+◌, ◌%◌, ◌^◌, ◌<◌, ◌≤◌, eqb, Bool, true, cond, not, List, [], ◌∷◌, map, length, take, drop, get_or, Fits, w8, refl, sym, ap, ap₂, ◌∙◌, arith}
use Rattle.std.proofs.lemmas.Bool.{agree_below, agree_below_at, cond-true, cond-false, eq-eqb, ne_eqb}
use Rattle.std.proofs.lemmas.Simd.{map-map, mask_l-mod, length-chunk, get_or-chunk, chunk-drop, first_set_mask_l}
use Rattle.std.proofs.lemmas.List.{length-map}
use Rattle.std.proofs.lemmas.List.Sums.{prefix_len-le-length}
use Rattle.std.proofs.lemmas.List.Folds.{prefix_len-append}
use Rattle.std.specs.List.{prefix_len}
use lib.Lanes.{chunk, zip2, mask_l, top}
use Rattle.nmea_frame.specs.Blocks.{first_set}

-- two operations on the lanes of one vector
zip_maps : (h : ℕ → ℕ → ℕ) (f g : ℕ → ℕ) (v : List ℕ) → zip2 h (map f v) (map g v) ≡ map (λ x. h (f x) (g x)) v
zip_maps h f g [] = refl
zip_maps h f g (x ∷ v) = ap (λ rest. h (f x) (g x) ∷ rest) (zip_maps h f g v)

pub both : (h : ℕ → ℕ → ℕ) (f g : ℕ → ℕ) (v : List ℕ) {a b : List ℕ} → a ≡ map f v → b ≡ map g v → zip2 h a b ≡ map (λ x. h (f x) (g x)) v
both h f g v a b = ap₂ (zip2 h) a b ∙ zip_maps h f g v

-- two tests that agree on all elements have the same run
same_run : (p q : ℕ → Bool) (xs : List ℕ) → ((k : ℕ) → k < length xs → p (get_or xs k 0) ≡ q (get_or xs k 0)) → prefix_len p xs ≡ prefix_len q xs
same_run p q [] same = refl
same_run p q (x ∷ xs) same =
    let rest = same_run p q xs (λ k within. same (suc k) (omega (arith, within))) in
    ap (λ b. cond b (1 + prefix_len p xs) 0) (same 0 (omega arith)) ∙ ap (λ n. cond (q x) (1 + n) 0) rest

-- the lowest lane that a mask marks ends the run
pub run_in : (q : ℕ → Bool) (f : ℕ → ℕ) (text : List ℕ) (at run : ℕ) (lanes : List ℕ) → at + 16 ≤ length text → ((k : ℕ) → Fits w8 (get_or text k 0))
    → run ≡ first_set (mask_l (map (top 7) lanes) % 2 ^ 64) → lanes ≡ map f (chunk at 16 text)
    → agree_below (λ x. not (top 7 (f x))) q 256 ≡ true → run ≡ prefix_len q (chunk at 16 text)
run_in q f text at run lanes room fits is lanes_are agree =
    let block = chunk at 16 text in
    let long = length-chunk at 16 text room in
    let marks : List Bool = map (λ x. top 7 (f x)) block in
    let mask : mask_l (map (top 7) lanes) % 2 ^ 64 ≡ mask_l marks =
    ap (λ l. mask_l l % 2 ^ 64) (ap (map (top 7)) lanes_are ∙ map-map (top 7) f block) ∙ mask_l-mod marks 64 (omega (arith, length-map block (λ x. top 7 (f x)), long)) in
    is
    ∙ (ap first_set mask
    ∙ (first_set_mask_l (λ x. top 7 (f x)) block 16 long (omega arith)
    ∙ same_run (λ x. not (top 7 (f x))) q block
    (λ k within. agree_below_at (λ x. not (top 7 (f x))) q 256 (get_or block k 0) agree (omega (arith, (fits (at + k)).fits, get_or-chunk at 16 text k 0 (omega (arith, within, long)))))))

-- what a run of the rest of a text is, by its next block
by_block : (p : ℕ → Bool) (text : List ℕ) (at run : ℕ) → at + 16 ≤ length text → run ≡ prefix_len p (chunk at 16 text)
    → prefix_len p (drop at text) ≡ cond (eqb run 16) (16 + prefix_len p (drop (at + 16) text)) run
by_block p text at run room is =
    let block = chunk at 16 text in
    ap (prefix_len p) (chunk-drop at 16 text)
    ∙ (prefix_len-append p block (drop (at + 16) text)
    ∙ (ap (λ n. cond (eqb n (length block)) (length block + prefix_len p (drop (at + 16) text)) n) (sym is)
    ∙ ap (λ n. cond (eqb run n) (n + prefix_len p (drop (at + 16) text)) run) (length-chunk at 16 text room)))

pub block_passed : (p : ℕ → Bool) (text : List ℕ) (at run : ℕ) → at + 16 ≤ length text → run ≡ prefix_len p (take 16 (drop at text)) → 16 ≤ run
    → prefix_len p text ≡ at + prefix_len p (drop at text) → prefix_len p text ≡ (at + 16) + prefix_len p (drop (at + 16) text)
block_passed p text at run room is long so_far =
    let whole : run ≡ 16 = omega (arith, is, long, prefix_len-le-length p (chunk at 16 text), length-chunk at 16 text room) in
    let on = by_block p text at run room is ∙ cond-true (eqb run 16) (16 + prefix_len p (drop (at + 16) text)) run (eq-eqb run 16 whole) in
    omega (arith, so_far, on)

pub block_ended : (p : ℕ → Bool) (text : List ℕ) (at run : ℕ) → at + 16 ≤ length text → run ≡ prefix_len p (take 16 (drop at text)) → run < 16
    → prefix_len p text ≡ at + prefix_len p (drop at text) → at + run ≡ prefix_len p text
block_ended p text at run room is short so_far =
    let other : run ≡ 16 → ⊥ = λ e. omega (arith, e, short) in
    let on = by_block p text at run room is ∙ cond-false (eqb run 16) (16 + prefix_len p (drop (at + 16) text)) run (ne_eqb run 16 other) in
    omega (arith, so_far, on)

pub bytes_left : (p : ℕ → Bool) (text : List ℕ) (at run : ℕ) → run ≡ prefix_len p (drop at text) → prefix_len p text ≡ at + prefix_len p (drop at text) → at + run ≡ prefix_len p text
bytes_left p text at run is so_far = omega (arith, is, so_far)
