-- The sums of a list, from the sums of the columns of its rows of sixteen bytes.
use Rattle.std.proofs.Common.{◌≡◌, ℕ, zero, suc, ◌+◌, ◌*◌, ◌/◌, ◌%◌, ◌<◌, List, [], ◌∷◌, ◌++◌, ◌≤◌, length, take, drop, length-append, length-drop, take-add, refl, sym, subst, ap, ◌∙◌, add_assoc, mul_comm, arith}
use Rattle.std.specs.Prelude.{fold, replicate}
use Rattle.std.specs.Simd.Lanes.{sum_l, fold_l, zip2}
use Rattle.std.proofs.lemmas.List.{length-take-le}
use Rattle.std.proofs.lemmas.List.Sums.{fold-append}
use Rattle.ubx_frame.specs.declared.checksum.Sums.{Sums}
use Rattle.ubx_frame.specs.Checksum.{after_byte, sums_of, weighted}

-- what the columns say of the rows that are done
pub record RowsAre (columns earlier done : List ℕ) : Type 0 where
  pub a : sum_l columns % 256 ≡ sum_l done % 256
  pub b : (16 * sum_l earlier + weighted columns) % 256 ≡ weighted done % 256
  pub width : length columns ≡ 16
  pub width_too : length earlier ≡ 16

-- ---- byte by byte
unfoldable pub pair : ℕ → ℕ → Sums
pair a b = record { a = a; b = b }

pub pair_is : (a b x y : ℕ) → a ≡ x → b ≡ y → pair a b ≡ pair x y
unfolding pair
pair_is a b x y p q = cc

a_step : (a x s : ℕ) → ((a + x) % 256 + s) % 256 ≡ (a + (x + s)) % 256
a_step a x s = omega arith

-- n further times the first sum
b_step : (a b x n w : ℕ) → ((b + (a + x) % 256) % 256 + n * ((a + x) % 256) + w) % 256 ≡ (b + suc n * a + (suc n * x + w)) % 256
b_step a b x n w =
    let whole : a + x ≡ 256 * ((a + x) / 256) + (a + x) % 256 = omega arith in
    let times : n * (a + x) ≡ n * (256 * ((a + x) / 256) + (a + x) % 256) = ap (λ k. n * k) whole in
    omega arith

pub plain : (a b : ℕ) (xs : List ℕ) → a < 256 → b < 256
    → fold after_byte (pair a b) xs ≡ pair ((a + sum_l xs) % 256) ((b + length xs * a + weighted xs) % 256)
unfolding pair
plain a b [] ha hb = pair_is a b _ _ (omega arith) (omega arith)
plain a b (x ∷ xs) ha hb =
    plain ((a + x) % 256) ((b + (a + x) % 256) % 256) xs (omega arith) (omega arith)
    ∙ pair_is _ _ _ _ (a_step a x (sum_l xs)) (b_step a b x (length xs) (weighted xs))

pub sums_are : (xs : List ℕ) → sums_of xs ≡ pair (sum_l xs % 256) (weighted xs % 256)
unfolding sums_of pair
sums_are xs = plain 0 0 xs (omega arith) (omega arith) ∙ pair_is _ _ _ _ (from_zero (sum_l xs)) (from_zeros (length xs) (weighted xs))
  where
    from_zero : (n : ℕ) → (0 + n) % 256 ≡ n % 256
    from_zero n = omega arith

    from_zeros : (n w : ℕ) → (0 + n * 0 + w) % 256 ≡ w % 256
    from_zeros n w = omega arith

-- ---- row by row
sum-append : (xs ys : List ℕ) → sum_l (xs ++ ys) ≡ sum_l xs + sum_l ys
sum-append [] ys = omega arith
sum-append (x ∷ xs) ys = omega (arith, sum-append xs ys)

weighted-append : (xs ys : List ℕ) → weighted (xs ++ ys) ≡ weighted xs + length ys * sum_l xs + weighted ys
weighted-append [] ys = omega arith
weighted-append (x ∷ xs) ys =
    let longer : suc (length (xs ++ ys)) * x ≡ (suc (length xs) + length ys) * x = ap (λ n. n * x) (omega (arith, length-append xs ys)) in
    omega (arith, longer, weighted-append xs ys)

abbrev pub add_bytes : ℕ → ℕ → ℕ
add_bytes a b = (a + b) % 256

sum_zip : (xs ys : List ℕ) → length xs ≡ length ys → sum_l (zip2 add_bytes xs ys) % 256 ≡ (sum_l xs + sum_l ys) % 256
sum_zip [] [] h = refl
sum_zip [] (y ∷ ys) h = absurd (omega arith)
sum_zip (x ∷ xs) [] h = absurd (omega arith)
sum_zip (x ∷ xs) (y ∷ ys) h = omega (arith, sum_zip xs ys (omega arith))

length-zip : (xs ys : List ℕ) → length xs ≡ length ys → length (zip2 add_bytes xs ys) ≡ length xs
length-zip [] [] h = refl
length-zip [] (y ∷ ys) h = absurd (omega arith)
length-zip (x ∷ xs) [] h = absurd (omega arith)
length-zip (x ∷ xs) (y ∷ ys) h = ap suc (length-zip xs ys (omega arith))

weight_step : (n k m x y w u v : ℕ) → n ≡ k → m ≡ k → w % 256 ≡ (u + v) % 256 → (suc n * ((x + y) % 256) + w) % 256 ≡ (suc k * x + u + (suc m * y + v)) % 256
weight_step n k m x y w u v same same_too is =
    let whole : x + y ≡ 256 * ((x + y) / 256) + (x + y) % 256 = omega arith in
    let times : suc k * (x + y) ≡ suc k * (256 * ((x + y) / 256) + (x + y) % 256) = ap (λ m. suc k * m) whole in
    let moved : suc n * ((x + y) % 256) ≡ suc k * ((x + y) % 256) = ap (λ m. suc m * ((x + y) % 256)) same in
    let moved_too : suc m * y ≡ suc k * y = ap (λ j. suc j * y) same_too in
    omega arith

weighted_zip : (xs ys : List ℕ) → length xs ≡ length ys → weighted (zip2 add_bytes xs ys) % 256 ≡ (weighted xs + weighted ys) % 256
weighted_zip [] [] h = refl
weighted_zip [] (y ∷ ys) h = absurd (omega arith)
weighted_zip (x ∷ xs) [] h = absurd (omega arith)
weighted_zip (x ∷ xs) (y ∷ ys) h =
    let same : length xs ≡ length ys = omega arith in
    weight_step (length (zip2 add_bytes xs ys)) (length xs) (length ys) x y (weighted (zip2 add_bytes xs ys)) (weighted xs) (weighted ys)
    (length-zip xs ys same) (sym same) (weighted_zip xs ys same)

pub rows_begin : RowsAre (replicate 16 0) (replicate 16 0) []
rows_begin = record { a = refl; b = refl; width = refl; width_too = refl }

row_sums : (c e d r wc wd wr c' e' wc' : ℕ) → c % 256 ≡ d % 256 → (16 * e + wc) % 256 ≡ wd % 256
    → c' % 256 ≡ (c + r) % 256 → e' % 256 ≡ (e + c) % 256 → wc' % 256 ≡ (wc + wr) % 256
    → (c' % 256 ≡ (d + r) % 256) × ((16 * e' + wc') % 256 ≡ (wd + 16 * d + wr) % 256)
row_sums c e d r wc wd wr c' e' wc' a b columns earlier weights = (omega arith, omega arith)

row_more : (columns earlier done row : List ℕ) → length row ≡ 16 → RowsAre columns earlier done
    → RowsAre (zip2 add_bytes columns row) (zip2 add_bytes earlier columns) (done ++ row)
row_more columns earlier done row long rows =
    let same : length columns ≡ length row = rows.width ∙ sym long in
    let same_too : length earlier ≡ length columns = rows.width_too ∙ sym rows.width in
    let sums = row_sums (sum_l columns) (sum_l earlier) (sum_l done) (sum_l row) (weighted columns) (weighted done) (weighted row)
    (sum_l (zip2 add_bytes columns row)) (sum_l (zip2 add_bytes earlier columns)) (weighted (zip2 add_bytes columns row))
    rows.a rows.b (sum_zip columns row same) (sum_zip earlier columns same_too) (weighted_zip columns row same) in
    record {
      a = sums.0 ∙ ap (λ n. n % 256) (sym (sum-append done row));
      b = sums.1 ∙ ap (λ n. n % 256) (sym (weighted-append done row ∙ ap (λ n. weighted done + n * sum_l done + weighted row) long));
      width = length-zip columns row same ∙ rows.width;
      width_too = length-zip earlier columns same_too ∙ rows.width_too;
    }

-- the row at a place of the bytes
row_at : (columns earlier bytes : List ℕ) (at : ℕ) → at + 16 ≤ length bytes → RowsAre columns earlier (take at bytes)
    → RowsAre (zip2 add_bytes columns (take 16 (drop at bytes))) (zip2 add_bytes earlier columns) (take (at + 16) bytes)
row_at columns earlier bytes at within rows =
    subst (RowsAre _ _) (sym (take-add at 16 bytes))
    (row_more columns earlier (take at bytes) (take 16 (drop at bytes))
    (length-take-le 16 (drop at bytes) (omega (arith, within, length-drop at bytes))) rows)

pub row_added : (columns earlier more later bytes : List ℕ) (at next : ℕ) → next ≡ at + 16 → next ≤ length bytes
    → more ≡ zip2 add_bytes columns (take 16 (drop at bytes)) → later ≡ zip2 add_bytes earlier columns
    → RowsAre columns earlier (take at bytes) → RowsAre more later (take next bytes)
row_added columns earlier more later bytes at next behind within is is' rows =
    let short : at + 16 ≤ length bytes = omega (arith, behind, within) in
    rw (behind, is, is') (row_at columns earlier bytes at short rows)

-- the lanes of a vector, added up
pub fold_adds : (a : ℕ) (xs : List ℕ) → fold_l add_bytes (a % 256) xs ≡ (a + sum_l xs) % 256
fold_adds a [] = omega arith
fold_adds a (x ∷ xs) = ap (λ n. fold_l add_bytes n xs) (first a x) ∙ fold_adds (a + x) xs ∙ ap (λ n. n % 256) (add_assoc a x (sum_l xs))
  where
    first : (a x : ℕ) → (a % 256 + x) % 256 ≡ (a + x) % 256
    first a x = omega arith

abbrev pub mul_bytes : ℕ → ℕ → ℕ
mul_bytes a b = (a * b) % 256

-- from n down to 1
abbrev down : ℕ → List ℕ
down zero = []
down (suc n) = suc n ∷ down n

sum_counted : (n : ℕ) (xs : List ℕ) → length xs ≡ n → sum_l (zip2 mul_bytes xs (down n)) % 256 ≡ weighted xs % 256
sum_counted zero [] h = refl
sum_counted zero (x ∷ xs) h = absurd (omega arith)
sum_counted (suc n) [] h = absurd (omega arith)
sum_counted (suc n) (x ∷ xs) h =
    let same : length xs ≡ n = omega arith in
    count_step n (length xs) x (sum_l (zip2 mul_bytes xs (down n))) (weighted xs) same (sum_counted n xs same)
  where
    count_step : (n k x s w : ℕ) → k ≡ n → s % 256 ≡ w % 256 → ((x * suc n) % 256 + s) % 256 ≡ (suc k * x + w) % 256
    count_step n k x s w same is =
        let turned : x * suc n ≡ suc k * x = mul_comm x (suc n) ∙ ap (λ m. suc m * x) (sym same) in
        omega arith

zero_first : (n : ℕ) → (0 + n) % 256 ≡ n % 256
zero_first n = omega arith

pub columns_sum : (xs : List ℕ) → fold_l add_bytes 0 xs ≡ sum_l xs % 256
columns_sum xs = fold_adds 0 xs ∙ zero_first (sum_l xs)

pub columns_weighted : (xs : List ℕ) → length xs ≡ 16 → fold_l add_bytes 0 (zip2 mul_bytes xs (down 16)) ≡ weighted xs % 256
columns_weighted xs long = columns_sum (zip2 mul_bytes xs (down 16)) ∙ sum_counted 16 xs long

pub joined : (e s w v : ℕ) → e ≡ s % 256 → w ≡ v % 256 → (e * 16 % 256 + w) % 256 ≡ (16 * s + v) % 256
joined e s w v is is' = omega arith

pub rows_end : (rows : Sums) (columns earlier done rest : List ℕ) → rows.a ≡ sum_l columns % 256 → rows.b ≡ (16 * sum_l earlier + weighted columns) % 256
    → RowsAre columns earlier done → fold after_byte rows rest ≡ sums_of (done ++ rest)
unfolding pair sums_of
rows_end rows columns earlier done rest a b are =
    let first : pair rows.a rows.b ≡ pair (sum_l done % 256) (weighted done % 256) = pair_is _ _ _ _ (a ∙ are.a) (b ∙ are.b) in
    ap (λ s. fold after_byte s rest) (first ∙ sym (sums_are done))
    ∙ sym (fold-append after_byte (pair 0 0) done rest)
