-- The quotient and the remainder tell the nearest whole number.
use Rattle.std.proofs.Common.{◌≡◌, ℕ, zero, suc, ◌+◌, ◌-◌, ◌*◌, ◌/◌, ◌%◌, ◌^◌, ◌<◌, ◌≤◌, ap, ◌∙◌, sym, arith, FitsSigned, w64, ℤ, pos, negsuc, neg_ℤ, unsigned_abs, to_z, of_z, to_z-of_z, ◌+ℤ◌, ◌-ℤ◌, ◌*ℤ◌, ◌<ℤ◌, ◌≤ℤ◌}
use Rattle.std.specs.Int.{int_div_euclid, int_rem_euclid}
use Rattle.std.proofs.lemmas.Nat.{div-add-mod', div-mul-add}
use Rattle.std.proofs.Math.Nat.{mod-lt, div-le_self}
use Rattle.jiff_core.proofs.SignedLemmas.{signed_arith, back_small, product_within as times_within}
use Rattle.gps_fixed.specs.Ratio.{nearest}

over_pos : (x : ℤ) (a d k s : ℕ) → x ≡ pos a → a ≡ k * (2 * d) + s → s < 2 * d → int_div_euclid x (pos 2 *ℤ pos d) ≡ pos k
over_pos x a d k s e parts small =
    let den : pos 2 *ℤ pos d ≡ pos (2 * d) = omega (arith, signed_arith) in
    ap (λ z. int_div_euclid z (pos 2 *ℤ pos d)) e ∙ ap (int_div_euclid (pos a)) den
    ∙ ap pos (ap (λ n. n / (2 * d)) parts ∙ div-mul-add k (2 * d) s small)

over_neg : (x : ℤ) (a d k s : ℕ) → x ≡ negsuc a → a ≡ k * (2 * d) + s → s < 2 * d → int_div_euclid x (pos 2 *ℤ pos d) ≡ negsuc k
over_neg x a d k s e parts small =
    let den : pos 2 *ℤ pos d ≡ pos (2 * d) = omega (arith, signed_arith) in
    ap (λ z. int_div_euclid z (pos 2 *ℤ pos d)) e ∙ ap (int_div_euclid (negsuc a)) den
    ∙ ap negsuc (ap (λ n. n / (2 * d)) parts ∙ div-mul-add k (2 * d) s small)

-- a remainder below half of the divisor: the quotient is the nearest
pub near_below : (p : ℤ) (d : ℕ) → 0 < d → int_rem_euclid p (pos d) <ℤ (pos d -ℤ int_rem_euclid p (pos d)) → int_div_euclid (pos 2 *ℤ p +ℤ pos d) (pos 2 *ℤ pos d) ≡ int_div_euclid p (pos d)
near_below (pos n) d h low =
    over_pos (pos 2 *ℤ pos n +ℤ pos d) (2 * n + d) d (n / d) (2 * (n % d) + d) (omega (arith, signed_arith)) (omega (arith, div-add-mod' n d)) (omega (arith, signed_arith, low))
near_below (negsuc n) d h low =
    let small = mod-lt n h in
    let half : d ≤ 2 * (n % d) + 1 = omega (arith, signed_arith, low, small) in
    over_neg (pos 2 *ℤ negsuc n +ℤ pos d) (2 * n + 1 - d) d (n / d) (2 * (n % d) + 1 - d) (omega (arith, signed_arith, div-add-mod' n d, half)) (omega (arith, div-add-mod' n d, half)) (omega (arith, small))

negative_above : (n d k s : ℕ) → n ≡ k * d + s → 2 * s + 2 ≤ d → int_div_euclid (pos 2 *ℤ negsuc n +ℤ pos d) (pos 2 *ℤ pos d) ≡ negsuc k +ℤ pos 1
negative_above n d zero s e half =
    over_pos (pos 2 *ℤ negsuc n +ℤ pos d) (d - 2 * s - 2) d 0 (d - 2 * s - 2) (omega (arith, signed_arith)) (omega arith) (omega arith)
negative_above n d (suc k) s e half =
    let next : negsuc k ≡ negsuc (suc k) +ℤ pos 1 = omega (arith, signed_arith) in
    over_neg (pos 2 *ℤ negsuc n +ℤ pos d) (2 * n + 1 - d) d k (d + 2 * s + 1) (omega (arith, signed_arith)) (omega arith) (omega arith) ∙ next

-- otherwise it is the next one
pub near_above : (p : ℤ) (d : ℕ) → 0 < d → (pos d -ℤ int_rem_euclid p (pos d)) ≤ℤ int_rem_euclid p (pos d) → int_div_euclid (pos 2 *ℤ p +ℤ pos d) (pos 2 *ℤ pos d) ≡ int_div_euclid p (pos d) +ℤ pos 1
near_above (pos n) d h high =
    over_pos (pos 2 *ℤ pos n +ℤ pos d) (2 * n + d) d (n / d + 1) (2 * (n % d) - d) (omega (arith, signed_arith)) (omega (arith, signed_arith, div-add-mod' n d, high)) (omega (arith, mod-lt n h))
near_above (negsuc n) d h high =
    negative_above n d (n / d) (n % d) (omega (arith, div-add-mod' n d)) (omega (arith, signed_arith, high, mod-lt n h))

-- the same over any divisor above zero, as the code tests it
pub rounds_down : (value num d q r : ℤ) → pos 0 <ℤ d → q ≡ int_div_euclid (value *ℤ num) d → r ≡ int_rem_euclid (value *ℤ num) d → r <ℤ (d -ℤ r) → q ≡ nearest value num d
rounds_down value num (pos d) q r h div rem low =
    div ∙ sym (near_below (value *ℤ num) d (omega (arith, signed_arith, h)) (rw (← rem) low))
rounds_down value num (negsuc d) q r h div rem low = absurd (omega (arith, signed_arith, h))

pub rounds_up : (value num d q r : ℤ) → pos 0 <ℤ d → q ≡ int_div_euclid (value *ℤ num) d → r ≡ int_rem_euclid (value *ℤ num) d → (d -ℤ r) ≤ℤ r → q +ℤ pos 1 ≡ nearest value num d
rounds_up value num (pos d) q r h div rem high =
    ap (λ n. n +ℤ pos 1) div ∙ sym (near_above (value *ℤ num) d (omega (arith, signed_arith, h)) (rw (← rem) high))
rounds_up value num (negsuc d) q r h div rem high = absurd (omega (arith, signed_arith, h))

pub abs_within : (z : ℤ) (n : ℕ) → neg_ℤ (pos n) ≤ℤ z → z ≤ℤ pos n → unsigned_abs z ≤ n
abs_within (pos a) n low high = omega (arith, signed_arith)
abs_within (negsuc a) n low high = omega (arith, signed_arith)

-- the product of a value and a factor in the ranges of the call
pub product_within : (value num : ℤ) → neg_ℤ (pos (10 ^ 15)) ≤ℤ value → value ≤ℤ pos (10 ^ 15) → pos 1 ≤ℤ num → num ≤ℤ pos 1000 → unsigned_abs (value *ℤ num) ≤ 10 ^ 18
product_within value num low high num_low num_high =
    times_within value num (10 ^ 15) 1000 (abs_within value (10 ^ 15) low high) (abs_within num 1000 (omega (arith, signed_arith)) num_high)

-- a number that has passed through its bits
abbrev back : ℤ → ℤ
back z = to_z w64 (of_z w64 z)

pub of_product : (f : ℤ → ℤ → ℤ) (value num den q : ℤ) → FitsSigned w64 value → FitsSigned w64 num → FitsSigned w64 den → unsigned_abs (value *ℤ num) ≤ 10 ^ 18 → q ≡ f (back (back value *ℤ back num)) (back den) → q ≡ f (value *ℤ num) den
of_product f value num den q v n d small h =
    h ∙ ap (λ z. f (back z) (back den)) (ap (λ z. z *ℤ back num) (to_z-of_z v) ∙ ap (λ z. value *ℤ z) (to_z-of_z n))
    ∙ ap (λ z. f z (back den)) (back_small w64 (value *ℤ num) (omega (arith, small)))
    ∙ ap (f (value *ℤ num)) (to_z-of_z d)

pub quotient_small : (p d q : ℤ) → pos 0 <ℤ d → unsigned_abs p ≤ 10 ^ 18 → q ≡ int_div_euclid p d → unsigned_abs q ≤ 10 ^ 18
quotient_small (pos n) (pos d) q h small e = rw e (omega (arith, div-le_self n d, small))
quotient_small (negsuc n) (pos d) q h small e = rw e (omega (arith, div-le_self n d, small))
quotient_small p (negsuc d) q h small e = absurd (omega (arith, signed_arith, h))

pub rest_within : (p d r : ℤ) → pos 0 <ℤ d → r ≡ int_rem_euclid p d → (pos 0 ≤ℤ r) × (r <ℤ d)
rest_within (pos n) (pos d) r h e = let some : 0 < d = omega (arith, signed_arith, h) in let less = mod-lt n some in rw e (omega (arith, signed_arith), omega (arith, signed_arith, less))
rest_within (negsuc n) (pos d) r h e = let some : 0 < d = omega (arith, signed_arith, h) in rw e (omega (arith, signed_arith), omega (arith, signed_arith, some))
rest_within p (negsuc d) r h e = absurd (omega (arith, signed_arith, h))
