-- Numbers with decimals are read exactly.
use Rattle.std.proofs.Common.{◌≡◌, ℕ, zero, suc, ◌+◌, ◌*◌, ◌/◌, ◌%◌, ◌^◌, ◌<◌, ◌≤◌, Bool, true, false, cond, not, ◌&&◌, ◌||◌, List, [], ◌∷◌, ◌++◌, Option, Some, None, refl, sym, ap, ◌∙◌, subst, length, length-append, take, drop, take_all, take-append-drop, replicate, append_assoc, arith, codes, ℤ, pos, negsuc, neg_ℤ, unsigned_abs}
use Rattle.std.specs.Prelude.{◌==◌, if◌then◌else◌}
use Rattle.std.specs.List.{list_all, prefix_len}
use Rattle.std.specs.Char.{is_ascii_digit}
use Rattle.std.specs.Fmt.{decimal}
use Rattle.std.proofs.lemmas.Fmt.{length-decimal-le}
use Rattle.std.proofs.lemmas.List.{take_at, drop_at, take-append-le}
use Rattle.std.proofs.lemmas.List.Folds.{list_all-append}
use Rattle.std.proofs.lemmas.Bool.{and_parts, and_from, cond-true, eqb-true, eq-eqb}
use Rattle.std.proofs.lemmas.Bool.Decides.{nat_tests}
use Rattle.std.proofs.lemmas.Nat.{div-add-mod', div-mul-add, pow-add}
use Rattle.std.proofs.Math.Nat.{mod-lt, mod-eq_of_lt, one-le-pow, div-lt_iff_lt-mul, mul-le-mul_right, pow-le-pow_right, mul-add-mod_self_right}
use Rattle.gps_fixed.specs.Numeral.{Parts, AreParts, spelling, behind_text, fraction, number, scaled_magnitude, first_digits}
use Rattle.gps_fixed.specs.Scaled.{sign, signed as with_sign, has_minus, without_minus, scaled}
use Rattle.gps_fixed.specs.Text.{digits_in, unsigned_text, scaled_text}
use Rattle.gps_fixed.proofs.NumeralLaws.{number_below}
use Rattle.gps_fixed.proofs.ScaledTheorem.{scaled_exact}
use Rattle.json_line.specs.Json.{fixed, hundredths}
use Rattle.gps_client.specs.Ranges.{HasNineDigits, IsU32}
use Rattle.gps_client.specs.Reading.{◌>>=◌, is_number_byte, is_plain, is_written_so, fixed_at, is_hundredths, hundredths_at}
use Rattle.gps_client.proofs.Decimals.{decimal_is, decimal_plain, decimal_of, length_digits, digits_pass, digits_value, digits_of_all}
use Rattle.gps_client.proofs.Rows.{IsPart, is_end, bind_some, part_made, part_such}
use Rattle.gps_client.proofs.Whole.{Stops, run, end_stops, chosen}

-- what was written is read back
abbrev parts_of : ℕ → ℕ → Parts
parts_of k n = record { whole = decimal (n / 10 ^ k); behind = Some (digits_in k (n % 10 ^ k)) }

first_all : (k : ℕ) (ds : List ℕ) → length ds ≡ k → first_digits k ds ≡ ds
first_all k ds long = take-append-le k ds (replicate k 48) (omega (arith, long)) ∙ take_all k ds (omega (arith, long))

magnitude_is : (k n : ℕ) → 0 < 10 ^ k → n / 10 ^ k < 10 ^ 9 → scaled_magnitude k (parts_of k n) ≡ n
magnitude_is k n some h =
    let whole = decimal_is (n / 10 ^ k) (omega (arith, h)) in
    let behind : number (first_digits k (digits_in k (n % 10 ^ k))) ≡ n % 10 ^ k = ap number (first_all k (digits_in k (n % 10 ^ k)) (length_digits k (n % 10 ^ k))) ∙ digits_value k (n % 10 ^ k) ∙ mod-eq_of_lt (mod-lt n some) in
    (λ i. whole.value i * 10 ^ k + behind i) ∙ div-add-mod' n (10 ^ k)

spelled : (k n : ℕ) → unsigned_text k n ≡ spelling (parts_of k n)
spelled k n = append_assoc (decimal (n / 10 ^ k)) (46 ∷ []) (digits_in k (n % 10 ^ k))

are_parts : (k n : ℕ) → n / 10 ^ k < 10 ^ 9 → AreParts (parts_of k n)
are_parts k n h =
    let whole = decimal_is (n / 10 ^ k) (omega (arith, h)) in
    record { whole = whole.all; behind = digits_pass k (n % 10 ^ k); few = length-decimal-le 9 (n / 10 ^ k) (omega arith) h (omega (arith, h)) }

number_back : (k : ℕ) (z : ℤ) → 0 < 10 ^ k → unsigned_abs z / 10 ^ k < 10 ^ 9 → scaled k (scaled_text k z) ≡ Some z
number_back k (pos n) some h =
    let whole = decimal_is (n / 10 ^ k) (omega (arith, h)) in
    let long = whole.some in
    (scaled_exact k (scaled_text k (pos n)) (pos n)).1 (record {
      negative = false;
      parts = parts_of k n;
      are = are_parts k n h;
      some = omega (arith, long);
      text_is = spelled k n;
      value_is = ap pos (sym (magnitude_is k n some h));
    })
number_back k (negsuc n) some h =
    let whole = decimal_is (suc n / 10 ^ k) (omega (arith, h)) in
    let long = whole.some in
    (scaled_exact k (scaled_text k (negsuc n)) (negsuc n)).1 (record {
      negative = true;
      parts = parts_of k (suc n);
      are = are_parts k (suc n) h;
      some = omega (arith, long);
      text_is = ap (λ (l : List ℕ). codes "-" ++ l) (spelled k (suc n));
      value_is = ap (λ m. neg_ℤ (pos m)) (sym (magnitude_is k (suc n) some h));
    })

-- the shape of the text after its sign, if it has one
abbrev shape : ℕ → List ℕ → Bool
shape k u = is_plain (take (prefix_len is_ascii_digit u) u) && (length u == prefix_len is_ascii_digit u + 1 + k)

point_stops : (behind : Option (List ℕ)) → Stops is_ascii_digit (behind_text behind)
point_stops None = tt
point_stops (Some f) = refl

whole_len : (p : Parts) → AreParts p → prefix_len is_ascii_digit (spelling p) ≡ length p.whole
whole_len p are = run is_ascii_digit p.whole (behind_text p.behind) are.whole (point_stops p.behind)

without_sign : (ds : List ℕ) (behind : Option (List ℕ)) → list_all is_ascii_digit ds ≡ true → (without_minus (ds ++ behind_text behind) ≡ ds ++ behind_text behind) × (has_minus (ds ++ behind_text behind) ≡ false)
without_sign [] None all = (refl, refl)
without_sign [] (Some f) all = (refl, refl)
without_sign (c ∷ ds) behind all =
    let digit = (and_parts (is_ascii_digit c) (list_all is_ascii_digit ds) all).0 in
    let other : (c == 45) ≡ false = grind (arith, nat_tests, digit) in
    (ap (λ (b : Bool). cond b (ds ++ behind_text behind) (c ∷ ds ++ behind_text behind)) other, other)

shape_of : (k n : ℕ) → n / 10 ^ k < 10 ^ 9 → shape k (spelling (parts_of k n)) ≡ true
shape_of k n h =
    let p : Parts = parts_of k n in
    let len = whole_len (parts_of k n) (are_parts k n h) in
    let taken : take (length (decimal (n / 10 ^ k))) (spelling (parts_of k n)) ≡ decimal (n / 10 ^ k) = take_at (decimal (n / 10 ^ k)) (behind_text (parts_of k n).behind) (length (decimal (n / 10 ^ k))) refl in
    let plain : is_plain (take (prefix_len is_ascii_digit (spelling (parts_of k n))) (spelling (parts_of k n))) ≡ true = ap (λ m. is_plain (take m (spelling (parts_of k n)))) len ∙ (ap is_plain taken ∙ decimal_plain (n / 10 ^ k) (omega (arith, h))) in
    let long : length (spelling (parts_of k n)) ≡ prefix_len is_ascii_digit (spelling (parts_of k n)) + 1 + k = omega (arith, len, length-append (decimal (n / 10 ^ k)) (46 ∷ digits_in k (n % 10 ^ k)), length_digits k (n % 10 ^ k)) in
    and_from (is_plain (take (prefix_len is_ascii_digit (spelling (parts_of k n))) (spelling (parts_of k n)))) (length (spelling (parts_of k n)) == prefix_len is_ascii_digit (spelling (parts_of k n)) + 1 + k) plain (eq-eqb _ _ long)

written_back : (k : ℕ) (z : ℤ) → unsigned_abs z / 10 ^ k < 10 ^ 9 → is_written_so k (scaled_text k z) z ≡ true
unfolding is_written_so
written_back k (pos n) h =
    let whole = decimal_is (n / 10 ^ k) (omega (arith, h)) in
    let plain = without_sign (decimal (n / 10 ^ k)) (Some (digits_in k (n % 10 ^ k))) whole.all in
    ap (λ t. shape k (without_minus t) && not (has_minus t && (n == 0))) (spelled k n)
    ∙ (ap (λ t. shape k t && not (has_minus (spelling (parts_of k n)) && (n == 0))) plain.0
    ∙ (ap (λ b. shape k (spelling (parts_of k n)) && not (b && (n == 0))) plain.1
    ∙ ap (λ b. b && true) (shape_of k n h)))
written_back k (negsuc n) h =
    let some : (suc n == 0) ≡ false = grind (arith, nat_tests) in
    ap (λ b. shape k (unsigned_text k (suc n)) && not (true && b)) some ∙ (ap (λ t. shape k t && true) (spelled k (suc n)) ∙ ap (λ b. b && true) (shape_of k (suc n) h))

digit_passes : (ds : List ℕ) → list_all is_ascii_digit ds ≡ true → list_all is_number_byte ds ≡ true
digit_passes [] all = refl
digit_passes (c ∷ ds) all =
    let parts = and_parts (is_ascii_digit c) (list_all is_ascii_digit ds) all in
    and_from (is_number_byte c) (list_all is_number_byte ds) (ap (λ b. b || (c == 45) || (c == 46)) parts.0) (digit_passes ds parts.1)

unsigned_passes : (k n : ℕ) → n / 10 ^ k < 10 ^ 9 → list_all is_number_byte (unsigned_text k n) ≡ true
unsigned_passes k n h =
    let whole = decimal_is (n / 10 ^ k) (omega (arith, h)) in
    ap (list_all is_number_byte) (spelled k n)
    ∙ (list_all-append is_number_byte (decimal (n / 10 ^ k)) (46 ∷ digits_in k (n % 10 ^ k))
    ∙ and_from (list_all is_number_byte (decimal (n / 10 ^ k))) (list_all is_number_byte (46 ∷ digits_in k (n % 10 ^ k))) (digit_passes (decimal (n / 10 ^ k)) whole.all) (digit_passes (digits_in k (n % 10 ^ k)) (digits_pass k (n % 10 ^ k))))

token_passes : (k : ℕ) (z : ℤ) → unsigned_abs z / 10 ^ k < 10 ^ 9 → list_all is_number_byte (scaled_text k z) ≡ true
token_passes k (pos n) h = unsigned_passes k n h
token_passes k (negsuc n) h = unsigned_passes k (suc n) h

-- the quotient of a number with nine digits before the point
nine : (k n : ℕ) → n < 10 ^ (9 + k) → n / 10 ^ k < 10 ^ 9
nine k n h =
    let power : 10 ^ (9 + k) ≡ 10 ^ 9 * 10 ^ k = pow-add 10 9 k in
    (div-lt_iff_lt-mul {k = 10 ^ k} {x = n} {y = 10 ^ 9} (one-le-pow k 10 (omega arith))).1 (subst (λ p. n < p) power h)

abbrev at_token : ℕ → ℕ → List ℕ → Option (ℤ × List ℕ)
at_token k n text = scaled k (take n text) >>= λ value. if is_written_so k (take n text) value then Some (value, drop n text) else None

fixed_full : (k : ℕ) (z : ℤ) (rest : List ℕ) → HasNineDigits k z → is_end rest ≡ true → fixed_at k (fixed k z ++ rest) ≡ Some (z, rest)
unfolding fixed_at fixed
fixed_full k z rest h end =
    let token : List ℕ = scaled_text k z in
    let few = nine k (unsigned_abs z) h in
    let stop = (end_stops rest end).0 in
    ap (λ m. at_token k m (token ++ rest)) (run is_number_byte token rest (token_passes k z few) stop)
    ∙ (ap (λ (t : List ℕ). scaled k t >>= λ value. if is_written_so k t value then Some (value, drop (length token) (token ++ rest)) else None) (take_at token rest (length token) refl)
    ∙ (ap (λ (t : List ℕ). scaled k token >>= λ value. if is_written_so k token value then Some (value, t) else None) (drop_at token rest (length token) refl)
    ∙ (ap (λ (o : Option ℤ). o >>= λ value. if is_written_so k token value then Some (value, rest) else None) (number_back k z (one-le-pow k 10 (omega arith)) few)
    ∙ cond-true (is_written_so k token z) (Some (z, rest)) None (written_back k z few))))

-- what is read was written so
shape_parts : (k : ℕ) (whole : List ℕ) (behind : Option (List ℕ)) → length (whole ++ behind_text behind) ≡ length whole + 1 + k → (f : List ℕ) × (behind ≡ Some f) × (length f ≡ k)
shape_parts k whole None e = absurd (omega (arith, e, length-append whole []))
shape_parts k whole (Some f) e = (f, refl, omega (arith, e, length-append whole (46 ∷ f)))

record IsUnsigned (k : ℕ) (p : Parts) : Type 0 where
  written : unsigned_text k (scaled_magnitude k p) ≡ spelling p
  small : scaled_magnitude k p < 10 ^ (9 + k)

unsigned_of : (k : ℕ) (whole f : List ℕ) → list_all is_ascii_digit whole ≡ true → list_all is_ascii_digit f ≡ true → length whole ≤ 9 → is_plain whole ≡ true → length f ≡ k
    → (unsigned_text k (number whole * 10 ^ k + number f) ≡ whole ++ 46 ∷ f) × (number whole * 10 ^ k + number f < 10 ^ (9 + k))
unsigned_of k whole f all digits few plain long =
    let below : number f < 10 ^ k = subst (λ j. number f < 10 ^ j) long (number_below f digits) in
    let w = decimal_of whole all plain in
    let front : (number whole * 10 ^ k + number f) / 10 ^ k ≡ number whole = div-mul-add (number whole) (10 ^ k) (number f) below in
    let back : (number whole * 10 ^ k + number f) % 10 ^ k ≡ number f = mul-add-mod_self_right (number whole) (10 ^ k) (number f) ∙ mod-eq_of_lt below in
    let tail : digits_in k (number f) ≡ f = ap (λ j. digits_in j (number f)) (sym long) ∙ digits_of_all f 0 digits in
    let power : 10 ^ (9 + k) ≡ 10 ^ 9 * 10 ^ k = pow-add 10 9 k in
    let nines : number whole < 10 ^ 9 = omega (arith, number_below whole all, pow-le-pow_right {n = 10} (omega arith) few) in
    let up : number whole * 10 ^ k ≤ 999_999_999 * 10 ^ k = mul-le-mul_right (10 ^ k) (omega (arith, nines)) in (
      ap (λ q. (decimal q ++ codes ".") ++ digits_in k ((number whole * 10 ^ k + number f) % 10 ^ k)) front
          ∙ (ap (λ r. (decimal (number whole) ++ codes ".") ++ digits_in k r) back
          ∙ (ap (λ t. (decimal (number whole) ++ codes ".") ++ t) tail
          ∙ (ap (λ t. (t ++ codes ".") ++ f) w.0 ∙ append_assoc whole (codes ".") f))),
      subst (λ p. number whole * 10 ^ k + number f < p) (sym power) (omega (arith, up, below)),
    )

unsigned_is : (k : ℕ) (p : Parts) → AreParts p → shape k (spelling p) ≡ true → IsUnsigned k p
unsigned_is k p are h =
    let tests = and_parts (is_plain (take (prefix_len is_ascii_digit (spelling p)) (spelling p))) (length (spelling p) == prefix_len is_ascii_digit (spelling p) + 1 + k) h in
    let len = whole_len p are in
    let plain : is_plain p.whole ≡ true = sym (ap (λ m. is_plain (take m (spelling p))) len ∙ ap is_plain (take_at p.whole (behind_text p.behind) (length p.whole) refl)) ∙ tests.0 in
    let long : length (spelling p) ≡ length p.whole + 1 + k = omega (arith, eqb-true _ _ tests.1, len) in
    let f = shape_parts k p.whole p.behind long in
    let digits : list_all is_ascii_digit f.0 ≡ true = sym (ap (λ b. list_all is_ascii_digit (fraction b)) f.1) ∙ are.behind in
    let u = unsigned_of k p.whole f.0 are.whole digits are.few plain f.2 in
    let magnitude : scaled_magnitude k p ≡ number p.whole * 10 ^ k + number f.0 = ap (λ b. number p.whole * 10 ^ k + number (first_digits k (fraction b))) f.1 ∙ ap (λ t. number p.whole * 10 ^ k + number t) (first_all k f.0 f.2) in
    record {
      written = ap (unsigned_text k) magnitude ∙ (u.0 ∙ ap (λ b. p.whole ++ behind_text b) (sym f.1));
      small = subst (λ m. m < 10 ^ (9 + k)) (sym magnitude) u.1;
    }

sound_by : (k : ℕ) (token : List ℕ) (v : ℤ) (negative : Bool) (p : Parts) → AreParts p → token ≡ sign negative ++ spelling p → v ≡ with_sign negative (scaled_magnitude k p) → is_written_so k token v ≡ true
    → HasNineDigits k v × (token ≡ scaled_text k v)
unfolding is_written_so
sound_by k token v false p are text value h =
    let bare = without_sign p.whole p.behind are.whole in
    let tests = and_parts (shape k (without_minus token)) (not (has_minus token && (unsigned_abs v == 0))) h in
    let shaped : shape k (spelling p) ≡ true = sym (ap (λ t. shape k (without_minus t)) text ∙ ap (shape k) bare.0) ∙ tests.0 in
    let u = unsigned_is k p are shaped in
    (subst (HasNineDigits k) (sym value) u.small, text ∙ (sym u.written ∙ ap (scaled_text k) (sym value)))
sound_by k token v true p are text value h =
    let tests = and_parts (shape k (without_minus token)) (not (has_minus token && (unsigned_abs v == 0))) h in
    let shaped : shape k (spelling p) ≡ true = sym (ap (λ t. shape k (without_minus t)) text) ∙ tests.0 in
    let u = unsigned_is k p are shaped in
    let other : not (true && (unsigned_abs (neg_ℤ (pos (scaled_magnitude k p))) == 0)) ≡ true = sym (ap (λ t. not (has_minus t && (unsigned_abs v == 0))) text ∙ ap (λ z. not (unsigned_abs z == 0)) value) ∙ tests.1 in
    let minus = negative_is (scaled_magnitude k p) other in
    (subst (HasNineDigits k) (sym value) (subst (λ m. m < 10 ^ (9 + k)) (sym minus.0) u.small), text ∙ (ap (λ t. codes "-" ++ t) (sym u.written) ∙ (minus.1 ∙ ap (scaled_text k) (sym value))))
  where
    negative_is : (m : ℕ) → not (true && (unsigned_abs (neg_ℤ (pos m)) == 0)) ≡ true → (unsigned_abs (neg_ℤ (pos m)) ≡ m) × (codes "-" ++ unsigned_text k m ≡ scaled_text k (neg_ℤ (pos m)))
    negative_is zero e = absurd cc
    negative_is (suc m) e = (refl, refl)

fixed_sound : (k : ℕ) (b : List ℕ) (v : ℤ) (rest : List ℕ) → fixed_at k b ≡ Some (v, rest) → HasNineDigits k v × (b ≡ fixed k v ++ rest)
unfolding fixed_at fixed
fixed_sound k b v rest e =
    let n = prefix_len is_number_byte b in
    let a = bind_some (scaled k (take n b)) (λ value. if is_written_so k (take n b) value then Some (value, drop n b) else None) (v, rest) e in
    let c = chosen (is_written_so k (take n b) a.0) a.0 v (drop n b) rest a.2 in
    let is = (scaled_exact k (take n b) a.0).0 a.1 in
    let g = sound_by k (take n b) a.0 is.negative is.parts is.are is.text_is is.value_is c.0 in
    (subst (HasNineDigits k) c.1 g.0, sym (take-append-drop n b) ∙ (ap (λ t. t ++ drop n b) (g.1 ∙ ap (scaled_text k) c.1) ∙ ap (λ t. scaled_text k v ++ t) c.2))

pub fixed_value : (k : ℕ) → IsPart [] (HasNineDigits k) (fixed k) (fixed_at k)
fixed_value k = record { sound = fixed_sound k; full = λ v rest r after. fixed_full k v rest r after.0 }

-- hundredths
pub hundredths_value : IsPart [] IsU32 hundredths hundredths_at
unfolding hundredths_at hundredths fixed
hundredths_value = part_made (record { back = λ n. pos n; again = λ n s. refl; to = to; from = from; same = same }) (part_such is_hundredths (fixed_value 2))
  where
    Range : ℤ → Type 0
    Range z = HasNineDigits 2 z × (is_hundredths z ≡ true)

    to : (z : ℤ) → Range z → IsU32 (unsigned_abs z)
    to (pos n) r = grind (arith, nat_tests, r.1)
    to (negsuc n) r = absurd (let none = r.1 in cc)

    from : (n : ℕ) → IsU32 n → Range (pos n)
    from n s = (omega (arith, s), grind (arith, nat_tests, s))

    same : (z : ℤ) → Range z → fixed 2 z ≡ hundredths (unsigned_abs z)
    same (pos n) r = refl
    same (negsuc n) r = absurd (let none = r.1 in cc)
