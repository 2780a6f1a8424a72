-- What follows the `*` of a sentence: two digits and the end of the line. The scan against the sets, both ways.
use Rattle.std.proofs.Common.{◌≡◌, ◌≤◌, ◌<◌, ◌+◌, ◌==◌, ◌&&◌, ℕ, Bool, true, false, List, [], ◌∷◌, ◌++◌, length, Option, Some, None, is_some, IsSome, nat_lt, refl, inl, inr, ap, arith, ◌∙◌}
use Rattle.std.proofs.lemmas.Bool.{eqb-true}
use Rattle.std.proofs.lemmas.Bool.Decides.{nat_tests}
use Rattle.nmea_frame.specs.Sentence.{hex_value, of_digits, read_sum, checksum, line_end}
use Rattle.nmea_frame.specs.Scan.{after_star, after_digits, ending, after_return, whole_if}
use Rattle.nmea_frame.specs.declared.sentence.Shape.TheVariants.{Whole, Pending}
use Rattle.nmea_frame.proofs.Lists.{chosen, both}

-- the two digits and the end of the line
abbrev pub tail_of : ℕ → ℕ → Bool → List ℕ
tail_of high low has_return = high ∷ low ∷ line_end has_return

-- a body of n bytes leaves room for this end of the line
abbrev pub Fits : ℕ → Bool → Type 0
Fits len has_return = len + length (line_end has_return) ≤ 124

-- the list begins with a right tail, and the sentence has n bytes
pub record Ends (body : List ℕ) (rest : List ℕ) (n : ℕ) : Type 0 where
  pub high : ℕ
  pub low : ℕ
  pub has_return : Bool
  pub more : List ℕ
  pub same : rest ≡ tail_of high low has_return ++ more
  pub right : read_sum high low ≡ Some (checksum body)
  pub size : n ≡ length body + 4 + length (line_end has_return)
  pub fits : Fits (length body) has_return

-- the list is the beginning of some tail, and not all of it
pub record Begins (body : List ℕ) (rest : List ℕ) : Type 0 where
  pub high : ℕ
  pub low : ℕ
  pub has_return : Bool
  pub more : List ℕ
  pub some : 0 < length more
  pub same : rest ++ more ≡ tail_of high low has_return
  pub digits : IsSome (read_sum high low)
  pub fits : Fits (length body) has_return

pub tail_whole : (body : List ℕ) (high low : ℕ) (has_return : Bool) (more : List ℕ) →
    read_sum high low ≡ Some (checksum body) → Fits (length body) has_return →
    after_star body (tail_of high low has_return ++ more) ≡ Whole (length body + 4 + length (line_end has_return))
unfolding after_star after_digits ending after_return
tail_whole body high low false more right fits = rw right (grind (arith, nat_tests))
tail_whole body high low true more right fits = rw right (grind (arith, nat_tests))

-- the end of the line, found
record Lines (len : ℕ) (right : Bool) (rest : List ℕ) (n : ℕ) : Type 0 where
  has_return : Bool
  more : List ℕ
  same : rest ≡ line_end has_return ++ more
  right_is : right ≡ true
  size : n ≡ len + 4 + length (line_end has_return)
  fits : Fits len has_return

whole_is : (right : Bool) (len n : ℕ) → whole_if right len ≡ Whole n → (right ≡ true) × (n ≡ len)
whole_is true len n e = (refl, cc)
whole_is false len n e = cc

return_found : (len : ℕ) (right : Bool) (rest : List ℕ) (n : ℕ) → len < 123 → after_return len right rest ≡ Whole n → Lines len right (13 ∷ rest) n
unfolding after_return
return_found len right [] n short e = cc
return_found len right (c ∷ more) n short e =
    elim (chosen (c == 10) _ _ _ e) [
      | inl w ↦
          let is : c ≡ 10 = eqb-true c 10 (w.0) in
          let found : (right ≡ true) × (n ≡ len + 6) = whole_is right (len + 6) n (w.1) in
          record { has_return = true; more = more; same = cc; right_is = found.0; size = omega arith; fits = omega arith }
      | inr w ↦ cc (w.1)
    ]

end_found : (len : ℕ) (right : Bool) (rest : List ℕ) (n : ℕ) → len ≤ 123 → ending len right rest ≡ Whole n → Lines len right rest n
unfolding ending
end_found len right [] n short e = cc
end_found len right (c ∷ more) n short e =
    elim (chosen (c == 10) _ _ _ e) [
      | inl w ↦
          let is : c ≡ 10 = eqb-true c 10 (w.0) in
          let found : (right ≡ true) × (n ≡ len + 5) = whole_is right (len + 5) n (w.1) in
          record { has_return = false; more = more; same = cc; right_is = found.0; size = omega arith; fits = omega arith }
      | inr w ↦ elim (chosen ((c == 13) && nat_lt len 123) _ _ _ (w.1)) [
        | inl v ↦
            let tests : ((c == 13) ≡ true) × (nat_lt len 123 ≡ true) = both _ _ (v.0) in
            let is : c ≡ 13 = eqb-true c 13 (tests.0) in
            let below : len < 123 = grind (arith, nat_tests, tests.1) in
            rw is (return_found len right more n below (v.1))
        | inr v ↦ cc (v.1)
      ]
    ]

pub tail_found : (body rest : List ℕ) (n : ℕ) → length body ≤ 123 → after_star body rest ≡ Whole n → Ends body rest n
unfolding after_star after_digits
tail_found body [] n short e = cc
tail_found body (high ∷ []) n short e = elim (chosen (is_some (hex_value high)) _ _ _ e) [ inl w ↦ cc (w.1) | inr w ↦ cc (w.1) ]
tail_found body (high ∷ low ∷ rest) n short e = go (read_sum high low) refl e
  where
    go : (sum : Option ℕ) → read_sum high low ≡ sum → after_digits body sum rest ≡ Whole n → Ends body (high ∷ low ∷ rest) n
    go None is e = cc
    go (Some sum) is e =
        let found : Lines (length body) (sum == checksum body) rest n = end_found (length body) (sum == checksum body) rest n short e in
        let same : sum ≡ checksum body = eqb-true sum (checksum body) (found.right_is) in
        record { high = high; low = low; has_return = found.has_return; more = found.more; same = cc (found.same); right = is ∙ ap Some same; size = found.size; fits = found.fits }

-- what a pending end of the line lacks
record Lacks (len : ℕ) (rest : List ℕ) : Type 0 where
  has_return : Bool
  more : List ℕ
  some : 0 < length more
  same : rest ++ more ≡ line_end has_return
  fits : Fits len has_return

whole_if_settled : (right : Bool) (len : ℕ) → whole_if right len ≡ Pending → ⊥
whole_if_settled true len e = cc
whole_if_settled false len e = cc

return_lacks : (len : ℕ) (right : Bool) (rest : List ℕ) → len < 123 → after_return len right rest ≡ Pending → Lacks len (13 ∷ rest)
unfolding after_return
return_lacks len right [] short e = record { has_return = true; more = 10 ∷ []; some = omega arith; same = refl; fits = omega arith }
return_lacks len right (c ∷ more) short e =
    elim (chosen (c == 10) _ _ _ e) [ inl w ↦ absurd (whole_if_settled right (len + 6) (w.1)) | inr w ↦ cc (w.1) ]

end_lacks : (len : ℕ) (right : Bool) (rest : List ℕ) → len ≤ 123 → ending len right rest ≡ Pending → Lacks len rest
unfolding ending
end_lacks len right [] short e = record { has_return = false; more = 10 ∷ []; some = omega arith; same = refl; fits = omega arith }
end_lacks len right (c ∷ more) short e =
    elim (chosen (c == 10) _ _ _ e) [
      | inl w ↦ absurd (whole_if_settled right (len + 5) (w.1))
      | inr w ↦ elim (chosen ((c == 13) && nat_lt len 123) _ _ _ (w.1)) [
        | inl v ↦
            let tests : ((c == 13) ≡ true) × (nat_lt len 123 ≡ true) = both _ _ (v.0) in
            let is : c ≡ 13 = eqb-true c 13 (tests.0) in
            let below : len < 123 = grind (arith, nat_tests, tests.1) in
            rw is (return_lacks len right more below (v.1))
        | inr v ↦ cc (v.1)
      ]
    ]

some_digits : (high : ℕ) → is_some (hex_value high) ≡ true → IsSome (read_sum high 48)
some_digits high e = go (hex_value high) e
  where
    go : (o : Option ℕ) → is_some o ≡ true → IsSome (of_digits o (Some 0))
    go None e = cc
    go (Some v) e = refl

pub tail_lacks : (body rest : List ℕ) → length body ≤ 123 → after_star body rest ≡ Pending → Begins body rest
unfolding after_star after_digits
tail_lacks body [] short e =
    record { high = 48; low = 48; has_return = false; more = 48 ∷ 48 ∷ 10 ∷ []; some = omega arith; same = refl; digits = refl; fits = omega arith }
tail_lacks body (high ∷ []) short e = elim (chosen (is_some (hex_value high)) _ _ _ e) [
  | inl w ↦ record { high = high; low = 48; has_return = false; more = 48 ∷ 10 ∷ []; some = omega arith; same = refl; digits = some_digits high (w.0); fits = omega arith }
  | inr w ↦ cc (w.1)
]
tail_lacks body (high ∷ low ∷ rest) short e = go (read_sum high low) refl e
  where
    go : (sum : Option ℕ) → read_sum high low ≡ sum → after_digits body sum rest ≡ Pending → Begins body (high ∷ low ∷ rest)
    go None is e = cc
    go (Some sum) is e =
        let found : Lacks (length body) rest = end_lacks (length body) (sum == checksum body) rest short e in
        let digits : IsSome (read_sum high low) = rw is refl in
        record { high = high; low = low; has_return = found.has_return; more = found.more; some = found.some; same = cc (found.same); digits = digits; fits = found.fits }

no_more : (rest more : List ℕ) → rest ++ more ≡ [] → 0 < length more → ⊥
no_more [] more e some = omega (arith, ap length e)
no_more (c ∷ rest) more e some = cc

end_pending : (len : ℕ) (right : Bool) (rest : List ℕ) (has_return : Bool) (more : List ℕ) → rest ++ more ≡ line_end has_return → 0 < length more →
    Fits len has_return → ending len right rest ≡ Pending
unfolding ending after_return
end_pending len right [] has_return more same some fits = refl
end_pending len right (c ∷ rest) false more same some fits = absurd (no_more rest more (cc) some)
end_pending len right (c ∷ []) true more same some fits =
    let is : c ≡ 13 = cc in
    let below : len < 123 = omega arith in
    rw is (grind (arith, nat_tests))
end_pending len right (c ∷ d ∷ rest) true more same some fits = absurd (no_more rest more (cc) some)

high_is_digit : (high low : ℕ) → IsSome (read_sum high low) → is_some (hex_value high) ≡ true
high_is_digit high low e = go (hex_value high) (hex_value low) e
  where
    go : (o q : Option ℕ) → IsSome (of_digits o q) → is_some o ≡ true
    go None q e = e
    go (Some v) q e = refl

pub tail_pending : (body rest : List ℕ) (high low : ℕ) (has_return : Bool) (more : List ℕ) → rest ++ more ≡ tail_of high low has_return → 0 < length more →
    IsSome (read_sum high low) → Fits (length body) has_return → after_star body rest ≡ Pending
unfolding after_star after_digits
tail_pending body [] high low has_return more same some digits fits = refl
tail_pending body (c ∷ []) high low has_return more same some digits fits =
    let is : c ≡ high = cc in
    rw (is, high_is_digit high low digits) refl
tail_pending body (c ∷ d ∷ rest) high low has_return more same some digits fits =
    let is_high : c ≡ high = cc in
    let is_low : d ≡ low = cc in
    rw (is_high, is_low) (go (read_sum high low) digits)
  where
    go : (sum : Option ℕ) → IsSome sum → after_digits body sum rest ≡ Pending
    go None e = cc
    go (Some sum) e = end_pending (length body) (sum == checksum body) rest has_return more (cc) some fits
