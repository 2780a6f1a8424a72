-- What comes before a request's end, as a set of texts.
use Rattle.std.proofs.Common.{◌≡◌, ◌<◌, ◌≤◌, ◌+◌, inl, inr, ℕ, zero, suc, Bool, true, false, not, ◌||◌, List, [], ◌∷◌, ◌++◌, length, take, get_or, nat_eq, ap, ◌∙◌, refl, arith, append_assoc}
use Rattle.std.proofs.lemmas.Bool.{cases_Bool, eqb-true, not-true, or_parts}
use Rattle.std.proofs.lemmas.List.{length-append, length-take}
use Rattle.std.proofs.Math.Seq.{take-append_seam}
use Rattle.gps_command.specs.declared.request.Quote.{Quote}
use Rattle.gps_command.specs.declared.request.Quote.TheVariants.{Outside, Inside, Escaped}
use Rattle.gps_command.specs.declared.request.RawCommand.{RawCommand}
use Rattle.gps_command.specs.Requests.{is_end, is_gap, long_length, open_length, requests_from}
use Rattle.gps_command.specs.Texts.{AreRequests, IsInside, IsRequest, IsText, ReadsRequests}
use Rattle.gps_command.specs.Texts.{empty_inside, empty_text, escaped_pair, inner_byte, plain_byte, whole_string}
use Rattle.gps_command.proofs.Begins.{at_ended, begins_by}

-- the two tests of a plain byte and of a byte in a string
neither : (a b : Bool) → not (a || b) ≡ true → (a ≡ false) × (b ≡ false)
neither a b h = or_parts a b (not-true (a || b) h)

-- ---- a text is read up to the end after it

inside_passes : (inside d : List ℕ) → IsInside inside
    → open_length Inside (inside ++ 34 ∷ d) ≡ length inside + suc (open_length Outside d)
unfolding open_length
inside_passes _ d empty_inside = omega arith
inside_passes _ d (inner_byte c s p rest) =
    let tests = neither (nat_eq c 34) (nat_eq c 92) p in
    rw (tests.0, tests.1) (omega (arith, inside_passes s d rest))
inside_passes _ d (escaped_pair c s rest) = omega (arith, inside_passes s d rest)

pub text_passes : (t b : List ℕ) (e : ℕ) → IsText t → is_end e ≡ true → open_length Outside (t ++ e ∷ b) ≡ length t
unfolding open_length
text_passes _ b e empty_text end = rw end
text_passes _ b e (plain_byte c t p rest) end =
    let tests = neither (nat_eq c 34) (is_end c) p in
    rw (tests.1, tests.0, text_passes t b e rest end)
text_passes _ b e (whole_string s t i rest) end =
    rw (append_assoc s (34 ∷ t) (e ∷ b), inside_passes s (t ++ e ∷ b) i, text_passes t b e rest end) (omega (arith, length-append s (34 ∷ t)))

past_end : (a b : List ℕ) (e : ℕ) → requests_from (suc (length a)) (a ++ e ∷ b) ≡ requests_from 0 b
unfolding requests_from
past_end [] b e = refl
past_end (c ∷ a) b e = past_end a b e

pub reads_requests : ReadsRequests
reads_requests [] rest end is e = absurd (omega (arith, is.some))
reads_requests (c ∷ t) rest end is e =
    let all = text_passes (c ∷ t) rest end is.whole e in
    let read = at_ended c (t ++ end ∷ rest) (suc (length t)) is.begins all is.short (omega (arith, length-append t (end ∷ rest))) in
    rw (read.0, take-append_seam (c ∷ t) (end ∷ rest), past_end t rest end)

-- ---- what comes before an end is a text

pub record IsRest (t : List ℕ) : Type 0 where
  pub front : List ℕ
  pub back : List ℕ
  pub inside : IsInside front
  pub text : IsText back
  pub split : t ≡ front ++ 34 ∷ back

pub record IsPairRest (t : List ℕ) : Type 0 where
  pub byte : ℕ
  pub back : List ℕ
  pub rest : IsRest back
  pub split : t ≡ byte ∷ back

-- what goes on outside a string, in one, or after a backslash
abbrev pub Reads : Quote → List ℕ → Type 0
Reads Outside t = IsText t
Reads Inside t = IsRest t
Reads Escaped t = IsPairRest t

-- the text before the end is read
abbrev pub IsRead : Quote → List ℕ → Type 0
IsRead quote b = open_length quote b < length b → Reads quote (take (open_length quote b) b)

outside_string : (c : ℕ) (t : List ℕ) → nat_eq c 34 ≡ true → IsRest t → IsText (c ∷ t)
outside_string c t e r = rw (eqb-true c 34 e, r.split) (whole_string r.front r.back r.inside r.text)

inside_ends : (c : ℕ) (t : List ℕ) → nat_eq c 34 ≡ true → IsText t → IsRest (c ∷ t)
inside_ends c t e rest = record { front = []; back = t; inside = empty_inside; text = rest; split = rw (eqb-true c 34 e) }

inside_pair : (c : ℕ) (t : List ℕ) → nat_eq c 92 ≡ true → IsPairRest t → IsRest (c ∷ t)
inside_pair c t e p = record {
  front = 92 ∷ p.byte ∷ p.rest.front;
  back = p.rest.back;
  inside = escaped_pair p.byte p.rest.front p.rest.inside;
  text = p.rest.text;
  split = rw (eqb-true c 92 e, p.split, p.rest.split);
}

inside_byte : (c : ℕ) (t : List ℕ) → nat_eq c 34 ≡ false → nat_eq c 92 ≡ false → IsRest t → IsRest (c ∷ t)
inside_byte c t q e r = record {
  front = c ∷ r.front;
  back = r.back;
  inside = inner_byte c r.front (rw (q, e)) r.inside;
  text = r.text;
  split = rw r.split;
}

text_before : (quote : Quote) (b : List ℕ) → IsRead quote b
unfolding open_length
text_before quote [] below = absurd (omega arith)
text_before Outside (c ∷ b) below =
    elim (cases_Bool (is_end c)) [
      | inl e ↦ rw e empty_text
      | inr e ↦ elim (cases_Bool (nat_eq c 34)) [
        | inl q ↦ let less = rw (e, q) at below in rw (e, q) (outside_string c _ q (text_before Inside b (omega arith)))
        | inr q ↦ let less = rw (e, q) at below in rw (e, q) (plain_byte c _ (rw (q, e)) (text_before Outside b (omega arith)))
      ]
    ]
text_before Inside (c ∷ b) below =
    elim (cases_Bool (nat_eq c 34)) [
      | inl q ↦ let less = rw q at below in rw q (inside_ends c _ q (text_before Outside b (omega arith)))
      | inr q ↦ elim (cases_Bool (nat_eq c 92)) [
        | inl e ↦ let less = rw (q, e) at below in rw (q, e) (inside_pair c _ e (text_before Escaped b (omega arith)))
        | inr e ↦ let less = rw (q, e) at below in rw (q, e) (inside_byte c _ q e (text_before Inside b (omega arith)))
      ]
    ]
text_before Escaped (c ∷ b) below = record { byte = c; back = take (open_length Inside b) b; rest = text_before Inside b (omega arith); split = refl }

-- ---- so each request holds one

begun_by : (c n : ℕ) (b : List ℕ) → 0 < n → get_or (take n (c ∷ b)) 0 0 ≡ c
begun_by c zero b h = absurd (omega arith)
begun_by c (suc n) b h = refl

opened : (c : ℕ) (b : List ℕ) → is_gap c ≡ false → 0 < open_length Outside (c ∷ b)
unfolding open_length
opened c b g = let none = or_parts _ (is_end c) g in rw none.1 (omega arith)

held : (c : ℕ) (b : List ℕ) → is_gap c ≡ false → open_length Outside (c ∷ b) ≤ 1024
    → open_length Outside (c ∷ b) < suc (length b) → IsRequest (take (open_length Outside (c ∷ b)) (c ∷ b))
held c b g l e = record {
  whole = text_before Outside (c ∷ b) e;
  some = omega (arith, length-take (open_length Outside (c ∷ b)) (c ∷ b), opened c b g);
  short = omega (arith, length-take (open_length Outside (c ∷ b)) (c ∷ b));
  begins = ap is_gap (begun_by c (open_length Outside (c ∷ b)) b (opened c b g)) ∙ g;
}

requests_from_are : (k : ℕ) (b : List ℕ) → AreRequests (requests_from k b)
unfolding requests_from
requests_from_are k [] = tt
requests_from_are (suc k) (c ∷ b) = requests_from_are k b
requests_from_are zero (c ∷ b) = begins_by c b _ _ _ _ AreRequests (λ g. requests_from_are 0 b) (λ g l. requests_from_are (long_length b) b)
    (λ g l e. (held c b g l e, requests_from_are (open_length Outside (c ∷ b)) b)) (λ g l e. tt)

pub requests_are : (b : List ℕ) (out : List RawCommand) → out ≡ requests_from 0 b → AreRequests out
requests_are b out e = rw e (requests_from_are 0 b)
