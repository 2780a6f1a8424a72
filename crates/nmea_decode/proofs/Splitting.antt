-- A body is split at its commas, and in one way only.
use Rattle.std.proofs.Common.{◌≡◌, ℕ, zero, suc, ◌+◌, ◌-◌, ◌<◌, ◌≤◌, refl, sym, ap, ◌∙◌, subst, arith, Bool, true, false, cond, not, ◌||◌, List, [], ◌∷◌, ◌++◌, length, map, take, drop, eqb-true, take-append-drop}
use Rattle.std.specs.List.{before_first, list_any, position_or_len, range_with_len}
use Rattle.std.proofs.lemmas.List.Sums.{sum_by-cons}
use Rattle.nmea_decode.specs.Fields.{address_of, behind, field, field_at, field_count, fields_of, has_comma, is_comma, joined, list_of_fields, skipped}

-- a text of fields is empty, or begins with the comma before its first field
abbrev pub Begins : List ℕ → Type 0
Begins [] = Unit {0}
Begins (c ∷ text) = is_comma c ≡ true

-- what is there from the first comma on
abbrev pub rest : List ℕ → List ℕ
rest text = drop (position_or_len is_comma text) text

drop_one : (n c : ℕ) (text : List ℕ) → drop (1 + n) (c ∷ text) ≡ drop n text
drop_one n c text =
    let one : 1 + n ≡ suc n = omega arith in
    ap (λ k. drop k (c ∷ text)) one

take_one : (n c : ℕ) (text : List ℕ) → take (1 + n) (c ∷ text) ≡ c ∷ take n text
take_one n c text =
    let one : 1 + n ≡ suc n = omega arith in
    ap (λ k. take k (c ∷ text)) one

rest_begins : (text : List ℕ) → Begins (rest text)
rest_begins [] = tt
rest_begins (c ∷ text) = go (is_comma c) refl (rest_begins text)
  where
    go : (b : Bool) → is_comma c ≡ b → Begins (rest text) → Begins (drop (cond (not b) (1 + position_or_len is_comma text) 0) (c ∷ text))
    go true is more = is
    go false is more = subst Begins (sym (drop_one (position_or_len is_comma text) c text)) more

first_plain : (text : List ℕ) → has_comma (before_first is_comma text) ≡ false
first_plain [] = refl
first_plain (c ∷ text) = go (is_comma c) refl (first_plain text)
  where
    go : (b : Bool) → is_comma c ≡ b → has_comma (before_first is_comma text) ≡ false →
        has_comma (take (cond (not b) (1 + position_or_len is_comma text) 0) (c ∷ text)) ≡ false
    go true is more = refl
    go false is more =
        ap has_comma (take_one (position_or_len is_comma text) c text) ∙ ap (λ b. b || has_comma (before_first is_comma text)) is ∙ more

field_plain : (text : List ℕ) → has_comma (field text) ≡ false
unfolding field
field_plain [] = refl
field_plain (c ∷ text) = first_plain text

-- ---- the list of fields, walked from field to field
abbrev walk : ℕ → List ℕ → List (List ℕ)
walk zero text = []
walk (suc n) text = field text ∷ walk n (behind text)

skipped_behind : (k : ℕ) (text : List ℕ) → skipped k (behind text) ≡ behind (skipped k text)
skipped_behind zero text = refl
skipped_behind (suc k) text = skipped_behind k (behind text)

walk_is : (n k : ℕ) (text : List ℕ) → map (λ j. field_at j text) (range_with_len (suc k) n) ≡ walk n (skipped k text)
walk_is zero k text = refl
walk_is (suc n) k text =
    let first : suc k - 1 ≡ k = omega arith in
    let next : suc k + 1 ≡ suc (suc k) = omega arith in
    ap (λ i. field (skipped i text) ∷ map (λ j. field_at j text) (range_with_len (suc k + 1) n)) first
    ∙ ap (λ i. field (skipped k text) ∷ map (λ j. field_at j text) (range_with_len i n)) next
    ∙ ap (λ fields. field (skipped k text) ∷ fields) (walk_is n (suc k) text)
    ∙ ap (λ t. field (skipped k text) ∷ walk n t) (skipped_behind k text)

list_is : (text : List ℕ) → list_of_fields text ≡ walk (field_count text) text
list_is text = walk_is (field_count text) 0 text

-- ---- how many there are
count_cons : (c : ℕ) (text : List ℕ) (b : Bool) → is_comma c ≡ b → field_count (c ∷ text) ≡ cond b 1 0 + field_count text
count_cons c text b is = sum_by-cons (λ d. cond (is_comma d) 1 0) c text ∙ ap (λ t. cond t 1 0 + field_count text) is

count_rest : (text : List ℕ) → field_count (rest text) ≡ field_count text
count_rest [] = refl
count_rest (c ∷ text) = go (is_comma c) refl (count_rest text)
  where
    go : (b : Bool) → is_comma c ≡ b → field_count (rest text) ≡ field_count text →
        field_count (drop (cond (not b) (1 + position_or_len is_comma text) 0) (c ∷ text)) ≡ field_count (c ∷ text)
    go true is more = refl
    go false is more = ap field_count (drop_one (position_or_len is_comma text) c text) ∙ omega (arith, more, count_cons c text false is)

-- ---- the fields are joined to the text
joined_walk : (n : ℕ) (text : List ℕ) → Begins text → field_count text ≡ n → text ≡ joined (walk n text)
unfolding field behind
joined_walk zero [] begins is = refl
joined_walk zero (c ∷ text) begins is = absurd (omega (arith, count_cons c text true begins, is))
joined_walk (suc n) [] begins is = absurd (omega (arith, is))
joined_walk (suc n) (c ∷ text) begins is =
    let fewer : field_count (rest text) ≡ n = omega (arith, count_rest text, count_cons c text true begins, is) in
    ap (λ d. d ∷ text) (eqb-true c 44 begins)
    ∙ ap (λ t. 44 ∷ t) (sym (take-append-drop (position_or_len is_comma text) text))
    ∙ ap (λ t. 44 ∷ (before_first is_comma text ++ t)) (joined_walk n (rest text) (rest_begins text) fewer)

pub body_joined : (body : List ℕ) → body ≡ address_of body ++ joined (list_of_fields (fields_of body))
body_joined body =
    sym (take-append-drop (position_or_len is_comma body) body)
    ∙ ap (λ t. address_of body ++ t) (joined_walk (field_count (rest body)) (rest body) (rest_begins body) refl ∙ ap joined (sym (list_is (rest body))))

pub address_plain : (body : List ℕ) → has_comma (address_of body) ≡ false
address_plain body = first_plain body

walk_plain : (n : ℕ) (text : List ℕ) → list_any has_comma (walk n text) ≡ false
walk_plain zero text = refl
walk_plain (suc n) text = ap (λ b. b || list_any has_comma (walk n (behind text))) (field_plain text) ∙ walk_plain n (behind text)

pub fields_plain : (body : List ℕ) → list_any has_comma (list_of_fields (fields_of body)) ≡ false
fields_plain body = ap (list_any has_comma) (list_is (fields_of body)) ∙ walk_plain (field_count (fields_of body)) (fields_of body)

-- ---- no others are joined to it
place_behind : (first more : List ℕ) → has_comma first ≡ false → Begins more → position_or_len is_comma (first ++ more) ≡ length first
place_behind [] [] plain begins = refl
place_behind [] (c ∷ more) plain begins = ap (λ b. cond (not b) (1 + position_or_len is_comma more) 0) begins
place_behind (c ∷ first) more plain begins = go (is_comma c) plain (λ tail_plain. place_behind first more tail_plain begins)
  where
    go : (b : Bool) → (b || has_comma first) ≡ false → (has_comma first ≡ false → position_or_len is_comma (first ++ more) ≡ length first) →
        cond (not b) (1 + position_or_len is_comma (first ++ more)) 0 ≡ suc (length first)
    go true none tail = absurd (cc)
    go false none tail = omega (arith, tail none)

take_first : (first more : List ℕ) → take (length first) (first ++ more) ≡ first
take_first [] more = refl
take_first (c ∷ first) more = ap (λ t. c ∷ t) (take_first first more)

drop_first : (first more : List ℕ) → drop (length first) (first ++ more) ≡ more
drop_first [] more = refl
drop_first (c ∷ first) more = drop_first first more

pub first_is : (first more : List ℕ) → has_comma first ≡ false → Begins more → before_first is_comma (first ++ more) ≡ first
first_is first more plain begins = ap (λ n. take n (first ++ more)) (place_behind first more plain begins) ∙ take_first first more

pub rest_is : (first more : List ℕ) → has_comma first ≡ false → Begins more → rest (first ++ more) ≡ more
rest_is first more plain begins = ap (λ n. drop n (first ++ more)) (place_behind first more plain begins) ∙ drop_first first more

joined_begins : (fields : List (List ℕ)) → Begins (joined fields)
joined_begins [] = tt
joined_begins (text ∷ fields) = refl

-- of a field and others, none of them has a comma if none has
record ArePlain (text : List ℕ) (fields : List (List ℕ)) : Type 0 where
  head : has_comma text ≡ false
  tail : list_any has_comma fields ≡ false

are_plain : (text : List ℕ) (fields : List (List ℕ)) (b : Bool) → has_comma text ≡ b → (b || list_any has_comma fields) ≡ false → ArePlain text fields
are_plain text fields true is none = absurd (cc)
are_plain text fields false is none = record { head = is; tail = none }

count_joined : (fields : List (List ℕ)) → list_any has_comma fields ≡ false → field_count (joined fields) ≡ length fields
count_joined [] plain = refl
count_joined (text ∷ fields) plain =
    let are = are_plain text fields (has_comma text) refl plain in
    let more = ap field_count (rest_is text (joined fields) are.head (joined_begins fields)) in
    omega (arith, count_cons 44 (text ++ joined fields) true refl, count_rest (text ++ joined fields), more, count_joined fields are.tail)

walk_joined : (fields : List (List ℕ)) → list_any has_comma fields ≡ false → walk (length fields) (joined fields) ≡ fields
unfolding field behind
walk_joined [] plain = refl
walk_joined (text ∷ fields) plain =
    let are = are_plain text fields (has_comma text) refl plain in
    ap (λ t. t ∷ walk (length fields) (rest (text ++ joined fields))) (first_is text (joined fields) are.head (joined_begins fields))
    ∙ ap (λ t. text ∷ walk (length fields) t) (rest_is text (joined fields) are.head (joined_begins fields))
    ∙ ap (λ t. text ∷ t) (walk_joined fields are.tail)

pub only_split : (address : List ℕ) (fields : List (List ℕ)) → has_comma address ≡ false → list_any has_comma fields ≡ false
    → (address_of (address ++ joined fields) ≡ address) × (list_of_fields (fields_of (address ++ joined fields)) ≡ fields)
only_split address fields plain fields_plain = (
  first_is address (joined fields) plain (joined_begins fields),
  ap list_of_fields (rest_is address (joined fields) plain (joined_begins fields))
      ∙ list_is (joined fields)
      ∙ ap (λ n. walk n (joined fields)) (count_joined fields fields_plain)
      ∙ walk_joined fields fields_plain,
)

-- ---- after the first n
drop_walk : (k n : ℕ) (text : List ℕ) → drop k (walk n text) ≡ walk (n - k) (skipped k text)
drop_walk zero n text =
    let all : n - 0 ≡ n = omega arith in
    ap (λ m. walk m text) (sym all)
drop_walk (suc k) zero text =
    let none : 0 - suc k ≡ 0 = omega arith in
    ap (λ m. walk m (skipped k (behind text))) (sym none)
drop_walk (suc k) (suc n) text =
    let fewer : n - k ≡ suc n - suc k = omega arith in
    drop_walk k n (behind text) ∙ ap (λ m. walk m (skipped k (behind text))) fewer

count_skipped : (k : ℕ) (text : List ℕ) → Begins text → field_count (skipped k text) ≡ field_count text - k
unfolding behind
count_skipped zero text begins = omega arith
count_skipped (suc k) [] begins = omega (arith, count_skipped k [] tt)
count_skipped (suc k) (c ∷ text) begins =
    omega (arith, count_skipped k (rest text) (rest_begins text), count_rest text, count_cons c text true begins)

pub fields_behind : (body : List ℕ) (k : ℕ) → list_of_fields (skipped k (fields_of body)) ≡ drop k (list_of_fields (fields_of body))
fields_behind body k =
    list_is (skipped k (rest body))
    ∙ ap (λ n. walk n (skipped k (rest body))) (count_skipped k (rest body) (rest_begins body))
    ∙ sym (drop_walk k (field_count (rest body)) (rest body))
    ∙ ap (drop k) (sym (list_is (rest body)))

-- ---- after the last
none_left : (k : ℕ) (text : List ℕ) → Begins text → field_count text ≤ k → skipped k text ≡ []
unfolding behind
none_left zero [] begins few = refl
none_left zero (c ∷ text) begins few = absurd (omega (arith, count_cons c text true begins, few))
none_left (suc k) [] begins few = none_left k [] tt (omega arith)
none_left (suc k) (c ∷ text) begins few =
    none_left k (rest text) (rest_begins text) (omega (arith, count_rest text, count_cons c text true begins, few))

pub field_missing : (body : List ℕ) (k : ℕ) → field_count (fields_of body) < k → field_at k (fields_of body) ≡ []
unfolding field
field_missing body k past = ap field (none_left (k - 1) (rest body) (rest_begins body) (omega (arith, past)))
