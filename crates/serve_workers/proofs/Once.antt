-- Each number once, of pairs whose numbers do not fall.
use Rattle.std.proofs.Common.{◌≡◌, ℕ, suc, ◌<◌, ◌≤◌, ◌==◌, ◌||◌, Bool, true, false, not, cond, List, [], ◌∷◌, ◌++◌, length, refl, sym, ◌∙◌, ap, arith, if◌then◌else◌}
use Rattle.std.specs.List.{filter, list_any}
use Rattle.std.proofs.lemmas.Bool.{eq-eqb, eqb-true}
use Rattle.std.proofs.lemmas.Bool.Decides.{nat_tests}
use Rattle.shm_segment.specs.declared.view.Numbered.{Numbered}
use Rattle.shm_segment.specs.Rule.{Rises, last_from}
use Rattle.serve_workers.specs.Watching.{each_once, Climbs, ClimbsFrom}

abbrev other_than : Numbered → Numbered → Bool
other_than pair other = not (pair.number == other.number)

abbrev pub has_number : ℕ → List Numbered → Bool
has_number number pairs = list_any (λ (pair : Numbered). pair.number == number) pairs

-- a number that is below all is nowhere among them
untouched : (pair : Numbered) (number : ℕ) (pairs : List Numbered) → pair.number ≤ number → ClimbsFrom number pairs → filter (other_than pair) pairs ≡ pairs
untouched pair number [] le climbs = refl
untouched pair number (first ∷ pairs) le climbs =
    let apart : (pair.number == first.number) ≡ false = grind (arith, nat_tests, le, climbs.0) in
    let later : pair.number ≤ first.number = omega (arith, le, climbs.0) in
    rw (apart, untouched pair first.number pairs later climbs.1) refl

climbs_step : (pair first : Numbered) (rest : List Numbered) (same : Bool) → (pair.number == first.number) ≡ same
    → pair.number ≤ first.number → ClimbsFrom first.number rest
    → ClimbsFrom pair.number (filter (other_than pair) (first ∷ rest))
climbs_step pair first rest true e le climbs =
    let is : pair.number ≡ first.number = eqb-true pair.number first.number e in
    rw (e, untouched pair first.number rest le climbs) (rw is climbs)
climbs_step pair first rest false e le climbs =
    let above : pair.number < first.number = grind (arith, nat_tests, le, e) in
    rw (e, untouched pair first.number rest le climbs) (above, climbs)

pub once_climbs : (number : ℕ) (pairs : List Numbered) → Rises number pairs → Climbs (each_once pairs)
unfolding each_once
once_climbs number [] rises = tt
once_climbs number (pair ∷ []) rises = tt
once_climbs number (pair ∷ first ∷ rest) rises =
    climbs_step pair first (filter (other_than first) (each_once rest)) (pair.number == first.number) refl rises.1.0 (once_climbs pair.number (first ∷ rest) rises.1)

filter_step : (keeps : Bool) (x : Numbered) (first second both : List Numbered) → both ≡ first ++ second
    → cond keeps (x ∷ both) both ≡ cond keeps (x ∷ first) first ++ second
filter_step true x first second both e = ap (λ l. x ∷ l) e
filter_step false x first second both e = e

seen_step : (here later : Bool) → later ≡ true → (here || later) ≡ true
seen_step true later e = refl
seen_step false later e = e

filter_on : (pair : Numbered) (first second : List Numbered) → filter (other_than pair) (first ++ second) ≡ filter (other_than pair) first ++ filter (other_than pair) second
filter_on pair [] second = refl
filter_on pair (x ∷ first) second = filter_step (other_than pair x) x (filter (other_than pair) first) (filter (other_than pair) second) (filter (other_than pair) (first ++ second)) (filter_on pair first second)

-- one pair more, unless its number was there
abbrev newer : Bool → Numbered → List Numbered
newer there pair = if there then [] else pair ∷ []

newer_step : (first pair : Numbered) (same there : Bool) → (first.number == pair.number) ≡ same
    → filter (other_than first) (newer there pair) ≡ newer (same || there) pair
newer_step first pair true true e = refl
newer_step first pair true false e = rw e refl
newer_step first pair false true e = refl
newer_step first pair false false e = rw e refl

pub once_more : (pairs : List Numbered) (pair : Numbered) → each_once (pairs ++ pair ∷ []) ≡ each_once pairs ++ newer (has_number pair.number pairs) pair
unfolding each_once
once_more [] pair = refl
once_more (first ∷ pairs) pair =
    ap (λ l. first ∷ l)
    (ap (filter (other_than first)) (once_more pairs pair) ∙ filter_on first (each_once pairs) (newer (has_number pair.number pairs) pair)
    ∙ ap (λ l. filter (other_than first) (each_once pairs) ++ l)
    (newer_step first pair (first.number == pair.number) (has_number pair.number pairs) refl))

-- no number is above the last
last_above : (number : ℕ) (pairs : List Numbered) → Rises number pairs → number ≤ last_from number pairs
last_above number [] rises = omega arith
last_above number (pair ∷ pairs) rises = omega (arith, rises.0, last_above pair.number pairs rises.1)

unseen : (number new : ℕ) (pairs : List Numbered) → Rises number pairs → last_from number pairs < new → has_number new pairs ≡ false
unseen number new [] rises below = refl
unseen number new (pair ∷ pairs) rises below =
    let apart : (pair.number == new) ≡ false = grind (arith, nat_tests, last_above pair.number pairs rises.1, below) in
    rw (apart, unseen pair.number new pairs rises.1 below) refl

seen : (pair : Numbered) (new : ℕ) (pairs : List Numbered) → last_from pair.number pairs ≡ new → has_number new (pair ∷ pairs) ≡ true
seen pair new [] is = rw (eq-eqb pair.number new is) refl
seen pair new (next ∷ pairs) is = seen_step (pair.number == new) (has_number new (next ∷ pairs)) (seen next new pairs is)

seen_case : (same : Bool) (pair : Numbered) (new : ℕ) (pairs : List Numbered)
    → (new == last_from pair.number pairs) ≡ same → Rises 0 (pair ∷ pairs) → last_from pair.number pairs ≤ new
    → has_number new (pair ∷ pairs) ≡ same
seen_case true pair new pairs e rises le = seen pair new pairs (sym (eqb-true new (last_from pair.number pairs) e))
seen_case false pair new pairs e rises le =
    let below : last_from pair.number pairs < new = grind (arith, nat_tests, le, e) in
    unseen 0 new (pair ∷ pairs) rises below

not_not : (b : Bool) → b ≡ not (not b)
not_not true = refl
not_not false = refl

not_zero : (n : ℕ) → (suc n == 0) ≡ false
not_zero n = grind (arith, nat_tests)

-- what is known beforehand of the next pair's number, by the last number alone
pub is_used_id : (first : Bool) (pairs : List Numbered) (new : ℕ)
    → first ≡ (length (each_once pairs) == 0) → Rises 0 pairs → last_from 0 pairs ≤ new
    → has_number new pairs ≡ not (first || not (new == last_from 0 pairs))
unfolding each_once
is_used_id first [] new is rises le = rw is refl
is_used_id first (pair ∷ pairs) new is rises le =
    let later : first ≡ false = is ∙ not_zero (length (filter (other_than pair) (each_once pairs))) in
    rw later (seen_case (new == last_from pair.number pairs) pair new pairs refl rises le ∙ not_not (new == last_from pair.number pairs))

newer_is : (new : Bool) (pair : Numbered) → newer (not new) pair ≡ (if new then pair ∷ [] else [])
newer_is true pair = refl
newer_is false pair = refl

-- a taken pair is kept if the test says so
pub taken_once : (new first : Bool) (before : ℕ) (old now : List Numbered) (pair : Numbered)
    → now ≡ old ++ pair ∷ []
    → first ≡ (length (each_once old) == 0) → Rises 0 old → before ≡ last_from 0 old → last_from 0 old ≤ pair.number
    → new ≡ (first || not (pair.number == before))
    → each_once now ≡ each_once old ++ (if new then pair ∷ [] else [])
taken_once new first before old now pair is empty rises last le test =
    let there : has_number pair.number old ≡ not new =
    is_used_id first old pair.number empty rises le ∙ ap (λ n. not (first || not (pair.number == n))) (sym last) ∙ ap not (sym test) in
    ap each_once is ∙ once_more old pair ∙ ap (λ b. each_once old ++ newer b pair) there ∙ ap (λ l. each_once old ++ l) (newer_is new pair)
