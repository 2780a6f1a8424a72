-- Sources that hold what was at their places, opened one after another.
use Rattle.std.proofs.Common.{rules, ◌≡◌, ◌≢◌, ◌⊎◌, inl, inr, ℕ, ◌≤◌, ◌+◌, ◌==◌, true, false, Bool, cond, if◌then◌else◌, List, [], ◌∷◌, ◌++◌, map, Option, Some, None, is_some, length, refl, sym, ◌∙◌, ap, subst, append_assoc, arith}
use Rattle.std.specs.List.{AllByRecursion, AllZip}
use Rattle.std.proofs.lemmas.Bool.{eqb-true}
use Rattle.std.proofs.lemmas.List.{append-nil, map-append}
use Rattle.std.proofs.lemmas.List.Sums.{sum_by-append, sum_by-cons}
use Rattle.std.specs.Option.{option_to_list}
use Rattle.std.specs.Cmp.Lexicographic.{nat_list_eq_equiv}
use Rattle.std.proofs.lemmas.Slice.Zip.{all_zipped_more}
use Rattle.gps_outside.specs.Told.{Stream}
use Rattle.gps_world.specs.Opening.{IsAllLeft}
use Rattle.gps_world.specs.Places.{same_place}
use Rattle.gps_world.specs.declared.place.Place.{Place}
use Rattle.gps_world.specs.declared.place.Place.TheVariants.{File, Tcp, Gpsd}
use Rattle.gps_world.specs.OpenInOrder.{HasOneMore, IsEdgeHeld, IsHeld, IsNoneOf, IsOpening, IsOpeningEdges, IsOpeningInputs, behind_once, places_in, times_given}
use Rattle.gps_world.proofs.Asking.{no_more, places_in_step}

-- ---- how often a place is given

same_itself : (place : Place) → same_place place place ≡ true
same_itself (File path) = nat_list_eq_equiv.refl path
same_itself (Tcp address) = nat_list_eq_equiv.refl address
same_itself (Gpsd address) = nat_list_eq_equiv.refl address

-- of two rows whose elements all are so
module _ {A : Type 0} where
  all_front : (P : A → Type 0) (front back : List A) → AllByRecursion P (front ++ back) → AllByRecursion P front
  all_front P [] back all = tt
  all_front P (a ∷ front) back all = (all.0, all_front P front back all.1)

  all_back : (P : A → Type 0) (front back : List A) → AllByRecursion P (front ++ back) → AllByRecursion P back
  all_back P [] back all = all
  all_back P (a ∷ front) back all = all_back P front back all.1

  all_with : (P Q R : A → Type 0) → ((a : A) → P a → Q a → R a) → (row : List A) → AllByRecursion P row → AllByRecursion Q row → AllByRecursion R row
  all_with P Q R so [] p q = tt
  all_with P Q R so (a ∷ rest) p q = (so a p.0 q.0, all_with P Q R so rest p.1 q.1)

  all_so : (P : A → Type 0) → ((a : A) → P a) → (row : List A) → AllByRecursion P row
  all_so P so [] = tt
  all_so P so (a ∷ rest) = (so a, all_so P so rest)

  all_weaker : (P Q : A → Type 0) → ((a : A) → P a → Q a) → (row : List A) → AllByRecursion P row → AllByRecursion Q row
  all_weaker P Q so row p = all_with P P Q (λ a one two. so a one) row p p

times_cons : (p place : Place) (places : List Place) → times_given p (place ∷ places) ≡ cond (same_place p place) 1 0 + times_given p places
times_cons p place places = sum_by-cons (λ (x : Place). cond (same_place p x) 1 0) place places

times_joined : (p : Place) (front back : List Place) → times_given p (front ++ back) ≡ times_given p front + times_given p back
times_joined p front back = sum_by-append (λ (x : Place). cond (same_place p x) 1 0) front back

-- each of these is given
all_given : (places : List Place) → AllByRecursion (λ p. 1 ≤ times_given p places) places
all_given [] = tt
all_given (place ∷ places) =
    let here : ℕ = cond (same_place place place) 1 0 in
    let count : Bool → ℕ = λ b. cond b 1 0 in
    let one : here ≡ 1 = ap count (same_itself place) in
    let first : 1 ≤ times_given place (place ∷ places) = omega (arith, one, times_cons place place places) in (
      first,
      all_weaker (λ p. 1 ≤ times_given p places) (λ p. 1 ≤ times_given p (place ∷ places))
          (λ p some. omega (arith, some, times_cons p place places)) places (all_given places),
    )

none_of : (p : Place) (places : List Place) → times_given p places ≡ 0 → IsNoneOf p places
none_of p [] none = tt
none_of p (place ∷ places) none = (
  λ (is : p ≡ place).
      let here : ℕ = cond (same_place p place) 1 0 in
      let count : Bool → ℕ = λ b. cond b 1 0 in
      let one : here ≡ 1 = ap (λ (x : Place). count (same_place p x)) (sym is) ∙ ap count (same_itself p) in
      absurd (omega (arith, none, one, times_cons p place places)),
  none_of p places (omega (arith, none, times_cons p place places)),
)

-- nothing is known of the bytes of a place, or what was known before
abbrev LessTold : (one two : Place → Option (List ℕ)) → Place → Type 0
LessTold one two p = (two p ≡ None) ⊎ (two p ≡ one p)

told_once : (places : List Place) (behind mid : Place → Option (List ℕ)) (p : Place) → (times_given p places ≡ 1 → behind p ≡ mid p) → LessTold mid (behind_once places behind) p
told_once places behind mid p same = by (times_given p places == 1) refl
  where
    by : (b : Bool) → (times_given p places == 1) ≡ b → LessTold mid (behind_once places behind) p
    by true e = inr (ap (λ (b : Bool). if b then behind p else None) e ∙ same (eqb-true (times_given p places) 1 e))
    by false e = inl (ap (λ (b : Bool). if b then behind p else None) e)

is_once : (places : List Place) (behind : Place → Option (List ℕ)) (p : Place) → times_given p places ≡ 1 → behind_once places behind p ≡ behind p
is_once places behind p one = ap (λ (n : ℕ). if n == 1 then behind p else None) one

-- of some in the midst, if those in front alone were opened
told_here : (front own back : List Place) (behind mid : Place → Option (List ℕ)) → ((other : Place) → IsNoneOf other front → mid other ≡ behind other)
    → AllByRecursion (LessTold mid (behind_once (front ++ (own ++ back)) behind)) own
told_here front own back behind mid others =
    all_weaker (λ p. 1 ≤ times_given p own) (LessTold mid (behind_once (front ++ (own ++ back)) behind))
    (λ p some. told_once (front ++ (own ++ back)) behind mid p
    (λ one. sym (others p (none_of p front (omega (arith, one, some, times_joined p front (own ++ back), times_joined p own back))))))
    own (all_given own)

-- of those in front
told_front : (front back : List Place) (behind : Place → Option (List ℕ)) → AllByRecursion (LessTold (behind_once front behind) (behind_once (front ++ back) behind)) front
told_front front back behind =
    all_weaker (λ p. 1 ≤ times_given p front) (LessTold (behind_once front behind) (behind_once (front ++ back) behind))
    (λ p some. told_once (front ++ back) behind (behind_once front behind) p
    (λ one. sym (is_once front behind p (omega (arith, one, some, times_joined p front back)))))
    front (all_given front)

-- of those that follow, if those in front alone were opened
told_back : (front back : List Place) (behind mid : Place → Option (List ℕ)) → ((other : Place) → IsNoneOf other front → mid other ≡ behind other)
    → AllByRecursion (LessTold (behind_once back mid) (behind_once (front ++ back) behind)) back
told_back front back behind mid others =
    all_weaker (λ p. 1 ≤ times_given p back) (LessTold (behind_once back mid) (behind_once (front ++ back) behind))
    (λ p some. told_once (front ++ back) behind (behind_once back mid) p
    (λ one. sym (others p (none_of p front (omega (arith, one, some, times_joined p front back))))
    ∙ sym (is_once back mid p (omega (arith, one, some, times_joined p front back)))))
    back (all_given back)

-- ---- one more

-- R is what the sources of such rows are, and own the places of one of them
module _ {A X : Type 0} (places_of : List A → List Place) (own : A → List Place)
    (empty : places_of [] ≡ []) (step : (a : A) (left : List A) → places_of (a ∷ left) ≡ own a ++ places_of left)
    (R : (Place → Option (List ℕ)) → A → X → Type 0)
    (carry : (one two : Place → Option (List ℕ)) (a : A) (x : X) → AllByRecursion (LessTold one two) (own a) → R one a x → R two a x) where
  joined : (front back : List A) → places_of (front ++ back) ≡ places_of front ++ places_of back
  joined [] back = ap (λ l. l ++ places_of back) (sym empty)
  joined (a ∷ front) back =
      step a (front ++ back) ∙ ap (λ l. own a ++ l) (joined front back) ∙ sym (append_assoc (own a) (places_of front) (places_of back))
      ∙ ap (λ l. l ++ places_of back) (sym (step a front))

  places_here : (done left : List A) (a : A) → places_of (done ++ a ∷ left) ≡ places_of done ++ (own a ++ places_of left)
  places_here done left a = joined done (a ∷ left) ∙ ap (λ l. places_of done ++ l) (step a left)

  opens_more : (behind mid new : Place → Option (List ℕ)) (given now left : List A) (a : A) (sources sources' : List X)
      → now ≡ a ∷ left → IsOpening places_of (R (behind_once (places_of given) behind)) behind mid given now sources
      → ((other : Place) → IsNoneOf other (own a) → new other ≡ mid other)
      → HasOneMore (R mid a) sources sources'
      → IsOpening places_of (R (behind_once (places_of given) behind)) behind new given left sources'
  opens_more behind mid new given now left a sources sources' is so others gains =
      let once = behind_once (places_of given) behind in
      let all : so.done ++ a ∷ left ≡ given = ap (λ l. so.done ++ l) (sym is) ∙ so.all in
      let places : places_of given ≡ places_of so.done ++ (own a ++ places_of left) = ap places_of (sym all) ∙ places_here so.done left a in
      let less : AllByRecursion (LessTold mid once) (own a) =
      subst (λ l. AllByRecursion (LessTold mid (behind_once l behind)) (own a)) (sym places) (told_here (places_of so.done) (own a) (places_of left) behind mid so.others) in
      record {
        done = so.done ++ a ∷ [];
        all = append_assoc so.done (a ∷ []) left ∙ all;
        others = λ other none.
            let both : IsNoneOf other (places_of so.done ++ (own a ++ places_of [])) = subst (IsNoneOf other) (places_here so.done [] a) none in
            others other (all_front (λ place. other ≢ place) (own a) (places_of []) (all_back (λ place. other ≢ place) (places_of so.done) (own a ++ places_of []) both))
            ∙ so.others other (all_front (λ place. other ≢ place) (places_of so.done) (own a ++ places_of []) both);
        held = subst (AllZip (R once) (so.done ++ a ∷ [])) (sym gains.1)
            (all_zipped_more (R once) so.done sources a gains.0 so.held (carry mid once a gains.0 less gains.2));
      }

  -- what is known of their places was known before
  zip_carry : (one two : Place → Option (List ℕ)) (row : List A) (xs : List X)
      → AllByRecursion (LessTold one two) (places_of row) → AllZip (R one) row xs → AllZip (R two) row xs
  zip_carry one two [] [] less zip = tt
  zip_carry one two [] (x ∷ xs) less zip = zip
  zip_carry one two (a ∷ rest) [] less zip = zip
  zip_carry one two (a ∷ rest) (x ∷ xs) less zip =
      let both = subst (AllByRecursion (LessTold one two)) (step a rest) less in (
        carry one two a x (all_front (LessTold one two) (own a) (places_of rest) both) zip.0,
        zip_carry one two rest xs (all_back (LessTold one two) (own a) (places_of rest) both) zip.1,
      )

-- ---- the inputs, and the edges

module _ {S : Type 0} (content : S → Option Stream) where
  input_carry : (one two : Place → Option (List ℕ)) (place : Place) (source : S)
      → AllByRecursion (LessTold one two) (place ∷ []) → IsHeld one content place source → IsHeld two content place source
  input_carry one two place source (inl none, more) held = subst (λ bytes. IsAllLeft bytes (content source)) (sym none) tt
  input_carry one two place source (inr same, more) held = subst (λ bytes. IsAllLeft bytes (content source)) (sym same) held

  edge_carry : (one two : Place → Option (List ℕ)) (place : Option Place) (source : Option S)
      → AllByRecursion (LessTold one two) (option_to_list place) → IsEdgeHeld one content place source → IsEdgeHeld two content place source
  edge_carry one two None None same held = tt
  edge_carry one two None (Some source) same held = held
  edge_carry one two (Some place) None same held = held
  edge_carry one two (Some place) (Some source) same held = input_carry one two place source same held

  pub input_more : {behind mid new : Place → Option (List ℕ)} {given now left : List Place} {place : Place} {sources sources' : List S}
      → now ≡ place ∷ left → IsOpeningInputs behind mid content given now sources
      → ((other : Place) → other ≢ place → new other ≡ mid other) → HasOneMore (IsHeld mid content place) sources sources'
      → IsOpeningInputs behind new content given left sources'
  input_more {behind} {mid} {new} {given} {now} {left} {place} {sources} {sources'} is so others gains =
      opens_more (λ (places : List Place). places) (λ place. place ∷ []) refl (λ place left. refl) (λ behind. IsHeld behind content) input_carry
      behind mid new given now left place sources sources' is so (λ other none. others other none.0) gains

  pub edge_more : {behind mid new : Place → Option (List ℕ)} {given now left : List (Option Place)} {place : Option Place} {sources sources' : List (Option S)}
      → now ≡ place ∷ left → IsOpeningEdges behind mid content given now sources
      → ((other : Place) → IsNoneOf other (option_to_list place) → new other ≡ mid other) → HasOneMore (IsEdgeHeld mid content place) sources sources'
      → IsOpeningEdges behind new content given left sources'
  edge_more {behind} {mid} {new} {given} {now} {left} {place} {sources} {sources'} is so others gains =
      opens_more places_in option_to_list refl places_in_step (λ behind. IsEdgeHeld behind content) edge_carry
      behind mid new given now left place sources sources' is so others gains

  pair_of : (behind : Place → Option (List ℕ)) (place : Option Place) (source : Option S) → IsEdgeHeld behind content place source → is_some source ≡ is_some place
  pair_of behind None None held = refl
  pair_of behind None (Some source) held = absurd held
  pair_of behind (Some place) None held = absurd held
  pair_of behind (Some place) (Some source) held = refl

  -- a source for each place
  pub pairs_more : (mid : Place → Option (List ℕ)) (given now left : List (Option Place)) (place : Option Place) (sources sources' : List (Option S))
      → now ≡ place ∷ left → map is_some sources ++ map is_some now ≡ map is_some given → HasOneMore (IsEdgeHeld mid content place) sources sources'
      → map is_some sources' ++ map is_some left ≡ map is_some given
  pairs_more mid given now left place sources sources' is so gains =
      ap (λ l. map is_some l ++ map is_some left) gains.1 ∙ ap (λ l. l ++ map is_some left) (map-append is_some sources (gains.0 ∷ []))
      ∙ append_assoc (map is_some sources) (is_some gains.0 ∷ []) (map is_some left)
      ∙ ap (λ (b : Bool). map is_some sources ++ b ∷ map is_some left) (pair_of mid place gains.0 gains.2)
      ∙ ap (λ l. map is_some sources ++ map is_some l) (sym is) ∙ so

  -- first the inputs were opened, and then the places of edges
  pub inputs_held : (old : Place → Option (List ℕ)) (inputs : List Place) (edges : List (Option Place)) (sources : List S)
      → AllZip (IsHeld (behind_once inputs old) content) inputs sources → AllZip (IsHeld (behind_once (inputs ++ places_in edges) old) content) inputs sources
  inputs_held old inputs edges sources first =
      zip_carry (λ (places : List Place). places) (λ place. place ∷ []) refl (λ place left. refl) (λ behind. IsHeld behind content) input_carry
      (behind_once inputs old) (behind_once (inputs ++ places_in edges) old) inputs sources (told_front inputs (places_in edges) old) first

  pub edges_held : (old mid : Place → Option (List ℕ)) (inputs : List Place) (edges : List (Option Place)) (sources : List (Option S))
      → ((other : Place) → IsNoneOf other inputs → mid other ≡ old other)
      → AllZip (IsEdgeHeld (behind_once (places_in edges) mid) content) edges sources
      → AllZip (IsEdgeHeld (behind_once (inputs ++ places_in edges) old) content) edges sources
  edges_held old mid inputs edges sources others held =
      zip_carry places_in option_to_list refl places_in_step (λ behind. IsEdgeHeld behind content) edge_carry
      (behind_once (places_in edges) mid) (behind_once (inputs ++ places_in edges) old) edges sources (told_back inputs (places_in edges) old mid others) held

pub pairs_all : {S : Type 0} (sources : List (Option S)) (given now : List (Option Place)) → length now ≡ 0 → map is_some sources ++ map is_some now ≡ map is_some given
    → map is_some sources ≡ map is_some given
pairs_all sources given [] none so = sym (append-nil (map is_some sources)) ∙ so
pairs_all sources given (place ∷ now) none so = absurd cc

-- at the start nothing was opened, and at the end nothing is left
pub none_held : {A X : Type 0} {places_of : List A → List Place} {R : A → X → Type 0} {behind : Place → Option (List ℕ)} {given left : List A} {sources : List X}
    → left ≡ given → sources ≡ [] → IsOpening places_of R behind behind given left sources
none_held {A} {X} {places_of} {R} {behind} {given} {left} {sources} all none = record {
  done = [];
  all = all;
  others = λ other at. refl;
  held = (let P : List X → Type 0 = λ l. AllZip R [] l in subst P (sym none) (search rules));
}

all_done : {A : Type 0} (done left given : List A) → done ++ left ≡ given → length left ≡ 0 → done ≡ given
all_done done left given all none = sym (append-nil done) ∙ ap (λ l. done ++ l) (sym (no_more left none)) ∙ all

pub all_held : {A X : Type 0} {places_of : List A → List Place} {R : A → X → Type 0} {behind behind' : Place → Option (List ℕ)} {given left : List A} {sources : List X}
    → IsOpening places_of R behind behind' given left sources → length left ≡ 0 → AllZip R given sources
all_held {A} {X} {places_of} {R} {behind} {behind'} {given} {left} {sources} so none =
    let P : List A → Type 0 = λ l. AllZip R l sources in
    subst P (all_done so.done left given so.all none) so.held

pub others_stay : {A X : Type 0} {places_of : List A → List Place} {R : A → X → Type 0} {behind behind' : Place → Option (List ℕ)} {given left : List A} {sources : List X}
    → IsOpening places_of R behind behind' given left sources → length left ≡ 0 → (other : Place) → IsNoneOf other (places_of given) → behind' other ≡ behind other
others_stay {A} {X} {places_of} {R} {behind} {behind'} {given} {left} {sources} so none =
    let P : List A → Type 0 = λ l. (other : Place) → IsNoneOf other (places_of l) → behind' other ≡ behind other in
    subst P (all_done so.done left given so.all none) so.others
