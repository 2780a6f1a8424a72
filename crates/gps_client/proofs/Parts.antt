-- Members, optional members, objects and lists are read exactly if their values are.
use Rattle.std.proofs.Common.{◌≡◌, ℕ, zero, suc, ◌<◌, true, List, [], ◌∷◌, ◌++◌, Option, Some, None, refl, sym, ap, ◌∙◌, subst, append_assoc, length, length-append, arith, IfSome, codes}
use Rattle.std.specs.List.{AllByRecursion, flat_map, list_all}
use Rattle.std.proofs.lemmas.Bool.{and_parts}
use Rattle.std.proofs.lemmas.List.Concat.{flat_map-cons}
use Rattle.json_line.specs.Json.{array, behind_commas, separated}
use Rattle.gps_client.specs.Reading.{Reading, ◌>>=◌, behind, labelled, labelled_if, optional, ended, items_at, next_at, list_at, list_from, more_at}
use Rattle.gps_client.proofs.Loops.{beside, consed}
use Rattle.gps_client.proofs.Rows.{IsPart, IsRow, IsWhole, After, is_end, part, all_part, after_label, bind_some, pair_same, behind_sound, behind_full}

abbrev pub Begins : List ℕ → Type 0
Begins label = (t : List ℕ) → is_end (label ++ t) ≡ true

-- a value after its label
labelled_sound : {X : Type 0} (R : X → Type 0) (text : X → List ℕ) (value : Reading X) (label : List ℕ)
    → ((b : List ℕ) (x : X) (rest : List ℕ) → value b ≡ Some (x, rest) → R x × (b ≡ text x ++ rest))
    → (b : List ℕ) (x : X) (rest : List ℕ) → labelled label value b ≡ Some (x, rest) → R x × (b ≡ (label ++ text x) ++ rest)
labelled_sound R text value label sound b x rest e =
    let a = bind_some (behind label b) value (x, rest) e in
    let g = sound a.0 x rest a.2 in
    (g.0, behind_sound label b a.0 a.1 ∙ (ap (λ z. label ++ z) g.1 ∙ sym (append_assoc label (text x) rest)))

labelled_full : {X : Type 0} (text : X → List ℕ) (value : Reading X) (label : List ℕ) (x : X) (rest : List ℕ) → value (text x ++ rest) ≡ Some (x, rest) → labelled label value ((label ++ text x) ++ rest) ≡ Some (x, rest)
labelled_full text value label x rest e =
    ap (labelled label value) (append_assoc label (text x) rest)
    ∙ (ap (λ (o : Option (List ℕ)). o >>= λ t. value t) (behind_full label (text x ++ rest)) ∙ e)

pub row_labelled : {X : Type 0} {labels : List (List ℕ)} {R : X → Type 0} {text : X → List ℕ} {value : Reading X} (label : List ℕ) → Begins label → IsPart labels R text value
    → IsRow (label ∷ labels) R (λ x. label ++ text x) (labelled label value)
row_labelled {X} {labels} {R} {text} {value} label begins is = record {
  is_part = record {
    sound = labelled_sound R text value label is.sound;
    full = λ x rest r after. labelled_full text value label x rest (is.full x rest r (after.0, after.1.1));
  };
  keeps = λ others away x rest r after.
      subst (After others) (sym (append_assoc label (text x) rest))
      (after_label others label (text x ++ rest) (and_parts (list_all (λ l. part l label) others) (all_part others labels) away).0 (begins (text x ++ rest)));
}

-- a value after its label, or nothing
abbrev pub optional_text : {X : Type 0} → List ℕ → (X → List ℕ) → Option X → List ℕ
optional_text label text None = []
optional_text label text (Some x) = label ++ text x

pub row_optional : {X : Type 0} {labels : List (List ℕ)} {R : X → Type 0} {text : X → List ℕ} {value : Reading X} (label : List ℕ) → Begins label → IsPart labels R text value
    → IsRow (label ∷ labels) (λ (o : Option X). IfSome o R) (optional_text label text) (labelled_if label value)
row_optional {X} {labels} {R} {text} {value} label begins is = record { is_part = record { sound = sound; full = full }; keeps = keeps }
  where
    by_label : (o : Option (List ℕ)) (b : List ℕ) (x : Option X) (rest : List ℕ) → behind label b ≡ o → optional o value b ≡ Some (x, rest) → IfSome x R × (b ≡ optional_text label text x ++ rest)
    by_label None b x rest head e =
        let same = pair_same None x b rest e in
        subst (λ q. IfSome q R × (b ≡ optional_text label text q ++ rest)) same.0 (tt, same.1)
    by_label (Some after) b x rest head e =
        let a = bind_some (value after) (λ y. Some (Some y.0, y.1)) (x, rest) e in
        let same = pair_same (Some a.0.0) x a.0.1 rest a.2 in
        let g = is.sound after a.0.0 a.0.1 a.1 in
        let whole : b ≡ (label ++ text a.0.0) ++ a.0.1 = behind_sound label b after head ∙ (ap (λ z. label ++ z) g.1 ∙ sym (append_assoc label (text a.0.0) a.0.1)) in
        subst (λ q. IfSome q R × (b ≡ optional_text label text q ++ rest)) same.0 (g.0, whole ∙ ap (λ z. (label ++ text a.0.0) ++ z) same.1)

    sound : (b : List ℕ) (x : Option X) (rest : List ℕ) → labelled_if label value b ≡ Some (x, rest) → IfSome x R × (b ≡ optional_text label text x ++ rest)
    sound b x rest e = by_label (behind label b) b x rest refl e

    full : (x : Option X) (rest : List ℕ) → IfSome x R → After (label ∷ labels) rest → labelled_if label value (optional_text label text x ++ rest) ≡ Some (x, rest)
    full None rest r after = ap (λ o. optional o value rest) after.1.0
    full (Some x) rest r after =
        ap (labelled_if label value) (append_assoc label (text x) rest)
        ∙ (ap (λ o. optional o value (label ++ (text x ++ rest))) (behind_full label (text x ++ rest))
        ∙ ap (λ (o : Option (X × List ℕ)). o >>= λ y. Some (Some y.0, y.1)) (is.full x rest r (after.0, after.1.1)))

    keeps : (others : List (List ℕ)) → all_part others (label ∷ labels) ≡ true → (x : Option X) (rest : List ℕ) → IfSome x R → After others rest → After others (optional_text label text x ++ rest)
    keeps others away None rest r after = after
    keeps others away (Some x) rest r after =
        subst (After others) (sym (append_assoc label (text x) rest))
        (after_label others label (text x ++ rest) (and_parts (list_all (λ l. part l label) others) (all_part others labels) away).0 (begins (text x ++ rest)))

-- what has an end of its own may come before anything
ended_whole : {X : Type 0} (R : X → Type 0) (text : X → List ℕ) (read : Reading X) (end : List ℕ) → ((b : List ℕ) (x : X) (rest : List ℕ) → read b ≡ Some (x, rest) → R x × (b ≡ text x ++ rest))
    → ((x : X) (rest : List ℕ) → R x → read (text x ++ (end ++ rest)) ≡ Some (x, end ++ rest)) → IsWhole R (λ x. text x ++ end) (ended end read)
ended_whole {X} R text read end before behind_it = record { sound = sound; full = full }
  where
    sound : (b : List ℕ) (x : X) (rest : List ℕ) → ended end read b ≡ Some (x, rest) → R x × (b ≡ (text x ++ end) ++ rest)
    sound b x rest e =
        let a = bind_some (read b) (λ y. behind end y.1 >>= λ r. Some (y.0, r)) (x, rest) e in
        let c = bind_some (behind end a.0.1) (λ r. Some (a.0.0, r)) (x, rest) a.2 in
        let same = pair_same a.0.0 x c.0 rest c.2 in
        let g = before b a.0.0 a.0.1 a.1 in
        let whole : b ≡ (text a.0.0 ++ end) ++ c.0 = g.1 ∙ (ap (λ z. text a.0.0 ++ z) (behind_sound end a.0.1 c.0 c.1) ∙ sym (append_assoc (text a.0.0) end c.0)) in
        subst (λ q. R q × (b ≡ (text q ++ end) ++ rest)) same.0 (g.0, whole ∙ ap (λ z. (text a.0.0 ++ end) ++ z) same.1)

    full : (x : X) (rest : List ℕ) → R x → ended end read ((text x ++ end) ++ rest) ≡ Some (x, rest)
    full x rest r =
        ap (ended end read) (append_assoc (text x) end rest)
        ∙ (ap (λ (o : Option (X × List ℕ)). o >>= λ y. behind end y.1 >>= λ t. Some (y.0, t)) (behind_it x rest r)
        ∙ ap (λ (o : Option (List ℕ)). o >>= λ t. Some (x, t)) (behind_full end rest))

pub whole_ended : {X : Type 0} {labels : List (List ℕ)} {R : X → Type 0} {text : X → List ℕ} {read : Reading X} (end : List ℕ) → ((rest : List ℕ) → After labels (end ++ rest)) → IsPart labels R text read
    → IsWhole R (λ x. text x ++ end) (ended end read)
whole_ended {X} {labels} {R} {text} {read} end clear is = ended_whole R text read end is.sound (λ x rest r. is.full x (end ++ rest) r (clear rest))

pub whole_closed : {X : Type 0} {R : X → Type 0} {text : X → List ℕ} {read : Reading X} (end : List ℕ) → IsWhole R text read → IsWhole R (λ x. text x ++ end) (ended end read)
whole_closed {X} {R} {text} {read} end is = ended_whole R text read end is.sound (λ x rest r. is.full x (end ++ rest) r)

pub whole_labelled : {X : Type 0} {R : X → Type 0} {text : X → List ℕ} {read : Reading X} (label : List ℕ) → IsWhole R text read → IsWhole R (λ x. label ++ text x) (labelled label read)
whole_labelled {X} {R} {text} {read} label is = record {
  sound = labelled_sound R text read label is.sound;
  full = λ x rest r. labelled_full text read label x rest (is.full x rest r);
}

pub whole_as : {X : Type 0} {R S : X → Type 0} {t u : X → List ℕ} {r : Reading X} → ((x : X) → R x → S x) → ((x : X) → S x → R x) → ((x : X) → t x ≡ u x) → IsWhole R t r → IsWhole S u r
whole_as {X} {R} {S} {t} {u} {r} to from same is = record {
  sound = λ b x rest e. let g = is.sound b x rest e in (to x g.0, g.1 ∙ ap (λ z. z ++ rest) (same x));
  full = λ x rest s. ap (λ z. r (z ++ rest)) (sym (same x)) ∙ is.full x rest (from x s);
}

-- a list
commas-cons : {X : Type 0} (text : X → List ℕ) (x : X) (xs : List X) (rest : List ℕ) → behind_commas text (x ∷ xs) ++ rest ≡ codes "," ++ (text x ++ (behind_commas text xs ++ rest))
unfolding behind_commas
commas-cons text x xs rest =
    ap (λ z. z ++ rest) (flat_map-cons (λ y. codes "," ++ text y) x xs)
    ∙ (append_assoc (codes "," ++ text x) (flat_map (λ y. codes "," ++ text y) xs) rest
    ∙ append_assoc (codes ",") (text x) (flat_map (λ y. codes "," ++ text y) xs ++ rest))

commas-nil : {X : Type 0} (text : X → List ℕ) (rest : List ℕ) → behind_commas text [] ++ rest ≡ rest
unfolding behind_commas
commas-nil text rest = refl

-- the items after the first
abbrev AreItems : {X : Type 0} (R : X → Type 0) (text : X → List ℕ) → List ℕ → List X → List ℕ → Type 0
AreItems R text b xs rest = AllByRecursion R xs × (b ≡ behind_commas text xs ++ (codes "]" ++ rest))

module _ {X : Type 0} (R : X → Type 0) (text : X → List ℕ) (item : Reading X) (is : IsWhole R text item) where
  by_more : (b after : List ℕ) (y : X × List ℕ) (xs : List X) (rest : List ℕ) (r : Option (List X × List ℕ)) → behind (codes ",") b ≡ Some after → item after ≡ Some y
      → ((zs : List X) (t : List ℕ) → r ≡ Some (zs, t) → AreItems R text y.1 zs t) → consed (beside y.0 r) ≡ Some (xs, rest) → AreItems R text b xs rest
  by_more b after y xs rest None head first ih e = absurd cc
  by_more b after y xs rest (Some z) head first ih e =
      let same = pair_same (y.0 ∷ z.0) xs z.1 rest e in
      let one = is.sound after y.0 y.1 first in
      let more = ih z.0 z.1 refl in
      let whole : b ≡ behind_commas text (y.0 ∷ z.0) ++ (codes "]" ++ z.1) =
      behind_sound (codes ",") b after head ∙ (ap (λ t. codes "," ++ t) (one.1 ∙ ap (λ t. text y.0 ++ t) more.1) ∙ sym (commas-cons text y.0 z.0 (codes "]" ++ z.1))) in
      subst (λ q. AreItems R text b q rest) same.0 ((one.0, more.0), whole ∙ ap (λ t. behind_commas text (y.0 ∷ z.0) ++ (codes "]" ++ t)) same.1)

  by_item : (n : ℕ) (b after : List ℕ) (xs : List X) (rest : List ℕ) (r : Option (X × List ℕ)) → behind (codes ",") b ≡ Some after → item after ≡ r
      → ((c : List ℕ) (zs : List X) (t : List ℕ) → items_at n item c ≡ Some (zs, t) → AreItems R text c zs t) → consed (r >>= λ y. beside y.0 (items_at n item y.1)) ≡ Some (xs, rest) → AreItems R text b xs rest
  by_item n b after xs rest None head first ih e = absurd cc
  by_item n b after xs rest (Some y) head first ih e = by_more b after y xs rest (items_at n item y.1) head first (ih y.1) e

  by_comma : (n : ℕ) (b : List ℕ) (xs : List X) (rest : List ℕ) (o : Option (List ℕ)) → behind (codes ",") b ≡ o
      → ((c : List ℕ) (zs : List X) (t : List ℕ) → items_at n item c ≡ Some (zs, t) → AreItems R text c zs t) → next_at o item (items_at n item) b ≡ Some (xs, rest) → AreItems R text b xs rest
  by_comma n b xs rest None head ih e =
      let a = bind_some (behind (codes "]") b) (λ t. Some ([], t)) (xs, rest) e in
      let same = pair_same [] xs a.0 rest a.2 in
      subst (λ q. AreItems R text b q rest) same.0
      (tt, behind_sound (codes "]") b a.0 a.1 ∙ (ap (λ t. codes "]" ++ t) same.1 ∙ sym (commas-nil text (codes "]" ++ rest))))
  by_comma n b xs rest (Some after) head ih e = by_item n b after xs rest (item after) head refl ih e

  items_sound : (n : ℕ) (b : List ℕ) (xs : List X) (rest : List ℕ) → items_at n item b ≡ Some (xs, rest) → AreItems R text b xs rest
  items_sound zero b xs rest e = absurd cc
  items_sound (suc n) b xs rest e = by_comma n b xs rest (behind (codes ",") b) refl (λ c zs t h. items_sound n c zs t h) e

  no_comma : (rest : List ℕ) → behind (codes ",") (codes "]" ++ rest) ≡ None
  unfolding behind
  no_comma rest = refl

  no_bracket : (b : List ℕ) → behind (codes "]") (codes "," ++ b) ≡ None
  unfolding behind
  no_bracket b = refl

  items_full : (n : ℕ) (xs : List X) (rest : List ℕ) → AllByRecursion R xs → length xs < n → items_at n item (behind_commas text xs ++ (codes "]" ++ rest)) ≡ Some (xs, rest)
  items_full zero xs rest r few = absurd (omega (arith, few))
  items_full (suc n) [] rest r few =
      ap (items_at (suc n) item) (commas-nil text (codes "]" ++ rest))
      ∙ (ap (λ o. next_at o item (items_at n item) (codes "]" ++ rest)) (no_comma rest)
      ∙ ap (λ (o : Option (List ℕ)). o >>= λ t. Some ([], t)) (behind_full (codes "]") rest))
  items_full (suc n) (x ∷ xs) rest r few =
      let tail : List ℕ = behind_commas text xs ++ (codes "]" ++ rest) in
      ap (items_at (suc n) item) (commas-cons text x xs (codes "]" ++ rest))
      ∙ (ap (λ o. next_at o item (items_at n item) (codes "," ++ (text x ++ tail))) (behind_full (codes ",") (text x ++ tail))
      ∙ (ap (λ (o : Option (X × List ℕ)). consed (o >>= λ y. beside y.0 (items_at n item y.1))) (is.full x tail r.0)
      ∙ ap (λ (o : Option (List X × List ℕ)). consed (beside x o)) (items_full n xs rest r.1 (omega (arith, few)))))

  -- each item has a byte at least
  room : (xs : List X) (rest : List ℕ) → length xs < length (behind_commas text xs ++ (codes "]" ++ rest))
  room [] rest = let e : length (behind_commas text [] ++ (codes "]" ++ rest)) ≡ length (codes "]" ++ rest) = ap length (commas-nil text (codes "]" ++ rest)) in omega (arith, e)
  room (x ∷ xs) rest =
      let e : length (behind_commas text (x ∷ xs) ++ (codes "]" ++ rest)) ≡ length (codes "," ++ (text x ++ (behind_commas text xs ++ (codes "]" ++ rest)))) = ap length (commas-cons text x xs (codes "]" ++ rest)) in
      omega (arith, e, room xs rest, length-append (text x) (behind_commas text xs ++ (codes "]" ++ rest)))

  array-nil : (rest : List ℕ) → array text [] ++ rest ≡ codes "[" ++ (codes "]" ++ rest)
  unfolding array separated
  array-nil rest = refl

  array-cons : (x : X) (xs : List X) (rest : List ℕ) → array text (x ∷ xs) ++ rest ≡ codes "[" ++ (text x ++ (behind_commas text xs ++ (codes "]" ++ rest)))
  unfolding array separated
  array-cons x xs rest =
      append_assoc (codes "[" ++ (text x ++ behind_commas text xs)) (codes "]") rest
      ∙ (append_assoc (codes "[") (text x ++ behind_commas text xs) (codes "]" ++ rest)
      ∙ ap (λ t. codes "[" ++ t) (append_assoc (text x) (behind_commas text xs) (codes "]" ++ rest)))

  from_bracket : (b after : List ℕ) (xs : List X) (rest : List ℕ) (o : Option (List ℕ)) → b ≡ codes "[" ++ after → behind (codes "]") after ≡ o → list_from o item after ≡ Some (xs, rest) → AllByRecursion R xs × (b ≡ array text xs ++ rest)
  from_bracket b after xs rest (Some end) head bracket e =
      let same = pair_same [] xs end rest e in
      subst (λ q. AllByRecursion R q × (b ≡ array text q ++ rest)) same.0
      (tt, head ∙ (ap (λ t. codes "[" ++ t) (behind_sound (codes "]") after end bracket ∙ ap (λ t. codes "]" ++ t) same.1) ∙ sym (array-nil rest)))
  from_bracket b after xs rest None head bracket e =
      let a = bind_some (item after) (λ y. more_at y.0 (items_at (length y.1) item y.1)) (xs, rest) e in
      let c = bind_some (items_at (length a.0.1) item a.0.1) (λ p. Some (a.0.0 ∷ p.0, p.1)) (xs, rest) a.2 in
      let same = pair_same (a.0.0 ∷ c.0.0) xs c.0.1 rest c.2 in
      let one = is.sound after a.0.0 a.0.1 a.1 in
      let more = items_sound (length a.0.1) a.0.1 c.0.0 c.0.1 c.1 in
      let whole : b ≡ array text (a.0.0 ∷ c.0.0) ++ c.0.1 = head ∙ (ap (λ t. codes "[" ++ t) (one.1 ∙ ap (λ t. text a.0.0 ++ t) more.1) ∙ sym (array-cons a.0.0 c.0.0 c.0.1)) in
      subst (λ q. AllByRecursion R q × (b ≡ array text q ++ rest)) same.0 ((one.0, more.0), whole ∙ ap (λ t. array text (a.0.0 ∷ c.0.0) ++ t) same.1)

  list_sound : (b : List ℕ) (xs : List X) (rest : List ℕ) → list_at item b ≡ Some (xs, rest) → AllByRecursion R xs × (b ≡ array text xs ++ rest)
  unfolding list_at
  list_sound b xs rest e =
      let a = bind_some (behind (codes "[") b) (λ t. list_from (behind (codes "]") t) item t) (xs, rest) e in
      from_bracket b a.0 xs rest (behind (codes "]") a.0) (behind_sound (codes "[") b a.0 a.1) refl a.2

  -- an item begins with another byte than the bracket
  list_full : ((x : X) (rest : List ℕ) → R x → behind (codes "]") (text x ++ rest) ≡ None) → (xs : List X) (rest : List ℕ) → AllByRecursion R xs → list_at item (array text xs ++ rest) ≡ Some (xs, rest)
  unfolding list_at
  list_full other [] rest r =
      ap (list_at item) (array-nil rest)
      ∙ (ap (λ (o : Option (List ℕ)). o >>= λ t. list_from (behind (codes "]") t) item t) (behind_full (codes "[") (codes "]" ++ rest))
      ∙ ap (λ o. list_from o item (codes "]" ++ rest)) (behind_full (codes "]") rest))
  list_full other (x ∷ xs) rest r =
      let tail : List ℕ = behind_commas text xs ++ (codes "]" ++ rest) in
      ap (list_at item) (array-cons x xs rest)
      ∙ (ap (λ (o : Option (List ℕ)). o >>= λ t. list_from (behind (codes "]") t) item t) (behind_full (codes "[") (text x ++ tail))
      ∙ (ap (λ o. list_from o item (text x ++ tail)) (other x tail r.0)
      ∙ (ap (λ (o : Option (X × List ℕ)). o >>= λ y. more_at y.0 (items_at (length y.1) item y.1)) (is.full x tail r.0)
      ∙ ap (λ (o : Option (List X × List ℕ)). more_at x o) (items_full (length tail) xs rest r.1 (room xs rest)))))

  pub whole_list : ((x : X) (rest : List ℕ) → R x → behind (codes "]") (text x ++ rest) ≡ None) → IsWhole (AllByRecursion R) (array text) (list_at item)
  whole_list other = record { sound = list_sound; full = list_full other }
