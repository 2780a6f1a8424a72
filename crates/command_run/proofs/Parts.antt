-- The parts of an answer, written one after the other.
use Rattle.std.proofs.Common.{◌≡◌, ◌<◌, ◌+◌, ℕ, List, [], ◌∷◌, ◌++◌, Option, ap, append_assoc, append-nil, drop, get_or, length, map, refl, sym, take, ◌∙◌, subst}
use Rattle.std.proofs.lemmas.List.{map-append, map_more, take-append-drop}
use Rattle.std.specs.List.{concat}
use Rattle.gps_outside.specs.Told.{Goes, Appends, AppendsPart}
use Rattle.gps_outside.proofs.Writing.{appends_on, part_longer, part_on}

concat_on : (parts more : List (List ℕ)) → concat (parts ++ more) ≡ concat parts ++ concat more
concat_on [] more = refl
concat_on (part ∷ parts) more = ap (λ text. part ++ text) (concat_on parts more) ∙ sym (append_assoc part (concat parts) (concat more))

concat_one : (parts : List (List ℕ)) (part : List ℕ) → concat (parts ++ part ∷ []) ≡ concat parts ++ part
concat_one parts part = concat_on parts (part ∷ []) ∙ ap (λ text. concat parts ++ text) (append-nil part)

-- one part more
pub with_part : (parts : List (List ℕ)) (part : List ℕ) (before now after : Option (List ℕ))
    → Goes (Appends (concat parts)) before now → Goes (Appends part) now after → Goes (Appends (concat (parts ++ part ∷ []))) before after
with_part parts part before now after wrote next =
    subst (λ text. Goes (Appends text) before after) (sym (concat_one parts part)) (appends_on (concat parts) part before now after wrote next)

-- a prefix of the next part, and so of them all
pub broken : (parts : List (List ℕ)) (part : List ℕ) (rest all : List (List ℕ)) (before now after : Option (List ℕ))
    → all ≡ parts ++ part ∷ rest
    → Goes (Appends (concat parts)) before now → Goes (AppendsPart part) now after → Goes (AppendsPart (concat all)) before after
broken parts part rest all before now after are wrote next =
    let whole : concat all ≡ (concat parts ++ part) ++ concat rest =
    ap concat are ∙ concat_on parts (part ∷ rest) ∙ sym (append_assoc (concat parts) part (concat rest)) in
    subst (λ text. Goes (AppendsPart text) before after) (sym whole)
    (part_longer (concat parts ++ part) (concat rest) before after (part_on (concat parts) part before now after wrote next))

-- the same of the first parts of a list, where the next one has this text
pub more : {P : Type 0} (f : P → List ℕ) (parts : List P) (i : ℕ) (d : P) (text : List ℕ) (before now after : Option (List ℕ))
    → i < length parts → text ≡ f (get_or parts i d) → Goes (Appends (concat (map f (take i parts)))) before now → Goes (Appends text) now after
    → Goes (Appends (concat (map f (take (i + 1) parts)))) before after
more f parts i d text before now after within is wrote next =
    let step : map f (take (i + 1) parts) ≡ map f (take i parts) ++ text ∷ [] =
    map_more f parts i d within ∙ ap (λ t. map f (take i parts) ++ t ∷ []) (sym is) in
    subst (λ ts. Goes (Appends (concat ts)) before after) (sym step) (with_part (map f (take i parts)) text before now after wrote next)

pub stopped : {P : Type 0} (f : P → List ℕ) (parts : List P) (i : ℕ) (d : P) (text : List ℕ) (before now after : Option (List ℕ))
    → i < length parts → text ≡ f (get_or parts i d) → Goes (Appends (concat (map f (take i parts)))) before now → Goes (AppendsPart text) now after
    → Goes (AppendsPart (concat (map f parts))) before after
stopped f parts i d text before now after within is wrote next =
    let split : map f parts ≡ map f (take i parts) ++ text ∷ map f (drop (i + 1) parts) =
    ap (map f) (sym (take-append-drop (i + 1) parts)) ∙ map-append f (take (i + 1) parts) (drop (i + 1) parts)
    ∙ ap (λ ts. ts ++ map f (drop (i + 1) parts)) (map_more f parts i d within ∙ ap (λ t. map f (take i parts) ++ t ∷ []) (sym is))
    ∙ append_assoc (map f (take i parts)) (text ∷ []) (map f (drop (i + 1) parts)) in
    broken (map f (take i parts)) text (map f (drop (i + 1) parts)) (map f parts) before now after split wrote next
