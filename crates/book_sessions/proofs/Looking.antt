-- What a look at one element of a list says of the list that it is the view of.
use Rattle.std.proofs.Common.{◌≡◌, ◌≤◌, ◌<◌, ◌∙◌, ℕ, List, Option, Some, None, length, get_or, slice_get, refl, sym, ap}
use Rattle.std.specs.Option.{IfNone}
use Rattle.std.proofs.lemmas.Option.{slice_get_past, slice_get_read}

pub found : {A B : Type 0} (f : Option A → B) (xs ys zs : List A) (i : ℕ) (a : A) (b : B) → xs ≡ ys → ys ≡ zs → i < length xs → a ≡ get_or xs i a → b ≡ f (Some a)
    → b ≡ f (slice_get zs i)
found f xs ys zs i a b p q within e r = r ∙ ap f (sym (slice_get_read xs (length xs) i a refl within e)) ∙ ap (λ l. f (slice_get l i)) (p ∙ q)

pub absent : {A B : Type 0} (f : Option A → B) (xs ys zs : List A) (i : ℕ) → xs ≡ ys → ys ≡ zs → length xs ≤ i → f None ≡ f (slice_get zs i)
absent f xs ys zs i p q past = ap f (sym (slice_get_past xs i past)) ∙ ap (λ l. f (slice_get l i)) (p ∙ q)

pub IfNone-weaker : {A P Q : Type 0} (o : Option A) → (P → Q) → IfNone o P → IfNone o Q
IfNone-weaker None weaker p = weaker p
IfNone-weaker (Some x) weaker p = tt
