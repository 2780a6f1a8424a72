-- A walk over some elements of a list, by their numbers: a step of the roster's own. No public clause names it.
use Rattle.std.specs.Prelude.{◌≡◌, ℕ, ◌+◌, Bool, false, List, [], ◌∷◌, slice_get, slice_index_or, slice_set, Option, Some, None, if◌then◌else◌}

-- the numbers, from n on, of the elements that pass
abbrev pub numbers : {A : Type 0} → (A → Bool) → ℕ → List A → List ℕ
numbers test n [] = []
numbers test n (x ∷ xs) = if test x then n ∷ numbers test (n + 1) xs else numbers test (n + 1) xs

-- each of the numbered elements, in order, has become another in this way
abbrev pub Walks : {A : Type 0} → (A → A → Type 0) → List ℕ → List A → List A → Type 0
Walks R [] old new = new ≡ old
Walks {A} R (n ∷ ns) old new = (next : A) × ((free : A) → R (slice_index_or old n free) next) × Walks R ns (slice_set old n next) new

-- A walk may come to each of the numbered elements, in order, whatever it has made of those before.
abbrev pub MayWalk : {A : Type 0} → (A → Type 0) → List ℕ → List A → Type 0
MayWalk May [] xs = Unit {0}
MayWalk {A} May (n ∷ ns) xs = ((free : A) → May (slice_index_or xs n free)) × ((next : A) → MayWalk May ns (slice_set xs n next))

abbrev pub passes_some : {A : Type 0} → (A → Bool) → Option A → Bool
passes_some test None = false
passes_some test (Some x) = test x

-- the element of this number is there and passes
abbrev pub passes_at : {A : Type 0} → (A → Bool) → List A → ℕ → Bool
passes_at test xs n = passes_some test (slice_get xs n)
