-- The first and the last of joined lists.
use Rattle.std.proofs.Common.{◌≡◌, ◌<◌, ◌+◌, ℕ, refl, sym, ap, ◌∙◌, List, [], ◌∷◌, ◌++◌, append_assoc, length, take, slice_index_or, Option, Some, None}
use Rattle.std.specs.Option.{option_or}
use Rattle.std.proofs.lemmas.List.{map-append, take_more}
use Rattle.gps_report.specs.declared.report.Body.{Body}
use Rattle.book_log.specs.Readings.{first_of, last_of, of_device}

pub or_assoc : {X : Type 0} (a b c : Option X) → option_or (option_or a b) c ≡ option_or a (option_or b c)
or_assoc None b c = refl
or_assoc (Some x) b c = refl

pub or_none : {X : Type 0} (a : Option X) → option_or a None ≡ a
or_none None = refl
or_none (Some x) = refl

pub last_of-append : {X Y : Type 0} (f : X → Option Y) (xs ys : List X) → last_of f (xs ++ ys) ≡ option_or (last_of f ys) (last_of f xs)
last_of-append f [] ys = sym (or_none (last_of f ys))
last_of-append f (x ∷ xs) ys = ap (λ o. option_or o (f x)) (last_of-append f xs ys) ∙ or_assoc (last_of f ys) (last_of f xs) (f x)

pub last_more : {X Y : Type 0} (f : X → Option Y) (xs : List X) (x : X) → last_of f (xs ++ x ∷ []) ≡ option_or (f x) (last_of f xs)
last_more f xs x = last_of-append f xs (x ∷ [])

pub last_next : {X Y : Type 0} (f : X → Option Y) (xs : List X) (i : ℕ) (x : X) (last now : Option Y) → i < length xs → x ≡ slice_index_or xs i x
    → last ≡ last_of f (take i xs) → now ≡ option_or (f x) last → now ≡ last_of f (take (i + 1) xs)
last_next f xs i x last now within here before step =
    step ∙ ap (option_or (f x)) before
    ∙ ap (λ y. option_or (f y) (last_of f (take i xs))) here
    ∙ sym (last_more f (take i xs) (slice_index_or xs i x))
    ∙ sym (ap (last_of f) (take_more xs i x within))

pub first_of-append : {X Y : Type 0} (f : X → Option Y) (xs ys : List X) → first_of f (xs ++ ys) ≡ option_or (first_of f xs) (first_of f ys)
first_of-append f [] ys = refl
first_of-append f (x ∷ xs) ys = ap (option_or (f x)) (first_of-append f xs ys) ∙ sym (or_assoc (f x) (first_of f xs) (first_of f ys))

pub of_device-append : (d : ℕ) (xs ys : List Body) → of_device d (xs ++ ys) ≡ of_device d xs ++ of_device d ys
of_device-append d xs ys = map-append (λ body. record { device = d; body = body }) xs ys

pub of_device_more : (d : ℕ) (first : List Body) (xs : List Body) (x : Body) → of_device d (first ++ (xs ++ x ∷ [])) ≡ of_device d (first ++ xs) ++ record { device = d; body = x } ∷ []
of_device_more d first xs x = ap (of_device d) (sym (append_assoc first xs (x ∷ []))) ∙ of_device-append d (first ++ xs) (x ∷ [])
