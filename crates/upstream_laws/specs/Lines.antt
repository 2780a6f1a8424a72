-- The head in words: which lines are in it, and when there is none. This project's own; the beginnings of the objects are those of
-- gpsd_json(5).
use Rattle.std.specs.Prelude.{◌≡◌, ◌≢◌, ◌≤◌, ◌⊎◌, ◌==◌, ℕ, Bool, true, not, List, [], ◌∷◌, ◌++◌, length}
use Rattle.std.specs.List.{AllByRecursion, concat, list_all}
use Rattle.json_line.specs.declared.names.Class.{Class}
use Rattle.json_line.specs.declared.names.Class.TheVariants as class
use Rattle.gps_client.specs.Texts.{Begins}
use Rattle.upstream_laws.specs.Head.{most}

-- no byte of the text ends a line
abbrev pub is_plain : List ℕ → Bool
is_plain text = list_all (λ byte. not (byte == 10)) text

-- a whole line, with its end, that begins as an object of this class
pub record IsLine (c : Class) (line : List ℕ) : Type 0 where
  pub text : List ℕ
  pub spelled : line ≡ text ++ 10 ∷ []
  pub begins : Begins c text
  pub plain : is_plain text ≡ true

-- a line of a class other than WATCH
pub record IsEarlier (line : List ℕ) : Type 0 where
  pub kind : Class
  pub is_line : IsLine kind line
  pub other : kind ≢ class.Watch

-- lines of other classes, and then one of WATCH
pub record IsHead (head : List ℕ) : Type 0 where
  pub earlier : List (List ℕ)
  pub last : List ℕ
  pub joined : head ≡ concat earlier ++ last
  pub others : AllByRecursion IsEarlier earlier
  pub watch : IsLine class.Watch last
  pub short : length head ≤ most

-- a head, and what follows it
pub record HasHead (bytes : List ℕ) : Type 0 where
  pub head : List ℕ
  pub rest : List ℕ
  pub joined : bytes ≡ head ++ rest
  pub is_head : IsHead head

-- no object of any class begins with these bytes
abbrev pub CannotBegin : List ℕ → Type 0
CannotBegin part = (c : Class) (rest : List ℕ) → Begins c (part ++ rest) → ⊥

-- a line that cannot begin as any object does, after lines of other classes than WATCH
pub record HasBadLine (bytes : List ℕ) : Type 0 where
  pub earlier : List (List ℕ)
  pub part : List ℕ
  pub rest : List ℕ
  pub joined : bytes ≡ (concat earlier ++ part) ++ rest
  pub others : AllByRecursion IsEarlier earlier
  pub bad : CannotBegin part
  pub short : length (concat earlier ++ part) ≤ most

-- as many bytes as a head may have, and no head
abbrev pub IsTooLong : List ℕ → Type 0
IsTooLong bytes = (most ≤ length bytes) × (HasHead bytes → ⊥)

abbrev pub HasNoHead : List ℕ → Type 0
HasNoHead bytes = HasBadLine bytes ⊎ IsTooLong bytes
