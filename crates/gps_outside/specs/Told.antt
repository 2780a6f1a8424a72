-- The modelled contents of an object of the outside, and what happens to them.
use Rattle.std.specs.Prelude.{◌≡◌, ℕ, ◌<◌, List, [], ◌++◌, length, Option, Some, None, ◌⊎◌}
use Rattle.gps_fixed.specs.Lists.{IsPrefix}

-- the bytes that were read from a source so far, and those that are left in it
pub record Stream : Type 0 where
  pub taken : List ℕ
  pub left : List ℕ

-- A content goes from `before` to `after` as P says, if it is modelled; and then it stays modelled.
abbrev pub Goes : {X : Type 0} → (X → X → Type 0) → Option X → Option X → Type 0
Goes P None after = Unit {0}
Goes P (Some x) None = ⊥
Goes P (Some x) (Some y) = P x y

abbrev pub Stays : {X : Type 0} → X → X → Type 0
Stays before after = before ≡ after

-- bytes are left
abbrev pub HasMore : Stream → Type 0
HasMore stream = 0 < length stream.left

-- the piece is the next of what was left, and passes to what was read
pub record Passes (piece : List ℕ) (before after : Stream) : Type 0 where
  pub next : before.left ≡ piece ++ after.left
  pub joins : after.taken ≡ before.taken ++ piece

-- nothing changes, and nothing is left
pub record IsAtEnd (before after : Stream) : Type 0 where
  pub same : before ≡ after
  pub none : before.left ≡ []

-- nothing is read, but what was left may be lost
pub record MayLose (before after : Stream) : Type 0 where
  pub same : after.taken ≡ before.taken
  pub lost : (after.left ≡ before.left) ⊎ (after.left ≡ [])

-- the piece follows what was written
abbrev pub Appends : List ℕ → List ℕ → List ℕ → Type 0
Appends piece before after = after ≡ before ++ piece

-- a prefix of the piece follows what was written
abbrev pub AppendsPart : List ℕ → List ℕ → List ℕ → Type 0
AppendsPart piece before after = (front : List ℕ) × (IsPrefix front piece × Appends front before after)
