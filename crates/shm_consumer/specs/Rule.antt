-- The rule that every step on a hand-off segment keeps: what the words are, and what each seat may know. This project's own, the clearing of valid
-- among it; that count is odd while the body is written is that of the NTP reference clock driver 28, mode 1.
-- A sample takes thirteen stores: stores % 13 of the running one are made, and published_after stores samples are published.
use Rattle.std.specs.Prelude.{◌≡◌, ◌≢◌, ℕ, ◌+◌, ◌/◌, ◌%◌, ◌^◌, ◌<◌, ◌≤◌, Bool, true, false, List, [], ◌∷◌, length, take, slice_get, slice_set, Option, Some, None}
use Rattle.std.specs.List.{All}
use mathlib.Core.Option.{some}
use lib.ListN.{get_elem?}
use Rattle.atomic_table.specs.Table.{State}
use Rattle.shm_segment.specs.declared.sample.Sample.{Sample}
use Rattle.shm_segment.specs.declared.view.KnownSamples.{KnownSamples}
use Rattle.shm_segment.specs.declared.view.Numbered.{Numbered}
use Rattle.shm_segment.specs.Rule.{IsSound, IsTold, IsPublished, last_from}
use Rattle.shm_segment.specs.Samples.{IsBody}
use Rattle.shm_segment.specs.Words.{published_after, count_after, body_after, words_of}
use Rattle.shm_consumer.specs.declared.view.Role.{Role}
use Rattle.shm_consumer.specs.declared.view.Role.TheVariants.{Opens, Gives, Takes, Spent}
use Rattle.shm_consumer.specs.declared.view.View.{View}

-- the words other than valid are those after this many stores of these samples
abbrev pub words_with : ℕ → List Sample → ℕ → ℕ → List ℕ
words_with first samples stores valid = slice_set (words_of first samples stores) 9 valid

-- valid is 0 or 1. It is 1 only if a sample was stored to its end, no other is begun, and its number is above the taker's last
pub record IsValid (first stores last valid : ℕ) : Type 0 where
  pub either : valid ≤ 1
  pub ended : valid ≡ 1 → stores % 13 ≡ 0
  pub some : valid ≡ 1 → 0 < stores
  pub above : valid ≡ 1 → last < first + published_after stores

-- the number is at most that of the last published sample, and below it if that sample's valid 1 is still to come
pub record IsBehind (first stores number : ℕ) : Type 0 where
  pub most : number ≤ first + published_after stores
  pub below : stores % 13 ≡ 12 → number < first + published_after stores

-- each number is above the one before it
abbrev pub RisesStrictly : ℕ → List Numbered → Type 0
RisesStrictly number [] = Unit {0}
RisesStrictly number (pair ∷ pairs) = (number < pair.number) × RisesStrictly pair.number pairs

-- no two pairs have one number
abbrev pub IsOnce : List Numbered → Type 0
IsOnce pairs =
    (i j : ℕ) (a b : Numbered) → slice_get pairs i ≡ Some a → slice_get pairs j ≡ Some b → a.number ≡ b.number → i ≡ j

-- half of the count is above the last number, it is even, a sample is published, none is begun beyond its first store, and the part of the body that
-- was loaded so far is the body now
pub record IsStill (samples : List Sample) (stores last count : ℕ) (body : List ℕ) : Type 0 where
  pub above : last < count / 2
  pub even : count % 2 ≡ 0
  pub some : 1 ≤ published_after stores
  pub position : stores % 13 ≤ 1
  pub same : body ≡ take (length body) (body_after samples stores)

-- a running reading: the first count, then a valid that was not 0, then words of the body
abbrev pub IsRunning : ℕ → List Sample → ℕ → ℕ → List ℕ → Type 0
IsRunning first samples stores last [] = Unit {0}
IsRunning first samples stores last (count ∷ []) = count ≤ count_after first stores
IsRunning first samples stores last (count ∷ valid ∷ body) =
    (count ≤ count_after first stores) × (0 < valid) × (count_after first stores ≡ count → IsStill samples stores last count body)

-- a pair that was read between equal counts, and is not yet cleared: a published sample, of a number above the last, whatever count is now
abbrev pub IsRead : ℕ → List Sample → ℕ → ℕ → Option Numbered → Type 0
IsRead first samples stores last None = Unit {0}
IsRead first samples stores last (Some pair) =
    IsPublished first samples stores pair × (last < pair.number) × IsBehind first stores pair.number

-- the giver's seat and the taker's; the first seat is both
abbrev pub may_give : Role → Bool
may_give Opens = true
may_give Gives = true
may_give role = false

abbrev pub may_take : Role → Bool
may_take Opens = true
may_take Takes = true
may_take role = false

-- what holds of one seat's view; the fixed view that a joined seat leaves is excepted
pub record Fits (giver taker first : ℕ) (samples : List Sample) (stores last seat : ℕ) (v : View) : Type 0 where
  pub first_same : v.role ≢ Spent → v.first ≡ first
  pub gives : may_give v.role ≡ true → (seat ≡ giver) × (v.known.samples ≡ samples) × (v.known.stores ≡ stores)
  pub takes : may_take v.role ≡ true → (seat ≡ taker) × (last_from 0 v.consumed ≡ last)
  pub told : IsTold samples stores v.known
  pub consumed : All (IsPublished first samples stores) v.consumed
  pub rises : RisesStrictly 0 v.consumed
  pub running : IsRunning first samples stores (last_from 0 v.consumed) v.reading
  pub read : IsRead first samples stores (last_from 0 v.consumed) v.read

-- the seat is the giver's, or the taker's
abbrev pub HasRole : (Role → Bool) → List View → ℕ → Type 0
HasRole may views seat = (v : View) × (get_elem? views seat ≡ some v) × (may v.role ≡ true)

-- the words but valid are those of the one giver's view, valid and the one taker's last number go with them, and each seat's view fits
pub record HandOffHolds (first : ℕ) (words : List ℕ) (views : List View) : Type 0 where
  pub giver : ℕ
  pub taker : ℕ
  pub samples : List Sample
  pub stores : ℕ
  pub last : ℕ
  pub valid : ℕ
  pub gives : HasRole may_give views giver
  pub takes : HasRole may_take views taker
  pub words_are : words ≡ words_with first samples stores valid
  pub valid_is : IsValid first stores last valid
  pub sound : IsSound first samples stores
  pub behind : IsBehind first stores last
  pub fits : (seat : ℕ) (v : View) → get_elem? views seat ≡ some v → Fits giver taker first samples stores last seat v

abbrev pub HoldsOf : ℕ → State (Unit {0}) View → Type 0
HoldsOf first state = HandOffHolds first state.words state.views

-- what the second count of a reading shows: if both counts are equal, the body is that of a sample
abbrev pub IsRecounted : View → ℕ → Type 0
IsRecounted v again =
    (again < 2 ^ 32)
    × ((count valid : ℕ) (body : List ℕ) → v.reading ≡ count ∷ valid ∷ body → length body ≡ 9 → again ≡ count → IsBody body)

-- each pair whose number these stores reach is the published sample of its number in this list
abbrev pub Agrees : ℕ → KnownSamples → List Numbered → Type 0
Agrees first k pairs =
    All (λ (pair : Numbered). pair.number ≤ first + published_after k.stores → IsPublished first k.samples k.stores pair) pairs
