-- How the units of a book change: by new samples, and at a turn.
use Rattle.std.specs.Prelude.{◌≡◌, ℕ, ◌<◌, List, ◌++◌, length, map, slice_index_or}
use Rattle.shm_segment.specs.declared.sample.Sample.{Sample}
use Rattle.book_units.specs.Units.{UnitView, RoomView, all_of, published_by, left_of, since_turn, carried_by}

-- each unit, by its number, has become another in this way
pub record EachUnit (Becomes : ℕ → UnitView → UnitView → Type 0) (old new : List UnitView) : Type 0 where
  pub count : length new ≡ length old
  pub each : (u : ℕ) (x : UnitView) → u < length old → Becomes u (slice_index_or old u x) (slice_index_or new u x)

-- these samples join the waiting ones, and nothing else changes
pub record UnitGains (samples : List Sample) (old new : UnitView) : Type 0 where
  pub becomes : new ≡ record old { waiting = old.waiting ++ samples }
  pub all : all_of new ≡ all_of old ++ samples
  pub since : since_turn new ≡ since_turn old ++ samples
  pub carried : carried_by new ≡ carried_by old

-- a unit after a turn, which counts what was published and what is left
abbrev pub turned : UnitView → UnitView
turned u = record { publisher = u.publisher; waiting = u.waiting; from = published_by u; carry = length (left_of u) }

-- what is left is carried, and is all since the turn; nothing of it is lost
pub record UnitTurns (old new : UnitView) : Type 0 where
  pub becomes : new ≡ turned old
  pub all : all_of new ≡ all_of old
  pub carried : carried_by new ≡ left_of old
  pub since : since_turn new ≡ left_of old

-- each unit has turned, and has the room that it had
abbrev pub turned_with_room : RoomView → RoomView
turned_with_room r = record { unit = turned r.unit; spare = r.spare }

abbrev pub AreTurned : List RoomView → List RoomView → Type 0
AreTurned old new = new ≡ map turned_with_room old
