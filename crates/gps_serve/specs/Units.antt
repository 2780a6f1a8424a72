-- The units of a daemon that has ended. This project's own; count and its greatest value are those of the segment's words.
use Rattle.std.specs.Prelude.{◌≡◌, ◌*◌, ◌⊎◌, List, [], ◌∷◌}
use Rattle.book_units.specs.Units.{UnitView, left_of, published_by}
use Rattle.shm_segment.specs.Publishing.{count_of}
use Rattle.shm_segment.specs.Seats.{SegmentId}

-- Its count is twice the number of its published samples, and none is left, unless the count is spent.
pub record UnitServed (u : UnitView) : Type 0 where
  pub count : count_of u.publisher ≡ 2 * published_by u
  pub left : (left_of u ≡ []) ⊎ (count_of u.publisher ≡ 2_147_483_646)

-- no sample of these segments was counted before
abbrev pub CountFromZero : List SegmentId → Type 0
CountFromZero [] = Unit {0}
CountFromZero (segment ∷ segments) = (segment.first ≡ 0) × CountFromZero segments
