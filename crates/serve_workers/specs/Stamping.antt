-- The stamps of a reader's pieces.
use Rattle.std.specs.Prelude.{◌≡◌, ◌≤◌, ℕ, List, ◌++◌, length}
use Rattle.gps_fixed.specs.Moment.{Moment}
use Rattle.gps_lane.specs.declared.piece.Piece.{Piece}
use Rattle.gps_lane.specs.Carried.{stamps_of}
use Rattle.serve_workers.specs.declared.readers.ReaderStep.{ReaderStep}
use Rattle.serve_workers.specs.declared.readers.ReaderStep.TheVariants.{On, Over, Closed}
use Rattle.stamp_shares.specs.declared.view.ShareView.{ShareView}

-- a share to which these stamps more were given
abbrev pub given_on : List Moment → ShareView → ShareView
given_on stamps share = record { whose = share.whose; stamps = share.stamps ++ stamps }

-- at most one more
abbrev pub GivenOneAtMost : ShareView → ShareView → Type 0
GivenOneAtMost before after = (late : List Moment) × ((length late ≤ 1) × (after ≡ given_on late before))

-- The stamps that were given to a reader's share are those of the pieces that it put, in order, each used once, and after them at most `spare` more,
-- which no piece has.
pub record StampsPieces (spare : ℕ) (before after : ShareView) (put put' : List Piece) : Type 0 where
  pub used : List Moment
  pub late : List Moment
  pub few : length late ≤ spare
  pub given : after ≡ given_on (used ++ late) before
  pub pieces : stamps_of put' ≡ stamps_of put ++ used

-- how many stamps a step may leave over
abbrev pub spare_in : ReaderStep → ℕ
spare_in On = 0
spare_in (Over ending) = 1
spare_in Closed = 1
