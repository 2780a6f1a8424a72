-- What contracts see of a giver: the same as of a publisher.
use Rattle.std.specs.Prelude.{◌≡◌, ℕ, ◌%◌, []}
use Rattle.atomic_table.specs.Seated.{TableId}
use Rattle.atomic_table.specs.Table.{Me}
use Rattle.shm_segment.specs.declared.publisher.Phase.{Phase}
use Rattle.shm_segment.specs.declared.sample.Sample.{Sample}
use Rattle.shm_segment.specs.Publishing.{Publishing, publishing, IsPublisher}
use Rattle.shm_segment.specs.Seats.{SegmentId}
use Rattle.shm_segment.specs.Views.{publisher}
use Rattle.shm_consumer.specs.declared.view.View.{View}
use Rattle.shm_consumer.specs.Views.{giver}

-- a publisher that has made the giver's stores
abbrev pub giving : TableId → View → Phase → Sample → Publishing
giving table v phase begun = publishing table (publisher v.first v.known.samples v.known.stores) phase begun

-- what a giver's fields keep: those of a publisher that has made its stores
pub record IsGiver (table : TableId) (me : Me (Unit {0}) View) (number : ℕ) (phase : Phase) (begun : Sample) : Type 0 where
  pub view : me ≡ (giver me.0.first me.0.known.samples me.0.known.stores, [])
  pub keeps : IsPublisher table (publisher me.0.first me.0.known.samples me.0.known.stores, []) number phase begun

-- the seat is this segment's giver, and has made this number of stores of a sample
pub record IsGiving (segment : SegmentId) (table : TableId) (me : Me (Unit {0}) View) (position : ℕ) : Type 0 where
  pub part : table ≡ segment.table
  pub view : me ≡ (giver segment.first me.0.known.samples me.0.known.stores, [])
  pub made : me.0.known.stores % 13 ≡ position
