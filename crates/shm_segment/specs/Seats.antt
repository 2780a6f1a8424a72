-- What contracts see of a segment, of a notice and of an account.
use Rattle.std.specs.Prelude.{ℕ, List}
use Rattle.atomic_table.specs.Seated.{TableId}
use Rattle.shm_segment.specs.declared.view.KnownSamples.{KnownSamples}
use Rattle.shm_segment.specs.declared.view.Load.{Load}
use Rattle.shm_segment.specs.declared.view.Numbered.{Numbered}

-- which segment it is: its table, and its first number
pub record SegmentId : Type 0 where
  pub table : TableId
  pub first : ℕ

-- a notice: the samples and the number of stores that the publisher had
pub record Noticed : Type 0 where
  pub segment : SegmentId
  pub known : KnownSamples

-- an account: the pairs that a monitor had taken, and its loads
pub record Accounted : Type 0 where
  pub segment : SegmentId
  pub taken : List Numbered
  pub kept : List Load
