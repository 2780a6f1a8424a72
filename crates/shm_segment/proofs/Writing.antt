-- What a store asks of its caller, from what the segment and the seat say.
use Rattle.std.proofs.Common.{◌≡◌, ℕ, ◌<◌, [], sym, ap, ◌∙◌, arith}
use Rattle.atomic_table.specs.Seated.{TableId}
use Rattle.atomic_table.specs.Table.{Me}
use Rattle.shm_segment.specs.declared.view.View.{View}
use Rattle.shm_segment.specs.Seats.{SegmentId}
use Rattle.shm_segment.specs.Views.{publisher}

-- the table and the first number of a segment are those of its field
module _ (table : TableId) (key : ℕ) (segment : SegmentId) (is : record { table = table; first = key } ≡ segment) where
  pub part_of : (other : TableId) → other ≡ segment.table → other ≡ table
  part_of other same = same ∙ sym (ap (λ (s : SegmentId). s.table) is)

  pub view_of : (me : Me (Unit {0}) View) → me ≡ (publisher segment.first me.0.known.samples me.0.known.stores, []) → me ≡ (publisher key me.0.known.samples me.0.known.stores, [])
  view_of me same = same ∙ ap (λ (s : SegmentId). (publisher s.first me.0.known.samples me.0.known.stores, [])) (sym is)

-- a word of the segment's twelve
pub is_word : (words word n : ℕ) → words ≡ 12 → word ≡ n → n < 12 → word < words
is_word words word n e w h = omega arith
