-- What a step asks of its caller, from what the segment and the seat say.
use Rattle.std.proofs.Common.{◌≡◌, ℕ, [], sym, ap, ◌∙◌}
use Rattle.atomic_table.specs.Seated.{TableId}
use Rattle.atomic_table.specs.Table.{Me}
use Rattle.shm_segment.specs.Seats.{SegmentId}
use Rattle.shm_consumer.specs.declared.view.View.{View}
use Rattle.shm_consumer.specs.Views.{giver}

-- the first number of a segment is that of its field
pub view_of : (table : TableId) (key : ℕ) (segment : SegmentId) → record { table = table; first = key } ≡ segment → (me : Me (Unit {0}) View)
    → me ≡ (giver segment.first me.0.known.samples me.0.known.stores, []) → me ≡ (giver key me.0.known.samples me.0.known.stores, [])
view_of table key segment is me same = same ∙ ap (λ (s : SegmentId). (giver s.first me.0.known.samples me.0.known.stores, [])) (sym is)
