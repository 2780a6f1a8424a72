-- The account is joined to the publisher's seat, and the load makes both agree.
use Rattle.std.proofs.Common.{sym, ap, ◌∙◌, arith}
use Rattle.shm_segment.specs.Publishing.{Publishing}
use Rattle.shm_segment.specs.Seats.{SegmentId, Accounted}
use Rattle.shm_segment.proofs.Hearing.{takes_account_as, hears_as}
use Rattle.shm_segment.proofs.Writing.{part_of}
use Rattle.shm_segment.proofs.publisher.Publisher.hear.Goals as goal

pub join_seat-requires : goal.join_seat-requires
join_seat-requires c =
    let is = c.segment.view_is in
    let mine = ap (λ (p : Publishing). p.segment) c.self.view_is ∙ c.requires.publisher in
    let theirs = ap (λ (a : Accounted). a.segment) c.account.view_is ∙ c.requires.account in
    let first = ap (λ (s : SegmentId). s.first) (mine ∙ sym is) in (
      part_of _ _ _ is _ (ap (λ (s : SegmentId). s.table) mine),
      part_of _ _ _ is _ (ap (λ (s : SegmentId). s.table) theirs),
      ap (λ m. m.1) c.account.invariant,
      (let words = c.segment.invariant in omega arith),
      takes_account_as _ _ c.self.inside.seat.me first c.self.invariant.view _ _ (λ is. let account = ap (λ m. m.0.role) c.account.invariant in cc),
    )

pub load-requires : goal.load-requires
load-requires c =
    let is = c.segment.view_is in
    let mine = ap (λ (p : Publishing). p.segment) c.self.view_is ∙ c.requires.publisher in
    let joined = c.join_seat.ensures in
    let view = c.self.invariant.view in (
      part_of _ _ _ is _ (joined.0 ∙ ap (λ (s : SegmentId). s.table) mine),
      (let words = c.segment.invariant in omega arith),
      hears_as _ _ _ c.join_seat.new.seat.me (ap (λ m. m.0.role) joined.2 ∙ ap (λ m. m.0.role) view) (ap (λ m. m.1) joined.2 ∙ ap (λ m. m.1) view),
    )
