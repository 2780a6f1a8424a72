use Rattle.std.proofs.Common.{◌≡◌, ap, ◌∙◌, arith}
use Rattle.std.specs.Prelude.{slice_index}
use Rattle.shm_segment.specs.Words.{body_places}
use Rattle.shm_segment.proofs.Writing.{part_of}
use Rattle.shm_consumer.proofs.Storing.{place_within}
use Rattle.shm_consumer.proofs.Looking.{fetches_as}
use Rattle.shm_consumer.proofs.loads.load_body.Goals as goal

pub load-requires : goal.load-requires
load-requires c =
    let part = c.requires.part in
    let word : c.from-2.result ≡ slice_index body_places c.args.place = c.from-2.ensures ∙ ap (λ k. slice_index body_places k) c.from.ensures in (
      part_of _ _ _ c.hand.view_is _ part.part,
      (let within = (place_within c.args.place c.requires.place).0 in let words = c.hand.invariant in omega arith),
      rw word (fetches_as _ _ _ c.args.seat.now.me part.role part.free c.args.place c.requires.place c.requires.reading),
    )
