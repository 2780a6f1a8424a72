use Rattle.std.proofs.Common.{◌≡◌, slice_index, sym, ap, ◌∙◌, arith}
use Rattle.shm_segment.specs.Words.{body_places}
use Rattle.shm_consumer.proofs.Storing.{keeps_body, place_within}
use Rattle.shm_segment.proofs.Writing.{part_of}
use Rattle.shm_consumer.proofs.Writing.{view_of}
use Rattle.shm_consumer.proofs.stores.store_body.Goals as goal

pub store-requires : goal.store-requires
store-requires c =
    let is = c.hand.view_is in
    let me = c.args.seat.now.me in
    let place : c.from-2.result ≡ slice_index body_places c.args.place = c.from-2.ensures ∙ ap (λ k. slice_index body_places k) c.from.ensures in (
      part_of _ _ _ is _ c.requires.at.part,
      (let within = (place_within c.args.place c.requires.place).0 in let words = c.hand.invariant in omega arith),
      rw place (keeps_body _ _ _ _ _ me (view_of _ _ _ is me c.requires.at.view) _ _ c.requires.place (place_within c.args.place c.requires.place).1 c.requires.at.made (ap (λ l. slice_index l c.args.place) c.requires.body ∙ sym c.word-value.ensures)),
    )
