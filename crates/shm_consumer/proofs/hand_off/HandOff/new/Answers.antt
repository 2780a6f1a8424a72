use Rattle.std.proofs.Common.{ℕ, [], sym, ap, ◌∙◌, arith}
use Rattle.shm_segment.specs.Publishing.{words_now}
use Rattle.shm_segment.proofs.Storing.{new_words}
use Rattle.shm_consumer.specs.Views.{opener}
use Rattle.shm_consumer.proofs.Parting.{new_holds, parts_as}
use Rattle.shm_consumer.proofs.hand_off.HandOff.new.Goals as goal

pub of_words-requires : goal.of_words-requires
of_words-requires c = rw c.from.ensures (new_holds c.args.first c.requires)

pub split_seat-taker-requires : goal.split_seat-taker-requires
split_seat-taker-requires c =
    let made = c.in_ok-table.ensures in
    let words = made.0 in (
      made.2,
      omega arith,
      parts_as _ _ _ (made.4 ∙ ap (λ (first : ℕ). (opener first, [])) (sym made.5)),
    )

pub returns-clause-words : goal.returns-clause-words
returns-clause-words c = ap words_now c.of.ensures ∙ new_words c.args.first
