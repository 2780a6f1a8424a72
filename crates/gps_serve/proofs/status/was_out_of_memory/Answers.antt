use Rattle.std.proofs.Common.{◌∙◌, inl, inr, sym}
use Rattle.gps_serve.proofs.Lost.{either, neither, none_lost, none_of_book}
use Rattle.gps_serve.proofs.status.was_out_of_memory.Goals as goal

pub returns-clause-threads : goal.returns-clause-threads
returns-clause-threads g c e = (neither c.args.by_threads c.either-by_book.result (sym c.either.ensures ∙ e)).0

pub returns-clause-devices : goal.returns-clause-devices
returns-clause-devices g c e =
    none_lost c.args.ends.now (sym c.any_end_out_of_memory.ensures ∙ (none_of_book c.args.by_threads c.any_end_out_of_memory.result c.book_out_of_memory.result c.either-by_book.result c.either.result
    c.either-by_book.ensures c.either.ensures e).0)

pub returns-clause-sessions : goal.returns-clause-sessions
returns-clause-sessions g c e =
    c.book_out_of_memory.ensures.kept (none_of_book c.args.by_threads c.any_end_out_of_memory.result c.book_out_of_memory.result c.either-by_book.result c.either.result
    c.either-by_book.ensures c.either.ensures e).1

pub returns-clause-cause : goal.returns-clause-cause
returns-clause-cause g c e = elim (either c.args.by_threads c.either-by_book.result (sym c.either.ensures ∙ e)) [
  | inl threads ↦ inl threads
  | inr book ↦ elim (either c.any_end_out_of_memory.result c.book_out_of_memory.result (sym c.either-by_book.ensures ∙ book)) [
    | inl lost ↦ inr (inl (sym c.any_end_out_of_memory.ensures ∙ lost))
    | inr cut ↦ inr (inr (c.book_out_of_memory.ensures.cut cut))
  ]
]
