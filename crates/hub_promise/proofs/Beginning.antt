-- A new book is one to which nothing has come.
use Rattle.std.proofs.Common.{◌≡◌, ◌<◌, ◌*◌, ℕ, List, [], length, get_or, take, ap, sym, arith}
use Rattle.book_units.specs.Units.{IsNew, UnitView, all_of}
use Rattle.report_book.specs.BookView.{BookView}
use Rattle.report_book.specs.Moves.{IsNewBook}
use Rattle.hub_promise.specs.Keeping.{IsUnused}
use Rattle.hub_promise.proofs.Lists.{zip_at, zip_length}

pub unused : (names : List (List ℕ)) (limit : ℕ) (firsts : List ℕ) (b : BookView) → IsNewBook names limit firsts b → IsUnused b
unused names limit firsts b new = record {
  opening = new.log.opening;
  log = new.log.log;
  sessions = new.sessions;
  units = λ u x lt.
      let n = zip_length IsNew (take (2 * length names) firsts) b.units new.units in
      ap all_of (zip_at IsNew (take (2 * length names) firsts) b.units u 0 x new.units (omega arith)).1;
}
