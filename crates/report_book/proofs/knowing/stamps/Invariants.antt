use Rattle.std.proofs.Common.{◌≡◌, List, ◌++◌, map}
use Rattle.std.specs.List.{range_with_len}
use Rattle.book_log.specs.Entries.{Entry}
use Rattle.book_log.specs.History.{active}
use Rattle.book_log.specs.Standing.{StandsFor}
use Rattle.report_book.proofs.knowing.stamps.Given as goal

abbrev pub invariant-devices : goal.invariant-devices
invariant-devices l = (before : List Entry) → StandsFor l.log.opening before → l.firsts.items ≡ map (λ d. active d (before ++ l.log.log)) (range_with_len 0 l.device)
