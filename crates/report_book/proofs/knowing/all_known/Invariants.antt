use Rattle.std.proofs.Common.{List, ◌++◌}
use Rattle.book_log.specs.Entries.{Entry}
use Rattle.book_log.specs.Standing.{StandsFor}
use Rattle.report_book.specs.Knowing.{AreRead}
use Rattle.report_book.proofs.knowing.all_known.Given as goal

abbrev pub invariant-devices : goal.invariant-devices
invariant-devices l = (before : List Entry) → StandsFor l.log.opening before → AreRead l.device (before ++ l.log.log) l.firsts.items l.fixes.items l.skies.items
