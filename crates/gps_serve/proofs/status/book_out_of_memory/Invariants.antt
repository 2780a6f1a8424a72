use Rattle.std.proofs.Common.{◌≡◌, true, false, length}
use Rattle.serve_end.specs.Failing.{AnyOf}
use Rattle.gps_serve.specs.Lost.{WasClosedOutOfMemory}
use Rattle.gps_serve.proofs.Lost.{NoneClosedOutOfMemory}
use Rattle.gps_serve.proofs.status.book_out_of_memory.Given as goal

abbrev pub invariant-sessions : goal.invariant-sessions
invariant-sessions g l = record {
  all : l.session-end ≡ length l.fn.book.sessions;
  kept : l.is_out_of_memory ≡ false → NoneClosedOutOfMemory l.session l.fn.book.sessions;
  cut : l.is_out_of_memory ≡ true → AnyOf WasClosedOutOfMemory l.fn.book.sessions;
}
