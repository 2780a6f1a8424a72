-- A refused admission as a refusal of the book.
use Rattle.book_sessions.specs.declared.roster.AdmitFault.{AdmitFault}
use Rattle.book_sessions.specs.declared.roster.AdmitFault.TheVariants as admit
use Rattle.report_book.specs.declared.fault.BookFault.{BookFault}
use Rattle.report_book.specs.declared.fault.BookFault.TheVariants.{TooManySessions, NoMemory}

abbrev pub fault_of_admission : AdmitFault → BookFault
fault_of_admission (admit.TooManySessions live opened) = TooManySessions live opened
fault_of_admission admit.NoMemory = NoMemory
