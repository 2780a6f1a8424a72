-- The history of a log: entry by entry, the reports that each adds after the entries before it.
use Rattle.std.specs.Prelude.{ℕ, List, [], ◌∷◌, ◌++◌, Option, Some, None, cond}
use Rattle.gps_fixed.specs.Moment.{Moment}
use Rattle.gps_report.specs.declared.edge.Symbol.{Symbol}
use Rattle.gps_report.specs.declared.edge.Symbol.TheVariants.{Byte, Edge as EdgeSymbol}
use Rattle.gps_report.specs.declared.report.Body.{Body}
use Rattle.gps_report.specs.declared.report.Body.TheVariants.{Device}
use Rattle.gps_report.specs.declared.report.Report.{Report}
use Rattle.device_core.specs.Reports.{device_close, gained}
use Rattle.book_log.specs.Entries.{Entry, Got, Ended, Lost, stream, stops_in}
use Rattle.book_log.specs.Readings.{first_stamp, of_device}

-- the first byte of a device is announced with its stamp
abbrev pub announced : Option Moment → Symbol → List Body
announced (Some first) symbol = []
announced None (Byte at byte) = Device (Some at) ∷ []
announced None (EdgeSymbol edge) = []

-- what an entry adds after the entries before it
abbrev pub reports_at : List Entry → Entry → List Report
reports_at before (Got d symbol) = of_device d (announced (first_stamp (stream d before)) symbol ++ gained (stream d before) symbol)
reports_at before (Ended d) = of_device d (device_close (stream d before) ++ Device None ∷ [])
reports_at before (Lost d) = []

-- what a log adds to the history of the log before it
unfoldable pub history_after : List Entry → List Entry → List Report
history_after before [] = []
history_after before (entry ∷ log) = reports_at before entry ++ history_after (before ++ entry ∷ []) log

-- the history of a whole log
abbrev pub history : List Entry → List Report
history log = history_after [] log

-- the stamp of the first byte of a device that has not stopped
abbrev pub active : ℕ → List Entry → Option Moment
active d log = cond (stops_in d log) None (first_stamp (stream d log))
