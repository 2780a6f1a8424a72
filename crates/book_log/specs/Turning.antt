-- A generation with its log by pieces, and what a turn makes ready. Steps, which no public clause names.
use Rattle.std.specs.Prelude.{◌≡◌, ℕ, Bool, List, [], Option, Some, None, cond}
use Rattle.book_log.specs.declared.generation.Generation.{Generation}
use Rattle.book_log.specs.Standing.{DeviceStatesView}
use Rattle.gps_report.specs.declared.report.Report.{Report}
use Rattle.book_log.specs.Entries.{Entry}
use Rattle.book_log.specs.DeviceLogView.{LogAdds, LogHolds, DeviceLogView}

-- what is seen of a book's devices and log
abbrev pub shown : DeviceStatesView → ℕ → ℕ → Generation → DeviceLogView
shown present limit number g =
    record { opening = g.opening; present = present; log = g.log; length = g.length; symbols = g.symbols; limit = limit; generation = number }

-- there is an opening of a next generation exactly if one is due: the devices as they are
abbrev pub IsNext : Bool → DeviceStatesView → Option DeviceStatesView → Type 0
IsNext turns now next = next ≡ cond turns (Some now) None

-- the generation that follows, if there is an opening of one: its log is empty
abbrev pub generation_after : Option DeviceStatesView → Generation → Generation
generation_after (Some opening) g = record { opening = opening; log = []; length = 0; symbols = 0 }
generation_after None g = g

-- a call added entries to what was seen before it
pub record Called (old new : DeviceLogView) (entries : List Entry) (reports : List Report) : Type 0 where
  pub adds : LogAdds old new entries reports
  pub holds : LogHolds new
