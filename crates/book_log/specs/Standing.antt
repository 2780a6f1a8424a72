-- What is kept of a log, and for which logs it stands: those of which it keeps what later reports and replies need.
use Rattle.std.specs.Prelude.{◌≡◌, ◌<◌, ℕ, Bool, true, false, List, ◌++◌, Option, get_or, length}
use Rattle.gps_fixed.specs.Moment.{Moment}
use Rattle.gps_report.specs.declared.edge.Symbol.{Symbol}
use Rattle.gps_report.specs.declared.fix.Fix.{Fix}
use Rattle.gps_report.specs.declared.fix.Sky.{Sky}
use Rattle.device_core.specs.Standing.{DeviceKept, StandsFor as DeviceStands}
use Rattle.book_log.specs.declared.device_stage.DeviceStage.{DeviceStage}
use Rattle.book_log.specs.declared.device_stage.DeviceStage.TheVariants.{Running, Ended, Lost}
use Rattle.book_log.specs.Entries.{Entry, stream, has_end, has_lost, IsLog}
use Rattle.book_log.specs.Readings.{first_stamp, last_stamp, last_fix, last_sky}
use Rattle.book_log.specs.History.{history}

abbrev pub is_ended : DeviceStage → Bool
is_ended Running = false
is_ended Ended = true
is_ended Lost = false

abbrev pub is_lost : DeviceStage → Bool
is_lost Running = false
is_lost Ended = false
is_lost Lost = true

abbrev pub has_stopped : DeviceStage → Bool
has_stopped Running = false
has_stopped Ended = true
has_stopped Lost = true

-- what is kept of one device: what the device itself keeps, the stamp of its first byte, whether it runs, its last fix and its last sky
pub record DeviceStateView : Type 0 where
  pub kept : DeviceKept
  pub first : Option Moment
  pub stage : DeviceStage
  pub fix : Option Fix
  pub sky : Option Sky

-- what is kept of a log: a line for each device, and the stamp of the last byte of any
pub record DeviceStatesView : Type 0 where
  pub lines : List DeviceStateView
  pub stamp : Option Moment

pub record StandsAt (line : DeviceStateView) (d : ℕ) (log : List Entry) : Type 0 where
  pub device : has_stopped line.stage ≡ false → DeviceStands line.kept (stream d log)
  pub first : line.first ≡ first_stamp (stream d log)
  pub ended : is_ended line.stage ≡ has_end d log
  pub lost : is_lost line.stage ≡ has_lost d log
  pub fix : line.fix ≡ last_fix d (history log)
  pub sky : line.sky ≡ last_sky d (history log)

pub record StandsFor (summary : DeviceStatesView) (log : List Entry) : Type 0 where
  pub is_log : IsLog (length summary.lines) log
  pub lines : (d : ℕ) (free : DeviceStateView) → d < length summary.lines → StandsAt (get_or summary.lines d free) d log
  pub stamp : summary.stamp ≡ last_stamp log

-- A device that runs has run before, and stands for each stream that it stood for then, followed by the symbols since.
abbrev pub GoesOnBy : DeviceStateView → DeviceStateView → List Symbol → Type 0
GoesOnBy old new symbols = has_stopped new.stage ≡ false
    → (has_stopped old.stage ≡ false) × ((past : List Symbol) → DeviceStands old.kept past → DeviceStands new.kept (past ++ symbols))

-- so does each device, by its symbols in this log
abbrev pub DevicesGoOn : DeviceStatesView → DeviceStatesView → List Entry → Type 0
DevicesGoOn old new log = (d : ℕ) (free : DeviceStateView) → d < length new.lines
    → GoesOnBy (get_or old.lines d free) (get_or new.lines d free) (stream d log)
