-- A book's devices, the opening of its generation, and the log since: what is seen of them, a turn, and what a call adds. This project's
-- own.
use Rattle.std.specs.Prelude.{◌≡◌, ◌≤◌, ◌<◌, ◌+◌, ◌*◌, ◌^◌, ◌-◌, ℕ, Bool, true, false, ◌&&◌, List, [], ◌++◌, cond, length, map, max, min, nat_eq, nat_lt, replicate}
use Rattle.std.specs.List.{filter, list_all}
use Rattle.gps_fixed.specs.Limits.{longest_piece, most_history}
use Rattle.gps_report.specs.declared.report.Report.{Report}
use Rattle.book_log.specs.Entries.{Entry, symbols_in}
use Rattle.book_log.specs.History.{history_after}
use Rattle.book_log.specs.Standing.{DeviceStateView, DeviceStatesView, DevicesGoOn, StandsFor, has_stopped}

-- `opening` is of the log before this generation, `present` of that and the log since; `length` is that of this generation's history
pub record DeviceLogView : Type 0 where
  pub opening : DeviceStatesView
  pub present : DeviceStatesView
  pub log : List Entry
  pub length : ℕ
  pub symbols : ℕ
  pub limit : ℕ
  pub generation : ℕ

-- whether each device has stopped
abbrev pub stopped_of : DeviceStatesView → List Bool
stopped_of summary = map (λ line. has_stopped line.stage) summary.lines

abbrev pub runs : DeviceStateView → Bool
runs line = cond (has_stopped line.stage) false true

-- how many devices run
abbrev pub running : DeviceStatesView → ℕ
running summary = length (filter runs summary.lines)

-- a new generation begins before the given number of further symbols
abbrev pub turns_at : DeviceLogView → ℕ → Bool
turns_at b more = nat_lt 0 b.symbols && nat_lt b.limit (b.symbols + more)

abbrev pub next_generation : ℕ → ℕ
next_generation n = min (n + 1) (2 ^ 64 - 1)

-- a new generation: it opens with the devices as they are, and its log is empty
abbrev pub turned : DeviceLogView → DeviceLogView
turned b = record { opening = b.present; present = b.present; log = []; length = 0; symbols = 0; limit = b.limit; generation = next_generation b.generation }

abbrev pub turned_if : Bool → DeviceLogView → DeviceLogView
turned_if turns b = cond turns (turned b) b

-- reports of one device
abbrev pub AreOf : ℕ → List Report → Type 0
AreOf d reports = list_all (λ report. nat_eq report.device d) reports ≡ true

-- these entries came, and gave these reports
pub record LogAdds (old new : DeviceLogView) (entries : List Entry) (reports : List Report) : Type 0 where
  pub opening : new.opening ≡ old.opening
  pub log : new.log ≡ old.log ++ entries
  pub reports_are : (before : List Entry) → StandsFor old.opening before → history_after (before ++ old.log) entries ≡ reports
  pub longer : new.length ≡ old.length + length reports
  pub symbols : new.symbols ≡ old.symbols + symbols_in entries
  pub limit : new.limit ≡ old.limit
  pub generation : new.generation ≡ old.generation
  pub count : length new.present.lines ≡ length old.present.lines

-- over a log that the opening stands for
pub record FollowsLog (b : DeviceLogView) (before : List Entry) : Type 0 where
  pub present : StandsFor b.present (before ++ b.log)
  pub places : b.length ≡ length (history_after before b.log)

-- what always holds
pub record LogHolds (b : DeviceLogView) : Type 0 where
  pub some : (before : List Entry) × StandsFor b.opening before
  pub over : (before : List Entry) → StandsFor b.opening before → FollowsLog b before
  pub devices_go_on : DevicesGoOn b.opening b.present b.log
  pub symbols : b.symbols ≡ symbols_in b.log
  pub few : b.symbols ≤ max b.limit longest_piece
  pub limit : b.limit ≤ most_history
  pub bound : b.length + 3 * running b.present ≤ 2057 * b.symbols + 3 * length b.present.lines
  pub count : length b.opening.lines ≡ length b.present.lines
  pub devices : length b.present.lines ≤ 255
  pub generation : b.generation < 2 ^ 64

-- this number of devices that were given nothing yet, and nothing else: the opening is a summary of the empty log
pub record IsFresh (devices limit : ℕ) (b : DeviceLogView) : Type 0 where
  pub opening : StandsFor b.opening []
  pub present : StandsFor b.present []
  pub count : length b.present.lines ≡ devices
  pub stopped : stopped_of b.present ≡ replicate devices false
  pub log : b.log ≡ []
  pub places : b.length ≡ 0
  pub symbols : b.symbols ≡ 0
  pub limit_is : b.limit ≡ limit
  pub generation : b.generation ≡ 0
