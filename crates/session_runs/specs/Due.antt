-- What may be sent to a client at any moment: what the first of its requests select of a history that fits the devices' sources. It need not be the
-- history that the daemon has: each device's part of its log is a prefix of what its sources hold, perhaps a longer one than was read.
use Rattle.std.specs.Prelude.{◌≡◌, ℕ, List, ◌++◌, length, map, Option, Some, None, IfSome}
use Rattle.std.specs.List.{AllZip, concat, range_with_len}
use Rattle.gps_command.specs.Requests.{requests}
use Rattle.gps_report.specs.declared.edge.Edge.{Edge}
use Rattle.device_core.specs.Stream.{bytes_in, edges_in}
use Rattle.packet_cut.specs.Packets.{bytes_of}
use Rattle.session_core.specs.declared.subject.DeviceHeld.{DeviceHeld}
use Rattle.session_core.specs.declared.subject.Subject.{Subject}
use Rattle.book_log.specs.Entries.{Entry, IsLog, stream}
use Rattle.session_runs.specs.Asking.{Asked}
use Rattle.session_runs.specs.Runs.{SessionRun, items_over}
use Rattle.gps_fixed.specs.Lists.{IsPrefix}

-- The bytes of device d in the log are a prefix of those that its source holds, and its edges of those that its source of edges holds; each if
-- that is told.
pub record IsReadFrom (log : List Entry) (d : ℕ) (device : DeviceHeld) : Type 0 where
  pub bytes : IfSome device.bytes (λ (held : List ℕ). IsPrefix (bytes_of (bytes_in (stream d log))) held)
  pub edges : IfSome device.edges (λ (held : List Edge). IsPrefix (edges_in (stream d log)) held)

-- It is a log of these devices, and each one's part of it was read from its sources.
pub record IsLogFor (about : Subject) (log : List Entry) : Type 0 where
  pub is_log : IsLog (length about.devices) log
  pub each : AllZip (IsReadFrom log) (range_with_len 0 (length about.devices)) about.devices

abbrev pub device_names : Subject → List (List ℕ)
device_names about = map (λ (device : DeviceHeld). device.name) about.devices

-- These items are all that a client may be due at a moment: those that the first of its requests select of such a history. The run says when each
-- request was answered.
pub record IsDue (about : Subject) (items : List (List ℕ)) : Type 0 where
  pub log : List Entry
  pub run : SessionRun
  pub heard : List ℕ
  pub read : IsLogFor about log
  pub sent : IfSome about.source (λ (all : List ℕ). IsPrefix heard all)
  pub asked : Asked (device_names about) log run.stretches (requests heard)
  pub all : items ≡ items_over (device_names about) log run

-- What may be written next, if this was written before: with it, the bytes begin those of items that are due.
abbrev pub MayWrite : Subject → Option (List ℕ) → List ℕ → Type 0
MayWrite about None piece = Unit {0}
MayWrite about (Some before) piece = (items : List (List ℕ)) × IsDue about items × IsPrefix (before ++ piece) (concat items)
