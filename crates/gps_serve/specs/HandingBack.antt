-- What a daemon hands back, by how it ended: it served, and this is left of it; or it stopped before that.
use Rattle.std.specs.Prelude.{◌≡◌, ◌<◌, ℕ, Bool, true, false, [], Option, Some, None, Result, Ok, Err}
use Rattle.std.specs.List.{All}
use Rattle.report_book.specs.BookView.{BookView}
use Rattle.serve_end.specs.Failing.{AnyOf, DeviceFailed}
use Rattle.gps_world.specs.declared.opening.Stop.{Stop}
use Rattle.gps_world.specs.declared.opening.Stop.TheVariants.{Input, Listen, NoMemory}
use Rattle.gps_serve.specs.declared.daemon_end.DaemonEnd.{DaemonEnd}
use Rattle.gps_serve.specs.declared.daemon_end.Unserved.{Unserved}
use Rattle.gps_serve.specs.AtEnd.{HandedBack, back_with}
use Rattle.gps_serve.specs.Lost.{NoneLost, ReadersHadMemory}
use Rattle.gps_serve.specs.Outcome.{status_of}
use Rattle.gps_serve.specs.Statuses.{AllEnded, TellsNoFault, WasLostByFault, daemon_out_of_memory, outcome_status}

-- Why the work of a daemon ended so: a source of a device failed exactly if that was met, the door failed exactly if that was met, and each device has ended
-- if that is said. Unless it was out of memory, no device was lost, no session closed and no reader ended for that.
pub record EndHasCause {S K G R : Type 0} (faults : S → ℕ) (gate_faults : G → ℕ) (end : DaemonEnd S K G R) : Type 0 where
  pub read : end.outcome.read_fault ≡ true → AnyOf (DeviceFailed faults) end.devices.items
  pub met : end.outcome.read_fault ≡ false → AnyOf (DeviceFailed faults) end.devices.items → ⊥
  pub lost : end.outcome.read_fault ≡ false → AnyOf WasLostByFault end.devices.items → ⊥
  pub told : end.outcome.read_fault ≡ false → All TellsNoFault end.devices.items
  pub door : end.outcome.door_fault ≡ true → 0 < gate_faults end.gate
  pub sound : end.outcome.door_fault ≡ false → gate_faults end.gate ≡ 0
  pub ended : end.outcome.ended ≡ true → AllEnded end.devices.items
  pub kept : daemon_out_of_memory end.outcome ≡ false → NoneLost end.book end.devices.items
  pub readers : daemon_out_of_memory end.outcome ≡ false → ReadersHadMemory end.devices.items end.sessions.items

-- all that is left, beside the book
abbrev pub back_of : {S K G R : Type 0} → DaemonEnd S K G R → HandedBack G S K R
back_of end = back_with end.devices.items end.sessions.items end.monitors.items (Some end.gate) end.full (daemon_out_of_memory end.outcome)

-- whether a daemon that served nothing was out of memory
abbrev pub out_of_memory_by : Stop → Bool
out_of_memory_by Input = false
out_of_memory_by Listen = false
out_of_memory_by NoMemory = true

-- it served nothing, for this
abbrev pub StoppedFor : {S K G R : Type 0} → Stop → Result (DaemonEnd S K G R) (Unserved G) → Type 0
StoppedFor why (Ok end) = ⊥
StoppedFor why (Err unserved) = unserved.stop ≡ why

-- the status, the book, and all else that is handed back but for the world
abbrev pub status_by : {S K G R : Type 0} → Result (DaemonEnd S K G R) (Unserved G) → ℕ
status_by (Ok end) = outcome_status end.outcome
status_by (Err unserved) = status_of unserved.stop

abbrev pub book_by : {S K G R : Type 0} → Result (DaemonEnd S K G R) (Unserved G) → Option BookView
book_by (Ok end) = Some end.book
book_by (Err unserved) = None

abbrev pub back_by : {S K G R : Type 0} → Result (DaemonEnd S K G R) (Unserved G) → HandedBack G S K R
back_by (Ok end) = back_of end
back_by (Err unserved) = back_with [] [] [] unserved.gate 0 (out_of_memory_by unserved.stop)
