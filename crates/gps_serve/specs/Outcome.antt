-- Why a daemon ended with its status, and what its status tells.
use Rattle.std.specs.Prelude.{◌≡◌, ◌⊎◌, ℕ, true, false, IfSome, IsSome}
use Rattle.std.specs.List.{All}
use Rattle.report_book.specs.BookView.{BookView}
use Rattle.serve_end.specs.declared.served.Served.{Served}
use Rattle.serve_end.specs.Failing.{AnyOf, DeviceFailed, SourceFailed}
use Rattle.gps_world.specs.declared.opening.Stop.{Stop}
use Rattle.gps_world.specs.declared.opening.Stop.TheVariants.{Input, Listen, NoMemory}
use Rattle.gps_serve.specs.Lost.{NoneLost, ReadersHadMemory}
use Rattle.gps_serve.specs.Statuses.{AllEnded, TellsNoFault, WasLostByFault}

-- the status of a daemon that served nothing
abbrev pub status_of : Stop → ℕ
status_of Input = 3
status_of Listen = 8
status_of NoMemory = 7

-- The status has its cause. `unopened` says that a place of a device could not be opened, `unheard` that the daemon could not listen.
-- 3: a place could not be opened, or a source of a device failed. It is 3 whenever a source failed, whatever else happened, and whatever the lanes tell.
-- 8: the daemon could not listen, or its door failed. If the door failed, it is 8, or 3.
-- 7: the daemon was out of memory. 0: it was not, and each device has ended.
-- If it was not out of memory, no device was lost, no session was closed and no reader ended for that.
pub record OutcomeHasCause {W R S K C G : Type 0} (faults : S → ℕ) (gate_faults : G → ℕ) (unopened unheard : Type 0)
    (served : Served W R S K C G) : Type 0 where
  pub three : served.status ≡ 3 → AnyOf (DeviceFailed faults) served.devices.items ⊎ unopened
  pub met : AnyOf (DeviceFailed faults) served.devices.items → served.status ≡ 3
  pub lost : AnyOf WasLostByFault served.devices.items → served.status ≡ 3
  pub told : (served.status ≡ 3) ⊎ All TellsNoFault served.devices.items
  pub eight : served.status ≡ 8 → SourceFailed gate_faults served.gate ⊎ unheard
  pub door : SourceFailed gate_faults served.gate → (served.status ≡ 3) ⊎ (served.status ≡ 8)
  pub seven : served.status ≡ 7 → served.no_memory ≡ true
  pub zero : served.status ≡ 0 → (served.no_memory ≡ false) × IsSome served.book × AllEnded served.devices.items
  pub kept : served.no_memory ≡ false → IfSome served.book (λ (book : BookView). NoneLost book served.devices.items)
  pub readers : served.no_memory ≡ false → ReadersHadMemory served.devices.items served.sessions.items
