-- What the door's thread is given may go to another thread.
use denote.Ref.{NamedLft}
use denote.RattleType.{RattleType}
use denote.Param.Send.{IsSend, sendable}
use Rattle.std.proofs.sync.Mutex.TheSendSync as mutex
use Rattle.std.specs.declared.sync.ledger.Ledger.{Ghosts as LedgerGhosts}
use Rattle.std.specs.declared.sync.Wait.{Ghosts as WaitGhosts}
use Rattle.std.specs.declared.clone.Clone.{Ghosts as CloneGhosts}
use Rattle.hub_door.specs.declared.naming.DoorNaming.{Ghosts as DoorGhosts}
use Rattle.gps_hub.specs.declared.naming.HubNaming.{Ghosts as HubGhosts}
use Rattle.serve_workers.proofs.bells.Bells.TheSendSync as bells
use Rattle.serve_workers.proofs.spawner.Spawner.TheSendSync as spawner
use Rattle.serve_floor.proofs.Sending.{floor_send}
use Rattle.serve_door.specs.contracts.context.DoorContext.{the_row as context_row}

pub context_send : (a : NamedLft) (E N R : RattleType) (hub : HubGhosts N.Denot) (door : DoorGhosts N.Denot) (ledger : LedgerGhosts N.Denot)
    (wait : WaitGhosts R.Denot) (clone : CloneGhosts R.Denot) → IsSend R → IsSend (context_row a E N R hub door ledger wait clone)
context_send a E N R hub door ledger wait clone is = search (sendable, spawner.the_field_send, mutex.the_sync, floor_send, bells.the_sync) depth 20
