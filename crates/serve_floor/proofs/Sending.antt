-- What the threads share may go to another thread.
use denote.RattleType.{RattleType}
use denote.Param.Send.{IsSend, sendable}
use Rattle.std.proofs.alloc.Global.TheSendSync as heap
use Rattle.libc.specs.Heap.{chunk-Keyless}
use Rattle.std.proofs.option.Option.TheSendSync as option
use Rattle.std.proofs.vec.Vec.TheSendSync as vec
use Rattle.std.specs.contracts.alloc.Global.{the_row as heap_row}
use Rattle.std.specs.contracts.impls.GlobalAllocator.TheImpl.{ghosts as heap_ghosts}
use Rattle.std.specs.contracts.vec.Vec.{the_row as vec_row}
use Rattle.gps_lane.specs.contracts.ends.Tx.{the_row as tx_row}
use Rattle.gps_lane.specs.contracts.due.ItemDue.TheImpl.{ghosts as item_due}
use Rattle.gps_lane.specs.contracts.piece.Piece.{the_row as piece_row}
use Rattle.gps_lane.specs.contracts.piece.PieceDue.TheImpl.{ghosts as piece_due}
use Rattle.gps_lane.specs.contracts.outlet.TxItemOutlet.TheImpl.{ghosts as outlet_of_tx, no_dict}
use Rattle.gps_hub.specs.contracts.inlets.Inlets.{the_row as inlets_row}
use Rattle.session_core.specs.contracts.item.Item.{the_row as item_row}
use Rattle.session_core.specs.declared.outlet.Outlet.{Ghosts as OutletGhosts}
use Rattle.session_core.specs.contracts.session.Session.{the_row as session_row}
use Rattle.session_core.proofs.mark.Mark.TheSendSync as mark
use Rattle.session_core.proofs.mark.Close.TheSendSync as close
use Rattle.ghost_list.specs.contracts.ghost_list.GhostList.{the_row}
use Rattle.book_log.specs.contracts.log.Log.{the_row as log_row}
use Rattle.book_log.specs.contracts.generation.Generation.{the_field as generation_of}
use Rattle.book_log.specs.contracts.device_log.DeviceLog.{the_row as device_log_row}
use Rattle.book_log.proofs.device_states.DeviceStates.TheSendSync as states
use Rattle.book_sessions.specs.contracts.member.Member.{the_row as member_row}
use Rattle.book_sessions.specs.contracts.roster.Roster.{the_row as roster_row}
use Rattle.book_sessions.proofs.texts.ReplyTexts.TheSendSync as texts
use Rattle.gps_command.proofs.cutter.CommandCutter.TheSendSync as cutter
use Rattle.gps_report.proofs.names.Names.TheSendSync as names
use Rattle.book_units.proofs.units.Units.TheSendSync as units
use Rattle.report_book.specs.contracts.book.Book.{the_row as book_row}
use Rattle.gps_hub.specs.contracts.hub.Hub.{the_row as hub_row}
use Rattle.gps_hub.specs.declared.naming.HubNaming.{Ghosts as HubGhosts}
use Rattle.gps_hub.proofs.inlets.Inlets.TheSendSync as inlets
use Rattle.gps_hub.proofs.inlets.Lasts.TheSendSync as lasts
use Rattle.gps_hub.proofs.open_sessions.OpenSessions.TheSendSync as opens
use Rattle.hub_promise.proofs.ends.DeviceEnd.TheSendSync as ends
use Rattle.hub_door.specs.declared.naming.DoorNaming.{Ghosts as DoorGhosts}
use Rattle.hub_door.proofs.keeper.Keeper.TheSendSync as keeper
use Rattle.gps_lane.proofs.ends.Tx.TheSendSync as tx
use Rattle.gps_lane.proofs.ends.Rx.TheSendSync as rx
use Rattle.gps_lane.proofs.piece.Piece.TheSendSync as piece
use Rattle.session_core.proofs.item.Item.TheSendSync as item
use Rattle.serve_workers.proofs.bells.SessionBells.TheSendSync as bells
use Rattle.serve_workers.specs.contracts.bells.SessionBells.{the_row as bells_row}
use Rattle.std.specs.contracts.sync.Arc.{the_row as arc_row}
use Rattle.std.proofs.sync.Arc.TheSendSync as arc
use Rattle.std.specs.declared.sync.ledger.Ledger.{Ghosts as LedgerGhosts}
use Rattle.std.specs.declared.sync.Wait.{Ghosts as WaitGhosts}
use Rattle.std.specs.declared.clone.Clone.{Ghosts as CloneGhosts}
use Rattle.serve_floor.specs.contracts.floor.Floor.{the_field as floor_of, the_row as floor_row}

vec_send : (T : RattleType) → IsSend T → IsSend (vec_row T heap_row heap_ghosts)
vec_send T is = vec.the_send T heap_row heap_ghosts is heap.the_send (record { frees = λ a τ p. chunk-Keyless τ p })

pub ghost_send : (A : RattleType) → IsSend (the_row A)
ghost_send A = record { owned = λ d vs x. ((λ a. (tt, (((λ b. (tt, ((λ c. (tt, tt)), tt))), tt), tt))), tt); leaving = λ k d w. tt }

pub session_send : (O : RattleType) (outlet : OutletGhosts O.Denot) → IsSend O → IsSend (session_row O outlet)
session_send O outlet is = search (sendable, ghost_send, option.the_field_send, mark.the_field_send, close.the_send) depth 20

pub log_send : IsSend log_row
log_send = search (sendable, ghost_send) depth 14

generation_field : IsSend generation_of.row
generation_field = search (sendable, log_send, states.the_send) depth 20

pub device_log_send : IsSend device_log_row
device_log_send = search (sendable, heap.the_field_send, generation_field, states.the_send) depth 20

member_send : (O : RattleType) (outlet : OutletGhosts O.Denot) → IsSend O → IsSend (member_row O outlet)
member_send O outlet is = search (sendable, session_send, cutter.the_send) depth 20

roster_send : (O : RattleType) (outlet : OutletGhosts O.Denot) → IsSend O → IsSend (roster_row O outlet)
roster_send O outlet is =
    search (sendable, heap.the_field_send, vec_send, member_send, texts.the_field_send) depth 20

pub book_send : (O : RattleType) (outlet : OutletGhosts O.Denot) → IsSend O → IsSend (book_row O outlet)
book_send O outlet is = search (sendable, heap.the_field_send, names.the_send, device_log_send, roster_send, units.the_send) depth 20

hub_send : (N R : RattleType) (hub : HubGhosts N.Denot) (door : DoorGhosts N.Denot) (ledger : LedgerGhosts N.Denot) (wait : WaitGhosts R.Denot)
    (clone : CloneGhosts R.Denot) → IsSend R → IsSend (hub_row N R hub door ledger wait clone)
hub_send N R hub door ledger wait clone is = record {
  owned = λ d vs x. (
    (λ a. (
      tt,
      (
        (book_send (tx_row item_row R item_due) (outlet_of_tx R wait no_dict clone no_dict) (tx.the_send item_row R item_due item.the_send is)).owned x.0.book a.0,
        (
          (vec_send (inlets_row R) (inlets.the_send R is)).owned x.0.inlets a.1.0,
          (
            (vec_send _ lasts.the_send).owned x.0.lasts a.1.1.0,
            (
              (vec_send _ (option.the_send _ ends.the_send)).owned x.0.ends a.1.1.1.0,
              (
                (vec_send _ (rx.the_send piece_row R piece_due piece.the_send is)).owned x.0.inputs a.1.1.1.1.0,
                (
                  (keeper.the_send N door ledger).owned x.0.keeper a.1.1.1.1.1.0,
                  (
                    opens.the_send.owned x.0.open_sessions a.1.1.1.1.1.1.0,
                    (
                      tt,
                      (tt, ((tt, tt), tt)),
                    ),
                  ),
                ),
              ),
            ),
          ),
        ),
      ),
    )),
    tt,
  );
  leaving = λ k d w. tt;
}

bells_send : IsSend (arc_row bells_row heap_row heap_ghosts)
bells_send = arc.the_send bells_row heap_row heap_ghosts bells.the_send heap.the_send bells.the_sync heap.the_sync (record { frees = λ a τ p. chunk-Keyless τ p })

pub floor_field : (N R : RattleType) (hub : HubGhosts N.Denot) (door : DoorGhosts N.Denot) (ledger : LedgerGhosts N.Denot) (wait : WaitGhosts R.Denot)
    (clone : CloneGhosts R.Denot) → IsSend R → IsSend (floor_of N R hub door ledger wait clone).row
floor_field N R hub door ledger wait clone is = record {
  owned = λ x vs a. (tt, ((hub_send N R hub door ledger wait clone is).owned x.0 a.0, ((tt, tt), ((tt, tt), ((tt, tt), ((vec_send _ bells_send).owned x.1.1.1.1.0 a.1.1.1.1.0, (tt, tt)))))));
  leaving = λ k d w. (tt, (tt, (tt, (tt, (tt, tt)))));
}

pub floor_send : (N R : RattleType) (hub : HubGhosts N.Denot) (door : DoorGhosts N.Denot) (ledger : LedgerGhosts N.Denot) (wait : WaitGhosts R.Denot)
    (clone : CloneGhosts R.Denot) → IsSend R → IsSend (floor_row N R hub door ledger wait clone)
floor_send N R hub door ledger wait clone is = search (sendable, floor_field) depth 8
