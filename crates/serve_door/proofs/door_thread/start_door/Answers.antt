use denote.Param.Send.{sendable}
use Rattle.serve_door.proofs.Sending.{context_send}
use Rattle.serve_door.proofs.door.DoorBegin.TheSendSync as begin
use Rattle.serve_door.proofs.door_thread.start_door.Goals as goal

pub start-requires-send-F : goal.start-requires-send-F
start-requires-send-F g c κs within = search (sendable, context_send, begin.the_send) depth 16
