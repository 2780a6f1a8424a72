use denote.Param.Send.{sendable}
use Rattle.std.proofs.sync.Mutex.TheSendSync as mutex
use Rattle.serve_workers.proofs.bells.Bells.TheSendSync as bells
use Rattle.serve_floor.proofs.Sending.{floor_send}
use Rattle.serve_floor.proofs.pumping.start_publisher.Goals as goal

pub start-requires-send-F : goal.start-requires-send-F
start-requires-send-F g c κs within = search (sendable, mutex.the_sync, floor_send, bells.the_sync) depth 20
