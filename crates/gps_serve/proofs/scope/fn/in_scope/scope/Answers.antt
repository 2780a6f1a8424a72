use denote.Param.Send.{param_send}
use Rattle.gps_serve.proofs.scope.fn.in_scope.scope.Goals as goal

pub work-requires-send-S : goal.work-requires-send-S
work-requires-send-S g c = λ κs lives. param_send 1 g.row.S c.requires.1.1.1.1.1.1.1.1.0

pub work-requires-send-K : goal.work-requires-send-K
work-requires-send-K g c = λ κs lives. param_send 2 g.row.K c.requires.1.1.1.1.1.1.1.1.1

pub work-requires-send-G : goal.work-requires-send-G
work-requires-send-G g c = λ κs lives. param_send 3 g.row.G c.requires.1.1.1.1.1.1.1.1.2

pub work-requires-send-C : goal.work-requires-send-C
work-requires-send-C g c = λ κs lives. param_send 4 g.row.C c.requires.1.1.1.1.1.1.1.1.3

pub work-requires-send-J : goal.work-requires-send-J
work-requires-send-J g c = λ κs lives. param_send 5 g.row.J c.requires.1.1.1.1.1.1.1.1.4

pub work-requires-send-D : goal.work-requires-send-D
work-requires-send-D g c = λ κs lives. param_send 6 g.row.D c.requires.1.1.1.1.1.1.1.1.5
