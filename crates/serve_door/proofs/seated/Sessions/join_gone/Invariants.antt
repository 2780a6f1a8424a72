use Rattle.std.proofs.Common.{◌≡◌}
use Rattle.std.specs.Vec.{vec_len}
use Rattle.serve_door.specs.Doors.{links_at}
use Rattle.serve_door.proofs.seated.Sessions.join_gone.Given as goal

abbrev pub invariant-live : goal.invariant-live
invariant-live g l = record {
  seat : l.seat ≡ l.initial.seat;
  links : links_at l.self.seated.items ≡ links_at l.initial.self.seated.items;
  count : vec_len l.self.seated ≡ vec_len l.initial.self.seated;
}
