use Rattle.std.proofs.Common.{◌≡◌, map, false, true}
use Rattle.serve_door.specs.Doors.{AreSeated, FailsBy, IsNewLink, Tends, door_now, links_at, way_of}
use Rattle.serve_door.proofs.door.tend.Given as goal

abbrev pub invariant-asks : goal.invariant-asks
invariant-asks g l = record {
  seated : AreSeated (IsNewLink g.S.Source.content g.S.Source.faults g.S.Source.quiets g.K.ClientSink.written g.K.ClientSink.faults) l.queue
      (links_at l.doorman.sessions.seated.items) l.doorman.seat;
  tends : Tends (g.G.Door.links l.fn.begin.gate)
      (door_now (g.G.Door.links l.doorman.gate) (g.G.Door.faults l.doorman.gate) (g.G.Door.quiets l.doorman.gate) l.doorman.seat.drops l.doorman.full l.doorman.no_memory)
      (map way_of (links_at l.doorman.sessions.seated.items)) l.doorman.seat.done l.to_ask;
  unclosed : l.to_ask ≡ true → l.doorman.seat.done ≡ false;
  fails : FailsBy l.doorman.failed (g.G.Door.faults l.fn.begin.gate) (g.G.Door.faults l.doorman.gate);
}
