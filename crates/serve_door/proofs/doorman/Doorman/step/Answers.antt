use Rattle.std.proofs.Common.{ap, map}
use Rattle.hub_door.specs.Admissions.{Admissions}
use Rattle.serve_door.specs.Doors.{tally, way_of}
use Rattle.serve_door.proofs.Seating.{same_links, still_fails}
use Rattle.serve_door.proofs.Asking.{still_tends}
use Rattle.serve_door.proofs.doorman.Doorman.step.Goals as goal

pub returns-clause-seated : goal.returns-clause-seated
returns-clause-seated g c =
    same_links _ _ _ _ c.ask_if-to_ask.new.self.seat c.join_gone.new.self.seat c.ask_if-to_ask.ensures.seated c.join_gone.ensures.links
    (ap (λ (a : Admissions). a.links) c.join_gone.ensures.seat)

pub returns-clause-fails : goal.returns-clause-fails
returns-clause-fails g c first so =
    still_fails g.G.Door.faults _ _ first c.ask_if-to_ask.new.self.gate c.join_gone.new.self.gate (c.ask_if-to_ask.ensures.fails first so) c.join_gone.ensures.failed
    c.join_gone.ensures.gate

pub returns-clause-tends : goal.returns-clause-tends
returns-clause-tends g c told so =
    still_tends g.G.Door.links g.G.Door.faults g.G.Door.quiets told c.ask_if-to_ask.new.self.gate c.join_gone.new.self.gate
    (tally c.ask_if-to_ask.new.self.seat.drops c.ask_if-to_ask.new.self.full c.ask_if-to_ask.new.self.no_memory)
    (tally c.join_gone.new.self.seat.drops c.join_gone.new.self.full c.join_gone.new.self.no_memory) _ _ _ _ _
    (c.ask_if-to_ask.ensures.tends told so) c.join_gone.ensures.gate
    (λ i. tally (c.join_gone.ensures.seat i).drops (c.join_gone.ensures.full i) (c.join_gone.ensures.no_memory i))
    (ap (map way_of) c.join_gone.ensures.links) (ap (λ (a : Admissions). a.done) c.join_gone.ensures.seat)
