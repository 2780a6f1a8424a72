use Rattle.std.proofs.Common.{refl, sym, ap, map, ◌∙◌}
use Rattle.hub_door.specs.Admissions.{Admissions}
use Rattle.serve_door.specs.Doors.{links_at, tally, way_of}
use Rattle.serve_door.proofs.Seating.{same_links}
use Rattle.serve_door.proofs.Asking.{asked_closed, asked_failed, asked_link, asked_quiet, deals_from, still_tends}
use Rattle.serve_door.proofs.doorman.Doorman.ask.Goals as goal

pub admit-requires-clause-seated : goal.admit-requires-clause-seated
admit-requires-clause-seated g c κs within =
    same_links _ _ _ _ c.args.self.now.seat c.join_gone.new.self.seat c.requires.seated c.join_gone.ensures.links (ap (λ (a : Admissions). a.links) c.join_gone.ensures.seat)

pub returns-in-Link-clause-tends : goal.returns-in-Link-clause-tends
returns-in-Link-clause-tends g c told so =
    let deals = deals_from _ _ _ _ _ (tally c.args.self.now.seat.drops c.args.self.now.full c.args.self.now.no_memory)
    (tally c.join_gone.new.self.seat.drops c.join_gone.new.self.full c.join_gone.new.self.no_memory)
    (tally c.admit.new.self.seat.drops c.admit.new.self.full c.admit.new.self.no_memory) c.admit.ensures.deals (ap (map way_of) c.join_gone.ensures.links)
    (λ i. tally (c.join_gone.ensures.seat i).drops (c.join_gone.ensures.full i) (c.join_gone.ensures.no_memory i)) in
    still_tends g.G.Door.links g.G.Door.faults g.G.Door.quiets told _ c.admit.new.self.gate
    (tally c.admit.new.self.seat.drops c.admit.new.self.full c.admit.new.self.no_memory)
    (tally c.admit.new.self.seat.drops c.admit.new.self.full c.admit.new.self.no_memory) _ _ _ _ _
    (asked_link told _ _ _ _ _ _ _ _ _ so c.in-Link.ensures.links deals c.in-Link.ensures.faults_stay
    (c.admit.ensures.done ∙ ap (λ (a : Admissions). a.done) c.join_gone.ensures.seat)) (c.admit.ensures.gate ∙ c.join_gone.ensures.gate) refl refl refl

pub returns-in-Link-clause-still : goal.returns-in-Link-clause-still
returns-in-Link-clause-still g c e =
    (sym (c.admit.ensures.failed ∙ c.join_gone.ensures.failed) ∙ e, ap g.G.Door.faults (c.admit.ensures.gate ∙ c.join_gone.ensures.gate) ∙ c.in-Link.ensures.only)

pub returns-in-Quiet-clause-tends : goal.returns-in-Quiet-clause-tends
returns-in-Quiet-clause-tends g c told so =
    asked_quiet told _ _ _ _ _ _ _ so c.in-Quiet.ensures.links (c.in-Quiet.ensures.quiet refl) refl refl refl refl c.in-Quiet.ensures.faults_stay refl

pub returns-in-Closed-clause-tends : goal.returns-in-Closed-clause-tends
returns-in-Closed-clause-tends g c told so =
    still_tends g.G.Door.links g.G.Door.faults g.G.Door.quiets told _ c.end.new.self.gate
    (tally c.args.self.now.seat.drops c.args.self.now.full c.args.self.now.no_memory)
    (tally c.end.new.self.seat.drops c.end.new.self.full c.end.new.self.no_memory) _ _ _ _ _
    (asked_closed told _ _ _ _ _ _ _ so c.in-Closed.ensures.links refl refl refl refl) c.end.ensures.gate
    (λ i. tally (c.end.ensures.drops i) (c.end.ensures.full i) (c.end.ensures.no_memory i))
    (λ i. map way_of (links_at (c.end.ensures.sessions i).seated.items)) refl

pub returns-in-Failed-clause-tends : goal.returns-in-Failed-clause-tends
returns-in-Failed-clause-tends g c told so =
    still_tends g.G.Door.links g.G.Door.faults g.G.Door.quiets told _ c.end-in-Failed.new.self.gate
    (tally c.args.self.now.seat.drops c.args.self.now.full c.args.self.now.no_memory)
    (tally c.end-in-Failed.new.self.seat.drops c.end-in-Failed.new.self.full c.end-in-Failed.new.self.no_memory) _ _ _ _ _
    (asked_failed told _ _ _ _ _ _ _ so c.in-Failed.ensures.links (c.in-Failed.ensures.failed refl) refl refl refl refl) c.end-in-Failed.ensures.gate
    (λ i. tally (c.end-in-Failed.ensures.drops i) (c.end-in-Failed.ensures.full i) (c.end-in-Failed.ensures.no_memory i))
    (λ i. map way_of (links_at (c.end-in-Failed.ensures.sessions i).seated.items)) refl
