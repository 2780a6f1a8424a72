use Rattle.std.proofs.Common.{refl, ap, map, sym, subst, false, true}
use Rattle.hub_door.specs.Admissions.{Admissions}
use Rattle.serve_door.specs.Doors.{AreSeated, Tends, door_now, links_at, tally, way_of}
use Rattle.serve_door.proofs.Seating.{fails_none, same_links, seated_none, still_fails, tended}
use Rattle.serve_door.proofs.Asking.{still_tends, tends_any, tends_none}
use Rattle.serve_door.proofs.door.tend.Goals as goal

pub asks-init : goal.asks-init
asks-init g c =
    let now = door_now (g.G.Door.links c.args.begin.gate) (g.G.Door.faults c.args.begin.gate) (g.G.Door.quiets c.args.begin.gate) c.args.begin.seat.drops 0 false in
    let told = g.G.Door.links c.args.begin.gate in
    let done = c.args.begin.seat.done in
    record {
      seated = same_links _ _ _ _ c.args.begin.seat c.args.begin.seat (seated_none _ _ c.args.begin.seat c.args.begin.new) (ap links_at c.none.ensures) refl;
      tends = subst (λ ways. Tends told now ways done true) (sym (ap (λ seated. map way_of (links_at seated)) c.none.ensures))
          (tends_none told now done refl c.args.begin.no_drops refl refl c.args.begin.not_done);
      unclosed = λ _. c.args.begin.not_done;
      fails = fails_none _;
    }

pub asks-preserved : goal.asks-preserved
asks-preserved g c = record {
  seated = c.step-to_ask.ensures.seated;
  tends = tends_any _ _ _ _ _ (c.step-to_ask.ensures.tends _ c.asks.invariant.tends);
  unclosed = c.step-to_ask.ensures.open;
  fails = c.step-to_ask.ensures.fails _ c.asks.invariant.fails;
}

pub returns-then-last-clause-fails : goal.returns-then-last-clause-fails
returns-then-last-clause-fails g c =
    still_fails g.G.Door.faults _ _ _ c.step-to_ask.new.self.gate c.leave.result.gate (c.step-to_ask.ensures.fails _ c.asks.invariant.fails) c.leave.ensures.failed
    c.leave.ensures.gate

pub returns-then-last-clause-tended : goal.returns-then-last-clause-tended
returns-then-last-clause-tended g c =
    tended _ _ _ (links_at c.step-to_ask.new.self.sessions.seated.items) (g.G.Door.links c.args.begin.gate) _ c.leave.result.seat c.leave.result.runs.items
    (same_links _ _ _ _ c.step-to_ask.new.self.seat c.leave.result.seat c.step-to_ask.ensures.seated refl (ap (λ (a : Admissions). a.links) c.leave.ensures.seat))
    c.leave.ensures.runs
    (still_tends g.G.Door.links g.G.Door.faults g.G.Door.quiets _ c.step-to_ask.new.self.gate c.leave.result.gate
    (tally c.step-to_ask.new.self.seat.drops c.step-to_ask.new.self.full c.step-to_ask.new.self.no_memory)
    (tally c.leave.result.seat.drops c.leave.result.full c.leave.result.no_memory) _ _ _ _ _
    (c.step-to_ask.ensures.tends _ c.asks.invariant.tends) c.leave.ensures.gate
    (λ i. tally (c.leave.ensures.seat i).drops (c.leave.ensures.full i) (c.leave.ensures.no_memory i)) refl
    (ap (λ (a : Admissions). a.done) c.leave.ensures.seat))
