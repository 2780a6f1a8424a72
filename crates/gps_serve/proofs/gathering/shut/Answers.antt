use Rattle.std.proofs.Common.{length, sym, subst}
use Rattle.std.specs.List.{All}
use Rattle.hub_promise.specs.Keeping.{IsClosed}
use Rattle.hub_promise.specs.Parts.{HubView}
use Rattle.serve_floor.specs.Bursts.{AreAtRest, HasStopped}
use Rattle.gps_serve.proofs.gathering.shut.Goals as goal

pub returns-clause-closed : goal.returns-clause-closed
returns-clause-closed g c =
    subst (λ (h : HubView). All IsClosed h.book.sessions) (sym c.into_hub.ensures)
    (subst (All IsClosed) (sym c.publish_all.ensures.sessions) c.close-floor.ensures.closed)

pub returns-clause-stopped : goal.returns-clause-stopped
returns-clause-stopped g c =
    subst (λ (h : HubView). All HasStopped h.ends) (sym c.into_hub.ensures) (subst (All HasStopped) (sym c.publish_all.ensures.ends) c.close-floor.ensures.stopped)

pub returns-clause-rest : goal.returns-clause-rest
returns-clause-rest g c =
    subst (λ (h : HubView). AreAtRest (length g.J.HubNaming.terms.segments) h.book.units) (sym c.into_hub.ensures) c.publish_all.ensures.rest
