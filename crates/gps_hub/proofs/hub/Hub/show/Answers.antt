use Rattle.std.proofs.Common.{subst}
use Rattle.hub_promise.specs.DaemonHub.{DaemonHub}
use Rattle.hub_promise.specs.Parts.{HubView, parts_of}
use Rattle.hub_promise.proofs.Calls.{hub_agrees}
use Rattle.gps_hub.proofs.hub.Hub.show.Goals as goal

pub returns : goal.returns
returns g c = subst (λ (v : HubView). DaemonHub (parts_of v)) c.self.view_is (hub_agrees g.J.HubNaming.terms _ _ c.self.invariant.0)
