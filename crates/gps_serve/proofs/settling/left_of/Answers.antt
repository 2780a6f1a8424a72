use Rattle.std.proofs.Common.{subst}
use Rattle.hub_promise.specs.Parts.{InletsView}
use Rattle.serve_end.specs.Lanes.{Settles, SettlesSome, tx_of}
use Rattle.serve_end.specs.Runs.{source_facts}
use Rattle.gps_serve.proofs.Devices.{device_served}
use Rattle.gps_serve.proofs.First.{none_failed, tells_none}
use Rattle.gps_serve.proofs.settling.left_of.Goals as goal

pub returns-clause-served : goal.returns-clause-served
returns-clause-served g c =
    let done = c.device_done-device in
    let P : InletsView → Type 0 = λ x. Settles c.args.run.bytes.pieces x.bytes done.result.bytes_rx in
    let Q : InletsView → Type 0 = λ x. SettlesSome (tx_of c.args.run.edges) x.edges done.result.edges_rx in
    device_served g.D.Dials.may (source_facts g.S.Source) c.args.inlets c.args.run done.result c.requires.ready
    done.ensures.source done.ensures.edges done.ensures.bytes_tx done.ensures.edges_tx (subst P c.inlets.view_is done.ensures.bytes_rx)
    (subst Q c.inlets.view_is done.ensures.edges_rx)

pub returns-clause-missed : goal.returns-clause-missed
returns-clause-missed g c =
    let done = c.device_done-device in
    none_failed g.D.Dials.may (source_facts g.S.Source) c.args.inlets c.args.run done.result _ c.requires.ready
    done.ensures.source done.ensures.edges c.device_failed-failed.ensures.met.1

pub returns-clause-untold : goal.returns-clause-untold
returns-clause-untold g c =
    let done = c.device_done-device in
    tells_none g.D.Dials.may (source_facts g.S.Source) c.args.inlets c.args.run done.result _ c.requires.ready
    done.ensures.bytes_tx done.ensures.edges_tx c.device_failed-failed.ensures.said
