use Rattle.std.proofs.Common.{◌++◌, ◌∙◌, Ok, Err, Some, inl, inr, ap, is_some, map, arith, refl, subst, sym, ℕ, List}
use Rattle.gps_world.specs.OpenInOrder.{behind_once, places_in}
use Rattle.serve_end.specs.Runs.{source_facts}
use Rattle.gps_serve.specs.AtEnd.{AtEnd, handed_back, settings_in, start_in}
use Rattle.gps_serve.specs.Facts.{gate_facts, world_facts}
use Rattle.gps_serve.specs.HandingBack.{back_of}
use Rattle.gps_serve.specs.Served.{IsUnasked}
use Rattle.gps_serve.proofs.Taking.{bytes_held, edges_held, edges_there, reads_handed}
use Rattle.gps_serve.proofs.Asked.{few_of, some_of, still_asked, stopped_at_door}
use Rattle.gps_serve.proofs.Causes.{none_of}
use Rattle.gps_serve.proofs.Dials.{told_again}
use Rattle.gps_serve.proofs.Outcome.{as_handed, each_stop, gate_as_handed, gate_there, has_book, lacking, still_unasked, unasked, unopened}
use Rattle.gps_serve.proofs.Whole.{whole_at_end}
use Rattle.gps_serve.proofs.served.serve.Goals as goal
use Rattle.std.specs.List.{AllZip}
use Rattle.hub_promise.specs.Parts.{devices_held, names_of}
use Rattle.gps_serve.specs.Told.{devices_in}
use Rattle.gps_serve.proofs.Telling.{TellsLess, allows_more, devices_less}

pub open-requires-clause-few : goal.open-requires-clause-few
open-requires-clause-few g c κs within =
    few_of (g.W.World.asked c.args.world) c.args.plan.inputs.items c.args.plan.edges.items _ c.requires.asked c.requires.plan.inputs c.requires.plan.edges (omega (arith, c.len-few.ensures.count, c.len-few.ensures.few))

pub run-requires-clause-writes : goal.run-requires-clause-writes
run-requires-clause-writes g c κs within =
    let facts = source_facts g.W.In.Source in
    let plan = c.args.plan in
    let behind = behind_once (plan.inputs.items ++ places_in plan.edges.items) (g.W.World.behind c.args.world) in
    let ground = c.in-Ok-prepare.ground in
    allows_more g.W.Out.ClientSink.asks g.W.Out.ClientSink.written g.W.Out.ClientSink.allows (devices_in plan (g.W.World.behind c.args.world))
    (devices_held ground.book.names (map names_of ground.lanes.inlets.items))
    (subst (λ (names : List (List ℕ)). AllZip TellsLess (devices_in plan (g.W.World.behind c.args.world)) (devices_held names (map names_of ground.lanes.inlets.items)))
    (sym c.in-Ok-prepare.ensures.names)
    (devices_less facts behind plan.names plan.inputs.items plan.edges.items c.in-Ok.outside.inputs.items c.in-Ok.outside.edges.items ground.lanes.starts.items ground.lanes.inlets.items
    c.in-Ok-prepare.ensures.sources c.in-Ok-prepare.ensures.edge_sources c.in-Ok.ensures.held c.in-Ok.ensures.held_edges c.in-Ok-prepare.ensures.fresh))
    c.requires.writes

pub returns-in-Err-clause-asked : goal.returns-in-Err-clause-asked
returns-in-Err-clause-asked g c =
    still_asked g.W.World.asked c.open.new.world c.hand_back.result.world (c.args.plan.inputs.items ++ places_in c.args.plan.edges.items) c.args.plan.listen c.hand_back.ensures.world
    (some_of {X = Unit {0}} (Err c.in-Err.stop) (g.W.World.asked c.args.world) (g.W.World.asked c.open.new.world)
    (c.args.plan.inputs.items ++ places_in c.args.plan.edges.items) c.args.plan.listen c.requires.asked c.in-Err.ensures.asked)

pub returns-in-Ok-run-clause-at_end : goal.returns-in-Ok-run-clause-at_end
returns-in-Ok-run-clause-at_end g c =
    let facts = world_facts g.W.In.Source g.W.Out.ClientSink g.W.Gate.Door in
    let end = c.in-Ok-run.end in
    let result = c.hand_back-in-Ok-run.result in
    as_handed (λ back book. AtEnd (start_in g.W.World (settings_in c.args.plan) c.args.world) facts back book) (back_of end) (handed_back result) result.book end.book
    c.hand_back-in-Ok-run.ensures.back c.hand_back-in-Ok-run.ensures.book
    (told_again facts (back_of end) (Some end.book) c.in-Ok-prepare.ground.book
    c.in-Ok-prepare.ground.lanes.inlets.items c.args.plan (g.W.World.stamps c.args.world) (g.W.Now.Clock.stamps c.in-Ok.outside.clock)
    (g.W.World.links c.args.world) (g.W.Gate.Door.links c.in-Ok.outside.gate) c.in-Ok-prepare.ensures.names c.in-Ok-prepare.ensures.limit
    c.in-Ok-prepare.ensures.requests c.in-Ok.ensures.stamps c.in-Ok.ensures.links c.in-Ok-run.ensures.at_end)

pub returns-in-Ok-run-clause-whole : goal.returns-in-Ok-run-clause-whole
returns-in-Ok-run-clause-whole g c some =
    let result = c.hand_back-in-Ok-run.result in
    whole_at_end (start_in g.W.World (settings_in c.args.plan) c.args.world) (world_facts g.W.In.Source g.W.Out.ClientSink g.W.Gate.Door) (handed_back result)
    result.book (returns-in-Ok-run-clause-at_end g c) some

pub returns-in-Ok-run-clause-held : goal.returns-in-Ok-run-clause-held
returns-in-Ok-run-clause-held g c some =
    let sources = source_facts g.W.In.Source in
    let starts = c.in-Ok-prepare.ground.lanes.starts.items in
    let result = c.hand_back-in-Ok-run.result in
    bytes_held sources (behind_once (c.args.plan.inputs.items ++ places_in c.args.plan.edges.items) (g.W.World.behind c.args.world))
    c.args.plan.inputs.items c.in-Ok.outside.inputs.items starts result.devices.items
    c.in-Ok-prepare.ensures.sources c.in-Ok.ensures.held
    (reads_handed sources starts (back_of c.in-Ok-run.end) (handed_back result) c.hand_back-in-Ok-run.ensures.back c.in-Ok-run.ensures.reads)

pub returns-in-Ok-run-clause-held_edges : goal.returns-in-Ok-run-clause-held_edges
returns-in-Ok-run-clause-held_edges g c some =
    let sources = source_facts g.W.In.Source in
    let starts = c.in-Ok-prepare.ground.lanes.starts.items in
    let result = c.hand_back-in-Ok-run.result in
    edges_held sources (behind_once (c.args.plan.inputs.items ++ places_in c.args.plan.edges.items) (g.W.World.behind c.args.world))
    c.args.plan.edges.items c.in-Ok.outside.edges.items starts result.devices.items
    c.in-Ok-prepare.ensures.edge_sources c.in-Ok.ensures.held_edges
    (reads_handed sources starts (back_of c.in-Ok-run.end) (handed_back result) c.hand_back-in-Ok-run.ensures.back c.in-Ok-run.ensures.reads)

pub returns-in-Ok-run-clause-edges : goal.returns-in-Ok-run-clause-edges
returns-in-Ok-run-clause-edges g c some =
    let sources = source_facts g.W.In.Source in
    let starts = c.in-Ok-prepare.ground.lanes.starts.items in
    let result = c.hand_back-in-Ok-run.result in
    edges_there sources starts result.devices.items
    (reads_handed sources starts (back_of c.in-Ok-run.end) (handed_back result) c.hand_back-in-Ok-run.ensures.back c.in-Ok-run.ensures.reads)
    ∙ ap (map is_some) c.in-Ok-prepare.ensures.edge_sources ∙ c.in-Ok.ensures.pairs

pub returns-in-Ok-run-clause-asked : goal.returns-in-Ok-run-clause-asked
returns-in-Ok-run-clause-asked g c =
    still_asked g.W.World.asked c.open.new.world c.hand_back-in-Ok-run.result.world (c.args.plan.inputs.items ++ places_in c.args.plan.edges.items) c.args.plan.listen c.hand_back-in-Ok-run.ensures.world
    (some_of {X = Unit {0}} (Ok tt) (g.W.World.asked c.args.world) (g.W.World.asked c.open.new.world)
    (c.args.plan.inputs.items ++ places_in c.args.plan.edges.items) c.args.plan.listen c.requires.asked c.in-Ok.ensures.asked)

pub returns-in-Ok-run-clause-cause : goal.returns-in-Ok-run-clause-cause
returns-in-Ok-run-clause-cause g c = unasked g.W.In.Source.faults g.W.Gate.Door.faults _ _ c.hand_back-in-Ok-run.result c.hand_back-in-Ok-run.ensures.cause

pub returns-in-Err-run-clause-asked : goal.returns-in-Err-run-clause-asked
returns-in-Err-run-clause-asked g c =
    still_asked g.W.World.asked c.open.new.world c.hand_back-in-Err-run.result.world (c.args.plan.inputs.items ++ places_in c.args.plan.edges.items) c.args.plan.listen
    c.hand_back-in-Err-run.ensures.world
    (some_of {X = Unit {0}} (Ok tt) (g.W.World.asked c.args.world) (g.W.World.asked c.open.new.world)
    (c.args.plan.inputs.items ++ places_in c.args.plan.edges.items) c.args.plan.listen c.requires.asked c.in-Ok.ensures.asked)

pub returns-in-Err-run-clause-cause : goal.returns-in-Err-run-clause-cause
returns-in-Err-run-clause-cause g c = lacking g.W.In.Source.faults g.W.Gate.Door.faults _ _ c.hand_back-in-Err-run.result c.hand_back-in-Err-run.ensures.cause

pub returns-in-Err-clause-none : goal.returns-in-Err-clause-none
returns-in-Err-clause-none g c none =
    none_of (Unit {0}) g.W.World.input_faults g.W.World.listen_faults c.args.world c.open.new.world c.hand_back.result.world c.in-Err.stop c.hand_back.result.status
    c.in-Err.ensures.cause (each_stop c.in-Err.stop c.hand_back.result.status c.hand_back.ensures.status) c.hand_back.ensures.world

pub returns-in-Err-prepare-clause-asked : goal.returns-in-Err-prepare-clause-asked
returns-in-Err-prepare-clause-asked g c =
    still_asked g.W.World.asked c.open.new.world c.hand_back-in-Err-prepare.result.world (c.args.plan.inputs.items ++ places_in c.args.plan.edges.items) c.args.plan.listen
    c.hand_back-in-Err-prepare.ensures.world
    (some_of {X = Unit {0}} (Ok tt) (g.W.World.asked c.args.world) (g.W.World.asked c.open.new.world)
    (c.args.plan.inputs.items ++ places_in c.args.plan.edges.items) c.args.plan.listen c.requires.asked c.in-Ok.ensures.asked)

pub returns-in-Err-clause-cause : goal.returns-in-Err-clause-cause
returns-in-Err-clause-cause g c =
    unopened (Unit {0}) g.W.In.Source.faults g.W.Gate.Door.faults g.W.World.input_faults g.W.World.listen_faults c.args.world c.open.new.world c.in-Err.stop c.hand_back.result
    c.in-Err.ensures.cause c.hand_back.ensures.world c.hand_back.ensures.cause

pub returns-in-Err-prepare-clause-cause : goal.returns-in-Err-prepare-clause-cause
returns-in-Err-prepare-clause-cause g c = lacking g.W.In.Source.faults g.W.Gate.Door.faults _ _ c.hand_back-in-Err-prepare.result c.hand_back-in-Err-prepare.ensures.cause

pub returns-in-Err-clause-unasked : goal.returns-in-Err-clause-unasked
returns-in-Err-clause-unasked g c none =
    gate_as_handed (IsUnasked (gate_facts g.W.Gate.Door) (g.W.World.links c.args.world)) _ (handed_back c.hand_back.result) c.hand_back.ensures.back tt

pub returns-in-Ok-run-clause-unasked : goal.returns-in-Ok-run-clause-unasked
returns-in-Ok-run-clause-unasked g c none = has_book c.hand_back-in-Ok-run.result.book c.in-Ok-run.end.book c.hand_back-in-Ok-run.ensures.book none

pub returns-in-Err-run-clause-unasked : goal.returns-in-Err-run-clause-unasked
returns-in-Err-run-clause-unasked g c none =
    let facts = gate_facts g.W.Gate.Door in
    let told = g.W.World.links c.args.world in
    gate_as_handed (IsUnasked facts told) _ (handed_back c.hand_back-in-Err-run.result) c.hand_back-in-Err-run.ensures.back
    (still_unasked facts told c.in-Ok.outside.gate c.in-Err-run.unstarted.gate c.in-Err-run.ensures.unasked c.in-Ok.ensures.links c.in-Ok.ensures.unused)

pub returns-in-Err-prepare-clause-unasked : goal.returns-in-Err-prepare-clause-unasked
returns-in-Err-prepare-clause-unasked g c none =
    let facts = gate_facts g.W.Gate.Door in
    let told = g.W.World.links c.args.world in
    gate_as_handed (IsUnasked facts told) _ (handed_back c.hand_back-in-Err-prepare.result) c.hand_back-in-Err-prepare.ensures.back
    (still_unasked facts told c.in-Ok.outside.gate c.in-Ok.outside.gate refl c.in-Ok.ensures.links c.in-Ok.ensures.unused)

pub returns-in-Err-clause-listened : goal.returns-in-Err-clause-listened
returns-in-Err-clause-listened g c none some =
    inl (stopped_at_door (Unit {0}) g.W.World.asked (g.W.World.asked c.args.world) c.open.new.world c.hand_back.result.world c.in-Err.stop c.hand_back.result.status
    (c.args.plan.inputs.items ++ places_in c.args.plan.edges.items) c.args.plan.listen c.in-Err.ensures.asked c.hand_back.ensures.world c.hand_back.ensures.status some)

pub returns-in-Ok-run-clause-listened : goal.returns-in-Ok-run-clause-listened
returns-in-Ok-run-clause-listened g c none some = has_book c.hand_back-in-Ok-run.result.book c.in-Ok-run.end.book c.hand_back-in-Ok-run.ensures.book none

pub returns-in-Err-run-clause-listened : goal.returns-in-Err-run-clause-listened
returns-in-Err-run-clause-listened g c none some =
    inr (gate_there c.in-Err-run.unstarted.gate _ (handed_back c.hand_back-in-Err-run.result) c.hand_back-in-Err-run.ensures.back refl)

pub returns-in-Err-prepare-clause-listened : goal.returns-in-Err-prepare-clause-listened
returns-in-Err-prepare-clause-listened g c none some =
    inr (gate_there c.in-Ok.outside.gate _ (handed_back c.hand_back-in-Err-prepare.result) c.hand_back-in-Err-prepare.ensures.back refl)
