use Rattle.std.proofs.Common.{inr, ap}
use Rattle.std.specs.Prelude.{Err}
use Rattle.gps_words.specs.Serve.{shown}
use Rattle.report_book.specs.BookView.{BookView}
use Rattle.serve_end.specs.Runs.{source_facts}
use Rattle.gps_serve.specs.AtEnd.{AtEnd, DaemonSettings, handed_back, settings_in, start_in}
use Rattle.gps_serve.specs.Facts.{world_facts}
use Rattle.gpsrelay.specs.Served.{AsksWhole, HaveEdges, HeldBehind}
use Rattle.gpsrelay.proofs.Serving.{asks_for, asks_whole, for_words, have_edges, held_behind, no_door, not_two, one_of_command, refused_or, refused_range, told_for, two_or_seven, two_refused, allowed_for, unlistened}
use Rattle.gps_serve.proofs.Outcome.{unasked}
use Rattle.gpsrelay.proofs.serve.serve_main.Goals as goal

pub serve-requires-clause-writes : goal.serve-requires-clause-writes
serve-requires-clause-writes g c κs within =
    allowed_for g.W.Out.ClientSink.asks g.W.Out.ClientSink.written g.W.Out.ClientSink.allows (g.W.World.behind c.args.world) (shown c.in-Ok.options) _ c.in-Ok-plan_of.plan
    c.in-Ok.ensures.ok c.in-Ok-plan_of.ensures.told c.in-Ok-plan_of.ensures.inputs c.in-Ok-plan_of.ensures.edges c.requires.writes

pub returns-in-Ok-plan_of-clause-at_end : goal.returns-in-Ok-plan_of-clause-at_end
returns-in-Ok-plan_of-clause-at_end g c =
    told_for (λ (told : DaemonSettings) (book : BookView). AtEnd (start_in g.W.World told c.args.world)
    (world_facts g.W.In.Source g.W.Out.ClientSink g.W.Gate.Door) (handed_back c.serve.result) book)
    _ (shown c.in-Ok.options) (settings_in c.in-Ok-plan_of.plan) c.serve.result.book c.in-Ok.ensures.ok c.in-Ok-plan_of.ensures.told c.serve.ensures.at_end

pub returns-in-Ok-plan_of-clause-range : goal.returns-in-Ok-plan_of-clause-range
returns-in-Ok-plan_of-clause-range g c = one_of_command c.serve.result.status c.serve.ensures.range

pub returns-in-Ok-plan_of-clause-only : goal.returns-in-Ok-plan_of-clause-only
returns-in-Ok-plan_of-clause-only g c two = not_two c.serve.result.status c.serve.ensures.range two

pub returns-in-Ok-plan_of-clause-asked : goal.returns-in-Ok-plan_of-clause-asked
returns-in-Ok-plan_of-clause-asked g c =
    asks_for _ (shown c.in-Ok.options) _ _ _ c.in-Ok.ensures.ok c.in-Ok-plan_of.ensures.places c.in-Ok-plan_of.ensures.listen c.serve.ensures.asked

pub returns-in-Ok-plan_of-clause-none : goal.returns-in-Ok-plan_of-clause-none
returns-in-Ok-plan_of-clause-none g c none = inr (c.serve.ensures.none none)

pub returns-in-Ok-plan_of-clause-all_asked : goal.returns-in-Ok-plan_of-clause-all_asked
returns-in-Ok-plan_of-clause-all_asked g c some =
    for_words (AsksWhole (g.W.World.asked c.serve.result.world)) _ (shown c.in-Ok.options) c.in-Ok.ensures.ok
    (asks_whole (shown c.in-Ok.options) _ _ _ c.in-Ok-plan_of.ensures.places c.in-Ok-plan_of.ensures.listen (c.serve.ensures.all_asked some))

pub returns-in-Ok-plan_of-clause-edges : goal.returns-in-Ok-plan_of-clause-edges
returns-in-Ok-plan_of-clause-edges g c some =
    for_words (HaveEdges c.serve.result.devices.items) _ (shown c.in-Ok.options) c.in-Ok.ensures.ok
    (have_edges c.serve.result.devices.items (shown c.in-Ok.options) _ c.in-Ok-plan_of.ensures.edges (c.serve.ensures.edges some))

pub returns-in-Ok-plan_of-clause-held : goal.returns-in-Ok-plan_of-clause-held
returns-in-Ok-plan_of-clause-held g c some =
    let facts = source_facts g.W.In.Source in
    for_words (HeldBehind (g.W.World.behind c.args.world) facts c.serve.result.devices.items) _ (shown c.in-Ok.options) c.in-Ok.ensures.ok
    (held_behind (g.W.World.behind c.args.world) facts c.serve.result.devices.items (shown c.in-Ok.options) _ _ c.in-Ok-plan_of.ensures.inputs c.in-Ok-plan_of.ensures.edges
    (c.serve.ensures.held some) (c.serve.ensures.held_edges some))

pub returns-in-Err-plan_of-clause-cause : goal.returns-in-Err-plan_of-clause-cause
returns-in-Err-plan_of-clause-cause g c = unasked g.W.In.Source.faults g.W.Gate.Door.faults _ _ c.nothing.result c.nothing.ensures.cause

pub returns-in-Err-clause-range : goal.returns-in-Err-clause-range
returns-in-Err-clause-range g c = refused_range c.in-Err.fault c.nothing-in-Err.result.status c.nothing-in-Err.ensures.status

pub returns-in-Err-clause-refused : goal.returns-in-Err-clause-refused
returns-in-Err-clause-refused g c none = two_or_seven c.in-Err.fault c.nothing-in-Err.result.status c.nothing-in-Err.ensures.status

pub returns-in-Err-clause-only : goal.returns-in-Err-clause-only
returns-in-Err-clause-only g c two =
    two_refused c.in-Err.fault c.nothing-in-Err.result.status c.nothing-in-Err.ensures.status (λ is. c.in-Err.ensures.refused (ap Err is)) two

pub returns-in-Err-clause-cause : goal.returns-in-Err-clause-cause
returns-in-Err-clause-cause g c = unasked g.W.In.Source.faults g.W.Gate.Door.faults _ _ c.nothing-in-Err.result c.nothing-in-Err.ensures.cause

pub returns-in-Err-clause-none : goal.returns-in-Err-clause-none
returns-in-Err-clause-none g c none = refused_or c.in-Err.fault c.nothing-in-Err.result.status c.nothing-in-Err.ensures.status

pub returns-in-Err-clause-unasked : goal.returns-in-Err-clause-unasked
returns-in-Err-clause-unasked g c none = no_door _ c.nothing-in-Err.result.gate c.nothing-in-Err.ensures.gate

pub returns-in-Err-plan_of-clause-unasked : goal.returns-in-Err-plan_of-clause-unasked
returns-in-Err-plan_of-clause-unasked g c none = no_door _ c.nothing.result.gate c.nothing.ensures.gate

pub returns-in-Err-clause-listened : goal.returns-in-Err-clause-listened
returns-in-Err-clause-listened g c none some =
    unlistened g.W.World.asked c.args.world c.nothing-in-Err.result.world c.nothing-in-Err.ensures.world c.requires.asked some

pub returns-in-Err-plan_of-clause-listened : goal.returns-in-Err-plan_of-clause-listened
returns-in-Err-plan_of-clause-listened g c none some =
    unlistened g.W.World.asked c.args.world c.nothing.result.world c.nothing.ensures.world c.requires.asked some
