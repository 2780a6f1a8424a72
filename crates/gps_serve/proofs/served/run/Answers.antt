use Rattle.std.proofs.Common.{◌≡◌, Some, length, ap, refl, sym, subst, arith}
use Rattle.std.specs.List.{AllZip}
use Rattle.std.specs.Vec.{vec_len}
use Rattle.hub_promise.specs.Parts.{Terms}
use Rattle.hub_promise.proofs.Lists.{zip_length}
use Rattle.serve_end.specs.Runs.{source_facts}
use Rattle.gps_serve.specs.AtEnd.{AtEnd, settings_of, start_with}
use Rattle.gps_serve.specs.HandingBack.{back_of}
use Rattle.gps_serve.specs.Facts.{gate_facts, sink_facts, world_facts}
use Rattle.gps_serve.specs.Runs.{RanOn}
use Rattle.gps_serve.specs.Scopes.{DoorTended}
use Rattle.gps_serve.specs.Units.{CountFromZero}
use Rattle.gps_serve.specs.Works.{WatchedBy}
use Rattle.gps_serve.proofs.Causes.{gate_cause, gate_sound}
use Rattle.gps_serve.specs.Dealt.{AreEmpty}
use Rattle.gps_serve.proofs.Stamps.{empty_first}
use Rattle.gps_serve.proofs.Starting.{each_told}
use Rattle.gps_serve.proofs.Taking.{devices_read}
use Rattle.gps_serve.proofs.Dials.{may_give}
use Rattle.gps_serve.proofs.Ends.{devices_ran_on, segments_count, monitors_ran_on}
use Rattle.gps_serve.proofs.Whole.{whole_at_end}
use Rattle.gps_serve.proofs.served.run.Goals as goal

pub floor_of-requires-clause-units : goal.floor_of-requires-clause-units
floor_of-requires-clause-units g c =
    let segments = segments_count g.J.HubNaming.terms c.args.ground.book c.args.ground.lanes.inlets.items c.args.numbers.wait c.requires.terms in
    omega (arith, c.len-devices.ensures, c.args.ground.lanes.inlets.ok.0, c.requires.count, c.requires.units, segments)

pub floor_of-requires-clause-few : goal.floor_of-requires-clause-few
floor_of-requires-clause-few g c = omega (arith, c.len-devices.ensures, c.args.ground.lanes.inlets.ok.0, c.requires.count, c.requires.few)

pub floor_of-requires-clause-devices : goal.floor_of-requires-clause-devices
floor_of-requires-clause-devices g c =
    omega (arith, c.len-devices.ensures, c.args.ground.lanes.inlets.ok.0, c.requires.count, ap (λ (t : Terms). length t.names) c.requires.terms)

pub new-requires-2 : goal.new-requires-2
new-requires-2 g c = record { may = may_give _ _ c.requires.dials; first = c.requires.clock; none = c.open-giver.ensures.giver }

pub set_up-setup-requires-clause-told : goal.set_up-setup-requires-clause-told
set_up-setup-requires-clause-told g c = each_told (source_facts g.W.In.Source) c.args.ground.lanes.starts.items c.args.ground.lanes.inlets.items c.requires.fresh

pub set_up-setup-requires-clause-works : goal.set_up-setup-requires-clause-works
set_up-setup-requires-clause-works g c = omega (arith, c.len.ensures, c.in-Ok.ensures.works)

pub set_up-setup-requires-clause-runs : goal.set_up-setup-requires-clause-runs
set_up-setup-requires-clause-runs g c = omega (arith, c.len.ensures, c.in-Ok.ensures.runs)

pub set_up-setup-requires-clause-watching : goal.set_up-setup-requires-clause-watching
set_up-setup-requires-clause-watching g c = omega (arith, c.len-2.ensures, c.in-Ok.ensures.watching)

pub set_up-setup-requires-clause-watched : goal.set_up-setup-requires-clause-watched
set_up-setup-requires-clause-watched g c = omega (arith, c.len-2.ensures, c.in-Ok.ensures.watched)

pub gather-left-requires-clause-ran : goal.gather-left-requires-clause-ran
gather-left-requires-clause-ran g c κs within =
    let same : c.set_up-setup.result.starts.items ≡ c.args.ground.lanes.starts.items = cc c.set_up-setup.ensures.starts in
    devices_ran_on _ _ g.J.HubNaming.terms c.args.ground.book c.args.numbers.wait _ _ c.args.ground.lanes.inlets.items _ c.requires.terms c.requires.fresh same c.in_scope-ended.ensures.ran

pub gather-left-requires-clause-stamped : goal.gather-left-requires-clause-stamped
gather-left-requires-clause-stamped g c κs within =
    let same : c.set_up-setup.result.starts.items ≡ c.args.ground.lanes.starts.items = cc c.set_up-setup.ensures.starts in
    c.in_scope-ended.ensures.stamped.given (subst AreEmpty (sym same) (empty_first (source_facts g.W.In.Source) _ _ c.requires.fresh))

-- the door worker began with this door and this queue
pub gather-left-requires-clause-tended : goal.gather-left-requires-clause-tended
gather-left-requires-clause-tended g c κs within =
    let sources = source_facts g.W.In.Source in
    let sinks = sink_facts g.W.Out.ClientSink in
    let gates = gate_facts g.W.Gate.Door in
    let door = c.set_up-setup.result.door in
    let queue : door.queue ≡ c.args.numbers.queue = cc (c.set_up-setup.ensures.door, c.begin_of-door.ensures.queue) in
    let gate : door.gate ≡ c.of-first.result.value = cc (c.set_up-setup.ensures.door, c.begin_of-door.ensures.gate, c.of-first.ensures) in
    subst (λ x. DoorTended sources sinks gates c.args.numbers.queue x c.in_scope-ended.result) gate
    (subst (λ n. DoorTended sources sinks gates n door.gate c.in_scope-ended.result) queue c.in_scope-ended.ensures.tended)

pub gather-left-requires-clause-watched : goal.gather-left-requires-clause-watched
gather-left-requires-clause-watched g c κs within =
    let same : c.set_up-setup.result.monitor_starts.items ≡ c.args.ground.monitor_starts.items = cc c.set_up-setup.ensures.monitor_starts in
    monitors_ran_on _ g.J.HubNaming.terms c.args.ground.book c.args.ground.lanes.inlets.items c.args.numbers.wait _ _ _ c.requires.terms c.requires.monitor_starts same c.in_scope-ended.ensures.watched

pub gather-left-requires-clause-devices : goal.gather-left-requires-clause-devices
gather-left-requires-clause-devices g c κs within =
    let starts = c.set_up-setup.result.starts in
    let runs = c.in_scope-ended.result.runs in
    let same = zip_length (RanOn g.D.Dials.may (source_facts g.W.In.Source)) starts.items runs.items c.in_scope-ended.ensures.ran in
    omega (arith, same, runs.ok.0, starts.ok.0, ap vec_len c.set_up-setup.ensures.starts, c.len.ensures, c.in-Ok.ensures.devices)

pub gather-left-requires-clause-monitors : goal.gather-left-requires-clause-monitors
gather-left-requires-clause-monitors g c κs within =
    let starts = c.set_up-setup.result.monitor_starts in
    let watched = c.in_scope-ended.result.watched in
    let same = zip_length (WatchedBy c.args.numbers.tries) starts.items watched.items c.in_scope-ended.ensures.watched in
    omega (arith, same, watched.ok.0, starts.ok.0, ap vec_len c.set_up-setup.ensures.monitor_starts, c.len-2.ensures, c.in-Ok.ensures.monitors)

pub gather-left-requires-clause-from : goal.gather-left-requires-clause-from
gather-left-requires-clause-from g c κs within = subst CountFromZero (ap (λ (t : Terms). t.segments) (sym c.requires.terms)) c.requires.from

pub gather-left-requires-clause-cause : goal.gather-left-requires-clause-cause
gather-left-requires-clause-cause g c κs within e =
    gate_cause c.in_scope-ended.result.door.failed (g.W.Gate.Door.faults c.set_up-setup.result.door.gate) (g.W.Gate.Door.faults c.in_scope-ended.result.door.gate) c.in_scope-ended.ensures.fails e

pub gather-left-requires-clause-sound : goal.gather-left-requires-clause-sound
gather-left-requires-clause-sound g c κs within =
    let none : g.W.Gate.Door.faults c.set_up-setup.result.door.gate ≡ 0 = cc (c.set_up-setup.ensures.door, c.begin_of-door.ensures.gate, c.requires.sound) in
    gate_sound c.in_scope-ended.result.door.failed (g.W.Gate.Door.faults c.set_up-setup.result.door.gate) (g.W.Gate.Door.faults c.in_scope-ended.result.door.gate) c.in_scope-ended.ensures.fails none

pub returns-clause-reads : goal.returns-clause-reads
returns-clause-reads g c =
    let sources = source_facts g.W.In.Source in
    let same : c.set_up-setup.result.starts.items ≡ c.args.ground.lanes.starts.items = cc c.set_up-setup.ensures.starts in
    devices_read sources g.D.Dials.may _ _ _ _ c.requires.fresh
    (subst (λ starts. AllZip (RanOn g.D.Dials.may sources) starts c.in_scope-ended.result.runs.items) same c.in_scope-ended.ensures.ran)
    c.gather-left.ensures.left
    (whole_at_end
    (start_with (settings_of g.J.HubNaming.terms c.args.numbers.queue c.args.numbers.tries) g.D.Dials.may g.D.Dials.first (g.W.Gate.Door.links c.of-first.result.value))
    (world_facts g.W.In.Source g.W.Out.ClientSink g.W.Gate.Door) (back_of c.gather-left.result) (Some c.gather-left.result.book) c.gather-left.ensures.at_end refl)

pub returns-clause-at_end : goal.returns-clause-at_end
returns-clause-at_end g c =
    let settings = settings_of g.J.HubNaming.terms c.args.numbers.queue c.args.numbers.tries in
    subst (λ x. AtEnd (start_with settings g.D.Dials.may g.D.Dials.first (g.W.Gate.Door.links x))
    (world_facts g.W.In.Source g.W.Out.ClientSink g.W.Gate.Door) (back_of c.gather-left.result) c.gather-left.result.book)
    c.of-first.ensures c.gather-left.ensures.at_end
