-- What is put together at the end, as one.
use Rattle.std.proofs.Common.{◌≡◌, ℕ, ◌≤◌, Bool, true, false, ◌||◌, List, [], ◌∷◌, map, length, Option, Some, refl, sym, ◌∙◌, ap, subst, arith, suc}
use Rattle.std.proofs.lemmas.List.Folds.{list_all-map}
use Rattle.std.specs.List.{All, AllZip, list_all, range_with_len}
use Rattle.gps_fixed.specs.Moment.{Moment}
use Rattle.book_units.specs.Units.{IsUnit, UnitView, segment_of}
use Rattle.gps_lane.specs.Ends.{Taking}
use Rattle.gps_outside.specs.Ticks.{Dial}
use Rattle.report_book.specs.BookView.{BookView}
use Rattle.report_book.specs.Standing.{BookHolds}
use Rattle.hub_promise.specs.declared.ends.DeviceEnd.{DeviceEnd}
use Rattle.hub_promise.specs.DaemonHub.{DaemonHub}
use Rattle.hub_door.specs.Admissions.{Admissions}
use Rattle.hub_promise.specs.Given.{is_end}
use Rattle.hub_promise.specs.Keeping.{IsClosed}
use Rattle.hub_promise.specs.Parts.{AreAdmitted, InletsView, Terms, devices_of, terms_of}
use Rattle.gps_lane.specs.declared.piece.Piece.{Piece}
use Rattle.serve_end.specs.declared.done.DeviceDone.{DeviceDone}
use Rattle.serve_end.specs.declared.done.MonitorDone.{MonitorDone}
use Rattle.serve_end.specs.declared.done.SessionDone.{SessionDone}
use Rattle.serve_end.specs.declared.device.DeviceRun.{DeviceRun}
use Rattle.serve_end.specs.Runs.{SourceFacts}
use Rattle.serve_workers.specs.declared.monitors.ReadingsDone.{ReadingsDone}
use Rattle.serve_workers.specs.declared.monitors.MonitorStart.{MonitorStart}
use Rattle.serve_workers.specs.Segments.{segments_of}
use Rattle.gps_serve.specs.declared.starts.DeviceStart.{DeviceStart}
use Rattle.serve_workers.specs.declared.session.SessionLink.{SessionLink}
use Rattle.gps_serve.specs.AtEnd.{AtEnd, HandedBack, HaveRequests, ShowsOutOfMemory, settings_of, start_with}
use Rattle.gps_serve.specs.Facts.{WorldFacts}
use Rattle.gps_serve.specs.Served.{DeviceServed, GateServed, MonitorServed, monitored}
use Rattle.serve_door.specs.Doors.{Way, lanes_of}
use Rattle.gps_serve.specs.Readies.{AllServed, MonitorReady}
use Rattle.gps_serve.specs.Runs.{DeviceReady, DevicesRan, RanOn}
use Rattle.gps_serve.specs.Stamps.{StampsAreGiven}
use Rattle.gps_serve.specs.Starts.{IsFreshDevice}
use Rattle.serve_floor.specs.Bursts.{HasStopped}
use Rattle.gps_serve.specs.Statuses.{AllEnded, EachWhole}
use Rattle.serve_floor.specs.Bursts.{AreAtRest}
use Rattle.gps_serve.specs.Units.{CountFromZero}
use Rattle.gps_serve.specs.Works.{WatchedBy, MonitorsRan}
use Rattle.gps_serve.proofs.Devices.{devices_ready}
use Rattle.gps_serve.proofs.Gates.{each_end, of_queue}
use Rattle.gps_serve.proofs.Resting.{all_served}
use Rattle.gps_serve.proofs.Returned.{all_read, hub_returned}
use Rattle.gps_serve.proofs.Monitors.{monitors_ready}

pub devices_by : {S R : Type 0} (may : Option (List Moment)) (facts : SourceFacts S) (terms : Terms) (b : BookView) (inlets : List InletsView) (runs : List (DeviceRun S R))
    → terms_of b inlets terms.wait ≡ terms → DevicesRan may facts terms.lanes runs → AllZip (DeviceReady may facts) inlets runs
devices_by may facts terms b inlets runs same ran =
    devices_ready may facts inlets runs (subst (λ lanes. DevicesRan may facts lanes runs) (sym (ap (λ (t : Terms). t.lanes) same)) ran)

pub units_few : (b : BookView) → BookHolds b → length b.units ≤ 16
units_few b holds = let u = holds.units in let n = holds.count in omega arith

pub monitors_by : (tries : ℕ) (no_memory : Bool) (terms : Terms) (b b' : BookView) (inlets : List InletsView) (watched : List ReadingsDone)
    → terms_of b inlets terms.wait ≡ terms → MonitorsRan tries terms.segments watched → (no_memory ≡ false → EachWhole watched) → b' ≡ b
    → AllZip (MonitorReady tries no_memory) (monitored tries b'.units) watched
monitors_by tries no_memory terms b b' inlets watched same ran whole is =
    let segments = ran.segments_are ∙ ap (monitored tries) (sym (ap (λ (t : Terms). t.segments) same)) in
    subst (λ (x : BookView). AllZip (MonitorReady tries no_memory) (monitored tries x.units) watched) (sym is)
    (monitors_ready tries no_memory b.units ran.monitor_starts watched segments ran.by whole)

pub all_ended_by : {S R : Type 0} (devices : List (DeviceDone S R)) (ends : List (Option DeviceEnd)) → map (λ (d : DeviceDone S R). d.end) devices ≡ ends
    → list_all is_end ends ≡ true → AllEnded devices
all_ended_by {S} {R} devices ends are all =
    sym (list_all-map is_end (λ (d : DeviceDone S R). d.end) devices) ∙ ap (list_all is_end) are ∙ all

first_false : (a b : Bool) → (a || b) ≡ false → a ≡ false
first_false true b e = absurd cc
first_false false b e = refl

pub not_lacked : (no_memory other is_out_of_memory : Bool) → is_out_of_memory ≡ (no_memory || other) → is_out_of_memory ≡ false → no_memory ≡ false
not_lacked no_memory other is_out_of_memory is e = first_false no_memory other (sym is ∙ e)

served_still : (tries : ℕ) (no_memory is_out_of_memory : Bool) (units : List UnitView) (monitors : List MonitorDone) → (is_out_of_memory ≡ false → no_memory ≡ false)
    → AllZip (MonitorServed tries no_memory) units monitors → AllZip (MonitorServed tries is_out_of_memory) units monitors
served_still tries no_memory is_out_of_memory [] [] so served = tt
served_still tries no_memory is_out_of_memory [] (m ∷ monitors) so served = absurd served
served_still tries no_memory is_out_of_memory (u ∷ units) [] so served = absurd served
served_still tries no_memory is_out_of_memory (u ∷ units) (m ∷ monitors) so served = (
  record {
    segment = served.0.segment;
    published = served.0.published;
    climbs = served.0.climbs;
    all = λ (e : is_out_of_memory ≡ false). served.0.all (so e);
    loads = λ (e : is_out_of_memory ≡ false). served.0.loads (so e);
  },
  served_still tries no_memory is_out_of_memory units monitors so served.1,
)

segments_of_units : (units : List UnitView) → length (map segment_of units) ≡ length units
segments_of_units [] = refl
segments_of_units (u ∷ units) = ap suc (segments_of_units units)

-- the headline, of the parts as they are handed back
pub at_end_of : {G S K R : Type 0} (terms : Terms) (queue tries : ℕ) (may : Option (List Moment)) (clock : Option Dial) (links : Option (List (Way S K))) (facts : WorldFacts G S K)
    (back : HandedBack G S K R) (no_memory : Bool) (seat : Admissions) (ways : List (SessionLink S K R)) (gate : G)
    (b b' b'' : BookView) (inlets : List InletsView) (inputs : List (Taking Piece)) (ends : List (Option DeviceEnd))
    → terms_of b inlets terms.wait ≡ terms → BookHolds b
    → DaemonHub (record { book = b; devices = devices_of inlets ends; inputs = inputs; done = seat.done; wait = terms.wait })
    → AreAdmitted seat.links b.sessions inputs → map (lanes_of queue) ways ≡ seat.links
    → All IsUnit b.units → AreAtRest (length terms.segments) b.units → CountFromZero terms.segments → All IsClosed b.sessions → All HasStopped ends
    → AllZip (DeviceServed may facts.sources) inlets back.devices → map (λ (d : DeviceDone S R). d.end) back.devices ≡ ends
    → b' ≡ b → AllServed facts.sources facts.sinks b.sessions inputs back.sessions
    → b'' ≡ b' → AllZip (MonitorServed tries no_memory) (monitored tries b'.units) back.monitors
    → map (λ (m : MonitorDone). m.unit) back.monitors ≡ range_with_len 0 (length back.monitors) → (back.no_memory ≡ false → no_memory ≡ false)
    → back.gate ≡ Some gate → GateServed facts links back.full back.no_memory seat.done back.sessions gate
    → (back.no_memory ≡ true → ShowsOutOfMemory links (facts.gates.links gate) back b)
    → StampsAreGiven clock (map (λ (d : DeviceDone S R). d.bytes_tx.put) back.devices)
    → AtEnd (start_with (settings_of terms queue tries) may clock links) facts back b''
at_end_of {G} {S} {K} {R} terms queue tries may clock links facts back no_memory seat ways gate b b' b'' inlets inputs ends same holds hub admitted lanes keeps
    rests zeros closed stopped served ends_are is sessions_are is' monitors_are numbers so gate_is door short stamps =
    let segments : map segment_of b.units ≡ terms.segments = ap (λ (t : Terms). t.segments) same in
    subst (λ (x : BookView). AtEnd (start_with (settings_of terms queue tries) may clock links) facts back x) (sym (is' ∙ is)) (
    record {
      names = ap (λ (t : Terms). t.names) same;
      limit = ap (λ (t : Terms). t.limit) same;
      queue = of_queue queue seat ways b.sessions inputs lanes admitted;
      requests = subst (λ (most : ℕ). HaveRequests most b.sessions) (ap (λ (t : Terms). t.requests) same) holds.requests;
      inlets = inlets;
      done = seat.done;
      hub = hub_returned facts.sources b inlets (map (λ (d : DeviceDone S R). d.end) back.devices) inputs seat.done terms.wait back.sessions closed sessions_are.inputs_are
          (subst (λ (e : List (Option DeviceEnd)). DaemonHub (record { book = b; devices = devices_of inlets e; inputs = inputs; done = seat.done; wait = terms.wait })) (sym ends_are) hub);
      devices_are = served;
      stamps = stamps;
      inputs_are = all_read facts.sources inputs back.sessions sessions_are.inputs_are;
      outlets_are = sessions_are.outlets_are;
      numbers = sessions_are.numbers;
      stopped = each_end HasStopped back.devices ends ends_are stopped;
      closed = closed;
      units = all_served b.units (length terms.segments) keeps rests
          (let count : length terms.segments ≡ length b.units = ap length (sym segments) ∙ segments_of_units b.units in omega (arith, count))
          (subst CountFromZero (sym segments) zeros);
      monitor_numbers = numbers;
      monitors_are = served_still tries no_memory back.no_memory (monitored tries b.units) back.monitors so
          (subst (λ (x : BookView). AllZip (MonitorServed tries no_memory) (monitored tries x.units) back.monitors) is monitors_are);
      gate = gate;
      gate_is = gate_is;
      door = door;
      short = short;
    }
    )

-- the devices' readers ran on the lanes that the hub was told of
pub devices_ran_on : {S R : Type 0} (may : Option (List Moment)) (facts : SourceFacts S) (terms : Terms) (b : BookView) (w : ℕ) (starts starts' : List (DeviceStart S R))
    (first : List InletsView) (runs : List (DeviceRun S R))
    → terms ≡ terms_of b first w → AllZip (IsFreshDevice facts) starts first → starts' ≡ starts → AllZip (RanOn may facts) starts' runs
    → DevicesRan may facts terms.lanes runs
devices_ran_on may facts terms b w starts starts' first runs are fresh same ran = record {
  starts = starts;
  first = first;
  fresh = fresh;
  lanes_are = ap (λ (t : Terms). t.lanes) (sym are);
  ran = subst (λ s. AllZip (RanOn may facts) s runs) same ran;
}

-- the monitors read the segments that the hub was told of
pub monitors_ran_on : (tries : ℕ) (terms : Terms) (b : BookView) (first : List InletsView) (w : ℕ) (monitor_starts monitor_starts' : List MonitorStart) (watched : List ReadingsDone)
    → terms ≡ terms_of b first w → segments_of monitor_starts ≡ monitored tries (map segment_of b.units) → monitor_starts' ≡ monitor_starts → AllZip (WatchedBy tries) monitor_starts' watched
    → MonitorsRan tries terms.segments watched
monitors_ran_on tries terms b first w monitor_starts monitor_starts' watched are segments same by = record {
  monitor_starts = monitor_starts;
  segments_are = segments ∙ ap (λ (t : Terms). monitored tries t.segments) (sym are);
  by = subst (λ l. AllZip (WatchedBy tries) l watched) same by;
}

pub segments_count : (terms : Terms) (b : BookView) (first : List InletsView) (w : ℕ) → terms ≡ terms_of b first w → length terms.segments ≡ length b.units
segments_count terms b first w are = ap (λ (t : Terms). length t.segments) are ∙ segments_of_units b.units
