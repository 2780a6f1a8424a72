-- What a daemon begins with, and what it hands back: its book, and what is left of its devices, sessions, monitors and door, which agree with each other.
use Rattle.std.specs.Prelude.{◌≡◌, ◌⊎◌, ℕ, Bool, true, List, length, map, Option, Some}
use Rattle.std.specs.List.{All, AllZip, range_with_len}
use Rattle.gps_fixed.specs.Moment.{Moment}
use Rattle.gps_outside.specs.Ticks.{Dial}
use Rattle.book_sessions.specs.MemberView.{MemberView}
use Rattle.report_book.specs.BookView.{BookView}
use Rattle.serve_end.specs.declared.done.DeviceDone.{DeviceDone}
use Rattle.serve_end.specs.declared.done.SessionDone.{SessionDone}
use Rattle.serve_end.specs.declared.done.MonitorDone.{MonitorDone}
use Rattle.serve_end.specs.declared.plan.Plan.{Plan}
use Rattle.hub_promise.specs.DaemonHub.{DaemonHub}
use Rattle.hub_promise.specs.Keeping.{IsClosed}
use Rattle.hub_promise.specs.Parts.{InletsView, Parts, Terms, devices_of}
use Rattle.serve_end.specs.Failing.{AnyOf}
use Rattle.serve_door.specs.Doors.{Way}
use Rattle.gps_serve.specs.Lost.{DeviceTellsOutOfMemory, LinkIsUncounted, MissesSample, SessionTellsOutOfMemory, WasClosedOutOfMemory, WasLostOutOfMemory}
use Rattle.serve_floor.specs.Bursts.{HasStopped}
use Rattle.gps_serve.specs.Stamps.{StampsAreGiven}
use Rattle.gps_serve.specs.Units.{UnitServed}
use Rattle.gps_serve.specs.Facts.{WorldFacts}
use Rattle.serve_end.specs.declared.served.Served.{Served}
use Rattle.gps_world.specs.declared.world.World.{Ghosts as WorldGhosts}
use Rattle.gps_world.specs.OpenInOrder.{dial_of}
use Rattle.gps_serve.specs.Served.{DeviceServed, GateServed, InputServed, MonitorServed, OutletServed, monitored}

-- what a daemon was told to serve, but for the places
pub record DaemonSettings : Type 0 where
  pub names : List (List ℕ)
  pub limit : ℕ
  pub wait : ℕ
  pub queue : ℕ
  pub requests : ℕ
  pub tries : ℕ

abbrev pub settings_of : Terms → ℕ → ℕ → DaemonSettings
settings_of terms queue tries =
    record { names = terms.names; limit = terms.limit; wait = terms.wait; queue = queue; requests = terms.requests; tries = tries }

abbrev pub settings_in : Plan → DaemonSettings
settings_in plan =
    record { names = plan.names; limit = plan.limit; wait = plan.wait; queue = plan.queue; requests = plan.requests; tries = plan.tries }

-- what a daemon begins with: what it was told, the stamps that its clock may give, all that its clock tells of its stamps, and the links of its door; the
-- last three if they are told
pub record DaemonStart (S K : Type 0) : Type 0 where
  pub told : DaemonSettings
  pub may : Option (List Moment)
  pub clock : Option Dial
  pub links : Option (List (Way S K))

abbrev pub start_with : {S K : Type 0} → DaemonSettings → Option (List Moment) → Option Dial → Option (List (Way S K)) → DaemonStart S K
start_with told may clock links = record { told = told; may = may; clock = clock; links = links }

-- the same in a world
abbrev pub start_in : {W S K C G : Type 0} → WorldGhosts W S K C G → DaemonSettings → W → DaemonStart S K
start_in ghosts told world = start_with told (dial_of (ghosts.stamps world)) (ghosts.stamps world) (ghosts.links world)

-- what a daemon hands back beside its book: what is left of its devices, sessions, monitors and door, how many links were dropped because there were
-- too many sessions, and whether it was out of memory
pub record HandedBack (G S K R : Type 0) : Type 0 where
  pub devices : List (DeviceDone S R)
  pub sessions : List (SessionDone S K R)
  pub monitors : List MonitorDone
  pub gate : Option G
  pub full : ℕ
  pub no_memory : Bool

abbrev pub back_with : {G S K R : Type 0} → List (DeviceDone S R) → List (SessionDone S K R) → List MonitorDone → Option G → ℕ → Bool → HandedBack G S K R
back_with devices sessions monitors gate full no_memory =
    record { devices = devices; sessions = sessions; monitors = monitors; gate = gate; full = full; no_memory = no_memory }

abbrev pub handed_back : {W R S K C G : Type 0} → Served W R S K C G → HandedBack G S K R
handed_back served =
    back_with served.devices.items served.sessions.items served.monitors.items served.gate served.full served.no_memory

-- Why a daemon says that it was out of memory: a device was lost for that, a reader of a device says so, a session was closed for that, a reader of a
-- session says so, a monitor could not keep a sample, or a link was dropped for it. `told` are the links that the door held before, `left` those that it
-- still has.
abbrev pub ShowsOutOfMemory : {G S K R : Type 0} → Option (List (Way S K)) → Option (List (Way S K)) → HandedBack G S K R → BookView → Type 0
ShowsOutOfMemory told left back book =
    AnyOf WasLostOutOfMemory back.devices ⊎ AnyOf DeviceTellsOutOfMemory back.devices ⊎ AnyOf WasClosedOutOfMemory book.sessions
    ⊎ AnyOf SessionTellsOutOfMemory back.sessions
    ⊎ AnyOf MissesSample back.monitors ⊎ LinkIsUncounted told left (length back.sessions) back.full

-- how many items may wait for each session
abbrev pub HaveQueue : ℕ → List MemberView → Type 0
HaveQueue queue sessions = All (λ (a : MemberView). a.session.cap ≡ queue) sessions

-- how many requests of each session are answered
abbrev pub HaveRequests : ℕ → List MemberView → Type 0
HaveRequests most sessions = All (λ (a : MemberView). a.session.most_requests ≡ most) sessions

-- what the hub knows of its parts, by the lanes that are handed back
abbrev pub parts_at_end : {G S K R : Type 0} → BookView → List InletsView → HandedBack G S K R → Bool → ℕ → Parts
parts_at_end {G} {S} {K} {R} book inlets back done wait = record {
  book = book;
  devices = devices_of inlets (map (λ (d : DeviceDone S R). d.end) back.devices);
  inputs = map (λ (s : SessionDone S K R). s.input_rx) back.sessions;
  done = done;
  wait = wait;
}

-- What is handed back at the end fits together. `inlets` and `done` are the devices' lanes and the door's state as the hub left them. The lanes that are
-- handed back (`back`) may have one more piece received, for which no call of the hub was made. So `hub` names the devices' lanes as the hub left them; it
-- names the sessions' lanes as they are handed back, since a closed session answers nothing.
pub record AtEnd {G S K R : Type 0} (start : DaemonStart S K) (facts : WorldFacts G S K) (back : HandedBack G S K R) (book : BookView) : Type 0 where
  -- the book is that of the daemon's settings
  pub names : book.names ≡ start.told.names
  pub limit : book.log.limit ≡ start.told.limit
  pub queue : HaveQueue start.told.queue book.sessions
  -- this number of requests of each session is answered
  pub requests : HaveRequests start.told.requests book.sessions
  -- what holds of the hub holds of the book, the lanes and the devices' ends
  pub inlets : List InletsView
  pub done : Bool
  pub hub : DaemonHub (parts_at_end book inlets back done start.told.wait)
  -- What came into each device's lane is what was read from its source, with the stamps that the clock gave for it. A reader that was out of memory, or
  -- told to end, may have read up to 512 bytes more; of edges, more lines.
  pub devices_are : AllZip (DeviceServed start.may facts.sources) inlets back.devices
  pub stamps : StampsAreGiven start.clock (map (λ (d : DeviceDone S R). d.bytes_tx.put) back.devices)
  -- the same for each session's input; what was written to its client is a prefix of what the book gave it; session k has the number k
  pub inputs_are : All (λ (s : SessionDone S K R). InputServed facts.sources s) back.sessions
  pub outlets_are : AllZip (OutletServed facts.sinks) book.sessions back.sessions
  pub numbers : map (λ (s : SessionDone S K R). s.number) back.sessions ≡ range_with_len 0 (length book.sessions)
  -- each device has ended or was lost, and each session is closed
  pub stopped : All (λ (d : DeviceDone S R). HasStopped d.end) back.devices
  pub closed : All IsClosed book.sessions
  -- each unit's samples are all published, unless its count is spent; each monitor took published samples
  pub units : All UnitServed book.units
  pub monitor_numbers : map (λ (m : MonitorDone). m.unit) back.monitors ≡ range_with_len 0 (length back.monitors)
  pub monitors_are : AllZip (MonitorServed start.told.tries back.no_memory) (monitored start.told.tries book.units) back.monitors
  -- what became of each link of the door
  pub gate : G
  pub gate_is : back.gate ≡ Some gate
  pub door : GateServed facts start.links back.full back.no_memory done back.sessions gate
  -- if the daemon says that it was out of memory, that shows
  pub short : back.no_memory ≡ true → ShowsOutOfMemory start.links (facts.gates.links gate) back book
