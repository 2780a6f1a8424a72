-- A lane tells of a reader that was out of memory, and of none unless the daemon was.
use Rattle.std.proofs.Common.{◌≡◌, inl, inr, ℕ, ◌||◌, true, false, zero, suc, List, [], ◌∷◌, Option, Some, None, option_map, refl, sym, ◌∙◌, ap, subst, arith}
use Rattle.std.specs.List.{All, AllZip, list_any}
use Rattle.gps_fixed.specs.Moment.{Moment}
use Rattle.book_sessions.specs.MemberView.{MemberView}
use Rattle.gps_lane.specs.Ends.{Putting, Taking}
use Rattle.hub_promise.specs.Given.{ending_of}
use Rattle.hub_promise.specs.Parts.{InletsView}
use Rattle.serve_end.specs.declared.done.DeviceDone.{DeviceDone}
use Rattle.serve_end.specs.declared.done.SessionDone.{SessionDone}
use Rattle.gps_lane.specs.declared.piece.Ending.{Ending}
use Rattle.gps_lane.specs.declared.piece.Ending.TheVariants.{End, Failed, NoMemory}
use Rattle.gps_lane.specs.declared.piece.Piece.{Piece}
use Rattle.serve_workers.specs.declared.reading.ReaderDone.{ReaderDone}
use Rattle.serve_workers.specs.declared.session.LinkDone.{LinkDone}
use Rattle.serve_end.specs.declared.device.DeviceRun.{DeviceRun}
use Rattle.serve_end.specs.Failing.{AnyOf}
use Rattle.serve_end.specs.Lanes.{tx_of}
use Rattle.serve_end.specs.Runs.{EdgesRan, SourceFacts}
use Rattle.gps_serve.specs.declared.starts.EdgeStart.{EdgeStart}
use Rattle.gps_serve.specs.Facts.{SinkFacts}
use Rattle.gps_serve.specs.Lost.{DeviceHadMemory, DeviceTellsOutOfMemory, ReadersHadMemory, SessionHadMemory, SessionTellsOutOfMemory, TellsOutOfMemory, ended_out_of_memory, lines_out_of_memory, link_out_of_memory, run_out_of_memory}
use Rattle.gps_serve.specs.Readies.{AreReady, IsLeftOfLink, SessionReady}
use Rattle.gps_serve.specs.Runs.{DeviceReady, IsLeftOf}
use Rattle.gps_serve.specs.Starts.{IsFreshEdge, edge_start_of}
use Rattle.gps_serve.proofs.Lost.{either, neither}
use Rattle.gps_serve.proofs.Whole.{bytes_told, input_told, lines_told}

-- a reader that had memory did not end out of memory
not_short : (ending : Option Ending) → ended_out_of_memory ending ≡ false → ending ≡ Some NoMemory → ⊥
not_short ending had is =
    let so : ended_out_of_memory ending ≡ true = ap ended_out_of_memory is in
    absurd (cc (so, had))

bytes_had : {S R : Type 0} (may : Option (List Moment)) (facts : SourceFacts S) (x : InletsView) (run : DeviceRun S R) → DeviceReady may facts x run
    → ended_out_of_memory run.bytes.ending ≡ false → ending_of run.bytes.pieces.put ≡ Some NoMemory → ⊥
bytes_had may facts x run ready had tells =
    let start = ready.start in
    not_short run.bytes.ending had
    (sym (bytes_told may run.bytes.ending start.bytes.put run.bytes.pieces.put (facts.content start.source) (facts.content run.bytes.source)
    ready.ran.bytes.hands ready.fresh.bytes.put)
    ∙ tells)

lines_had : {S R : Type 0} (facts : SourceFacts S) (start : Option (EdgeStart S R)) (first : Option (Taking Piece)) (reader : Option (ReaderDone S R))
    → IsFreshEdge facts start first → EdgesRan facts (option_map edge_start_of start) reader → lines_out_of_memory reader ≡ false → TellsOutOfMemory (tx_of reader) → ⊥
lines_had facts start first None fresh ran had tells = absurd tells
lines_had facts None first (Some reader) fresh ran had tells = absurd ran
lines_had facts (Some start) None (Some reader) fresh ran had tells = absurd fresh
lines_had facts (Some start) (Some first) (Some reader) fresh ran had tells =
    not_short reader.ending had
    (sym (lines_told reader.ending start.lines.put reader.pieces.put (facts.content start.source) (facts.content reader.source) ran.hands fresh.0.put) ∙ tells)

device_had : {S R : Type 0} (may : Option (List Moment)) (facts : SourceFacts S) (x : InletsView) (run : DeviceRun S R) (device : DeviceDone S R)
    → DeviceReady may facts x run → IsLeftOf run device → run_out_of_memory run ≡ false → DeviceHadMemory device
device_had may facts x run device ready left none =
    let had = neither (ended_out_of_memory run.bytes.ending) (lines_out_of_memory run.edges) none in
    record {
      bytes = λ (tells : ending_of device.bytes_tx.put ≡ Some NoMemory).
          let same : ending_of run.bytes.pieces.put ≡ ending_of device.bytes_tx.put = ap (λ (tx : Putting Piece). ending_of tx.put) (sym left.bytes_tx) in
          bytes_had may facts x run ready had.0 (same ∙ tells);
      edges = λ (tells : TellsOutOfMemory device.edges_tx).
          lines_had facts ready.start.edges ready.first.edges run.edges ready.fresh.edges ready.ran.edges had.1 (subst TellsOutOfMemory left.edges_tx tells);
    }

pub devices_had : {S R : Type 0} (may : Option (List Moment)) (facts : SourceFacts S) (inlets : List InletsView) (runs : List (DeviceRun S R))
    (devices : List (DeviceDone S R)) → AllZip (DeviceReady may facts) inlets runs → AllZip IsLeftOf runs devices → list_any run_out_of_memory runs ≡ false
    → All DeviceHadMemory devices
devices_had may facts inlets runs [] ready left none k d there = absurd (omega arith)
devices_had may facts inlets [] (device ∷ devices) ready left none k d there = absurd left
devices_had may facts [] (run ∷ runs) (device ∷ devices) ready left none k d there = absurd ready
devices_had may facts (x ∷ inlets) (run ∷ runs) (device ∷ devices) ready left none zero d there =
    device_had may facts x run device ready.0 left.0 (neither (run_out_of_memory run) (list_any run_out_of_memory runs) none).0
devices_had may facts (x ∷ inlets) (run ∷ runs) (device ∷ devices) ready left none (suc k) d there =
    devices_had may facts inlets runs devices ready.1 left.1 (neither (run_out_of_memory run) (list_any run_out_of_memory runs) none).1 k d (omega arith)

session_had : {S K R : Type 0} (sources : SourceFacts S) (sinks : SinkFacts K) (a : MemberView) (x : Taking Piece) (run : LinkDone S K R) (done : SessionDone S K R)
    → SessionReady sources sinks a x run → IsLeftOfLink sources sinks run done → link_out_of_memory run ≡ false → SessionHadMemory done
session_had sources sinks a x run done ready left had =
    let link = ready.link in
    record {
      input = λ (tells : ending_of done.input_tx.put ≡ Some NoMemory).
          let same : ending_of run.reader.pieces.put ≡ ending_of done.input_tx.put = ap (λ (tx : Putting Piece). ending_of tx.put) (sym left.input) in
          not_short run.reader.ending had
          (sym (input_told run.reader.ending link.pieces.put run.reader.pieces.put (sources.content link.source) (sources.content run.reader.source)
          ready.ran.reads.hands ready.unused.1)
          ∙ same ∙ tells);
    }

pub sessions_had : {S K R : Type 0} (sources : SourceFacts S) (sinks : SinkFacts K) (sessions : List MemberView) (inputs : List (Taking Piece))
    (runs : List (LinkDone S K R)) (dones : List (SessionDone S K R)) → AreReady sources sinks sessions inputs runs
    → AllZip (IsLeftOfLink sources sinks) runs dones → list_any link_out_of_memory runs ≡ false → All SessionHadMemory dones
sessions_had sources sinks sessions inputs runs [] ready left none k d there = absurd (omega arith)
sessions_had sources sinks sessions inputs [] (done ∷ dones) ready left none k d there = absurd left
sessions_had sources sinks [] [] (run ∷ runs) (done ∷ dones) ready left none k d there = absurd ready
sessions_had sources sinks [] (x ∷ inputs) (run ∷ runs) (done ∷ dones) ready left none k d there = absurd ready
sessions_had sources sinks (a ∷ sessions) [] (run ∷ runs) (done ∷ dones) ready left none k d there = absurd ready
sessions_had sources sinks (a ∷ sessions) (x ∷ inputs) (run ∷ runs) (done ∷ dones) ready left none zero d there =
    session_had sources sinks a x run done ready.0 left.0 (neither (link_out_of_memory run) (list_any link_out_of_memory runs) none).0
sessions_had sources sinks (a ∷ sessions) (x ∷ inputs) (run ∷ runs) (done ∷ dones) ready left none (suc k) d there =
    sessions_had sources sinks sessions inputs runs dones ready.1 left.1 (neither (link_out_of_memory run) (list_any link_out_of_memory runs) none).1 k d (omega arith)

is_short_by : (ending : Option Ending) → ended_out_of_memory ending ≡ true → ending ≡ Some NoMemory
is_short_by None short = absurd (cc)
is_short_by (Some End) short = absurd (cc)
is_short_by (Some Failed) short = absurd (cc)
is_short_by (Some NoMemory) short = refl

lines_tell_short : {S R : Type 0} (facts : SourceFacts S) (start : Option (EdgeStart S R)) (first : Option (Taking Piece)) (reader : Option (ReaderDone S R))
    → IsFreshEdge facts start first → EdgesRan facts (option_map edge_start_of start) reader → lines_out_of_memory reader ≡ true → TellsOutOfMemory (tx_of reader)
lines_tell_short facts start first None fresh ran short = absurd (cc)
lines_tell_short facts None first (Some reader) fresh ran short = absurd ran
lines_tell_short facts (Some start) None (Some reader) fresh ran short = absurd fresh
lines_tell_short facts (Some start) (Some first) (Some reader) fresh ran short =
    lines_told reader.ending start.lines.put reader.pieces.put (facts.content start.source) (facts.content reader.source) ran.hands fresh.0.put
    ∙ is_short_by reader.ending short

-- a reader that was out of memory says so in its lane
device_tells_short : {S R : Type 0} (may : Option (List Moment)) (facts : SourceFacts S) (x : InletsView) (run : DeviceRun S R) (device : DeviceDone S R)
    → DeviceReady may facts x run → IsLeftOf run device → run_out_of_memory run ≡ true → DeviceTellsOutOfMemory device
device_tells_short may facts x run device ready left some =
    let start = ready.start in
    elim (either (ended_out_of_memory run.bytes.ending) (lines_out_of_memory run.edges) some) [
      | inl short ↦ inl (
          ap (λ (tx : Putting Piece). ending_of tx.put) left.bytes_tx
          ∙ bytes_told may run.bytes.ending start.bytes.put run.bytes.pieces.put (facts.content start.source) (facts.content run.bytes.source)
          ready.ran.bytes.hands ready.fresh.bytes.put
          ∙ is_short_by run.bytes.ending short
          )
      | inr short ↦ inr (subst TellsOutOfMemory (sym left.edges_tx)
          (lines_tell_short facts ready.start.edges ready.first.edges run.edges ready.fresh.edges ready.ran.edges short))
    ]

-- of some device
pub devices_tell_short : {S R : Type 0} (may : Option (List Moment)) (facts : SourceFacts S) (inlets : List InletsView) (runs : List (DeviceRun S R))
    (devices : List (DeviceDone S R)) → AllZip (DeviceReady may facts) inlets runs → AllZip IsLeftOf runs devices → list_any run_out_of_memory runs ≡ true
    → AnyOf DeviceTellsOutOfMemory devices
devices_tell_short may facts inlets [] devices ready left some = absurd (cc)
devices_tell_short may facts [] (run ∷ runs) devices ready left some = absurd ready
devices_tell_short may facts (x ∷ inlets) (run ∷ runs) [] ready left some = absurd left
devices_tell_short may facts (x ∷ inlets) (run ∷ runs) (device ∷ devices) ready left some = elim (either (run_out_of_memory run) (list_any run_out_of_memory runs) some) [
  | inl this ↦ inl (device_tells_short may facts x run device ready.0 left.0 this)
  | inr later ↦ inr (devices_tell_short may facts inlets runs devices ready.1 left.1 later)
]

session_tells_short : {S K R : Type 0} (sources : SourceFacts S) (sinks : SinkFacts K) (a : MemberView) (x : Taking Piece) (run : LinkDone S K R)
    (done : SessionDone S K R) → SessionReady sources sinks a x run → IsLeftOfLink sources sinks run done → link_out_of_memory run ≡ true → SessionTellsOutOfMemory done
session_tells_short sources sinks a x run done ready left short =
    let link = ready.link in
    ap (λ (tx : Putting Piece). ending_of tx.put) left.input
    ∙ input_told run.reader.ending link.pieces.put run.reader.pieces.put (sources.content link.source) (sources.content run.reader.source)
    ready.ran.reads.hands ready.unused.1
    ∙ is_short_by run.reader.ending short

-- of some session
pub sessions_tell_short : {S K R : Type 0} (sources : SourceFacts S) (sinks : SinkFacts K) (sessions : List MemberView) (inputs : List (Taking Piece))
    (runs : List (LinkDone S K R)) (dones : List (SessionDone S K R)) → AreReady sources sinks sessions inputs runs
    → AllZip (IsLeftOfLink sources sinks) runs dones → list_any link_out_of_memory runs ≡ true → AnyOf SessionTellsOutOfMemory dones
sessions_tell_short sources sinks sessions inputs [] dones ready left some = absurd (cc)
sessions_tell_short sources sinks sessions inputs (run ∷ runs) [] ready left some = absurd left
sessions_tell_short sources sinks [] [] (run ∷ runs) (done ∷ dones) ready left some = absurd ready
sessions_tell_short sources sinks [] (x ∷ inputs) (run ∷ runs) (done ∷ dones) ready left some = absurd ready
sessions_tell_short sources sinks (a ∷ sessions) [] (run ∷ runs) (done ∷ dones) ready left some = absurd ready
sessions_tell_short sources sinks (a ∷ sessions) (x ∷ inputs) (run ∷ runs) (done ∷ dones) ready left some =
    elim (either (link_out_of_memory run) (list_any link_out_of_memory runs) some) [
      | inl this ↦ inl (session_tells_short sources sinks a x run done ready.0 left.0 this)
      | inr later ↦ inr (sessions_tell_short sources sinks sessions inputs runs dones ready.1 left.1 later)
    ]

-- of no device and no session
pub none_read : {S K R : Type 0} (devices : List (DeviceDone S R)) (sessions : List (SessionDone S K R)) → devices ≡ [] → sessions ≡ []
    → ReadersHadMemory devices sessions
none_read [] [] none none' = record {
  devices_had = λ k d there. absurd (omega (arith, there));
  sessions_had = λ k d there. absurd (omega (arith, there));
}
none_read [] (session ∷ sessions) none none' = absurd (cc)
none_read (device ∷ devices) sessions none none' = absurd (cc)
