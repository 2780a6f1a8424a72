-- If a device was lost by the fault of a source, a reader of it says so, and the status is 3.
use Rattle.std.proofs.Common.{◌≡◌, ◌<◌, ◌⊎◌, inl, inr, ℕ, Bool, true, false, ◌||◌, zero, suc, List, [], ◌∷◌, ◌++◌, map, Option, Some, None, is_some, option_map, refl, sym, ◌∙◌, ap, subst, arith}
use Rattle.std.specs.List.{All, list_all}
use Rattle.gps_fixed.specs.Moment.{Moment}
use Rattle.gps_lane.specs.Ends.{Putting, Taking}
use Rattle.hub_promise.specs.declared.ends.DeviceEnd.{DeviceEnd}
use Rattle.hub_promise.specs.declared.ends.DeviceEnd.TheVariants.{Ended, ReadFault, NoMemory as LostNoMemory}
use Rattle.hub_promise.specs.Given.{end_of, ending_of, is_end}
use Rattle.hub_promise.specs.Parts.{InletsView}
use Rattle.serve_end.specs.declared.done.DeviceDone.{DeviceDone}
use Rattle.gps_lane.specs.declared.piece.Ending.{Ending}
use Rattle.gps_lane.specs.declared.piece.Ending.TheVariants.{End, Failed, NoMemory}
use Rattle.gps_lane.specs.declared.piece.Piece.{Piece}
use Rattle.serve_workers.specs.declared.reading.ReaderDone.{ReaderDone}
use Rattle.serve_end.specs.declared.device.DeviceRun.{DeviceRun}
use Rattle.serve_end.specs.Failing.{AnyOf, DeviceFailed, EdgeFailed, EdgeSaysFailed, MetFault, SaysFailed, SourceFailed, source_of}
use Rattle.serve_end.specs.Lanes.{ZipOption, tx_of}
use Rattle.serve_end.specs.Runs.{EachRun, EdgesRan, SourceFacts}
use Rattle.serve_end.proofs.Causes.{each_run_more}
use Rattle.gps_serve.specs.declared.starts.EdgeStart.{EdgeStart}
use Rattle.serve_workers.specs.EdgeLines.{HandsLines}
use Rattle.gps_serve.specs.Runs.{DeviceReady}
use Rattle.gps_serve.specs.Starts.{IsFreshEdge, edge_start_of}
use Rattle.gps_serve.specs.Lost.{WasLostOutOfMemory}
use Rattle.serve_floor.specs.Bursts.{HasStopped}
use Rattle.gps_serve.specs.Statuses.{TellsFault, TellsNoFault, WasLostByFault}
use Rattle.gps_serve.specs.Whole.{IsWhole, ReaderWhole}
use Rattle.gps_serve.proofs.Lost.{neither, one_false}
use Rattle.gps_serve.proofs.Whole.{bytes_told, lines_told}

not_said : {Says : Type 0} (failed : Bool) → (Says → failed ≡ true) → failed ≡ false → Says → ⊥
not_said failed said none says =
    let yes : failed ≡ true = said says in
    absurd (cc (yes, none))

not_true : (b : Bool) → (b ≡ true → ⊥) → b ≡ false
not_true true not = absurd (not refl)
not_true false not = refl

-- a lane that says so was put into by a reader that says so
bytes_say : {S R : Type 0} (may : Option (List Moment)) (facts : SourceFacts S) (x : InletsView) (run : DeviceRun S R) → DeviceReady may facts x run
    → ending_of run.bytes.pieces.put ≡ Some Failed → run.bytes.ending ≡ Some Failed
bytes_say may facts x run ready tells =
    let start = ready.start in
    sym (bytes_told may run.bytes.ending start.bytes.put run.bytes.pieces.put (facts.content start.source) (facts.content run.bytes.source)
    ready.ran.bytes.hands ready.fresh.bytes.put)
    ∙ tells

lines_say : {S R : Type 0} (facts : SourceFacts S) (start : Option (EdgeStart S R)) (first : Option (Taking Piece)) (reader : Option (ReaderDone S R))
    → IsFreshEdge facts start first → EdgesRan facts (option_map edge_start_of start) reader → TellsFault (tx_of reader) → EdgeSaysFailed reader
lines_say facts start first None fresh ran tells = absurd tells
lines_say facts None first (Some reader) fresh ran tells = absurd ran
lines_say facts (Some start) None (Some reader) fresh ran tells = absurd fresh
lines_say facts (Some start) (Some first) (Some reader) fresh ran tells =
    sym (lines_told reader.ending start.lines.put reader.pieces.put (facts.content start.source) (facts.content reader.source) ran.hands fresh.0.put) ∙ tells

-- no reader of a device says so, and so its lanes do not
pub tells_none : {S R : Type 0} (may : Option (List Moment)) (facts : SourceFacts S) (x : InletsView) (run : DeviceRun S R) (device : DeviceDone S R) (failed : Bool)
    → DeviceReady may facts x run → device.bytes_tx ≡ run.bytes.pieces → device.edges_tx ≡ tx_of run.edges → (SaysFailed run → failed ≡ true) → failed ≡ false
    → TellsNoFault device
tells_none may facts x run device failed ready bytes_tx edges_tx said none = record {
  bytes = λ (tells : ending_of device.bytes_tx.put ≡ Some Failed).
      let same : ending_of run.bytes.pieces.put ≡ ending_of device.bytes_tx.put = ap (λ (tx : Putting Piece). ending_of tx.put) (sym bytes_tx) in
      not_said failed said none (inl (bytes_say may facts x run ready (same ∙ tells)));
  edges = λ (tells : TellsFault device.edges_tx).
      let lines = lines_say facts ready.start.edges ready.first.edges run.edges ready.fresh.edges ready.ran.edges (subst TellsFault edges_tx tells) in
      not_said failed said none (inr lines);
}

-- of each device
pub untold_begin : {S R : Type 0} (devices : List (DeviceDone S R)) → devices ≡ [] → EachRun TellsNoFault devices
untold_begin [] none = tt
untold_begin (device ∷ devices) none = absurd (cc)

pub untold_more : {S R : Type 0} (before now failed : Bool) (devices devices' : List (DeviceDone S R)) (device : DeviceDone S R)
    → (before ≡ false → EachRun TellsNoFault devices) → (now ≡ false → TellsNoFault device) → failed ≡ (before || now) → devices' ≡ devices ++ device ∷ []
    → failed ≡ false → EachRun TellsNoFault devices'
untold_more before now failed devices devices' device so one is more e =
    let none = neither before now (sym is ∙ e) in
    subst (EachRun TellsNoFault) (sym more) (each_run_more TellsNoFault devices device (so none.0) (one none.1))

-- the source of a reader that met no fault has none
edge_sound : {S R : Type 0} (facts : SourceFacts S) (start : Option (EdgeStart S R)) (first : Option (Taking Piece)) (reader : Option (ReaderDone S R))
    → IsFreshEdge facts start first → EdgesRan facts (option_map edge_start_of start) reader → (EdgeFailed reader → ⊥) → SourceFailed facts.faults (source_of reader) → ⊥
edge_sound facts start first None fresh ran met some = some
edge_sound facts None first (Some reader) fresh ran met some = absurd ran
edge_sound facts (Some start) None (Some reader) fresh ran met some = absurd fresh
edge_sound facts (Some start) (Some first) (Some reader) fresh ran met some =
    let none = ran.meets.same (not_true reader.failed met) in
    let new = fresh.1.no_fault in
    absurd (omega (arith, some, none, new))

-- a device whose readers met no fault has no source that failed
pub none_failed : {S R : Type 0} (may : Option (List Moment)) (facts : SourceFacts S) (x : InletsView) (run : DeviceRun S R) (device : DeviceDone S R) (failed : Bool)
    → DeviceReady may facts x run → device.source ≡ Some run.bytes.source → device.edges ≡ source_of run.edges → (MetFault run → failed ≡ true) → failed ≡ false
    → DeviceFailed facts.faults device → ⊥
none_failed {S} may facts x run device failed ready source edges met none some = elim some [
  | inl bytes ↦
      let rose : SourceFailed facts.faults (Some run.bytes.source) = subst (SourceFailed facts.faults) source bytes in
      let same = ready.ran.bytes.meets.same (not_true run.bytes.failed (λ e. not_said failed met none (inl e))) in
      let new = ready.fresh.unread.no_fault in
      absurd (omega (arith, rose, same, new))
  | inr lines ↦
      edge_sound facts ready.start.edges ready.first.edges run.edges ready.fresh.edges ready.ran.edges (λ e. not_said failed met none (inr e))
      (subst (SourceFailed facts.faults) edges lines)
]

any_split : {X : Type 0} (P : X → Type 0) (xs : List X) (x : X) → AnyOf P (xs ++ x ∷ []) → AnyOf P xs ⊎ P x
any_split P [] x some = elim some [ inl this ↦ inr this | inr none ↦ absurd none ]
any_split P (y ∷ xs) x some = elim some [
  | inl this ↦ inl (inl this)
  | inr later ↦ elim (any_split P xs x later) [ inl front ↦ inl (inr front) | inr last ↦ inr last ]
]

-- of each device
pub missed_begin : {X : Type 0} (P : X → Type 0) (xs : List X) → xs ≡ [] → AnyOf P xs → ⊥
missed_begin P [] none some = some
missed_begin P (x ∷ xs) none some = absurd cc

pub missed_more : {X : Type 0} (P : X → Type 0) (before now failed : Bool) (xs xs' : List X) (x : X) → (before ≡ false → AnyOf P xs → ⊥) → (now ≡ false → P x → ⊥)
    → failed ≡ (before || now) → xs' ≡ xs ++ x ∷ [] → failed ≡ false → AnyOf P xs' → ⊥
missed_more P before now failed xs xs' x so one is more e some =
    let none = neither before now (sym is ∙ e) in
    elim (any_split P xs x (subst (AnyOf P) more some)) [ inl front ↦ so none.0 front | inr last ↦ one none.1 last ]

-- a device is lost by a fault as one of its sources failed
fault_of : (bytes edges : Ending) (end : Option DeviceEnd) → end ≡ Some (end_of bytes edges) → end ≡ Some ReadFault → (bytes ≡ Failed) ⊎ (edges ≡ Failed)
fault_of NoMemory edges end is lost = absurd (cc (is, lost))
fault_of Failed edges end is lost = inl refl
fault_of End End end is lost = absurd (cc (is, lost))
fault_of End Failed end is lost = inr refl
fault_of End NoMemory end is lost = absurd (cc (is, lost))

lines_tell : {S : Type 0} (facts : SourceFacts S) (ending : Ending) (tx : Option (Putting Piece)) (source : Option S) → (source ≡ None → ending ≡ End)
    → ZipOption (ReaderWhole HandsLines facts ending) tx source → ending ≡ Failed → TellsFault tx
lines_tell facts ending None None none whole failed =
    let ended : ending ≡ End = none refl in
    absurd (cc (ended, failed))
lines_tell facts ending None (Some source) none whole failed = absurd whole
lines_tell facts ending (Some tx) None none whole failed = absurd whole
lines_tell facts ending (Some tx) (Some source) none whole failed =
    lines_told (Some ending) [] tx.put (facts.content whole.first) (facts.content source) whole.hands refl ∙ ap Some failed

-- what was put into its lanes says so
not_lost : {S R : Type 0} (may : Option (List Moment)) (facts : SourceFacts S) (device : DeviceDone S R) → TellsNoFault device → IsWhole may facts device
    → WasLostByFault device → ⊥
not_lost may facts device untold whole lost =
    let came = whole (inr lost) in
    elim (fault_of came.bytes_ending came.edges_ending device.end came.end_is lost) [
      | inl failed ↦ untold.bytes (
          bytes_told may (Some came.bytes_ending) [] device.bytes_tx.put (facts.content came.bytes.first) (facts.content came.source) came.bytes.hands refl
          ∙ ap Some failed
          )
      | inr failed ↦ untold.edges (lines_tell facts came.edges_ending device.edges_tx device.edges came.no_edges came.edges failed)
    ]

pub none_lost : {S R : Type 0} (may : Option (List Moment)) (facts : SourceFacts S) (devices : List (DeviceDone S R)) → EachRun TellsNoFault devices
    → All (IsWhole may facts) devices → AnyOf WasLostByFault devices → ⊥
none_lost may facts [] untold whole lost = lost
none_lost may facts (device ∷ devices) untold whole lost = elim lost [
  | inl this ↦ not_lost may facts device untold.0 (whole zero device (omega arith)) this
  | inr later ↦ none_lost may facts devices untold.1 (λ k d there. whole (suc k) d (omega (arith, there))) later
]

-- a device that has stopped and has not ended was lost out of memory, if no lane tells of a failed source
lost_short : {S R : Type 0} (may : Option (List Moment)) (facts : SourceFacts S) (device : DeviceDone S R) (end : Option DeviceEnd) → device.end ≡ end
    → TellsNoFault device → IsWhole may facts device → HasStopped device.end → is_end device.end ≡ false → WasLostOutOfMemory device
lost_short may facts device None is untold whole stopped unended =
    let none : is_some device.end ≡ false = ap is_some is in
    absurd (cc (none, stopped))
lost_short may facts device (Some Ended) is untold whole stopped unended =
    let ended : is_end device.end ≡ true = ap is_end is in
    absurd (cc (ended, unended))
lost_short may facts device (Some ReadFault) is untold whole stopped unended = absurd (not_lost may facts device untold whole is)
lost_short may facts device (Some LostNoMemory) is untold whole stopped unended = is

pub some_lost : {S R : Type 0} (may : Option (List Moment)) (facts : SourceFacts S) (devices : List (DeviceDone S R)) → EachRun TellsNoFault devices
    → All (IsWhole may facts) devices → All (λ (d : DeviceDone S R). HasStopped d.end) devices
    → list_all is_end (map (λ (d : DeviceDone S R). d.end) devices) ≡ false → AnyOf WasLostOutOfMemory devices
some_lost may facts [] untold whole stopped unended = absurd (cc)
some_lost {S} {R} may facts (device ∷ devices) untold whole stopped unended =
    elim (one_false (is_end device.end) (list_all is_end (map (λ (d : DeviceDone S R). d.end) devices)) unended) [
      | inl this ↦ inl (lost_short may facts device device.end refl untold.0 (whole zero device (omega arith)) (stopped zero device (omega arith)) this)
      | inr later ↦
          inr (some_lost may facts devices untold.1 (λ k d there. whole (suc k) d (omega (arith, there)))
          (λ k d there. stopped (suc k) d (omega (arith, there))) later)
    ]

-- if no device is there, none was lost, and none failed
pub no_devices : {X : Type 0} (P : X → Type 0) (devices : List X) (status : ℕ) → devices ≡ [] → AnyOf P devices → status ≡ 3
no_devices P [] status none lost = absurd lost
no_devices P (device ∷ devices) status none lost = absurd (cc)

-- of each of them, by its number
pub all_of_each : {X : Type 0} (P : X → Type 0) (xs : List X) → EachRun P xs → All P xs
all_of_each P [] each k x there = absurd (omega arith)
all_of_each P (y ∷ xs) each zero x there = each.0
all_of_each P (y ∷ xs) each (suc k) x there = all_of_each P xs each.1 k x (omega (arith, there))

-- if no device is there, none tells of one
pub none_tell : {S R : Type 0} (devices : List (DeviceDone S R)) (status : ℕ) → devices ≡ [] → (status ≡ 3) ⊎ All TellsNoFault devices
none_tell [] status none = inr (λ k d there. absurd (omega (arith, there)))
none_tell (device ∷ devices) status none = absurd (cc)
