-- What is left of the devices, put together one after another.
use Rattle.std.proofs.Common.{◌≡◌, ◌<◌, suc, List, [], ◌∷◌, ◌++◌, map, length, Option, Some, None, option_map, refl, sym, ◌∙◌, ap, subst, append_assoc, arith}
use Rattle.std.proofs.lemmas.List.{append-nil, map-append}
use Rattle.std.specs.List.{AllZip}
use Rattle.gps_fixed.specs.Moment.{Moment}
use Rattle.gps_lane.specs.Ends.{Putting, Taking}
use Rattle.hub_promise.specs.declared.ends.DeviceEnd.{DeviceEnd}
use Rattle.hub_promise.specs.Parts.{LaneNames, InletsView, names_of}
use Rattle.gps_lane.specs.declared.piece.Ending.TheVariants.{Failed}
use Rattle.gps_lane.specs.declared.piece.Piece.{Piece}
use Rattle.serve_workers.specs.declared.reading.ReaderDone.{ReaderDone}
use Rattle.serve_workers.specs.EdgeLines.{HandsLines}
use Rattle.serve_workers.specs.Readings.{HandsOn, IsDevicePiece}
use Rattle.gps_lane.specs.Carried.{device_part}
use Rattle.serve_end.specs.declared.done.DeviceDone.{DeviceDone}
use Rattle.serve_end.specs.declared.device.DeviceRun.{DeviceRun}
use Rattle.serve_end.specs.Failing.{source_of}
use Rattle.serve_end.specs.Lanes.{AreEnds, OneMoreOfEach, Settles, SettlesSome, ZipOption, tx_of}
use Rattle.serve_end.specs.Lanes as lane
use Rattle.serve_end.proofs.Endings.{each_one_more}
use Rattle.gps_serve.specs.declared.starts.DeviceStart.{DeviceStart}
use Rattle.gps_serve.specs.declared.starts.EdgeStart.{EdgeStart}
use Rattle.gps_serve.specs.Served.{DeviceServed, IsOneLane, ReaderServed}
use Rattle.serve_end.specs.Runs.{EdgeStartsEmpty, EdgesRan, SourceFacts}
use Rattle.gps_serve.specs.Runs.{DeviceReady, DevicesRan, DevicesSoFar, RanOn}
use Rattle.gps_serve.specs.Starts.{IsFreshDevice, IsFreshEdge, edge_start_of, starts_of}
use Rattle.serve_workers.proofs.Zips.{zip_more}

-- the end that gets a device's bytes is still that of its reader's lane
pub bytes_lane : {S R : Type 0} (may : Option (List Moment)) (facts : SourceFacts S) (x : InletsView) (run : DeviceRun S R) → DeviceReady may facts x run
    → x.bytes.lane ≡ run.bytes.pieces.lane
bytes_lane may facts x run ready =
    ap (λ (n : LaneNames). n.bytes) ready.lanes ∙ ready.fresh.bytes.one ∙ sym (ap (λ (tx : Putting Piece). tx.lane) ready.ran.bytes.lane)

edge_ends : {S R : Type 0} (facts : SourceFacts S) (start : Option (EdgeStart S R)) (first rx : Option (Taking Piece)) (reader : Option (ReaderDone S R))
    → IsFreshEdge facts start first → option_map (λ (y : Taking Piece). y.lane) rx ≡ option_map (λ (y : Taking Piece). y.lane) first → EdgesRan facts (option_map edge_start_of start) reader
    → AreEnds (tx_of reader) rx
edge_ends facts None None None None fresh lanes ran = tt
edge_ends facts None None (Some rx) None fresh lanes ran = absurd cc
edge_ends facts None None rx (Some reader) fresh lanes ran = absurd ran
edge_ends facts None (Some first) rx reader fresh lanes ran = absurd fresh
edge_ends facts (Some start) None rx reader fresh lanes ran = absurd fresh
edge_ends facts (Some start) (Some first) rx None fresh lanes ran = absurd ran
edge_ends facts (Some start) (Some first) None (Some reader) fresh lanes ran = absurd cc
edge_ends facts (Some start) (Some first) (Some rx) (Some reader) fresh lanes ran =
    let same : rx.lane ≡ first.lane = cc lanes in
    same ∙ fresh.0.one ∙ sym (ap (λ (tx : Putting Piece). tx.lane) ran.lane)

pub edges_lane : {S R : Type 0} (may : Option (List Moment)) (facts : SourceFacts S) (x : InletsView) (run : DeviceRun S R) → DeviceReady may facts x run
    → AreEnds (tx_of run.edges) x.edges
edges_lane may facts x run ready =
    edge_ends facts ready.start.edges ready.first.edges x.edges run.edges ready.fresh.edges (ap (λ (n : LaneNames). n.edges) ready.lanes) ready.ran.edges

bytes_served : {S R : Type 0} (may : Option (List Moment)) (facts : SourceFacts S) (x : InletsView) (run : DeviceRun S R) → DeviceReady may facts x run
    → ReaderServed (HandsOn device_part (IsDevicePiece may)) facts run.bytes.pieces run.bytes.source
bytes_served may facts x run ready =
    let start = ready.start in
    record {
      first = start.source;
      unread = ready.fresh.unread;
      ending = run.bytes.ending;
      hands = subst (λ put. HandsOn device_part (IsDevicePiece may) run.bytes.ending put run.bytes.pieces.put (facts.content start.source) (facts.content run.bytes.source))
          ready.fresh.bytes.put ready.ran.bytes.hands;
      failed = λ (e : run.bytes.ending ≡ Some Failed). let rose = ready.ran.bytes.meets.rose (ready.ran.bytes.meets.said e) in omega (arith, rose);
    }

lines_served : {S R : Type 0} (facts : SourceFacts S) (start : Option (EdgeStart S R)) (first : Option (Taking Piece)) (reader : Option (ReaderDone S R))
    → IsFreshEdge facts start first → EdgesRan facts (option_map edge_start_of start) reader
    → ZipOption (ReaderServed HandsLines facts) (tx_of reader) (source_of reader)
lines_served facts start first None fresh ran = tt
lines_served facts None first (Some reader) fresh ran = absurd ran
lines_served facts (Some start) None (Some reader) fresh ran = absurd fresh
lines_served facts (Some start) (Some first) (Some reader) fresh ran = record {
  first = start.source;
  unread = fresh.1;
  ending = reader.ending;
  hands = subst (λ put. HandsLines reader.ending put reader.pieces.put (facts.content start.source) (facts.content reader.source)) fresh.0.put ran.hands;
  failed = λ (e : reader.ending ≡ Some Failed). let rose = ran.meets.rose (ran.meets.said e) in omega (arith, rose);
}

-- both ends of a lane that is settled
edge_lane : (tx : Option (Putting Piece)) (rx rx' : Option (Taking Piece)) → AreEnds tx rx → SettlesSome tx rx rx' → ZipOption IsOneLane tx rx'
edge_lane None None None ends settles = tt
edge_lane None None (Some rx') ends settles = absurd cc
edge_lane None (Some rx) rx' ends settles = absurd ends
edge_lane (Some tx) None rx' ends settles = absurd ends
edge_lane (Some tx) (Some rx) None ends settles = absurd settles
edge_lane (Some tx) (Some rx) (Some rx') ends settles = record { one = settles.one; begins = settles.begins }

-- the readers of a device began with empty lanes
edge_starts_empty : {S R : Type 0} (facts : SourceFacts S) (start : Option (EdgeStart S R)) (first : Option (Taking Piece)) → IsFreshEdge facts start first
    → EdgeStartsEmpty (option_map edge_start_of start)
edge_starts_empty facts None first fresh = tt
edge_starts_empty facts (Some start) None fresh = absurd fresh
edge_starts_empty facts (Some start) (Some first) fresh = fresh.0.put

-- what is left of a device, once its lanes are settled
pub device_served : {S R : Type 0} (may : Option (List Moment)) (facts : SourceFacts S) (x : InletsView) (run : DeviceRun S R) (done : DeviceDone S R)
    → DeviceReady may facts x run → done.source ≡ Some run.bytes.source → done.edges ≡ source_of run.edges → done.bytes_tx ≡ run.bytes.pieces
    → done.edges_tx ≡ tx_of run.edges → Settles run.bytes.pieces x.bytes done.bytes_rx → SettlesSome (tx_of run.edges) x.edges done.edges_rx
    → DeviceServed may facts x done
device_served {S} {R} may facts x run done ready source edges bytes_tx edges_tx bytes_rx edges_rx =
    let start = ready.start in
    let ends : AreEnds (tx_of run.edges) x.edges = edges_lane may facts x run ready in
    let more : OneMoreOfEach (lane.lanes x.bytes x.edges) (lane.lanes done.bytes_rx done.edges_rx) =
    each_one_more facts run x.bytes done.bytes_rx x.edges done.edges_rx ends bytes_rx edges_rx may (starts_of start) ready.ran
    (record { bytes = ready.fresh.bytes.put; edges = edge_starts_empty facts start.edges ready.first.edges ready.fresh.edges }) in
    record {
      source = run.bytes.source;
      source_is = source;
      bytes = subst (λ (tx : Putting Piece). ReaderServed (HandsOn device_part (IsDevicePiece may)) facts tx run.bytes.source) (sym bytes_tx)
          (bytes_served may facts x run ready);
      bytes_lane = subst (λ (tx : Putting Piece). IsOneLane tx done.bytes_rx) (sym bytes_tx) (record { one = bytes_rx.one; begins = bytes_rx.begins });
      edges = subst (λ (tx : Option (Putting Piece)). ZipOption (ReaderServed HandsLines facts) tx done.edges) (sym edges_tx)
          (subst (λ (s : Option S). ZipOption (ReaderServed HandsLines facts) (tx_of run.edges) s) (sym edges)
          (lines_served facts start.edges ready.first.edges run.edges ready.fresh.edges ready.ran.edges));
      edges_lane = subst (λ (tx : Option (Putting Piece)). ZipOption IsOneLane tx done.edges_rx) (sym edges_tx)
          (edge_lane (tx_of run.edges) x.edges done.edges_rx ends edges_rx);
      settled = record { bytes = more.bytes; edges = more.edges };
    }

-- of each device
all_ready : {S R : Type 0} (may : Option (List Moment)) (facts : SourceFacts S) (starts : List (DeviceStart S R)) (first inlets : List InletsView) (runs : List (DeviceRun S R))
    → AllZip (IsFreshDevice facts) starts first → map names_of inlets ≡ map names_of first → AllZip (RanOn may facts) starts runs
    → AllZip (DeviceReady may facts) inlets runs
all_ready may facts [] [] [] [] fresh lanes ran = tt
all_ready may facts [] [] [] (run ∷ runs) fresh lanes ran = absurd ran
all_ready may facts [] [] (x ∷ inlets) runs fresh lanes ran = absurd cc
all_ready may facts [] (f ∷ first) inlets runs fresh lanes ran = absurd fresh
all_ready may facts (start ∷ starts) [] inlets runs fresh lanes ran = absurd fresh
all_ready may facts (start ∷ starts) (f ∷ first) [] runs fresh lanes ran = absurd cc
all_ready may facts (start ∷ starts) (f ∷ first) (x ∷ inlets) [] fresh lanes ran = absurd ran
all_ready may facts (start ∷ starts) (f ∷ first) (x ∷ inlets) (run ∷ runs) fresh lanes ran = (
  record { start = start; first = f; fresh = fresh.0; lanes = cc lanes; ran = ran.0 },
  all_ready may facts starts first inlets runs fresh.1 (cc lanes) ran.1,
)

pub devices_ready : {S R : Type 0} (may : Option (List Moment)) (facts : SourceFacts S) (inlets : List InletsView) (runs : List (DeviceRun S R))
    → DevicesRan may facts (map names_of inlets) runs → AllZip (DeviceReady may facts) inlets runs
devices_ready may facts inlets runs ran = all_ready may facts ran.starts ran.first inlets runs ran.fresh (sym ran.lanes_are) ran.ran

pub devices_begin : {S R : Type 0} (may : Option (List Moment)) (facts : SourceFacts S) (inlets left : List InletsView) (runs runs' : List (DeviceRun S R)) (devices : List (DeviceDone S R))
    → AllZip (DeviceReady may facts) inlets runs → left ≡ inlets → runs' ≡ runs → devices ≡ [] → DevicesSoFar may facts inlets left runs' devices
devices_begin {S} {R} may facts inlets left runs runs' devices ready left_is runs_are none = record {
  done = [];
  split = sym left_is;
  served = subst (AllZip (DeviceServed {R = R} may facts) []) (sym none) tt;
  ready = subst (λ l. AllZip (DeviceReady may facts) l runs') (sym left_is) (subst (AllZip (DeviceReady may facts) inlets) (sym runs_are) ready);
}

pub ends_begin : {S R : Type 0} (devices : List (DeviceDone S R)) (ends all : List (Option DeviceEnd)) → devices ≡ [] → ends ≡ all
    → map (λ (d : DeviceDone S R). d.end) devices ++ ends ≡ all
ends_begin {S} {R} devices ends all none same = ap (λ l. map (λ (d : DeviceDone S R). d.end) l ++ ends) none ∙ same

-- one more is left if a run is
zip_some : {A B : Type 0} (P : A → B → Type 0) (xs : List A) (ys : List B) → AllZip P xs ys → 0 < length ys → 0 < length xs
zip_some P [] [] zip some = some
zip_some P [] (y ∷ ys) zip some = absurd zip
zip_some P (x ∷ xs) ys zip some = omega arith

pub lanes_left : {S R : Type 0} (may : Option (List Moment)) (facts : SourceFacts S) (inlets left : List InletsView) (run : DeviceRun S R) (runs runs' : List (DeviceRun S R))
    (devices : List (DeviceDone S R)) → DevicesSoFar may facts inlets left runs devices → runs ≡ run ∷ runs' → 0 < length left
lanes_left may facts inlets left run runs runs' devices so runs_are =
    let there = ap length runs_are in
    zip_some (DeviceReady may facts) left runs so.ready (omega arith)

-- the next device, whose lanes and run were taken
pub next_device : {S R : Type 0} (may : Option (List Moment)) (facts : SourceFacts S) (inlets left left' : List InletsView) (x : InletsView) (run : DeviceRun S R)
    (runs runs' : List (DeviceRun S R)) (devices : List (DeviceDone S R))
    → DevicesSoFar may facts inlets left runs devices → left ≡ x ∷ left' → runs ≡ run ∷ runs' → DevicesSoFar may facts inlets (x ∷ left') (run ∷ runs') devices
next_device may facts inlets left left' x run runs runs' devices so left_is runs_are =
    subst (λ l. DevicesSoFar may facts inlets l (run ∷ runs') devices) left_is (subst (λ r. DevicesSoFar may facts inlets left r devices) runs_are so)

-- a device more
pub devices_more : {S R : Type 0} (may : Option (List Moment)) (facts : SourceFacts S) (inlets left : List InletsView) (x : InletsView) (run : DeviceRun S R) (runs : List (DeviceRun S R))
    (devices devices' : List (DeviceDone S R)) (device : DeviceDone S R)
    → DevicesSoFar may facts inlets (x ∷ left) (run ∷ runs) devices → DeviceServed may facts x device → devices' ≡ devices ++ device ∷ []
    → DevicesSoFar may facts inlets left runs devices'
devices_more may facts inlets left x run runs devices devices' device so served more = record {
  done = so.done ++ x ∷ [];
  split = so.split ∙ sym (append_assoc so.done (x ∷ []) left);
  served = subst (AllZip (DeviceServed may facts) (so.done ++ x ∷ [])) (sym more) (zip_more (DeviceServed may facts) so.done devices x device so.served served);
  ready = so.ready.1;
}

-- and its end
pub ends_more : {S R : Type 0} (devices devices' : List (DeviceDone S R)) (device : DeviceDone S R) (end : Option DeviceEnd) (ends ends' all : List (Option DeviceEnd))
    → map (λ (d : DeviceDone S R). d.end) devices ++ ends ≡ all → ends ≡ end ∷ ends' → device.end ≡ end → devices' ≡ devices ++ device ∷ []
    → map (λ (d : DeviceDone S R). d.end) devices' ++ ends' ≡ all
ends_more {S} {R} devices devices' device end ends ends' all so ends_are same more =
    let end_of : DeviceDone S R → Option DeviceEnd = λ d. d.end in
    ap (λ l. map end_of l ++ ends') more ∙ ap (λ l. l ++ ends') (map-append end_of devices (device ∷ [])) ∙ append_assoc (map end_of devices) (device.end ∷ []) ends'
    ∙ ap (λ e. map end_of devices ++ e ∷ ends') same ∙ ap (λ l. map end_of devices ++ l) (sym ends_are) ∙ so

none_left : {X : Type 0} (xs : List X) → length xs ≡ 0 → xs ≡ []
none_left [] none = refl
none_left (x ∷ xs) none = absurd (omega arith)

all_of : {S R : Type 0} (may : Option (List Moment)) (facts : SourceFacts S) (inlets left : List InletsView) (runs : List (DeviceRun S R)) (devices : List (DeviceDone S R))
    → DevicesSoFar may facts inlets left runs devices → left ≡ [] → AllZip (DeviceServed may facts) inlets devices
all_of may facts inlets left runs devices so none =
    subst (λ l. AllZip (DeviceServed may facts) l devices) (sym (so.split ∙ ap (λ l. so.done ++ l) none ∙ append-nil so.done)) so.served

-- two lists side by side have the same length
pub zip_length : {A B : Type 0} (P : A → B → Type 0) (xs : List A) (ys : List B) → AllZip P xs ys → length xs ≡ length ys
zip_length P [] [] zip = refl
zip_length P [] (y ∷ ys) zip = absurd zip
zip_length P (x ∷ xs) [] zip = absurd zip
zip_length P (x ∷ xs) (y ∷ ys) zip = ap suc (zip_length P xs ys zip.1)

-- all of them
pub devices_all : {S R : Type 0} (may : Option (List Moment)) (facts : SourceFacts S) (inlets left : List InletsView) (runs : List (DeviceRun S R)) (devices : List (DeviceDone S R))
    → DevicesSoFar may facts inlets left runs devices → length runs ≡ 0 → AllZip (DeviceServed may facts) inlets devices
devices_all may facts inlets left runs devices so none =
    all_of may facts inlets left runs devices so (none_left left (zip_length (DeviceReady may facts) left runs so.ready ∙ none))

pub ends_all : {S R : Type 0} (may : Option (List Moment)) (facts : SourceFacts S) (inlets left : List InletsView) (runs : List (DeviceRun S R)) (devices : List (DeviceDone S R))
    (ends all : List (Option DeviceEnd)) → DevicesSoFar may facts inlets left runs devices → length runs ≡ 0 → length ends ≡ length left
    → map (λ (d : DeviceDone S R). d.end) devices ++ ends ≡ all → map (λ (d : DeviceDone S R). d.end) devices ≡ all
ends_all {S} {R} may facts inlets left runs devices ends all so none same are =
    let end_of : DeviceDone S R → Option DeviceEnd = λ d. d.end in
    sym (ap (λ l. map end_of devices ++ l) (none_left ends (same ∙ zip_length (DeviceReady may facts) left runs so.ready ∙ none)) ∙ append-nil (map end_of devices)) ∙ are
