-- What was taken from the sources is the first of what they held, and all of it if the device has ended.
use Rattle.std.proofs.Common.{◌≡◌, ◌<◌, ℕ, Bool, List, [], ◌∷◌, ◌++◌, map, length, zero, suc, Option, Some, None, is_some, option_map, refl, sym, ◌∙◌, ap, subst, append_assoc, arith}
use Rattle.std.proofs.lemmas.List.{append-nil}
use Rattle.std.specs.List.{All, AllZip, flat_map}
use Rattle.gps_fixed.specs.Moment.{Moment}
use Rattle.gps_lane.specs.Ends.{Putting, Taking}
use Rattle.gps_outside.specs.Told.{Goes, Stream}
use Rattle.gps_fixed.specs.Lists.{IsPrefix}
use Rattle.gps_outside.specs.ReadSteps.{TakesAll, TakesSome}
use Rattle.gps_outside.proofs.Going.{goes_as}
use Rattle.gps_world.specs.Opening.{IsAllLeft}
use Rattle.gps_world.specs.declared.place.Place.{Place}
use Rattle.hub_promise.specs.declared.ends.DeviceEnd.{DeviceEnd}
use Rattle.hub_promise.specs.declared.ends.DeviceEnd.TheVariants.{Ended}
use Rattle.hub_promise.specs.Given.{ending_of}
use Rattle.hub_promise.specs.Parts.{InletsView}
use Rattle.output_lines.specs.declared.closing.SessionEnd.TheVariants.{WriteFault}
use Rattle.gps_world.specs.OpenInOrder.{IsEdgeHeld, IsHeld}
use Rattle.serve_end.specs.declared.done.DeviceDone.{DeviceDone}
use Rattle.serve_end.specs.declared.done.SessionDone.{SessionDone}
use Rattle.gps_lane.specs.Carried.{device_part, input_part}
use Rattle.gps_lane.specs.declared.piece.Ending.{Ending}
use Rattle.gps_lane.specs.declared.piece.Ending.TheVariants as ending
use Rattle.gps_lane.specs.declared.piece.Piece.{Piece}
use Rattle.serve_end.specs.declared.device.DeviceRun.{DeviceRun}
use Rattle.serve_end.specs.Failing.{source_of}
use Rattle.serve_end.specs.Lanes.{tx_of}
use Rattle.serve_end.specs.Outlets.{writer_end}
use Rattle.serve_end.specs.Runs.{EdgesRan, SourceFacts}
use Rattle.serve_workers.specs.declared.reading.ReaderDone.{ReaderDone}
use Rattle.serve_workers.specs.declared.session.SessionLink.{SessionLink}
use Rattle.serve_workers.specs.declared.session.LinkDone.{LinkDone}
use Rattle.serve_workers.specs.Sessions.{SessionRuns}
use Rattle.serve_workers.specs.EdgeLines.{TookLines}
use Rattle.serve_workers.specs.Readings.{HandsOn, IsDevicePiece, IsInputPiece, TakesMore, Took, WasRead}
use Rattle.serve_workers.specs.Writing.{Writes}
use Rattle.gps_serve.specs.declared.starts.DeviceStart.{DeviceStart}
use Rattle.gps_serve.specs.declared.starts.EdgeStart.{EdgeStart}
use Rattle.gps_serve.specs.AtEnd.{HandedBack}
use Rattle.gps_serve.specs.Facts.{SinkFacts}
use Rattle.gps_serve.specs.Served.{BytesHeld, EdgesHeld, IsFirstOf, ServesLink, SourceHeld, TakesFirst}
use Rattle.serve_door.specs.Doors.{EachLink, IsNewLink, HasNewLanes, way_of}
use Rattle.gps_serve.specs.Readies.{IsLeftOfLink}
use Rattle.gps_serve.specs.Runs.{DeviceReads, EdgesRead, IsLeftOf, RanOn, TakesBy}
use Rattle.gps_serve.specs.Starts.{IsFreshDevice, IsFreshEdge, edge_source_of, edge_start_of, edges_at, sources_at}
use Rattle.gps_serve.specs.Whole.{IsWhole, TakesWhole}
use Rattle.gps_serve.proofs.Whole.{TellsEnd, bytes_told, device_tells_end, lines_told}

all_first : (bytes : List ℕ) (x y : Stream) → TakesAll bytes x y → TakesFirst x y
all_first bytes x y p = ([], ap (λ l. x.taken ++ l) p.all ∙ sym p.joins ∙ sym (append-nil y.taken))

some_first : (bytes : List ℕ) (x y : Stream) → TakesSome bytes x y → TakesFirst x y
some_first bytes x y p = (p.rest, ap (λ l. x.taken ++ l) p.next ∙ sym (append_assoc x.taken bytes p.rest) ∙ ap (λ l. l ++ p.rest) (sym p.joins))

more_first : (bytes : List ℕ) (x y : Stream) → TakesMore bytes x y → TakesFirst x y
more_first bytes x y p = some_first (bytes ++ p.0) x y p.1.1

pub took_first : (e : Option Ending) (bytes : List ℕ) (before after : Option Stream) → Took e bytes before after → Goes TakesFirst before after
took_first None bytes before after took = goes_as (TakesMore bytes) TakesFirst before after (more_first bytes) took
took_first (Some ending.End) bytes before after took = goes_as (TakesAll bytes) TakesFirst before after (all_first bytes) took
took_first (Some ending.Failed) bytes before after took = goes_as (TakesSome bytes) TakesFirst before after (some_first bytes) took
took_first (Some ending.NoMemory) bytes before after took = goes_as (TakesMore bytes) TakesFirst before after (more_first bytes) took

pub lines_first : (e : Option Ending) (bytes : List ℕ) (before after : Option Stream) → TookLines e bytes before after → Goes TakesFirst before after
lines_first None bytes before after took = goes_as (TakesSome bytes) TakesFirst before after (some_first bytes) took
lines_first (Some ending.End) bytes before after took = goes_as (TakesAll bytes) TakesFirst before after (all_first bytes) took
lines_first (Some ending.Failed) bytes before after took = goes_as (TakesSome bytes) TakesFirst before after (some_first bytes) took
lines_first (Some ending.NoMemory) bytes before after took = goes_as (TakesSome bytes) TakesFirst before after (some_first bytes) took

all_whole : (bytes : List ℕ) (x y : Stream) → TakesAll bytes x y → TakesWhole x y
all_whole bytes x y p = (p.joins ∙ ap (λ l. x.taken ++ l) (sym p.all), p.none)

took_whole : (e : Option Ending) (bytes : List ℕ) (before after : Option Stream) → Took e bytes before after → e ≡ Some ending.End → Goes TakesWhole before after
took_whole e bytes before after took is =
    goes_as (TakesAll bytes) TakesWhole before after (all_whole bytes) (subst (λ (x : Option Ending). Took x bytes before after) is took)

lines_whole : (e : Option Ending) (bytes : List ℕ) (before after : Option Stream) → TookLines e bytes before after → e ≡ Some ending.End → Goes TakesWhole before after
lines_whole e bytes before after took is =
    goes_as (TakesAll bytes) TakesWhole before after (all_whole bytes) (subst (λ (x : Option Ending). TookLines x bytes before after) is took)

goes_by : (end : Option DeviceEnd) (before after : Option Stream) → Goes TakesFirst before after → (end ≡ Some Ended → Goes TakesWhole before after)
    → Goes (TakesBy end) before after
goes_by end None after first all = tt
goes_by end (Some x) None first all = absurd first
goes_by end (Some x) (Some y) first all = record { first = first; all = all }

module _ {S : Type 0} (facts : SourceFacts S) where
  first_of : (end : Option DeviceEnd) (held : Option (List ℕ)) (before after : Option Stream) → IsAllLeft held before → Goes (TakesBy end) before after
      → IsFirstOf end held after
  first_of end None before after holds goes = tt
  first_of end (Some bytes) before None holds goes =
      absurd (subst (λ (c : Option Stream). Goes (TakesBy end) c None) holds goes)
  first_of end (Some bytes) before (Some y) holds goes =
      let by = subst (λ (c : Option Stream). Goes (TakesBy end) c (Some y)) holds goes in
      record { first = by.first; all = λ e. (by.all e).0; none_left = λ e. (by.all e).1 }

  edge_there : (end : Option DeviceEnd) (first left : Option S) → EdgesRead facts end first left → is_some left ≡ is_some first
  edge_there end None None reads = refl
  edge_there end None (Some source) reads = absurd reads
  edge_there end (Some first) None reads = absurd reads
  edge_there end (Some first) (Some source) reads = refl

module _ {S R : Type 0} (facts : SourceFacts S) where
  edges_read : (end : Option DeviceEnd) (start : Option (EdgeStart S R)) (first : Option (Taking Piece)) (run : Option (ReaderDone S R)) → IsFreshEdge facts start first
      → EdgesRan facts (option_map edge_start_of start) run → (end ≡ Some Ended → TellsEnd (tx_of run)) → EdgesRead facts end (edge_source_of start) (source_of run)
  edges_read end None first None fresh ran tells = tt
  edges_read end None first (Some run) fresh ran tells = absurd ran
  edges_read end (Some start) first None fresh ran tells = absurd ran
  edges_read end (Some start) None (Some run) fresh ran tells = absurd fresh
  edges_read end (Some start) (Some first) (Some run) fresh ran tells =
      let before = facts.content start.source in
      let after = facts.content run.source in
      goes_by end before after (lines_first run.ending ran.hands.bytes before after ran.hands.took)
      (λ e. lines_whole run.ending ran.hands.bytes before after ran.hands.took
      (sym (lines_told run.ending start.lines.put run.pieces.put before after ran.hands fresh.0.put) ∙ tells e))

  device_reads : (may : Option (List Moment)) (start : DeviceStart S R) (first : InletsView) (run : DeviceRun S R) (done : DeviceDone S R) → IsFreshDevice facts start first
      → RanOn may facts start run → IsLeftOf run done → IsWhole may facts done → DeviceReads facts start done
  device_reads may start first run done fresh ran left whole =
      let before = facts.content start.source in
      let after = facts.content run.bytes.source in
      let taken = flat_map device_part ran.bytes.hands.pieces in
      record {
        source = run.bytes.source;
        source_is = left.source;
        bytes = goes_by done.end before after (took_first run.bytes.ending taken before after ran.bytes.hands.took)
            (λ e. took_whole run.bytes.ending taken before after ran.bytes.hands.took
            (sym (bytes_told may run.bytes.ending start.bytes.put run.bytes.pieces.put before after ran.bytes.hands fresh.bytes.put)
            ∙ ap (λ (tx : Putting Piece). ending_of tx.put) (sym left.bytes_tx) ∙ (device_tells_end may facts done whole e).0));
        edges = subst (EdgesRead facts done.end (edge_source_of start.edges)) (sym left.edges)
            (edges_read done.end start.edges first.edges run.edges fresh.edges ran.edges
            (λ e. subst TellsEnd left.edges_tx (device_tells_end may facts done whole e).1));
      }

  pub devices_read : (may : Option (List Moment)) (starts : List (DeviceStart S R)) (firsts : List InletsView) (runs : List (DeviceRun S R)) (devices : List (DeviceDone S R))
      → AllZip (IsFreshDevice facts) starts firsts → AllZip (RanOn may facts) starts runs → AllZip IsLeftOf runs devices → All (IsWhole may facts) devices
      → AllZip (DeviceReads facts) starts devices
  devices_read may [] firsts [] [] fresh ran left whole = tt
  devices_read may [] firsts [] (d ∷ devices) fresh ran left whole = absurd left
  devices_read may [] firsts (run ∷ runs) devices fresh ran left whole = absurd ran
  devices_read may (start ∷ starts) firsts [] devices fresh ran left whole = absurd ran
  devices_read may (start ∷ starts) firsts (run ∷ runs) [] fresh ran left whole = absurd left
  devices_read may (start ∷ starts) [] (run ∷ runs) (d ∷ devices) fresh ran left whole = absurd fresh
  devices_read may (start ∷ starts) (first ∷ firsts) (run ∷ runs) (d ∷ devices) fresh ran left whole = (
    device_reads may start first run d fresh.0 ran.0 left.0 (whole zero d (omega arith)),
    devices_read may starts firsts runs devices fresh.1 ran.1 left.1 (λ k x there. whole (suc k) x (omega arith)),
  )

  -- of the devices as they are handed back
  pub reads_handed : {G K : Type 0} (starts : List (DeviceStart S R)) (back back' : HandedBack G S K R) → back' ≡ back → AllZip (DeviceReads facts) starts back.devices
      → AllZip (DeviceReads facts) starts back'.devices
  reads_handed {G} {K} starts back back' same reads = subst (λ (b : HandedBack G S K R). AllZip (DeviceReads facts) starts b.devices) (sym same) reads

  module _ (behind : Place → Option (List ℕ)) where
    pub bytes_held : (places : List Place) (sources : List S) (starts : List (DeviceStart S R)) (devices : List (DeviceDone S R))
        → sources_at starts ≡ sources → AllZip (IsHeld behind facts.content) places sources → AllZip (DeviceReads facts) starts devices
        → AllZip (BytesHeld behind facts) places devices
    bytes_held places sources starts devices are held reads = by places starts devices (subst (AllZip (IsHeld behind facts.content) places) (sym are) held) reads
      where
        by : (places : List Place) (starts : List (DeviceStart S R)) (devices : List (DeviceDone S R))
            → AllZip (IsHeld behind facts.content) places (sources_at starts) → AllZip (DeviceReads facts) starts devices → AllZip (BytesHeld behind facts) places devices
        by [] [] [] held reads = tt
        by [] [] (d ∷ devices) held reads = absurd reads
        by [] (start ∷ starts) devices held reads = absurd held
        by (place ∷ places) [] devices held reads = absurd held
        by (place ∷ places) (start ∷ starts) [] held reads = absurd reads
        by (place ∷ places) (start ∷ starts) (d ∷ devices) held reads = (
          subst (SourceHeld facts d.end (behind place)) (sym reads.0.source_is)
              (first_of facts d.end (behind place) (facts.content start.source) (facts.content reads.0.source) held.0 reads.0.bytes),
          by places starts devices held.1 reads.1,
        )

    edge_held : (place : Option Place) (first : Option S) (d : DeviceDone S R) → IsEdgeHeld behind facts.content place first → EdgesRead facts d.end first d.edges
        → EdgesHeld behind facts place d
    edge_held None None d held reads = none d.edges reads
      where
        none : (left : Option S) → EdgesRead facts d.end None left → left ≡ None
        none None reads = refl
        none (Some source) reads = absurd reads
    edge_held None (Some first) d held reads = absurd held
    edge_held (Some place) None d held reads = absurd held
    edge_held (Some place) (Some first) d held reads = some d.edges reads
      where
        some : (left : Option S) → EdgesRead facts d.end (Some first) left → SourceHeld facts d.end (behind place) left
        some None reads = tt
        some (Some source) reads = first_of facts d.end (behind place) (facts.content first) (facts.content source) held reads

    pub edges_held : (places : List (Option Place)) (sources : List (Option S)) (starts : List (DeviceStart S R)) (devices : List (DeviceDone S R))
        → edges_at starts ≡ sources → AllZip (IsEdgeHeld behind facts.content) places sources → AllZip (DeviceReads facts) starts devices
        → AllZip (EdgesHeld behind facts) places devices
    edges_held places sources starts devices are held reads = by places starts devices (subst (AllZip (IsEdgeHeld behind facts.content) places) (sym are) held) reads
      where
        by : (places : List (Option Place)) (starts : List (DeviceStart S R)) (devices : List (DeviceDone S R))
            → AllZip (IsEdgeHeld behind facts.content) places (edges_at starts) → AllZip (DeviceReads facts) starts devices → AllZip (EdgesHeld behind facts) places devices
        by [] [] [] held reads = tt
        by [] [] (d ∷ devices) held reads = absurd reads
        by [] (start ∷ starts) devices held reads = absurd held
        by (place ∷ places) [] devices held reads = absurd held
        by (place ∷ places) (start ∷ starts) [] held reads = absurd reads
        by (place ∷ places) (start ∷ starts) (d ∷ devices) held reads =
            (edge_held place (edge_source_of start.edges) d held.0 reads.0.edges, by places starts devices held.1 reads.1)

  -- a device has a source of edges if it began with one
  pub edges_there : (starts : List (DeviceStart S R)) (devices : List (DeviceDone S R)) → AllZip (DeviceReads facts) starts devices
      → map (λ (d : DeviceDone S R). is_some d.edges) devices ≡ map is_some (edges_at starts)
  edges_there [] [] reads = refl
  edges_there [] (d ∷ devices) reads = absurd reads
  edges_there (start ∷ starts) [] reads = absurd reads
  edges_there (start ∷ starts) (d ∷ devices) reads =
      ap (λ (b : Bool). b ∷ map (λ (d : DeviceDone S R). is_some d.edges) devices) (edge_there facts d.end (edge_source_of start.edges) d.edges reads.0.edges)
      ∙ ap (λ l. is_some (edge_source_of start.edges) ∷ l) (edges_there starts devices reads.1)

-- the same of sessions, and what was written to their sinks
pub links_served : {S K R : Type 0} (sources : SourceFacts S) (sinks : SinkFacts K) (links : List (SessionLink S K R)) (runs : List (LinkDone S K R)) (sessions : List (SessionDone S K R))
    → EachLink HasNewLanes links → EachLink (IsNewLink sources.content sources.faults sources.quiets sinks.written sinks.faults) links → AllZip (SessionRuns sources.content sources.faults sources.quiets sinks.written sinks.faults) links runs
    → AllZip (IsLeftOfLink sources sinks) runs sessions → AllZip (ServesLink sources sinks) (map way_of links) sessions
links_served sources sinks [] [] [] unused new ran are = tt
links_served sources sinks [] [] (s ∷ sessions) unused new ran are = absurd are
links_served sources sinks [] (run ∷ runs) sessions unused new ran are = absurd ran
links_served sources sinks (link ∷ links) [] sessions unused new ran are = absurd ran
links_served sources sinks (link ∷ links) (run ∷ runs) [] unused new ran are = absurd are
links_served {S} sources sinks (link ∷ links) (run ∷ runs) (s ∷ sessions) unused new ran are =
    let before = sources.content link.source in
    let hands : HandsOn input_part IsInputPiece run.reader.ending [] run.reader.pieces.put before (sources.content run.reader.source) =
    subst (λ put. HandsOn input_part IsInputPiece run.reader.ending put run.reader.pieces.put before (sources.content run.reader.source)) unused.0.1 ran.0.reads.hands in
    let wrote = are.0.sink link ran.0 in (
      record {
        unread = new.0.0;
        ending = run.reader.ending;
        hands = subst (λ (x : S). HandsOn input_part IsInputPiece run.reader.ending [] s.input_tx.put before (sources.content x)) (sym are.0.source)
            (subst (λ (t : Putting Piece). HandsOn input_part IsInputPiece run.reader.ending [] t.put before (sources.content run.reader.source)) (sym are.0.input) hands);
        read = subst (λ (x : S). Goes (WasRead (sources.faults x) (sources.quiets x)) before (sources.content x)) (sym are.0.source) ran.0.read;
        reads = subst (λ (x : S). Goes TakesFirst (sources.content link.source) (sources.content x)) (sym are.0.source)
            (took_first run.reader.ending (flat_map input_part ran.0.reads.hands.pieces) (sources.content link.source) (sources.content run.reader.source) ran.0.reads.hands.took);
        writes = subst (λ got. Writes (writer_end s.end) got s.items_rx.got (sinks.written link.sink) (sinks.written s.sink)) unused.0.0 wrote.writes;
        failed = λ (e : s.end ≡ WriteFault). wrote.failed (ap writer_end e);
      },
      links_served sources sinks links runs sessions unused.1 new.1 ran.1 are.1,
    )
