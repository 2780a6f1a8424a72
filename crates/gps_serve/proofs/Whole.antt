-- If a device has ended, or a source of it failed, all that was put into its lanes was received.
use Rattle.std.proofs.Common.{◌≡◌, ◌<◌, ◌+◌, inl, inr, ℕ, Bool, zero, suc, List, [], ◌∷◌, ◌++◌, map, length, get_or, length-append, Option, Some, None, IfSome, IsSome, refl, sym, ◌∙◌, ap, subst, append_assoc, append-nil, arith}
use Rattle.std.specs.List.{All, AllZip, flat_map, range_with_len}
use Rattle.std.specs.Option.{option_or}
use Rattle.gps_fixed.specs.Moment.{Moment}
use Rattle.book_log.specs.Entries.{Entry}
use Rattle.gps_lane.specs.Ends.{Putting, Taking}
use Rattle.gps_outside.specs.Told.{Goes, Stream}
use Rattle.gps_outside.specs.ReadSteps.{TakesAll}
use Rattle.gps_outside.proofs.Going.{goes_as}
use Rattle.hub_promise.specs.declared.ends.DeviceEnd.{DeviceEnd}
use Rattle.hub_promise.specs.declared.ends.DeviceEnd.TheVariants.{Ended, NoMemory as LostNoMemory}
use Rattle.hub_promise.specs.DaemonHub.{DeviceFits, whole_log}
use Rattle.hub_promise.specs.Given.{edge_ending, end_by, end_of, ending_of, got_of}
use Rattle.hub_promise.specs.Parts.{InletsView, device_of, devices_of}
use Rattle.report_book.specs.BookView.{BookView}
use Rattle.serve_end.specs.declared.done.DeviceDone.{DeviceDone}
use Rattle.gps_lane.specs.Carried.{device_part, input_part}
use Rattle.gps_lane.specs.declared.piece.Ending.{Ending}
use Rattle.gps_lane.specs.declared.piece.Ending.TheVariants.{End, Failed, NoMemory}
use Rattle.gps_lane.specs.declared.piece.Piece.{Piece}
use Rattle.gps_lane.specs.declared.piece.Piece.TheVariants.{Bytes, Line, Input, Last}
use Rattle.serve_end.specs.Lanes.{OneMoreAtMost, TellsLast, ZipOption}
use Rattle.serve_end.specs.Runs.{SourceFacts}
use Rattle.serve_end.proofs.Endings.{devices_tell_last, edges_tell_last, settled}
use Rattle.serve_workers.specs.EdgeLines.{HandsLines, TookLines, line_pieces}
use Rattle.serve_workers.specs.Readings.{Each, HandsOn, IsDevicePiece, IsInputPiece, Took, last_piece}
use Rattle.gps_serve.specs.AtEnd.{AtEnd, DaemonStart, HandedBack}
use Rattle.gps_serve.specs.Facts.{WorldFacts}
use Rattle.gps_serve.specs.Served.{DeviceServed, IsOneLane, ReaderServed}
use Rattle.gps_serve.specs.Whole.{CameWhole, GotAll, IsOver, IsWhole, LeavesNone, ReaderWhole}

-- both lanes of a device, as the hub left them, have told how their sources ended
pub record TellEnds (x : InletsView) (end : Option DeviceEnd) : Type 0 where
  pub bytes_ending : Ending
  pub edges_ending : Ending
  pub bytes : ending_of x.bytes.got ≡ Some bytes_ending
  pub edges : edge_ending x.edges (got_of x.edges) ≡ Some edges_ending
  pub end_is : end ≡ Some (end_of bytes_ending edges_ending)

none_of_both : (xs ys : List Piece) → xs ++ ys ≡ [] → (xs ≡ []) × (ys ≡ [])
none_of_both [] ys e = (refl, e)
none_of_both (x ∷ xs) ys e = absurd (cc)

is_not_lost : (end : Option DeviceEnd) → IsOver end → end ≡ Some LostNoMemory → ⊥
is_not_lost end over lost = elim over [
  | inl e ↦ absurd (cc (e, lost))
  | inr e ↦ absurd (cc (e, lost))
]

is_there : (end : Option DeviceEnd) → IsOver end → end ≡ None → ⊥
is_there end over none = elim over [
  | inl e ↦ absurd (cc (e, none))
  | inr e ↦ absurd (cc (e, none))
]

-- nothing was refused then
tell_both : (x : InletsView) (refused : List Piece) (bytes edges : Option Ending) (end : Option DeviceEnd) → IsOver end → end ≡ end_by refused bytes edges
    → (refused ≡ [] → ending_of x.bytes.got ≡ bytes) → (refused ≡ [] → edge_ending x.edges (got_of x.edges) ≡ edges) → TellEnds x end
tell_both x (piece ∷ refused) bytes edges end over is bytes_are edges_are = absurd (is_not_lost end over is)
tell_both x [] None edges end over is bytes_are edges_are = absurd (is_there end over is)
tell_both x [] (Some bytes) None end over is bytes_are edges_are = absurd (is_there end over is)
tell_both x [] (Some bytes) (Some edges) end over is bytes_are edges_are =
    record { bytes_ending = bytes; edges_ending = edges; bytes = bytes_are refl; edges = edges_are refl; end_is = is }

pub tell_ends : (log : List Entry) (d : ℕ) (x : InletsView) (end : Option DeviceEnd) → DeviceFits log d (device_of x end) → IsOver end → TellEnds x end
tell_ends log d x end fits over =
    tell_both x (fits.refused ++ fits.refused_lines) (ending_of fits.taken) (edge_ending x.edges fits.lines) end over fits.ends
    (λ none. ap ending_of (fits.lane ∙ ap (λ (l : List Piece). fits.taken ++ l) (none_of_both fits.refused fits.refused_lines none).0 ∙ append-nil fits.taken))
    (λ none. ap (edge_ending x.edges) (fits.edge_lane ∙ ap (λ (l : List Piece). fits.lines ++ l) (none_of_both fits.refused fits.refused_lines none).1 ∙ append-nil fits.lines))

-- after the last piece nothing was put that was not got
all_got : (tx : Putting Piece) (got rest : List Piece) (ending : Ending) → TellsLast tx.put → tx.put ≡ got ++ rest → ending_of got ≡ Some ending → got ≡ tx.put
all_got tx got [] ending last is told = sym (is ∙ append-nil got)
all_got tx got (piece ∷ rest) ending last is told =
    let rx : Taking Piece = record { lane = tx.lane; about = tx.about; got = got } in
    let rx' : Taking Piece = record { lane = tx.lane; about = tx.about; got = got ++ piece ∷ [] } in
    let more = settled tx tx rx rx' (Some piece) refl refl refl (rest, is ∙ sym (append_assoc got (piece ∷ []) rest)) tt in
    elim (more.behind last) [
      | inl same ↦
          let long : length (got ++ piece ∷ []) ≡ length got = ap length same in
          let parts = length-append got (piece ∷ []) in
          absurd (omega (arith, long, parts))
      | inr one ↦ absurd (cc (one.2, told))
    ]

-- a lane that had told how its source ended
lane_whole : (x : Taking Piece) (tx : Putting Piece) (rx : Taking Piece) (ending : Ending) → IsOneLane tx rx → OneMoreAtMost x rx → TellsLast tx.put
    → ending_of x.got ≡ Some ending → (rx.got ≡ tx.put) × (ending_of tx.put ≡ Some ending)
lane_whole x tx rx ending lane settled last told = elim settled [
  | inl same ↦
      let all : rx.got ≡ tx.put = all_got tx rx.got lane.begins.0 ending last lane.begins.1 (ap ending_of same ∙ told) in
      (all, ap ending_of (sym all ∙ same) ∙ told)
  | inr one ↦ absurd (cc (one.2, told))
]

or_none : (o : Option Ending) → option_or o None ≡ o
or_none None = refl
or_none (Some ending) = refl

-- only the last piece tells how a source ended
tell_last : (P : Piece → Type 0) (pieces : List Piece) (ending : Option Ending) → ((e : Ending) → P (Last e) → ⊥) → Each P pieces
    → ending_of (pieces ++ last_piece ending) ≡ ending
tell_last P [] None never each = refl
tell_last P [] (Some e) never each = refl
tell_last P (Bytes at bytes ∷ pieces) ending never each = ap (λ (o : Option Ending). option_or o None) (tell_last P pieces ending never each.1) ∙ or_none ending
tell_last P (Line line ∷ pieces) ending never each = ap (λ (o : Option Ending). option_or o None) (tell_last P pieces ending never each.1) ∙ or_none ending
tell_last P (Input bytes ∷ pieces) ending never each = ap (λ (o : Option Ending). option_or o None) (tell_last P pieces ending never each.1) ∙ or_none ending
tell_last P (Last e ∷ pieces) ending never each = absurd (never e each.0)

lines_tell_last : (lines : List (List ℕ)) (ending : Option Ending) → ending_of (line_pieces lines ++ last_piece ending) ≡ ending
lines_tell_last [] None = refl
lines_tell_last [] (Some e) = refl
lines_tell_last (line ∷ lines) ending = ap (λ (o : Option Ending). option_or o None) (lines_tell_last lines ending) ∙ or_none ending

-- how the reading of a device's bytes ended, by what was put into its lane, which was empty before
pub bytes_told : (may : Option (List Moment)) (ending : Option Ending) (put put' : List Piece) (before after : Option Stream)
    → HandsOn device_part (IsDevicePiece may) ending put put' before after → put ≡ [] → ending_of put' ≡ ending
bytes_told may ending put put' before after hands none =
    ap ending_of (hands.puts ∙ ap (λ (l : List Piece). (l ++ hands.pieces) ++ last_piece ending) none)
    ∙ tell_last (IsDevicePiece may) hands.pieces ending (λ e p. p) hands.good

-- how the reading of a session's input ended
pub input_told : (ending : Option Ending) (put put' : List Piece) (before after : Option Stream) → HandsOn input_part IsInputPiece ending put put' before after
    → put ≡ [] → ending_of put' ≡ ending
input_told ending put put' before after hands none =
    ap ending_of (hands.puts ∙ ap (λ (l : List Piece). (l ++ hands.pieces) ++ last_piece ending) none)
    ∙ tell_last IsInputPiece hands.pieces ending (λ e p. p) hands.good

-- and that of a device's edges
pub lines_told : (ending : Option Ending) (put put' : List Piece) (before after : Option Stream) → HandsLines ending put put' before after → put ≡ []
    → ending_of put' ≡ ending
lines_told ending put put' before after hands none =
    ap ending_of (hands.puts ∙ ap (λ (l : List Piece). (l ++ line_pieces hands.lines) ++ last_piece ending) none) ∙ lines_tell_last hands.lines ending

took_none : (ending : Ending) (bytes : List ℕ) (before after : Option Stream) → Took (Some ending) bytes before after → ending ≡ End → Goes LeavesNone before after
took_none End bytes before after took e = goes_as (TakesAll bytes) LeavesNone before after (λ x y p. p.none) took
took_none Failed bytes before after took e = absurd (cc)
took_none NoMemory bytes before after took e = absurd (cc)

took_no_line : (ending : Ending) (bytes : List ℕ) (before after : Option Stream) → TookLines (Some ending) bytes before after → ending ≡ End → Goes LeavesNone before after
took_no_line End bytes before after took e = goes_as (TakesAll bytes) LeavesNone before after (λ x y p. p.none) took
took_no_line Failed bytes before after took e = absurd (cc)
took_no_line NoMemory bytes before after took e = absurd (cc)

module _ {S : Type 0} (facts : SourceFacts S) where
  -- a reader whose lane tells how its source ended
  reader_whole : (Hands : Option Ending → List Piece → List Piece → Option Stream → Option Stream → Type 0) (tx : Putting Piece) (source : S) (ending : Ending)
      → ((e : Option Ending) (before after : Option Stream) → Hands e [] tx.put before after → ending_of tx.put ≡ e)
      → ((before after : Option Stream) → Hands (Some ending) [] tx.put before after → ending ≡ End → Goes LeavesNone before after)
      → ReaderServed Hands facts tx source → ending_of tx.put ≡ Some ending → ReaderWhole Hands facts ending tx source
  reader_whole Hands tx source ending tells leaves served told =
      let before = facts.content served.first in
      let after = facts.content source in
      let is : served.ending ≡ Some ending = sym (tells served.ending before after served.hands) ∙ told in
      let hands : Hands (Some ending) [] tx.put before after = subst (λ (e : Option Ending). Hands e [] tx.put before after) is served.hands in
      record { first = served.first; unread = served.unread; hands = hands; none_left = leaves before after hands }

  bytes_whole : (may : Option (List Moment)) (x : Taking Piece) (tx : Putting Piece) (rx : Taking Piece) (source : S) (ending : Ending)
      → ReaderServed (HandsOn device_part (IsDevicePiece may)) facts tx source → IsOneLane tx rx → OneMoreAtMost x rx → ending_of x.got ≡ Some ending
      → ReaderWhole (HandsOn device_part (IsDevicePiece may)) facts ending tx source × GotAll tx rx
  bytes_whole may x tx rx source ending served lane settled told =
      let last = devices_tell_last may served.ending [] tx.put (facts.content served.first) (facts.content source) served.hands refl in
      let got = lane_whole x tx rx ending lane settled last told in (
        reader_whole (HandsOn device_part (IsDevicePiece may)) tx source ending
            (λ e before after hands. bytes_told may e [] tx.put before after hands refl)
            (λ before after hands. took_none ending (flat_map device_part hands.pieces) before after hands.took)
            served got.1,
        got.0,
      )

  lines_whole : (x : Taking Piece) (tx : Putting Piece) (rx : Taking Piece) (source : S) (ending : Ending)
      → ReaderServed HandsLines facts tx source → IsOneLane tx rx → OneMoreAtMost x rx → ending_of x.got ≡ Some ending
      → ReaderWhole HandsLines facts ending tx source × GotAll tx rx
  lines_whole x tx rx source ending served lane settled told =
      let last = edges_tell_last served.ending [] tx.put (facts.content served.first) (facts.content source) served.hands refl in
      let got = lane_whole x tx rx ending lane settled last told in (
        reader_whole HandsLines tx source ending
            (λ e before after hands. lines_told e [] tx.put before after hands refl)
            (λ before after hands. took_no_line ending hands.bytes before after hands.took)
            served got.1,
        got.0,
      )

  edges_whole : (x : Option (Taking Piece)) (tx : Option (Putting Piece)) (rx : Option (Taking Piece)) (source : Option S) (ending : Ending)
      → ZipOption (ReaderServed HandsLines facts) tx source → ZipOption IsOneLane tx rx → ZipOption OneMoreAtMost x rx → edge_ending x (got_of x) ≡ Some ending
      → ZipOption (ReaderWhole HandsLines facts ending) tx source × ZipOption GotAll tx rx × (source ≡ None → ending ≡ End)
  edges_whole None None None None ending served lane settled told = let is : ending ≡ End = cc told in (tt, tt, λ none. is)
  edges_whole (Some x) (Some tx) (Some rx) (Some source) ending served lane settled told =
      let whole = lines_whole x tx rx source ending served lane settled told in
      (whole.0, whole.1, λ none. absurd (cc none))
  edges_whole x None rx (Some source) ending served lane settled told = absurd served
  edges_whole x (Some tx) rx None ending served lane settled told = absurd served
  edges_whole x None (Some rx) None ending served lane settled told = absurd lane
  edges_whole x (Some tx) None (Some source) ending served lane settled told = absurd lane
  edges_whole (Some x) None None None ending served lane settled told = absurd settled
  edges_whole None (Some tx) (Some rx) (Some source) ending served lane settled told = absurd settled

module _ {S R : Type 0} (may : Option (List Moment)) (facts : SourceFacts S) where
  pub device_whole : (x : InletsView) (d : DeviceDone S R) → DeviceServed may facts x d → (IsOver d.end → TellEnds x d.end) → IsWhole may facts d
  device_whole x d served tell over =
      let told = tell over in
      let bytes = bytes_whole facts may x.bytes d.bytes_tx d.bytes_rx served.source told.bytes_ending served.bytes served.bytes_lane served.settled.bytes told.bytes in
      let edges = edges_whole facts x.edges d.edges_tx d.edges_rx d.edges told.edges_ending served.edges served.edges_lane served.settled.edges told.edges in
      record {
        bytes_ending = told.bytes_ending;
        edges_ending = told.edges_ending;
        end_is = told.end_is;
        no_edges = edges.2;
        source = served.source;
        source_is = served.source_is;
        bytes = bytes.0;
        bytes_got = bytes.1;
        edges = edges.0;
        edges_got = edges.1;
      }

  -- of each device, whose numbers begin with n
  all_whole : (log : List Entry) (n count : ℕ) (inlets : List InletsView) (devices : List (DeviceDone S R))
      → AllZip (DeviceFits log) (range_with_len n count) (devices_of inlets (map (λ (d : DeviceDone S R). d.end) devices))
      → AllZip (DeviceServed may facts) inlets devices → All (IsWhole may facts) devices
  all_whole log n count inlets [] fits served k d there = absurd (omega arith)
  all_whole log n count [] (device ∷ devices) fits served k d there = absurd served
  all_whole log n zero (x ∷ inlets) (device ∷ devices) fits served k d there = absurd fits
  all_whole log n (suc count) (x ∷ inlets) (device ∷ devices) fits served zero d there =
      device_whole x device served.0 (tell_ends log n x device.end fits.0)
  all_whole log n (suc count) (x ∷ inlets) (device ∷ devices) fits served (suc k) d there =
      all_whole log (n + 1) count inlets devices fits.1 served.1 k d (omega arith)

-- of the devices of a hub
pub whole_by : {S R : Type 0} (may : Option (List Moment)) (facts : SourceFacts S) (log : List Entry) (count : ℕ) (inlets : List InletsView) (devices : List (DeviceDone S R))
    (ends : List (Option DeviceEnd)) → AllZip (DeviceFits log) (range_with_len 0 count) (devices_of inlets ends)
    → AllZip (DeviceServed may facts) inlets devices → map (λ (d : DeviceDone S R). d.end) devices ≡ ends → All (IsWhole may facts) devices
whole_by {S} {R} may facts log count inlets devices ends fits served ends_are =
    all_whole may facts log 0 count inlets devices
    (subst (λ (l : List (Option DeviceEnd)). AllZip (DeviceFits log) (range_with_len 0 count) (devices_of inlets l)) (sym ends_are) fits) served

pub whole_at_end : {G S K R : Type 0} (start : DaemonStart S K) (facts : WorldFacts G S K) (back : HandedBack G S K R) (book : Option BookView)
    → IfSome book (AtEnd start facts back) → IsSome book → All (IsWhole start.may facts.sources) back.devices
whole_at_end start facts back None ends some = absurd (cc)
whole_at_end {G} {S} {K} {R} start facts back (Some b) ends some =
    whole_by start.may facts.sources (whole_log ends.hub.0 b) (length b.names) ends.inlets back.devices (map (λ (d : DeviceDone S R). d.end) back.devices) ends.hub.1.devices
    ends.devices_are refl

-- a device that has ended did so as both of its sources came to their ends
pub both_end : (bytes edges : Ending) (end : Option DeviceEnd) → end ≡ Some (end_of bytes edges) → end ≡ Some Ended → (bytes ≡ End) × (edges ≡ End)
both_end NoMemory edges end is ended = absurd (cc (is, ended))
both_end End End end is ended = (refl, refl)
both_end End Failed end is ended = absurd (cc (is, ended))
both_end End NoMemory end is ended = absurd (cc (is, ended))
both_end Failed End end is ended = absurd (cc (is, ended))
both_end Failed Failed end is ended = absurd (cc (is, ended))
both_end Failed NoMemory end is ended = absurd (cc (is, ended))

-- what was put into a lane of edges says that its source came to its end
abbrev pub TellsEnd : Option (Putting Piece) → Type 0
TellsEnd None = Unit {0}
TellsEnd (Some tx) = ending_of tx.put ≡ Some End

edges_tell_end : {S : Type 0} (facts : SourceFacts S) (ending : Ending) (tx : Option (Putting Piece)) (source : Option S)
    → ZipOption (ReaderWhole HandsLines facts ending) tx source → ending ≡ End → TellsEnd tx
edges_tell_end facts ending None source whole is = tt
edges_tell_end facts ending (Some tx) None whole is = absurd whole
edges_tell_end facts ending (Some tx) (Some source) whole is =
    lines_told (Some ending) [] tx.put (facts.content whole.first) (facts.content source) whole.hands refl ∙ ap Some is

-- the lanes of a device that has ended say so
pub device_tells_end : {S R : Type 0} (may : Option (List Moment)) (facts : SourceFacts S) (d : DeviceDone S R) → IsWhole may facts d → d.end ≡ Some Ended
    → (ending_of d.bytes_tx.put ≡ Some End) × TellsEnd d.edges_tx
device_tells_end may facts d whole ended =
    let came = whole (inl ended) in
    let both = both_end came.bytes_ending came.edges_ending d.end came.end_is ended in (
      bytes_told may (Some came.bytes_ending) [] d.bytes_tx.put (facts.content came.bytes.first) (facts.content came.source) came.bytes.hands refl
          ∙ ap Some both.0,
      edges_tell_end facts came.edges_ending d.edges_tx d.edges came.edges both.1,
    )
