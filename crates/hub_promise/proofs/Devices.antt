-- How a device goes on fitting the log: a piece of one of its lanes was taken, or refused; or something came of another device.
use Rattle.std.proofs.Common.{◌≡◌, ◌≤◌, ℕ, Bool, true, false, ◌||◌, List, [], ◌∷◌, ◌++◌, length, nat_eq, Option, Some, None, refl, sym, ap, ◌∙◌, subst, append_assoc, append-nil, arith}
use Rattle.std.specs.List.{flat_map, list_any}
use Rattle.std.specs.Option.{option_or}
use Rattle.std.proofs.lemmas.List.Concat.{flat_map-append}
use Rattle.std.proofs.lemmas.List.Folds.{list_any-append}
use Rattle.book_log.specs.Entries.{Entry, stream, has_end, has_lost, is_end_of, is_loss_of, lost}
use Rattle.book_log.specs.Readings.{last_of}
use Rattle.book_log.proofs.Histories.{IsQuiet, stream-append, same, has_end-append, has_lost-append}
use Rattle.book_log.proofs.ReadingLaws.{last_of-append}
use Rattle.device_core.specs.Stream.{bytes_in, edges_in}
use Rattle.device_core.proofs.Streams.{bytes_join, edges_join}
use Rattle.gps_lane.specs.Ends.{Taking}
use Rattle.gps_report.specs.declared.edge.Edge.{Edge}
use Rattle.packet_cut.specs.Packets.{Stamped}
use Rattle.gps_lane.specs.declared.piece.Ending.{Ending}
use Rattle.gps_lane.specs.declared.piece.Piece.{Piece}
use Rattle.hub_promise.specs.declared.ends.DeviceEnd.{DeviceEnd}
use Rattle.hub_promise.specs.declared.ends.DeviceEnd.TheVariants.{NoMemory as LostNoMemory}
use Rattle.hub_promise.specs.DaemonHub.{DeviceFits}
use Rattle.hub_promise.specs.Given.{edge_ending, edges_by, edges_of, end_by, ending_in, ending_of, got_of, is_end, is_loss, stamped_in, stamped_of}
use Rattle.hub_promise.specs.Keeping.{Lasts, end_told, told_of}
use Rattle.hub_promise.specs.Parts.{HubDevice, InletsView, device_of}
use Rattle.hub_promise.specs.Steps.{with_bytes, with_edge, with_got}

none_refused : (refused : List Piece) (a b : Option Ending) → None ≡ end_by refused a b → refused ≡ []
none_refused [] a b e = refl
none_refused (p ∷ refused) a b e = absurd (cc)

first_none : (xs ys : List Piece) → xs ++ ys ≡ [] → xs ≡ []
first_none [] ys e = refl
first_none (x ∷ xs) ys e = absurd (cc)

second_none : (xs ys : List Piece) → xs ++ ys ≡ [] → ys ≡ []
second_none [] ys e = e
second_none (x ∷ xs) ys e = absurd (cc)

one_more : {B : Type 0} (f : Piece → List B) (xs : List Piece) (x : Piece) (all : List B) → all ≡ f x → (before whole : List B) → before ≡ flat_map f xs → whole ≡ before ++ all
    → whole ≡ flat_map f (xs ++ x ∷ [])
one_more f xs x all e before whole b w =
    w ∙ (λ i. b i ++ e i) ∙ ap (λ l. flat_map f xs ++ l) (sym (append-nil (f x))) ∙ sym (flat_map-append f xs (x ∷ []))

-- the log went on
bytes_on : (d : ℕ) (log entries : List Entry) → bytes_in (stream d (log ++ entries)) ≡ bytes_in (stream d log) ++ bytes_in (stream d entries)
bytes_on d log entries = ap bytes_in (stream-append d log entries) ∙ bytes_join (stream d log) (stream d entries)

edges_on : (d : ℕ) (log entries : List Entry) → edges_in (stream d (log ++ entries)) ≡ edges_in (stream d log) ++ edges_in (stream d entries)
edges_on d log entries = ap edges_in (stream-append d log entries) ∙ edges_join (stream d log) (stream d entries)

end_on : (d : ℕ) (log entries : List Entry) (now : Bool) → has_end d log ≡ false → has_end d entries ≡ now → has_end d (log ++ entries) ≡ now
end_on d log entries now before is = list_any-append (is_end_of d) log entries ∙ ap (λ b. b || has_end d entries) before ∙ is

loss_on : (d : ℕ) (log entries : List Entry) (now : Bool) → has_lost d log ≡ false → has_lost d entries ≡ now → has_lost d (log ++ entries) ≡ now
loss_on d log entries now before is = list_any-append (is_loss_of d) log entries ∙ ap (λ b. b || has_lost d entries) before ∙ is

-- ---- what the lanes have told

ending_more : (got : List Piece) (piece : Piece) (was now : Option Ending) → was ≡ ending_of got → now ≡ option_or (ending_in piece) was → now ≡ ending_of (got ++ piece ∷ [])
ending_more got piece was now w n = n ∙ ap (λ o. option_or (ending_in piece) o) w ∙ sym (last_of-append ending_in got (piece ∷ []))

-- after one more piece of its lane
pub told_bytes : (piece : Piece) (x : InletsView) (lasts next : Lasts) → next.bytes ≡ option_or (ending_in piece) lasts.bytes → next.edges ≡ lasts.edges
    → lasts ≡ told_of x → next ≡ told_of (with_bytes piece x)
told_bytes piece x lasts next bytes edges told =
    let one = ending_more x.bytes.got piece lasts.bytes next.bytes (ap (λ (l : Lasts). l.bytes) told) bytes in
    let other = edges ∙ ap (λ (l : Lasts). l.edges) told in
    λ i. record { bytes = one i; edges = other i }

-- and of its edge lane
pub told_edge : (piece : Piece) (x : InletsView) (lane : Taking Piece) (lasts next : Lasts) → x.edges ≡ Some lane → next.bytes ≡ lasts.bytes
    → next.edges ≡ option_or (ending_in piece) lasts.edges → lasts ≡ told_of x → next ≡ told_of (with_edge piece x)
told_edge piece x lane lasts next there bytes edges told =
    let P : Option (Taking Piece) → Type 0 = λ o. lasts ≡ told_of (record { bytes = x.bytes; edges = o }) → next ≡ told_of (with_edge piece (record { bytes = x.bytes; edges = o })) in
    subst P (sym there)
    (λ told_there.
    let one = ending_more lane.got piece lasts.edges next.edges (ap (λ (l : Lasts). l.edges) told_there) edges in
    let other = bytes ∙ ap (λ (l : Lasts). l.bytes) told_there in
    λ i. record { bytes = other i; edges = one i }) told

-- ---- a device that runs

module _ (log entries : List Entry) (d : ℕ) (x : InletsView) (f : DeviceFits log d (device_of x None)) where
  no_refusal : f.refused ++ f.refused_lines ≡ []
  no_refusal = none_refused (f.refused ++ f.refused_lines) _ _ f.ends

  took : x.bytes.got ≡ f.taken
  took = f.lane ∙ ap (λ l. f.taken ++ l) (first_none _ _ no_refusal) ∙ append-nil f.taken

  took_lines : got_of x.edges ≡ f.lines
  took_lines = f.edge_lane ∙ ap (λ l. f.lines ++ l) (second_none _ _ no_refusal) ∙ append-nil f.lines

  -- a piece of its lane was taken
  pub bytes_taken : (piece : Piece) (end : Option DeviceEnd) → bytes_in (stream d entries) ≡ stamped_in piece → edges_in (stream d entries) ≡ []
      → end ≡ end_told (with_bytes piece x) → has_end d entries ≡ is_end end → has_lost d entries ≡ is_loss end
      → DeviceFits (log ++ entries) d (device_of (with_bytes piece x) end)
  bytes_taken piece end bytes edges end_is ended lost_is =
      record {
        taken = f.taken ++ piece ∷ [];
        refused = [];
        lines = f.lines;
        refused_lines = [];
        lane = ap (λ l. l ++ piece ∷ []) took ∙ sym (append-nil (f.taken ++ piece ∷ []));
        edge_lane = took_lines ∙ sym (append-nil f.lines);
        few = omega arith;
        bytes = one_more stamped_in f.taken piece (bytes_in (stream d entries)) bytes (bytes_in (stream d log)) _ f.bytes (bytes_on d log entries);
        edges = edges_on d log entries ∙ ap (λ l. edges_in (stream d log) ++ l) edges ∙ append-nil (edges_in (stream d log)) ∙ f.edges;
        ends = end_is ∙ (λ i. end_by [] (ending_of (took i ++ piece ∷ [])) (edge_ending x.edges (took_lines i)));
        ended = end_on d log entries (is_end end) f.ended ended;
        lost = loss_on d log entries (is_loss end) f.lost lost_is;
      }

  -- its lanes have not both told
  pub running : None ≡ end_told x
  running =
      subst (λ (refused : List Piece). None ≡ end_by refused (ending_of f.taken) (edge_ending x.edges f.lines)) no_refusal f.ends
      ∙ (λ i. end_by [] (ending_of (sym took i)) (edge_ending x.edges (sym took_lines i)))

-- that has an edge lane
module _ (log entries : List Entry) (d : ℕ) (own lane : Taking Piece) (f : DeviceFits log d (device_of (record { bytes = own; edges = Some lane }) None)) where
  -- a piece of its edge lane was taken
  edges_taken_there : (piece : Piece) (end : Option DeviceEnd) → bytes_in (stream d entries) ≡ [] → edges_in (stream d entries) ≡ edges_by piece
      → end ≡ end_told (record { bytes = own; edges = Some (with_got piece lane) }) → has_end d entries ≡ is_end end → has_lost d entries ≡ is_loss end
      → DeviceFits (log ++ entries) d (device_of (record { bytes = own; edges = Some (with_got piece lane) }) end)
  edges_taken_there piece end bytes edges end_is ended lost_is =
      let x : InletsView = record { bytes = own; edges = Some lane } in
      let own_is = took log entries d x f in
      let lines_are = took_lines log entries d x f in
      record {
        taken = f.taken;
        refused = [];
        lines = f.lines ++ piece ∷ [];
        refused_lines = [];
        lane = own_is ∙ sym (append-nil f.taken);
        edge_lane = ap (λ l. l ++ piece ∷ []) lines_are ∙ sym (append-nil (f.lines ++ piece ∷ []));
        few = omega arith;
        bytes = bytes_on d log entries ∙ ap (λ l. bytes_in (stream d log) ++ l) bytes ∙ append-nil (bytes_in (stream d log)) ∙ f.bytes;
        edges = one_more edges_by f.lines piece (edges_in (stream d entries)) edges (edges_in (stream d log)) _ f.edges (edges_on d log entries);
        ends = end_is ∙ (λ i. end_by [] (ending_of (own_is i)) (ending_of (lines_are i ++ piece ∷ [])));
        ended = end_on d log entries (is_end end) f.ended ended;
        lost = loss_on d log entries (is_loss end) f.lost lost_is;
      }

pub edges_taken : (log entries : List Entry) (d : ℕ) (x : InletsView) (lane : Taking Piece) → x.edges ≡ Some lane → (piece : Piece) (end : Option DeviceEnd)
    → bytes_in (stream d entries) ≡ [] → edges_in (stream d entries) ≡ edges_by piece
    → end ≡ end_told (with_edge piece x) → has_end d entries ≡ is_end end → has_lost d entries ≡ is_loss end
    → DeviceFits log d (device_of x None) → DeviceFits (log ++ entries) d (device_of (with_edge piece x) end)
edges_taken log entries d x lane there piece end bytes edges end_is ended lost_is f =
    let P : Option (Taking Piece) → Type 0 = λ o. end ≡ end_told (with_edge piece (record { bytes = x.bytes; edges = o }))
    → DeviceFits log d (device_of (record { bytes = x.bytes; edges = o }) None)
    → DeviceFits (log ++ entries) d (device_of (with_edge piece (record { bytes = x.bytes; edges = o })) end) in
    subst P (sym there) (λ is fits. edges_taken_there log entries d x.bytes lane fits piece end bytes edges is ended lost_is) end_is f

lost_now : (d : ℕ) → has_lost d (lost d) ≡ true
lost_now d = ap (λ b. b || false) (same d)

-- a piece of its lane was refused
pub bytes_refused : (log : List Entry) (d : ℕ) (x : InletsView) (piece : Piece)
    → DeviceFits log d (device_of x None) → DeviceFits (log ++ lost d) d (device_of (with_bytes piece x) (Some LostNoMemory))
bytes_refused log d x piece f =
    record {
      taken = f.taken;
      refused = piece ∷ [];
      lines = f.lines;
      refused_lines = [];
      lane = ap (λ l. l ++ piece ∷ []) (took log (lost d) d x f);
      edge_lane = took_lines log (lost d) d x f ∙ sym (append-nil f.lines);
      few = omega arith;
      bytes = bytes_on d log (lost d) ∙ append-nil (bytes_in (stream d log)) ∙ f.bytes;
      edges = edges_on d log (lost d) ∙ append-nil (edges_in (stream d log)) ∙ f.edges;
      ends = refl;
      ended = end_on d log (lost d) false f.ended refl;
      lost = loss_on d log (lost d) true f.lost (lost_now d);
    }

edges_refused_there : (log : List Entry) (d : ℕ) (own lane : Taking Piece) (piece : Piece)
    → DeviceFits log d (device_of (record { bytes = own; edges = Some lane }) None)
    → DeviceFits (log ++ lost d) d (device_of (record { bytes = own; edges = Some (with_got piece lane) }) (Some LostNoMemory))
edges_refused_there log d own lane piece f =
    let x : InletsView = record { bytes = own; edges = Some lane } in
    record {
      taken = f.taken;
      refused = [];
      lines = f.lines;
      refused_lines = piece ∷ [];
      lane = took log (lost d) d x f ∙ sym (append-nil f.taken);
      edge_lane = ap (λ l. l ++ piece ∷ []) (took_lines log (lost d) d x f);
      few = omega arith;
      bytes = bytes_on d log (lost d) ∙ append-nil (bytes_in (stream d log)) ∙ f.bytes;
      edges = edges_on d log (lost d) ∙ append-nil (edges_in (stream d log)) ∙ f.edges;
      ends = refl;
      ended = end_on d log (lost d) false f.ended refl;
      lost = loss_on d log (lost d) true f.lost (lost_now d);
    }

pub edges_refused : (log : List Entry) (d : ℕ) (x : InletsView) (lane : Taking Piece) → x.edges ≡ Some lane → (piece : Piece)
    → DeviceFits log d (device_of x None) → DeviceFits (log ++ lost d) d (device_of (with_edge piece x) (Some LostNoMemory))
edges_refused log d x lane there piece =
    let P : Option (Taking Piece) → Type 0 = λ o. DeviceFits log d (device_of (record { bytes = x.bytes; edges = o }) None)
    → DeviceFits (log ++ lost d) d (device_of (with_edge piece (record { bytes = x.bytes; edges = o })) (Some LostNoMemory)) in
    subst P (sym there) (edges_refused_there log d x.bytes lane piece)

-- something came of another device
pub device_quiet : (log entries : List Entry) (e : ℕ) (x : HubDevice) → IsQuiet e entries → DeviceFits log e x → DeviceFits (log ++ entries) e x
device_quiet log entries e x quiet f =
    record {
      taken = f.taken;
      refused = f.refused;
      lines = f.lines;
      refused_lines = f.refused_lines;
      lane = f.lane;
      edge_lane = f.edge_lane;
      few = f.few;
      bytes = bytes_on e log entries ∙ ap (λ s. bytes_in (stream e log) ++ bytes_in s) quiet.no_symbols ∙ append-nil (bytes_in (stream e log)) ∙ f.bytes;
      edges = edges_on e log entries ∙ ap (λ s. edges_in (stream e log) ++ edges_in s) quiet.no_symbols ∙ append-nil (edges_in (stream e log)) ∙ f.edges;
      ends = f.ends;
      ended = has_end-append e log entries quiet.no_end ∙ f.ended;
      lost = has_lost-append e log entries quiet.no_loss ∙ f.lost;
    }
