-- The log has only what the sources of the devices held, since what was received of their lanes is that.
use Rattle.std.proofs.Common.{◌≡◌, ◌<◌, inl, ℕ, List, [], ◌∷◌, ◌++◌, length, map, Option, Some, None, get_or, refl, sym, ap, ◌∙◌, subst, append_assoc}
use Rattle.std.specs.Prelude.{IfSome, option_to_list}
use Rattle.std.specs.List.{All, AllZip}
use Rattle.std.proofs.lemmas.List.Elements.{All-head, All-tail}
use Rattle.std.proofs.lemmas.List.Concat.{flat_map-append}
use Rattle.book_log.specs.Entries.{Entry, IsLog, stream}
use Rattle.book_log.specs.Standing.{StandsFor}
use Rattle.device_core.specs.Stream.{bytes_in, edges_in}
use Rattle.gps_lane.specs.Ends.{Taking}
use Rattle.gps_fixed.specs.Lists.{IsPrefix}
use Rattle.gps_report.specs.declared.edge.Edge.{Edge}
use Rattle.packet_cut.specs.Packets.{bytes_of, stamped}
use Rattle.packet_cut.proofs.StreamLaws.{bytes_of-append, bytes_of-stamped}
use Rattle.pps_edges.specs.Scan.{edge_in}
use Rattle.report_book.specs.BookView.{BookView}
use Rattle.report_book.specs.Standing.{BookHolds}
use Rattle.gps_lane.specs.declared.piece.Piece.{Piece}
use Rattle.gps_lane.specs.declared.piece.Piece.TheVariants.{Bytes, Line, Input, Last}
use Rattle.gps_lane.specs.Carried.{device_part, line_part, device_bytes, lines_of}
use Rattle.gps_lane.specs.EdgeLines.{all_edge_lines}
use Rattle.gps_lane.specs.Held.{AreDue, AreHeld}
use Rattle.gps_lane.proofs.Held.{begun_held}
use Rattle.hub_promise.specs.declared.ends.DeviceEnd.{DeviceEnd}
use Rattle.hub_promise.specs.DaemonHub.{DeviceFits, LogIsRead}
use Rattle.hub_promise.specs.Given.{edges_of, edges_said, got_of, stamped_of}
use Rattle.hub_promise.specs.Keeping.{LaneIsRead, NothingGot}
use Rattle.hub_promise.specs.Parts.{InletsView, device_of, devices_of}

-- the bytes of pieces, without their stamps
bytes_carried : (pieces : List Piece) → bytes_of (stamped_of pieces) ≡ device_bytes pieces
bytes_carried [] = refl
bytes_carried (Bytes at bytes ∷ pieces) =
    bytes_of-append (stamped at bytes) (stamped_of pieces)
    ∙ ap (λ (l : List ℕ). l ++ bytes_of (stamped_of pieces)) (bytes_of-stamped bytes at)
    ∙ ap (λ (l : List ℕ). bytes ++ l) (bytes_carried pieces)
bytes_carried (Line line ∷ pieces) = bytes_carried pieces
bytes_carried (Input bytes ∷ pieces) = bytes_carried pieces
bytes_carried (Last ending ∷ pieces) = bytes_carried pieces

-- the edges of pieces are those of their lines
edges_carried : (pieces : List Piece) → edges_of pieces ≡ edges_said (lines_of pieces)
edges_carried [] = refl
edges_carried (Bytes at bytes ∷ pieces) = edges_carried pieces
edges_carried (Line line ∷ pieces) = ap (λ l. option_to_list (edge_in line) ++ l) (edges_carried pieces)
edges_carried (Input bytes ∷ pieces) = edges_carried pieces
edges_carried (Last ending ∷ pieces) = edges_carried pieces

-- the log has what was taken of the first of what all pieces carry
taken_begins : {X : Type 0} (logged taken refused all : List X) (rest : List X) → logged ≡ taken → all ≡ (taken ++ refused) ++ rest → IsPrefix logged all
taken_begins logged taken refused all rest is whole =
    (refused ++ rest, whole ∙ append_assoc taken refused rest ∙ ap (λ l. l ++ (refused ++ rest)) (sym is))

bytes_read : (log : List Entry) (d : ℕ) (x : InletsView) (end : Option DeviceEnd) (about : Option (List ℕ)) → DeviceFits log d (device_of x end) → AreHeld about x.bytes.got
    → IfSome about (λ (held : List ℕ). IsPrefix (bytes_of (bytes_in (stream d log))) held)
bytes_read log d x end None fits held = tt
bytes_read log d x end (Some all) fits held =
    taken_begins (bytes_of (bytes_in (stream d log))) (device_bytes fits.taken) (device_bytes fits.refused) all held.device.0
    (ap bytes_of fits.bytes ∙ bytes_carried fits.taken)
    (held.device.1 ∙ ap (λ l. l ++ held.device.0) (ap device_bytes fits.lane ∙ flat_map-append device_part fits.taken fits.refused))

edges_read : (log : List Entry) (d : ℕ) (own lane : Taking Piece) (end : Option DeviceEnd) (about : Option (List ℕ))
    → DeviceFits log d (device_of (record { bytes = own; edges = Some lane }) end) → AreHeld about lane.got
    → IfSome about (λ (held : List ℕ). IsPrefix (edges_in (stream d log)) (edges_said (all_edge_lines held)))
edges_read log d own lane end None fits held = tt
edges_read log d own lane end (Some all) fits held =
    let said : List ℕ → List Edge = λ line. option_to_list (edge_in line) in
    let whole : lines_of lane.got ≡ lines_of fits.lines ++ lines_of fits.refused_lines =
    ap lines_of fits.edge_lane ∙ flat_map-append line_part fits.lines fits.refused_lines in
    taken_begins (edges_in (stream d log)) (edges_said (lines_of fits.lines)) (edges_said (lines_of fits.refused_lines)) (edges_said (all_edge_lines all)) (edges_said held.lines.0)
    (fits.edges ∙ edges_carried fits.lines)
    (ap edges_said held.lines.1 ∙ flat_map-append said (lines_of lane.got) held.lines.0
    ∙ ap (λ l. l ++ edges_said held.lines.0) (ap edges_said whole ∙ flat_map-append said (lines_of fits.lines) (lines_of fits.refused_lines)))

log_read : (log : List Entry) (d : ℕ) (own : Taking Piece) (edges : Option (Taking Piece)) (end : Option DeviceEnd)
    → DeviceFits log d (device_of (record { bytes = own; edges = edges }) end) → LaneIsRead (record { bytes = own; edges = edges })
    → LogIsRead log d (device_of (record { bytes = own; edges = edges }) end)
log_read log d own None end fits read = record { bytes = bytes_read log d (record { bytes = own; edges = None }) end own.about.source fits read.0; edges = tt }
log_read log d own (Some lane) end fits read = record {
  bytes = bytes_read log d (record { bytes = own; edges = Some lane }) end own.about.source fits read.0;
  edges = edges_read log d own lane end lane.about.source fits read.1;
}

pub logs_read : (log : List Entry) (numbers : List ℕ) (inlets : List InletsView) (ends : List (Option DeviceEnd)) → AllZip (DeviceFits log) numbers (devices_of inlets ends)
    → All LaneIsRead inlets → AllZip (LogIsRead log) numbers (devices_of inlets ends)
logs_read log [] [] ends fits read = tt
logs_read log (d ∷ numbers) [] ends fits read = fits
logs_read log [] (x ∷ inlets) [] fits read = tt
logs_read log (d ∷ numbers) (x ∷ inlets) [] fits read = fits
logs_read log [] (x ∷ inlets) (end ∷ ends) fits read = fits
logs_read log (d ∷ numbers) (x ∷ inlets) (end ∷ ends) fits read =
    (log_read log d x.bytes x.edges end fits.0 (All-head LaneIsRead x inlets read), logs_read log numbers inlets ends fits.1 (All-tail LaneIsRead x inlets read))

-- before anything is received
pub none_held : (lane : Taking Piece) → lane.got ≡ [] → AreDue lane.about lane.got
none_held lane none = subst (AreDue lane.about) (sym none) (begun_held lane.about [] (inl refl))

no_edges_held : (edges : Option (Taking Piece)) → got_of edges ≡ [] → IfSome edges (λ (lane : Taking Piece). AreDue lane.about lane.got)
no_edges_held None none = tt
no_edges_held (Some lane) none = none_held lane none

pub none_read : (inlets : List InletsView) → All NothingGot inlets → All LaneIsRead inlets
none_read inlets none d x lt =
    let one : InletsView = get_or inlets d x in
    (none_held one.bytes (none d x lt).0, no_edges_held one.edges (none d x lt).1)

-- the book's log is one of its devices
pub log_is : (b : BookView) (before : List Entry) → BookHolds b → StandsFor b.log.opening before → IsLog (length b.names) (before ++ b.log.log)
log_is b before holds stands = subst (λ (n : ℕ). IsLog n (before ++ b.log.log)) (sym holds.names) (holds.log.over before stands).present.is_log
