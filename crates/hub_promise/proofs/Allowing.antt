-- What the hub's calls give to the outlets of its sessions is due to their clients, as the book's calls require.
use Rattle.std.proofs.Common.{◌≡◌, ◌<◌, ℕ, suc, Bool, true, false, ◌||◌, List, [], ◌∷◌, ◌++◌, length, map, get_or, set, nat_eq, nat_lt, Option, Some, None, refl, sym, ap, ◌∙◌, subst, append-nil, arith, length-set}
use Rattle.std.specs.Prelude.{IfSome, is_some, option_and_then, option_map, option_to_list, slice_get}
use Rattle.std.specs.List.{All, AllZip, range_with_len}
use Rattle.std.proofs.Math.Seq.{map-set_same}
use Rattle.std.proofs.lemmas.List.Concat.{flat_map-append}
use Rattle.std.proofs.lemmas.List.Elements.{All-set}
use Rattle.std.proofs.lemmas.Option.{slice_get-get_or}
use Rattle.atomic_table.specs.Seated.{TableId}
use Rattle.book_batch.specs.Lines.{line_for}
use Rattle.book_log.specs.Entries.{Entry, GoesOn, IsLog, edged, ended, fed, got, stops_in, stream}
use Rattle.book_log.specs.History.{history_after}
use Rattle.book_log.proofs.Histories.{IsQuiet, no_end_got, no_loss_got, quiet_got, stream-append, stream_got}
use Rattle.book_sessions.specs.Allowing.{MayReportEach}
use Rattle.book_sessions.specs.MemberView.{MemberView}
use Rattle.device_core.specs.Stream.{bytes_in, edges_in, piece as stream_piece}
use Rattle.device_core.proofs.Streams.{bytes_of_piece, edges_of_piece}
use Rattle.gps_fixed.specs.Moment.{Moment}
use Rattle.gps_lane.specs.Ends.{Taking}
use Rattle.gps_lane.specs.Lane.{MayKeep}
use Rattle.gps_fixed.specs.Lists.{IsPrefix}
use Rattle.gps_report.specs.declared.edge.Edge.{Edge}
use Rattle.gps_report.specs.declared.edge.Symbol.{Symbol}
use Rattle.gps_report.specs.declared.edge.Symbol.TheVariants.{Edge as EdgeSymbol}
use Rattle.packet_cut.specs.Packets.{bytes_of}
use Rattle.pps_edges.specs.Scan.{edge_in as readable}
use Rattle.report_book.specs.Allowing.{MayAdd}
use Rattle.report_book.specs.Refusals.{fault_of}
use Rattle.gps_lane.specs.Carried.{input_bytes, input_part}
use Rattle.gps_lane.specs.EdgeLines.{all_edge_lines}
use Rattle.gps_lane.specs.Held.{AreDue, AreHeld}
use Rattle.gps_lane.specs.declared.piece.Piece.{Piece}
use Rattle.gps_lane.specs.declared.piece.Piece.TheVariants.{Bytes, Line, Input}
use Rattle.session_core.specs.declared.mark.Close.{Close}
use Rattle.session_core.specs.declared.subject.DeviceHeld.{DeviceHeld}
use Rattle.session_core.specs.declared.subject.Subject.{Subject}
use Rattle.session_runs.specs.Due.{IsLogFor, IsReadFrom, device_names}
use Rattle.session_runs.proofs.Zipping.{zip_weaker}
use Rattle.hub_promise.specs.declared.ends.DeviceEnd.{DeviceEnd}
use Rattle.hub_promise.specs.DaemonHub.{DeviceFits, LogIsRead, SessionFits, whole_log}
use Rattle.hub_promise.specs.Given.{edges_of, edges_said, end_by}
use Rattle.hub_promise.specs.Giving.{MayGiveBytes, MayGiveEdge, MayGiveNext, MayHearNext, MayOpen}
use Rattle.hub_promise.specs.Keeping.{HubKeeps, LaneIsRead, Lasts, ServesClient, told_of}
use Rattle.hub_promise.specs.Parts.{HubView, InletsView, LaneNames, Terms, device_held, device_of, devices_held, devices_of, edges_in_source, names_of, subject_of}
use Rattle.hub_promise.specs.Steps.{with_bytes, with_edge, with_got}
use Rattle.hub_promise.proofs.Devices.{bytes_taken, edges_taken, running, told_bytes, told_edge}
use Rattle.hub_promise.proofs.Dues.{IsSentBy, opening_due, replies_due, reports_due}
use Rattle.hub_promise.proofs.Going.{device_now, no_lanes}
use Rattle.hub_promise.proofs.Lists.{devices_on, zip_at}
use Rattle.hub_promise.proofs.Reading.{log_is, logs_read}
use Rattle.book_log.proofs.SummarySteps.{goes-append, goes_got}
use Rattle.book_log.specs.Standing.{StandsFor}
use Rattle.report_book.specs.BookView.{BookView}
use Rattle.report_book.specs.Standing.{BookHolds}

-- ---- the devices, as a session's client is told of them

-- of a device whose edges are of no lane there are none
no_lines : (lines refused : List Piece) → [] ≡ lines ++ refused → lines ≡ []
no_lines [] refused e = refl
no_lines (line ∷ lines) refused e = absurd (cc)

edges_by_source : (log : List Entry) (d : ℕ) (source : Option (List ℕ))
    → IfSome source (λ (held : List ℕ). IsPrefix (edges_in (stream d log)) (edges_said (all_edge_lines held)))
    → IfSome (edges_in_source (Some source)) (λ (held : List Edge). IsPrefix (edges_in (stream d log)) held)
edges_by_source log d None read = tt
edges_by_source log d (Some held) read = read

device_read : (log : List Entry) (d : ℕ) (name : List ℕ) (own : Taking Piece) (edges : Option (Taking Piece)) (end : Option DeviceEnd)
    → DeviceFits log d (device_of (record { bytes = own; edges = edges }) end) → LogIsRead log d (device_of (record { bytes = own; edges = edges }) end)
    → IsReadFrom log d (device_held name (names_of (record { bytes = own; edges = edges })))
device_read log d name own None end fits read =
    let none : edges_in (stream d log) ≡ [] = fits.edges ∙ ap edges_of (no_lines fits.lines fits.refused_lines fits.edge_lane) in
    record { bytes = read.bytes; edges = ([], sym (append-nil (edges_in (stream d log)) ∙ none)) }
device_read log d name own (Some lane) end fits read = record { bytes = read.bytes; edges = edges_by_source log d lane.about.source read.edges }

devices_read : (log : List Entry) (numbers : List ℕ) (names : List (List ℕ)) (inlets : List InletsView) (ends : List (Option DeviceEnd))
    → length inlets ≡ length names → length ends ≡ length names → AllZip (DeviceFits log) numbers (devices_of inlets ends)
    → AllZip (LogIsRead log) numbers (devices_of inlets ends)
    → AllZip (IsReadFrom log) numbers (devices_held names (map names_of inlets))
devices_read log [] [] [] [] n m fits read = tt
devices_read log (d ∷ numbers) [] [] [] n m fits read = fits
devices_read log numbers [] [] (end ∷ ends) n m fits read = absurd (omega (arith, m))
devices_read log numbers [] (x ∷ inlets) ends n m fits read = absurd (omega (arith, n))
devices_read log numbers (name ∷ names) [] ends n m fits read = absurd (omega (arith, n))
devices_read log numbers (name ∷ names) (x ∷ inlets) [] n m fits read = absurd (omega (arith, m))
devices_read log [] (name ∷ names) (x ∷ inlets) (end ∷ ends) n m fits read = fits
devices_read log (d ∷ numbers) (name ∷ names) (x ∷ inlets) (end ∷ ends) n m fits read = (
  device_read log d name x.bytes x.edges end fits.0 read.0,
  devices_read log numbers names inlets ends (omega (arith, n)) (omega (arith, m)) fits.1 read.1,
)

held_length : (names : List (List ℕ)) (lanes : List LaneNames) → length lanes ≡ length names → length (devices_held names lanes) ≡ length names
held_length [] lanes same = refl
held_length (name ∷ names) [] same = absurd (omega (arith, same))
held_length (name ∷ names) (x ∷ lanes) same = ap suc (held_length names lanes (omega (arith, same)))

held_names : (names : List (List ℕ)) (lanes : List LaneNames) → length lanes ≡ length names
    → map (λ (device : DeviceHeld). device.name) (devices_held names lanes) ≡ names
held_names [] lanes same = refl
held_names (name ∷ names) [] same = absurd (omega (arith, same))
held_names (name ∷ names) (x ∷ lanes) same = ap (λ l. name ∷ l) (held_names names lanes (omega (arith, same)))

lanes_count : (inlets : List InletsView) → length (map names_of inlets) ≡ length inlets
lanes_count [] = refl
lanes_count (x ∷ inlets) = ap suc (lanes_count inlets)

-- what the items of a session's lane are about has the book's names
pub named : (terms : Terms) (h : HubView) (lasts : List Lasts) (source : Option (List ℕ)) → HubKeeps terms h lasts
    → device_names (subject_of terms source) ≡ h.book.names
named terms h lasts source k =
    ap (λ (t : Terms). device_names (subject_of t source)) (sym k.terms_are) ∙ held_names h.book.names (map names_of h.inlets) (lanes_count h.inlets ∙ k.count)

about_count : (terms : Terms) (h : HubView) (lasts : List Lasts) (source : Option (List ℕ)) → HubKeeps terms h lasts
    → length h.book.names ≡ length (subject_of terms source).devices
about_count terms h lasts source k =
    sym (held_length h.book.names (map names_of h.inlets) (lanes_count h.inlets ∙ k.count)) ∙ ap (λ (t : Terms). length (subject_of t source).devices) k.terms_are

-- a log that the devices fit, whose lanes have the hub's names, was read from their sources
read_for : (terms : Terms) (h : HubView) (lasts : List Lasts) (log : List Entry) (inlets : List InletsView) (ends : List (Option DeviceEnd)) (source : Option (List ℕ))
    → HubKeeps terms h lasts → map names_of inlets ≡ map names_of h.inlets → length inlets ≡ length h.book.names → length ends ≡ length h.book.names
    → IsLog (length h.book.names) log → AllZip (DeviceFits log) (range_with_len 0 (length h.book.names)) (devices_of inlets ends) → All LaneIsRead inlets
    → IsLogFor (subject_of terms source) log
read_for terms h lasts log inlets ends source k lanes n m is_log fits read =
    let numbers : List ℕ = range_with_len 0 (length h.book.names) in
    let held : List DeviceHeld = devices_held h.book.names (map names_of inlets) in
    let Numbered : ℕ → Type 0 = λ c. AllZip (IsReadFrom log) (range_with_len 0 c) held in
    let Lanes : List LaneNames
    → Type 0 = λ l. AllZip (IsReadFrom log) (range_with_len 0 (length (devices_held h.book.names l))) (devices_held h.book.names l) in
    let each : AllZip (IsReadFrom log) numbers held = devices_read log numbers h.book.names inlets ends n m fits (logs_read log numbers inlets ends fits read) in
    let these : Lanes (map names_of inlets) = subst Numbered (sym (held_length h.book.names (map names_of inlets) (lanes_count inlets ∙ n))) each in
    let Among : ℕ → Type 0 = λ c. IsLog c log in
    let About : Terms → Type 0 = λ t. IsLogFor (subject_of t source) log in
    subst About k.terms_are
    (record {
      is_log = subst Among (sym (held_length h.book.names (map names_of h.inlets) (lanes_count h.inlets ∙ k.count))) is_log;
      each = subst Lanes lanes these;
    })

-- the log of the whole run
pub read_now : (terms : Terms) (h : HubView) (lasts : List Lasts) (source : Option (List ℕ)) (k : HubKeeps terms h lasts)
    → IsLogFor (subject_of terms source) (whole_log k.over.0 h.book)
read_now terms h lasts source k =
    read_for terms h lasts (whole_log k.over.0 h.book) h.inlets h.ends source k refl k.count k.ends_count
    (log_is h.book k.over.0 k.holds k.over.1.hub.opening) k.over.1.hub.devices k.read

-- and with entries of one device, if what was received of its lanes has them
read_on : (terms : Terms) (h : HubView) (lasts : List Lasts) (d : ℕ) (x y : InletsView) (entries : List Entry) (source : Option (List ℕ)) (k : HubKeeps terms h lasts)
    → get_or h.inlets d x ≡ x → names_of y ≡ names_of x → LaneIsRead y → ((e : ℕ) → nat_eq d e ≡ false → IsQuiet e entries)
    → IsLog (length h.book.names) (whole_log k.over.0 h.book ++ entries)
    → DeviceFits (whole_log k.over.0 h.book ++ entries) d (device_of y None)
    → IsLogFor (subject_of terms source) (whole_log k.over.0 h.book ++ entries)
read_on terms h lasts d x y entries source k here names read quiet is_log mine =
    let log : List Entry = whole_log k.over.0 h.book in
    read_for terms h lasts (log ++ entries) (set h.inlets d y) (set h.ends d None) source k
    (map-set_same names_of h.inlets d y x (names ∙ ap names_of (sym here))) (length-set h.inlets d y ∙ k.count) (length-set h.ends d None ∙ k.ends_count) is_log
    (devices_on log entries (length h.book.names) d h.inlets h.ends y None quiet mine k.over.1.hub.devices)
    (All-set LaneIsRead h.inlets d y read k.read)

-- entries without a symbol change nothing of it
quiet_read : (log entries : List Entry) (d : ℕ) (device : DeviceHeld) → stream d entries ≡ [] → IsReadFrom log d device
    → IsReadFrom (log ++ entries) d device
quiet_read log entries d device none read =
    let HasBytes : List Symbol → Type 0 = λ l. IfSome device.bytes (λ (held : List ℕ). IsPrefix (bytes_of (bytes_in l)) held) in
    let HasEdges : List Symbol → Type 0 = λ l. IfSome device.edges (λ (held : List Edge). IsPrefix (edges_in l) held) in
    let same : stream d log ≡ stream d (log ++ entries) =
    sym (stream-append d log entries ∙ ap (λ l. stream d log ++ l) none ∙ append-nil (stream d log)) in
    record { bytes = subst HasBytes same read.bytes; edges = subst HasEdges same read.edges }

-- ---- entries of a device

sent_held : (source : Option (List ℕ)) (pieces : List Piece) → AreHeld source pieces
    → IfSome source (λ (all : List ℕ). IsPrefix (input_bytes pieces) all)
sent_held None pieces held = tt
sent_held (Some all) pieces held = held.input

pub reports_due_each : (terms : Terms) (names : List (List ℕ)) (before log entries : List Entry) (sessions : List MemberView) (inputs : List (Taking Piece))
    → ((source : Option (List ℕ)) → device_names (subject_of terms source) ≡ names)
    → ((source : Option (List ℕ)) → IsLogFor (subject_of terms source) ((before ++ log) ++ entries))
    → AllZip (ServesClient terms) sessions inputs → AllZip (SessionFits names before log) sessions inputs
    → MayReportEach MayKeep (line_for names) (history_after (before ++ log) entries) sessions
reports_due_each terms names before log entries sessions inputs named_so read clients fits s a lt =
    let member : MemberView = get_or sessions s a in
    let x : Taking Piece = get_or inputs s no_lanes.bytes in
    let serves : ServesClient terms member x = zip_at (ServesClient terms) sessions inputs s a no_lanes.bytes clients lt in
    let fit : SessionFits names before log member x = zip_at (SessionFits names before log) sessions inputs s a no_lanes.bytes fits lt in
    let source : Option (List ℕ) = x.about.source in
    reports_due names before log entries (subject_of terms source) serves.table member fit.run (input_bytes x.got) (named_so source) serves.name (read source)
    (sent_held source x.got serves.heard) fit.account

-- of those that the log may go on with
may_add : (terms : Terms) (h : HubView) (lasts : List Lasts) (d : ℕ) (entries : List Entry) (k : HubKeeps terms h lasts)
    → ((source : Option (List ℕ)) → IsLogFor (subject_of terms source) (whole_log k.over.0 h.book ++ entries)) → MayAdd MayKeep d entries h.book
may_add terms h lasts d entries k read free held = (
  k.over.0,
  k.over.1.hub.opening,
  reports_due_each terms h.book.names k.over.0 h.book.log.log entries h.book.sessions h.inputs (λ source. named terms h lasts source k) read k.clients k.over.1.hub.sessions,
)

-- a device that runs goes on to fit the log when a piece of bytes is taken, or an edge
fed_fits : (log : List Entry) (d : ℕ) (at : Moment) (bytes : List ℕ) (x : InletsView) → DeviceFits log d (device_of x None)
    → DeviceFits (log ++ fed d at bytes) d (device_of (with_bytes (Bytes at bytes) x) None)
fed_fits log d at bytes x f =
    let symbols = stream_piece at bytes in
    let here = stream_got d symbols in
    let piece : Piece = Bytes at bytes in
    let same : told_of (with_bytes piece x) ≡ told_of x = sym (told_bytes piece x (told_of x) (told_of x) refl refl refl) in
    bytes_taken log (fed d at bytes) d x f piece None (ap bytes_in here ∙ bytes_of_piece at bytes) (ap edges_in here ∙ edges_of_piece at bytes)
    (running log [] d x f ∙ (λ i. end_by [] (sym same i).bytes (sym same i).edges)) (no_end_got d d symbols) (no_loss_got d d symbols)

edged_fits : (log : List Entry) (d : ℕ) (line : List ℕ) (edge : Edge) (x : InletsView) (lane : Taking Piece) → x.edges ≡ Some lane
    → Some edge ≡ readable line
    → DeviceFits log d (device_of x None) → DeviceFits (log ++ edged d edge) d (device_of (with_edge (Line line) x) None)
edged_fits log d line edge x lane there reads f =
    let symbols = EdgeSymbol edge ∷ [] in
    let here = stream_got d symbols in
    let piece : Piece = Line line in
    let same : told_of (with_edge piece x) ≡ told_of x = sym (told_edge piece x lane (told_of x) (told_of x) there refl refl refl) in
    edges_taken log (edged d edge) d x lane there piece None (ap bytes_in here) (ap edges_in here ∙ ap option_to_list reads)
    (running log [] d x f ∙ (λ i. end_by [] (sym same i).bytes (sym same i).edges)) (no_end_got d d symbols) (no_loss_got d d symbols) f

-- device d runs, and these are its lanes
fits_now : (terms : Terms) (h : HubView) (lasts : List Lasts) (d : ℕ) (x : InletsView) (end : Option DeviceEnd) (k : HubKeeps terms h lasts)
    → d < length h.book.names
    → get_or h.inlets d x ≡ x → get_or h.ends d end ≡ None → DeviceFits (whole_log k.over.0 h.book) d (device_of x None)
fits_now terms h lasts d x end k lt here runs =
    subst (DeviceFits (whole_log k.over.0 h.book) d) (λ i. device_of (here i) (runs i)) (device_now terms h lasts d x end k lt)

-- it has not stopped in the log, which may go on with it
runs_on : (log : List Entry) (d : ℕ) (x : InletsView) → DeviceFits log d (device_of x None) → stops_in d log ≡ false
runs_on log d x f = λ i. f.ended i || f.lost i

log_goes_on : (terms : Terms) (h : HubView) (lasts : List Lasts) (d : ℕ) (x : InletsView) (end : Option DeviceEnd) (symbols : List Symbol) (k : HubKeeps terms h lasts)
    → d < length h.book.names → get_or h.inlets d x ≡ x → get_or h.ends d end ≡ None → IsLog (length h.book.names) (whole_log k.over.0 h.book ++ got d symbols)
log_goes_on terms h lasts d x end symbols k lt here runs =
    let log : List Entry = whole_log k.over.0 h.book in
    goes-append (length h.book.names) [] log (got d symbols) (log_is h.book k.over.0 k.holds k.over.1.hub.opening)
    (goes_got (length h.book.names) d log symbols lt (runs_on log d x (fits_now terms h lasts d x end k lt here runs)))

lane_now : (terms : Terms) (h : HubView) (lasts : List Lasts) (d : ℕ) (x : InletsView) → HubKeeps terms h lasts → d < length h.book.names
    → get_or h.inlets d x ≡ x → LaneIsRead x
lane_now terms h lasts d x k lt here = subst LaneIsRead here (k.read d x (omega (arith, lt, k.count)))

pub hub_may_feed : (terms : Terms) (h : HubView) (lasts : List Lasts) (d : ℕ) (x : InletsView) (end : Option DeviceEnd) (at : Moment) (bytes : List ℕ)
    → HubKeeps terms h lasts → d < length h.book.names → get_or h.inlets d x ≡ x → get_or h.ends d end ≡ None
    → AreDue x.bytes.about (x.bytes.got ++ Bytes at bytes ∷ []) → MayAdd MayKeep d (fed d at bytes) h.book
hub_may_feed terms h lasts d x end at bytes k lt here runs due =
    let piece : Piece = Bytes at bytes in
    may_add terms h lasts d (fed d at bytes) k
    (λ source. read_on terms h lasts d x (with_bytes piece x) (fed d at bytes) source k here refl (due, (lane_now terms h lasts d x k lt here).1)
    (λ e other. quiet_got d e (stream_piece at bytes) other)
    (log_goes_on terms h lasts d x end (stream_piece at bytes) k lt here runs)
    (fed_fits (whole_log k.over.0 h.book) d at bytes x (fits_now terms h lasts d x end k lt here runs)))

-- the lanes with one more line
lane_with_line : (x : InletsView) (lane : Taking Piece) (piece : Piece) → x.edges ≡ Some lane → LaneIsRead x
    → AreDue lane.about (lane.got ++ piece ∷ [])
    → (names_of (with_edge piece x) ≡ names_of x) × LaneIsRead (with_edge piece x)
lane_with_line x lane piece there read due =
    let P : Option (Taking Piece)
    → Type 0 = λ o. (names_of (with_edge piece (record { bytes = x.bytes; edges = o })) ≡ names_of (record { bytes = x.bytes; edges = o }))
    × LaneIsRead (with_edge piece (record { bytes = x.bytes; edges = o })) in
    subst P (sym there) (refl, (read.0, due))

pub hub_may_edge : (terms : Terms) (h : HubView) (lasts : List Lasts) (d : ℕ) (x : InletsView) (lane : Taking Piece) (end : Option DeviceEnd) (line : List ℕ) (edge : Edge)
    → HubKeeps terms h lasts → d < length h.book.names → get_or h.inlets d x ≡ x → get_or h.ends d end ≡ None → x.edges ≡ Some lane
    → Some edge ≡ readable line
    → AreDue lane.about (lane.got ++ Line line ∷ []) → MayAdd MayKeep d (edged d edge) h.book
hub_may_edge terms h lasts d x lane end line edge k lt here runs there reads due =
    let piece : Piece = Line line in
    let lanes = lane_with_line x lane piece there (lane_now terms h lasts d x k lt here) due in
    may_add terms h lasts d (edged d edge) k
    (λ source. read_on terms h lasts d x (with_edge piece x) (edged d edge) source k here lanes.0 lanes.1
    (λ e other. quiet_got d e (EdgeSymbol edge ∷ []) other)
    (log_goes_on terms h lasts d x end (EdgeSymbol edge ∷ []) k lt here runs)
    (edged_fits (whole_log k.over.0 h.book) d line edge x lane there reads (fits_now terms h lasts d x end k lt here runs)))

ends_on : (n d : ℕ) (log : List Entry) → d < n → stops_in d log ≡ false → GoesOn n log (ended d)
unfolding GoesOn
ends_on n d log lt runs = (lt, runs, tt)

pub hub_may_end : (terms : Terms) (h : HubView) (lasts : List Lasts) (d : ℕ) (x : InletsView) (end : Option DeviceEnd) → HubKeeps terms h lasts
    → d < length h.book.names → get_or h.inlets d x ≡ x → get_or h.ends d end ≡ None → MayAdd MayKeep d (ended d) h.book
hub_may_end terms h lasts d x end k lt here runs =
    let log : List Entry = whole_log k.over.0 h.book in
    may_add terms h lasts d (ended d) k
    (λ source.
    let about : Subject = subject_of terms source in
    let now = read_now terms h lasts source k in
    let Among : ℕ → Type 0 = λ c. IsLog c (log ++ ended d) in
    record {
      is_log = subst Among (about_count terms h lasts source k) (goes-append (length h.book.names) [] log (ended d) (log_is h.book k.over.0 k.holds k.over.1.hub.opening) (ends_on (length h.book.names) d log lt (runs_on log d x (fits_now terms h lasts d x end k lt here runs))));
      each = zip_weaker (IsReadFrom log) (IsReadFrom (log ++ ended d)) (λ e device read. quiet_read log (ended d) e device refl read)
          (range_with_len 0 (length about.devices)) about.devices now.each;
    })

-- whatever piece comes next of its lanes
bytes_given : (terms : Terms) (h : HubView) (lasts : List Lasts) (d : ℕ) (x : InletsView) (end : Option DeviceEnd) → HubKeeps terms h lasts
    → d < length h.book.names → get_or h.inlets d x ≡ x → get_or h.ends d end ≡ None
    → (piece : Piece) → LaneIsRead (with_bytes piece x) → MayGiveBytes d piece h.book
bytes_given terms h lasts d x end k lt here runs piece read =
    let Due : Piece → Type 0 = λ p. AreDue x.bytes.about (x.bytes.got ++ p ∷ []) in
    record {
      bytes = λ at bytes is. hub_may_feed terms h lasts d x end at bytes k lt here runs (subst Due is read.0);
      end = hub_may_end terms h lasts d x end k lt here runs;
    }

edge_given : (terms : Terms) (h : HubView) (lasts : List Lasts) (d : ℕ) (x : InletsView) (end : Option DeviceEnd) → HubKeeps terms h lasts
    → d < length h.book.names → get_or h.inlets d x ≡ x → get_or h.ends d end ≡ None
    → (piece : Piece) (lane : Taking Piece) → x.edges ≡ Some lane → LaneIsRead (with_edge piece x) → MayGiveEdge d piece h.book
edge_given terms h lasts d x end k lt here runs piece lane there read =
    let Read : Option (Taking Piece) → Type 0 = λ o. IfSome (option_map (with_got piece) o) (λ (y : Taking Piece). AreDue y.about y.got) in
    let Due : Piece → Type 0 = λ p. AreDue lane.about (lane.got ++ p ∷ []) in
    let due : Due piece = subst Read there read.1 in
    record {
      edge = λ line edge is reads. hub_may_edge terms h lasts d x lane end line edge k lt here runs there reads (subst Due is due);
      end = hub_may_end terms h lasts d x end k lt here runs;
    }

pub hub_may_give : (terms : Terms) (h : HubView) (lasts : List Lasts) (d : ℕ) (x : InletsView) (end : Option DeviceEnd)
    → HubKeeps terms h lasts → d < length h.book.names → get_or h.inlets d x ≡ x → get_or h.ends d end ≡ None → MayGiveNext d x h.book
hub_may_give terms h lasts d x end k lt here runs =
    record { bytes = bytes_given terms h lasts d x end k lt here runs; edge = edge_given terms h lasts d x end k lt here runs }

-- ---- a session

open_by : (exists : Bool) (closing : Option (ℕ × Close)) → fault_of exists (is_some closing) ≡ None → closing ≡ None
open_by false closing free = absurd (cc)
open_by true None free = refl
open_by true (Some closing) free = absurd (cc)

this_member : (o : Option MemberView) (was a : MemberView) → o ≡ Some was → o ≡ Some a → was ≡ a
this_member None was a there here = absurd (cc)
this_member (Some b) was a there here = cc (there, here)

pub hub_may_hear : (terms : Terms) (h : HubView) (lasts : List Lasts) (s : ℕ) (x : Taking Piece)
    → HubKeeps terms h lasts → s < length h.book.sessions → get_or h.inputs s x ≡ x → MayHearNext s x h.book
hub_may_hear terms h lasts s x k lt here piece due free held = (
  k.over.0,
  k.over.1.hub.opening,
  λ a there.
      let sessions : List MemberView = h.book.sessions in
      let Fits : MemberView → Taking Piece → Type 0 = SessionFits h.book.names k.over.0 h.book.log.log in
      let member : get_or sessions s a ≡ a = this_member (slice_get sessions s) (get_or sessions s a) a (slice_get-get_or sessions s a lt) there in
      let Serves : MemberView → Taking Piece → Type 0 = ServesClient terms in
      let serves : Serves a x = subst (λ (t : MemberView × Taking Piece). Serves t.0 t.1) (λ i. (member i, here i)) (zip_at Serves sessions h.inputs s a x k.clients lt) in
      let fit : Fits a x = subst (λ (t : MemberView × Taking Piece). Fits t.0 t.1) (λ i. (member i, here i)) (zip_at Fits sessions h.inputs s a x k.over.1.hub.sessions lt) in
      let source : Option (List ℕ) = x.about.source in
      let about : Subject = subject_of terms source in
      let open_there : option_and_then (λ (b : MemberView). b.session.closing) (slice_get sessions s) ≡ None =
      open_by (nat_lt s (length sessions)) (option_and_then (λ (b : MemberView). b.session.closing) (slice_get sessions s)) free in
      let is : a.session.closing ≡ None = sym (ap (option_and_then (λ (b : MemberView). b.session.closing)) there) ∙ open_there in
      let bytes : input_bytes (x.got ++ Input piece ∷ []) ≡ input_bytes x.got ++ piece =
      flat_map-append input_part x.got (Input piece ∷ []) ∙ ap (λ l. input_bytes x.got ++ l) (append-nil piece) in
      replies_due h.book.names k.over.0 h.book.log.log about serves.table a fit.run (input_bytes x.got) piece (named terms h lasts source k) serves.name is
      (read_now terms h lasts source k) (subst (IsSentBy about) bytes (sent_held source (x.got ++ Input piece ∷ []) due)) fit.account,
)

pub hub_may_open : (terms : Terms) (h : HubView) (lasts : List Lasts) (source : Option (List ℕ)) (table : TableId) → HubKeeps terms h lasts
    → MayOpen table (subject_of terms source)
hub_may_open terms h lasts source table k = opening_due (whole_log k.over.0 h.book) (subject_of terms source) table (read_now terms h lasts source k)
