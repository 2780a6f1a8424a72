-- What each kind of piece of a device's lanes does: one lemma for each way.
use Rattle.std.proofs.Common.{◌≡◌, ◌<◌, ℕ, Bool, true, false, ◌||◌, List, [], ◌∷◌, ◌++◌, nat_eq, Option, Some, None, refl, sym, ap, ◌∙◌, subst, inl, inr, ◌⊎◌, append-nil}
use Rattle.std.specs.Prelude.{option_to_list}
use Rattle.std.specs.Option.{option_or}
use Rattle.book_log.specs.Entries.{Entry, edged, ended, fed, got, has_end, has_lost, lost, stream}
use Rattle.book_log.proofs.Histories.{IsQuiet, no_end_got, no_loss_got, quiet_end, quiet_got, quiet_loss, same, stream_got}
use Rattle.device_core.specs.Stream.{bytes_in, edges_in, piece as stream_piece}
use Rattle.device_core.proofs.Streams.{bytes_of_piece, edges_of_piece}
use Rattle.gps_fixed.specs.Moment.{Moment}
use Rattle.gps_lane.specs.Ends.{Taking}
use Rattle.gps_report.specs.declared.edge.Edge.{Edge}
use Rattle.gps_report.specs.declared.edge.Symbol.TheVariants.{Edge as EdgeSymbol}
use Rattle.pps_edges.specs.Scan.{edge_in as readable}
use Rattle.report_book.specs.BookView.{BookView, turned_if}
use Rattle.report_book.specs.Moves.{AddsQuietly, Earns, Moves}
use Rattle.report_book.specs.Standing.{BookHolds}
use Rattle.gps_lane.specs.declared.piece.Ending.{Ending}
use Rattle.gps_lane.specs.declared.piece.Piece.{Piece}
use Rattle.gps_lane.specs.declared.piece.Piece.TheVariants.{Bytes, Line, Input, Last}
use Rattle.hub_promise.specs.declared.ends.DeviceEnd.{DeviceEnd}
use Rattle.hub_promise.specs.declared.ends.DeviceEnd.TheVariants.{Ended, ReadFault, NoMemory as LostNoMemory}
use Rattle.hub_promise.specs.Given.{edges_by, end_by, ending_in, is_end, is_loss, stamped_in}
use Rattle.hub_promise.specs.Keeping.{Lasts, end_told, told_of}
use Rattle.hub_promise.specs.DaemonHub.{DeviceFits}
use Rattle.hub_promise.specs.Parts.{InletsView, device_of}
use Rattle.hub_promise.specs.Steps.{DeviceStep, MovesOn, Onward, stop_entries, with_bytes, with_edge}
use Rattle.hub_promise.proofs.Devices.{bytes_refused, bytes_taken, edges_refused, edges_taken, running, told_bytes, told_edge}
use Rattle.hub_promise.proofs.Forward.{moves_onward, quiet_onward}

quiet_nothing : (e : ℕ) → IsQuiet e []
quiet_nothing e = record { no_symbols = refl; no_end = refl; no_loss = refl }

stop_quiet : (d e : ℕ) (end : Option DeviceEnd) → nat_eq d e ≡ false → IsQuiet e (stop_entries d end)
stop_quiet d e None other = quiet_nothing e
stop_quiet d e (Some Ended) other = quiet_end d e other
stop_quiet d e (Some ReadFault) other = quiet_loss d e other
stop_quiet d e (Some LostNoMemory) other = quiet_loss d e other

stop_bytes_in : (d : ℕ) (end : Option DeviceEnd) → bytes_in (stream d (stop_entries d end)) ≡ []
stop_bytes_in d None = refl
stop_bytes_in d (Some Ended) = refl
stop_bytes_in d (Some ReadFault) = refl
stop_bytes_in d (Some LostNoMemory) = refl

stop_edges_in : (d : ℕ) (end : Option DeviceEnd) → edges_in (stream d (stop_entries d end)) ≡ []
stop_edges_in d None = refl
stop_edges_in d (Some Ended) = refl
stop_edges_in d (Some ReadFault) = refl
stop_edges_in d (Some LostNoMemory) = refl

stop_ended : (d : ℕ) (end : Option DeviceEnd) → has_end d (stop_entries d end) ≡ is_end end
stop_ended d None = refl
stop_ended d (Some Ended) = ap (λ b. b || false) (same d)
stop_ended d (Some ReadFault) = refl
stop_ended d (Some LostNoMemory) = refl

stop_lost : (d : ℕ) (end : Option DeviceEnd) → has_lost d (stop_entries d end) ≡ is_loss end
stop_lost d None = refl
stop_lost d (Some Ended) = refl
stop_lost d (Some ReadFault) = ap (λ b. b || false) (same d)
stop_lost d (Some LostNoMemory) = ap (λ b. b || false) (same d)

-- a device that runs goes on to run by a piece that does not tell an ending
still_running : (log : List Entry) (d : ℕ) (x y : InletsView) → DeviceFits log d (device_of x None) → told_of y ≡ told_of x → None ≡ end_told y
still_running log d x y f same = running log [] d x f ∙ (λ i. end_by [] (sym same i).bytes (sym same i).edges)

-- ---- its lane

-- the book took a piece of bytes
pub fed_step : (exact turns : Bool) (old new : BookView) (d : ℕ) (at : Moment) (bytes : List ℕ) (x : InletsView) (lasts : Lasts)
    → BookHolds old → Moves exact turns old new (fed d at bytes) → Earns (turned_if turns old) new (fed d at bytes)
    → DeviceStep d old new x (with_bytes (Bytes at bytes) x) None None lasts lasts
fed_step exact turns old new d at bytes x lasts held moves earns =
    let symbols = stream_piece at bytes in
    let here = stream_got d symbols in
    let piece = Bytes at bytes in
    record {
      entries = fed d at bytes;
      adds = inr (moves_onward exact turns old new (fed d at bytes) held moves earns);
      quiet = λ e other. quiet_got d e symbols other;
      fits = λ log told f. bytes_taken log (fed d at bytes) d x f piece None (ap bytes_in here ∙ bytes_of_piece at bytes) (ap edges_in here ∙ edges_of_piece at bytes)
          (still_running log d x (with_bytes piece x) f (sym (told_bytes piece x (told_of x) (told_of x) refl refl refl))) (no_end_got d d symbols) (no_loss_got d d symbols);
      told = told_bytes piece x lasts lasts refl refl;
    }

-- the book refused a piece of its lane
pub bytes_refused_step : (old new : BookView) (d : ℕ) (piece : Piece) (x : InletsView) (lasts next : Lasts) → AddsQuietly old new (lost d) → Earns old new (lost d)
    → next.bytes ≡ option_or (ending_in piece) lasts.bytes → next.edges ≡ lasts.edges
    → DeviceStep d old new x (with_bytes piece x) None (Some LostNoMemory) lasts next
bytes_refused_step old new d piece x lasts next adds earns bytes edges =
    record {
      entries = lost d;
      adds = inr (quiet_onward old new (lost d) adds earns);
      quiet = λ e other. quiet_loss d e other;
      fits = λ log told f. bytes_refused log d x piece f;
      told = told_bytes piece x lasts next bytes edges;
    }

-- its lane has told how its source ended
pub bytes_last_step : (old new : BookView) (d : ℕ) (ending : Ending) (x : InletsView) (end : Option DeviceEnd) (lasts next : Lasts) → MovesOn old new (stop_entries d end)
    → next.bytes ≡ Some ending → next.edges ≡ lasts.edges → end ≡ end_by [] (Some ending) lasts.edges
    → DeviceStep d old new x (with_bytes (Last ending) x) None end lasts next
bytes_last_step old new d ending x end lasts next moves bytes edges is =
    record {
      entries = stop_entries d end;
      adds = moves;
      quiet = λ e other. stop_quiet d e end other;
      fits = λ log told f.
          let now = told_bytes (Last ending) x lasts next bytes edges told in
          bytes_taken log (stop_entries d end) d x f (Last ending) end (stop_bytes_in d end) (stop_edges_in d end)
          (is ∙ (λ i. end_by [] (sym bytes i) (sym edges i)) ∙ (λ i. end_by [] (now i).bytes (now i).edges)) (stop_ended d end) (stop_lost d end);
      told = told_bytes (Last ending) x lasts next bytes edges;
    }

-- a piece that its lane does not carry does nothing
pub bytes_useless_step : (book : BookView) (d : ℕ) (piece : Piece) (x : InletsView) (lasts : Lasts) → stamped_in piece ≡ [] → ending_in piece ≡ None
    → DeviceStep d book book x (with_bytes piece x) None None lasts lasts
bytes_useless_step book d piece x lasts none no_ending =
    let same = λ (l : Lasts). ap (λ o. option_or o l.bytes) (sym no_ending) in
    record {
      entries = [];
      adds = inl (refl, refl);
      quiet = λ e other. quiet_nothing e;
      fits = λ log told f. bytes_taken log [] d x f piece None (sym none) refl
          (still_running log d x (with_bytes piece x) f (sym (told_bytes piece x (told_of x) (told_of x) (same (told_of x)) refl refl))) refl refl;
      told = told_bytes piece x lasts lasts (same lasts) refl;
    }

-- ---- its edge lane

-- the book took an edge
pub edged_step : (exact turns : Bool) (old new : BookView) (d : ℕ) (line : List ℕ) (edge : Edge) (x : InletsView) (lane : Taking Piece) (lasts : Lasts) → x.edges ≡ Some lane
    → Some edge ≡ readable line → BookHolds old → Moves exact turns old new (edged d edge) → Earns (turned_if turns old) new (edged d edge)
    → DeviceStep d old new x (with_edge (Line line) x) None None lasts lasts
edged_step exact turns old new d line edge x lane lasts there reads held moves earns =
    let symbols = EdgeSymbol edge ∷ [] in
    let here = stream_got d symbols in
    record {
      entries = edged d edge;
      adds = inr (moves_onward exact turns old new (edged d edge) held moves earns);
      quiet = λ e other. quiet_got d e symbols other;
      fits = λ log told f. edges_taken log (edged d edge) d x lane there (Line line) None (ap bytes_in here) (ap edges_in here ∙ ap option_to_list reads)
          (still_running log d x (with_edge (Line line) x) f (sym (told_edge (Line line) x lane (told_of x) (told_of x) there refl refl refl))) (no_end_got d d symbols)
          (no_loss_got d d symbols) f;
      told = told_edge (Line line) x lane lasts lasts there refl refl;
    }

pub edges_refused_step : (old new : BookView) (d : ℕ) (piece : Piece) (x : InletsView) (lane : Taking Piece) (lasts next : Lasts) → x.edges ≡ Some lane
    → AddsQuietly old new (lost d) → Earns old new (lost d) → next.bytes ≡ lasts.bytes → next.edges ≡ option_or (ending_in piece) lasts.edges
    → DeviceStep d old new x (with_edge piece x) None (Some LostNoMemory) lasts next
edges_refused_step old new d piece x lane lasts next there adds earns bytes edges =
    record {
      entries = lost d;
      adds = inr (quiet_onward old new (lost d) adds earns);
      quiet = λ e other. quiet_loss d e other;
      fits = λ log told f. edges_refused log d x lane there piece f;
      told = told_edge piece x lane lasts next there bytes edges;
    }

pub edges_last_step : (old new : BookView) (d : ℕ) (ending : Ending) (x : InletsView) (lane : Taking Piece) (end : Option DeviceEnd) (lasts next : Lasts) → x.edges ≡ Some lane → MovesOn old new (stop_entries d end)
    → next.bytes ≡ lasts.bytes → next.edges ≡ Some ending → end ≡ end_by [] lasts.bytes (Some ending)
    → DeviceStep d old new x (with_edge (Last ending) x) None end lasts next
edges_last_step old new d ending x lane end lasts next there moves bytes edges is =
    record {
      entries = stop_entries d end;
      adds = moves;
      quiet = λ e other. stop_quiet d e end other;
      fits = λ log told f.
          let now = told_edge (Last ending) x lane lasts next there bytes edges told in
          edges_taken log (stop_entries d end) d x lane there (Last ending) end (stop_bytes_in d end) (stop_edges_in d end)
          (is ∙ (λ i. end_by [] (sym bytes i) (sym edges i)) ∙ (λ i. end_by [] (now i).bytes (now i).edges)) (stop_ended d end) (stop_lost d end) f;
      told = told_edge (Last ending) x lane lasts next there bytes edges;
    }

pub edges_useless_step : (book : BookView) (d : ℕ) (piece : Piece) (x : InletsView) (lane : Taking Piece) (lasts : Lasts) → x.edges ≡ Some lane → edges_by piece ≡ [] → ending_in piece ≡ None
    → DeviceStep d book book x (with_edge piece x) None None lasts lasts
edges_useless_step book d piece x lane lasts there none no_ending =
    let same = λ (l : Lasts). ap (λ o. option_or o l.edges) (sym no_ending) in
    record {
      entries = [];
      adds = inl (refl, refl);
      quiet = λ e other. quiet_nothing e;
      fits = λ log told f. edges_taken log [] d x lane there piece None refl (sym none)
          (still_running log d x (with_edge piece x) f (sym (told_edge piece x lane (told_of x) (told_of x) there refl (same (told_of x)) refl))) refl refl f;
      told = told_edge piece x lane lasts lasts there refl (same lasts);
    }

-- nothing came
pub nothing_step : (book : BookView) (d : ℕ) (x : InletsView) (end : Option DeviceEnd) (lasts : Lasts) → DeviceStep d book book x x end end lasts lasts
nothing_step book d x end lasts =
    record {
      entries = [];
      adds = inl (refl, refl);
      quiet = λ e other. quiet_nothing e;
      fits = λ log told f. subst (λ (l : List Entry). DeviceFits l d (device_of x end)) (sym (append-nil log)) f;
      told = λ told. told;
    }
