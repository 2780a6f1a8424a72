-- What is so before anything came.
use Rattle.std.proofs.Common.{◌≡◌, ℕ, ◌<◌, ◌≤◌, ◌*◌, zero, suc, List, [], ◌∷◌, ◌++◌, length, take, get_or, slice_index_or, unwrap_or, Option, Some, None, refl, sym, ◌∙◌, ap, subst, append_assoc, arith}
use Rattle.std.proofs.lemmas.List.{append-nil, length-take, map-append}
use Rattle.std.specs.List.{All, AllZip}
use Rattle.gps_lane.specs.Ends.{Taking}
use Rattle.gps_lane.specs.declared.piece.Piece.{Piece}
use Rattle.book_units.specs.Units.{IsNew}
use Rattle.report_book.specs.BookView.{BookView}
use Rattle.report_book.specs.Moves.{IsNewBook}
use Rattle.hub_promise.specs.Given.{got_of}
use Rattle.hub_promise.specs.Keeping.{IsUnused, NothingGot}
use Rattle.hub_promise.specs.Parts.{InletsView}
use Rattle.hub_promise.proofs.Beginning.{unused as unused_new}
use Rattle.gps_outside.specs.Told.{Stream}
use Rattle.std.specs.Option.{option_to_list}
use Rattle.serve_workers.specs.Sourced.{held_in}
use Rattle.gps_world.specs.OpenInOrder.{AreUnread, sources_in}
use Rattle.serve_end.specs.Runs.{SourceFacts}
use Rattle.gps_serve.specs.declared.starts.DeviceStart.{DeviceStart}
use Rattle.gps_serve.specs.declared.starts.EdgeStart.{EdgeStart}
use Rattle.gps_serve.specs.Starts.{AreTold, EachTold, EdgesTold, IsFreshDevice, IsFreshEdge, edge_source_of, edges_at, sources_at}
use Rattle.session_core.specs.declared.subject.Subject.{Subject}

pub unused : {names : List (List ℕ)} {limit : ℕ} {firsts : List ℕ} {b : BookView} → IsNewBook names limit firsts b → IsUnused b
unused {names} {limit} {firsts} {b} new = unused_new names limit firsts b new

-- the same book, of whose sessions another number of requests is answered
pub still_unused : (b : BookView) (most : ℕ) → IsUnused b → IsUnused (record b { most_requests = most })
still_unused b most unused = record { opening = unused.opening; log = unused.log; sessions = unused.sessions; units = unused.units }

no_edge : {S R : Type 0} (facts : SourceFacts S) (start : Option (EdgeStart S R)) (rx : Option (Taking Piece)) → IsFreshEdge facts start rx → got_of rx ≡ []
no_edge facts None None fresh = refl
no_edge facts None (Some rx) fresh = absurd fresh
no_edge facts (Some start) None fresh = absurd fresh
no_edge facts (Some start) (Some rx) fresh = fresh.0.got

nothing : {S R : Type 0} (facts : SourceFacts S) (start : DeviceStart S R) (x : InletsView) → IsFreshDevice facts start x → NothingGot x
nothing facts start x fresh = (fresh.bytes.got, no_edge facts start.edges x.edges fresh.edges)

nothing_at : {S R : Type 0} (facts : SourceFacts S) (starts : List (DeviceStart S R)) (inlets : List InletsView) (k : ℕ) (d : InletsView) → AllZip (IsFreshDevice facts) starts inlets → k < length inlets
    → NothingGot (slice_index_or inlets k d)
nothing_at facts starts [] k d fresh there = absurd (omega arith)
nothing_at facts [] (x ∷ inlets) k d fresh there = absurd fresh
nothing_at facts (start ∷ starts) (x ∷ inlets) zero d fresh there = nothing facts start x fresh.0
nothing_at facts (start ∷ starts) (x ∷ inlets) (suc k) d fresh there = nothing_at facts starts inlets k d fresh.1 (omega arith)

pub nothing_got : {S R : Type 0} (facts : SourceFacts S) (starts : List (DeviceStart S R)) (inlets : List InletsView) → AllZip (IsFreshDevice facts) starts inlets → All NothingGot inlets
nothing_got {S} {R} facts starts inlets fresh k d there = nothing_at facts starts inlets k d fresh there

-- the lanes of fresh devices are about what their sources hold
edge_told : {S R : Type 0} (facts : SourceFacts S) (start : Option (EdgeStart S R)) (rx : Option (Taking Piece)) → IsFreshEdge facts start rx → EdgesTold facts.content start
edge_told facts None rx fresh edge is = absurd (cc is)
edge_told facts (Some start) None fresh edge is = absurd fresh
edge_told {S} {R} facts (Some start) (Some rx) fresh edge is =
    subst (λ (e : EdgeStart S R). e.lines.about.source ≡ held_in (facts.content e.source)) (ap (λ (o : Option (EdgeStart S R)). unwrap_or o start) is)
    (ap (λ (t : Subject). t.source) fresh.0.about_is)

told_at : {S R : Type 0} (facts : SourceFacts S) (starts : List (DeviceStart S R)) (inlets : List InletsView) (k : ℕ) (d : DeviceStart S R) → AllZip (IsFreshDevice facts) starts inlets
    → k < length starts → AreTold facts.content (slice_index_or starts k d)
told_at facts [] inlets k d fresh there = absurd (omega arith)
told_at facts (start ∷ starts) [] k d fresh there = absurd fresh
told_at facts (start ∷ starts) (x ∷ inlets) zero d fresh there = (ap (λ (t : Subject). t.source) fresh.0.bytes.about_is, edge_told facts start.edges x.edges fresh.0.edges)
told_at facts (start ∷ starts) (x ∷ inlets) (suc k) d fresh there = told_at facts starts inlets k d fresh.1 (omega arith)

pub each_told : {S R : Type 0} (facts : SourceFacts S) (starts : List (DeviceStart S R)) (inlets : List InletsView) → AllZip (IsFreshDevice facts) starts inlets → EachTold facts.content starts
each_told facts starts inlets fresh k d there = told_at facts starts inlets k d fresh there

zip_length : {A B : Type 0} (P : A → B → Type 0) (xs : List A) (ys : List B) → AllZip P xs ys → length ys ≡ length xs
zip_length P [] [] zip = refl
zip_length P [] (y ∷ ys) zip = absurd zip
zip_length P (x ∷ xs) [] zip = absurd zip
zip_length P (x ∷ xs) (y ∷ ys) zip = ap suc (zip_length P xs ys zip.1)

-- a book of at most eight devices has two units for each
pub two_each : {names : List (List ℕ)} {limit : ℕ} {firsts : List ℕ} {b : BookView} → IsNewBook names limit firsts b → length names ≤ 8 → length firsts ≡ 16
    → length b.units ≡ 2 * length names
two_each {names} {limit} {firsts} {b} new few sixteen =
    zip_length IsNew (take (2 * length names) firsts) b.units new.units ∙ omega (arith, length-take (2 * length names) firsts)

-- the sources of edges, one device after another
pub next_unread : {S : Type 0} (content : S → Option Stream) (faults quiets : S → ℕ) (source : Option S) (sources : List (Option S))
    → AreUnread content faults quiets (sources_in (source ∷ sources)) → AreUnread content faults quiets (option_to_list source)
next_unread content faults quiets None sources are = tt
next_unread content faults quiets (Some source) sources are = (are.0, tt)

pub rest_unread : {S : Type 0} (content : S → Option Stream) (faults quiets : S → ℕ) (source : Option S) (sources : List (Option S))
    → AreUnread content faults quiets (sources_in (source ∷ sources)) → AreUnread content faults quiets (sources_in sources)
rest_unread content faults quiets None sources are = are
rest_unread content faults quiets (Some source) sources are = are.1

-- the sources with which the devices begin, one after another
pub sources_more : {S R : Type 0} (starts starts' : List (DeviceStart S R)) (start : DeviceStart S R) (given now left : List S) (source : S)
    → sources_at starts ++ now ≡ given → now ≡ source ∷ left → start.source ≡ source → starts' ≡ starts ++ start ∷ [] → sources_at starts' ++ left ≡ given
sources_more {S} {R} starts starts' start given now left source so is same more =
    ap (λ l. sources_at l ++ left) more ∙ ap (λ l. l ++ left) (map-append (λ (x : DeviceStart S R). x.source) starts (start ∷ []))
    ∙ append_assoc (sources_at starts) (start.source ∷ []) left ∙ ap (λ s. sources_at starts ++ s ∷ left) same ∙ ap (λ l. sources_at starts ++ l) (sym is) ∙ so

pub edges_more : {S R : Type 0} (starts starts' : List (DeviceStart S R)) (start : DeviceStart S R) (given now left : List (Option S)) (source : Option S)
    → edges_at starts ++ now ≡ given → now ≡ source ∷ left → edge_source_of start.edges ≡ source → starts' ≡ starts ++ start ∷ [] → edges_at starts' ++ left ≡ given
edges_more {S} {R} starts starts' start given now left source so is same more =
    ap (λ l. edges_at l ++ left) more ∙ ap (λ l. l ++ left) (map-append (λ (x : DeviceStart S R). edge_source_of x.edges) starts (start ∷ []))
    ∙ append_assoc (edges_at starts) (edge_source_of start.edges ∷ []) left ∙ ap (λ s. edges_at starts ++ s ∷ left) same ∙ ap (λ l. edges_at starts ++ l) (sym is) ∙ so

pub none_behind : {X : Type 0} (front left all : List X) → front ++ left ≡ all → length left ≡ 0 → front ≡ all
none_behind front [] all so none = sym (append-nil front) ∙ so
none_behind front (x ∷ left) all so none = absurd cc
