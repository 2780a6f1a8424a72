-- What is due to a client by all that the lanes are about is due by the less that the plan's places tell.
use Rattle.std.proofs.Common.{◌≡◌, ℕ, suc, ◌+◌, List, [], ◌∷◌, ◌++◌, map, length, Option, Some, None, option_map, refl, sym, ◌∙◌, ap, subst, Result}
use Rattle.std.specs.Prelude.{IfSome}
use Rattle.std.specs.List.{AllZip, range_with_len}
use Rattle.book_log.specs.Entries.{Entry, IsLog}
use Rattle.gps_command.specs.Requests.{requests}
use Rattle.gps_lane.specs.Ends.{Taking}
use Rattle.gps_outside.specs.Told.{Stream}
use Rattle.gps_report.specs.declared.edge.Edge.{Edge}
use Rattle.gps_world.specs.Opening.{IsAllLeft}
use Rattle.gps_world.specs.declared.place.Place.{Place}
use Rattle.hub_promise.specs.Parts.{InletsView, LaneNames, device_held, devices_held, edges_in_source, names_of}
use Rattle.serve_end.specs.Runs.{SourceFacts}
use Rattle.gps_lane.specs.Held.{of_source}
use Rattle.gps_lane.specs.declared.piece.Piece.{Piece}
use Rattle.serve_workers.specs.Sourced.{held_in}
use Rattle.serve_workers.specs.Writing.{AllowsClients}
use Rattle.session_core.specs.declared.subject.DeviceHeld.{DeviceHeld}
use Rattle.session_core.specs.declared.subject.Subject.{Subject}
use Rattle.session_runs.specs.Asking.{Asked}
use Rattle.session_runs.specs.Due.{IsDue, IsReadFrom, MayWrite}
use Rattle.session_runs.specs.Runs.{items_over}
use Rattle.gps_world.specs.OpenInOrder.{IsEdgeHeld, IsHeld}
use Rattle.gps_serve.specs.declared.starts.DeviceStart.{DeviceStart}
use Rattle.gps_serve.specs.declared.starts.EdgeStart.{EdgeStart}
use Rattle.gps_serve.specs.Starts.{IsFreshDevice, IsFreshEdge, edge_source_of, edges_at, sources_at}
use Rattle.gps_serve.specs.Told.{device_told, devices_told}

-- what is told of the one device is so of the other
pub record TellsLess (less more : DeviceHeld) : Type 0 where
  pub name : less.name ≡ more.name
  pub bytes : IfSome less.bytes (λ (held : List ℕ). more.bytes ≡ Some held)
  pub edges : IfSome less.edges (λ (held : List Edge). more.edges ≡ Some held)

-- ---- less is told of what is due

less_of : {X : Type 0} (P : List X → Type 0) (less more : Option (List X)) → IfSome less (λ (held : List X). more ≡ Some held) → IfSome more P → IfSome less P
less_of {X = X} P None more tells of = tt
less_of {X = X} P (Some held) more tells of = subst (λ (o : Option (List X)). IfSome o P) tells of

read_less : (log : List Entry) (k : ℕ) (less more : List DeviceHeld) → AllZip TellsLess less more
    → AllZip (IsReadFrom log) (range_with_len k (length more)) more → AllZip (IsReadFrom log) (range_with_len k (length less)) less
read_less log k [] [] tells read = read
read_less log k [] (y ∷ more) tells read = absurd tells
read_less log k (x ∷ less) [] tells read = absurd tells
read_less log k (x ∷ less) (y ∷ more) tells read = (
  record { bytes = less_of _ x.bytes y.bytes tells.0.bytes read.0.bytes; edges = less_of _ x.edges y.edges tells.0.edges read.0.edges },
  read_less log (k + 1) less more tells.1 read.1,
)

same_names : (less more : List DeviceHeld) → AllZip TellsLess less more → map (λ (d : DeviceHeld). d.name) more ≡ map (λ (d : DeviceHeld). d.name) less
same_names [] [] tells = refl
same_names [] (y ∷ more) tells = absurd tells
same_names (x ∷ less) [] tells = absurd tells
same_names (x ∷ less) (y ∷ more) tells = let rest = same_names less more tells.1 in λ i. sym tells.0.name i ∷ rest i

same_count : (less more : List DeviceHeld) → AllZip TellsLess less more → length more ≡ length less
same_count [] [] tells = refl
same_count [] (y ∷ more) tells = absurd tells
same_count (x ∷ less) [] tells = absurd tells
same_count (x ∷ less) (y ∷ more) tells = ap suc (same_count less more tells.1)

due_less : (source : Option (List ℕ)) (less more : List DeviceHeld) (items : List (List ℕ)) → AllZip TellsLess less more
    → IsDue (record { source = source; devices = more }) items → IsDue (record { source = source; devices = less }) items
due_less source less more items tells due =
    let names = same_names less more tells in
    record {
      log = due.log;
      run = due.run;
      heard = due.heard;
      read = record {
        is_log = subst (λ (n : ℕ). IsLog n due.log) (same_count less more tells) due.read.is_log;
        each = read_less due.log 0 less more tells due.read.each;
      };
      sent = due.sent;
      asked = subst (λ (n : List (List ℕ)). Asked n due.log due.run.stretches (requests due.heard)) names due.asked;
      all = due.all ∙ ap (λ (n : List (List ℕ)). items_over n due.log due.run) names;
    }

write_less : (source : Option (List ℕ)) (less more : List DeviceHeld) (written : Option (List ℕ)) (piece : List ℕ) → AllZip TellsLess less more
    → MayWrite (record { source = source; devices = more }) written piece → MayWrite (record { source = source; devices = less }) written piece
write_less source less more None piece tells may = tt
write_less source less more (Some before) piece tells may = (may.0, due_less source less more may.0 tells may.1, may.2)

pub allows_more : {K : Type 0} (asks written : K → Option (List ℕ)) (allows : K → List ℕ → Type 0) (less more : List DeviceHeld) → AllZip TellsLess less more
    → AllowsClients asks written allows less → AllowsClients asks written allows more
allows_more asks written allows less more tells all = λ sink piece may. all sink piece (write_less (asks sink) less more (written sink) piece tells may)

-- ---- less is told by the places of a plan

left_told : (told : Option (List ℕ)) (content : Option Stream) → IsAllLeft told content → IfSome told (λ (held : List ℕ). held_in content ≡ Some held)
left_told None content left = tt
left_told (Some held) content left = ap held_in left

of_lane : (told held : Option (List ℕ)) (lane : Subject) → lane ≡ of_source held → IfSome told (λ (b : List ℕ). held ≡ Some b) → IfSome told (λ (b : List ℕ). lane.source ≡ Some b)
of_lane None held lane is tells = tt
of_lane (Some b) held lane is tells = ap (λ (s : Subject). s.source) is ∙ tells

edges_less : (told held : Option (List ℕ)) → IfSome told (λ (b : List ℕ). held ≡ Some b)
    → IfSome (edges_in_source (Some told)) (λ (e : List Edge). edges_in_source (Some held) ≡ Some e)
edges_less None held tells = tt
edges_less (Some b) held tells = ap (λ (o : Option (List ℕ)). edges_in_source (Some o)) tells

module _ {S R : Type 0} (facts : SourceFacts S) (behind : Place → Option (List ℕ)) where
  edge_less : (place : Option Place) (start : Option (EdgeStart S R)) (rx : Option (Taking Piece)) → IsEdgeHeld behind facts.content place (edge_source_of start) → IsFreshEdge facts start rx
      → IfSome (edges_in_source (option_map behind place)) (λ (e : List Edge). edges_in_source (option_map (λ (y : Taking Piece). y.about.source) rx) ≡ Some e)
  edge_less None None None held fresh = refl
  edge_less None None (Some lane) held fresh = absurd fresh
  edge_less None (Some start) rx held fresh = absurd held
  edge_less (Some place) None rx held fresh = absurd held
  edge_less (Some place) (Some start) None held fresh = absurd fresh
  edge_less (Some place) (Some start) (Some lane) held fresh =
      edges_less (behind place) lane.about.source
      (of_lane (behind place) (held_in (facts.content start.source)) lane.about fresh.0.same (left_told (behind place) (facts.content start.source) held))

  device_less : (name : List ℕ) (place : Place) (edge : Option Place) (start : DeviceStart S R) (x : InletsView)
      → IsHeld behind facts.content place start.source → IsEdgeHeld behind facts.content edge (edge_source_of start.edges) → IsFreshDevice facts start x
      → TellsLess (device_told behind name place edge) (device_held name (names_of x))
  device_less name place edge start x held edge_held fresh = record {
    name = refl;
    bytes = of_lane (behind place) (held_in (facts.content start.source)) x.bytes.about fresh.bytes.same (left_told (behind place) (facts.content start.source) held);
    edges = edge_less edge start.edges x.edges edge_held fresh.edges;
  }

  less_at : (names : List (List ℕ)) (places : List Place) (edges : List (Option Place)) (starts : List (DeviceStart S R)) (inlets : List InletsView)
      → AllZip (IsHeld behind facts.content) places (sources_at starts) → AllZip (IsEdgeHeld behind facts.content) edges (edges_at starts)
      → AllZip (IsFreshDevice facts) starts inlets
      → AllZip TellsLess (devices_told behind names places edges) (devices_held names (map names_of inlets))
  less_at [] places edges starts inlets held edges_are fresh = tt
  less_at (name ∷ names) [] edges [] [] held edges_are fresh = tt
  less_at (name ∷ names) [] edges [] (x ∷ inlets) held edges_are fresh = absurd fresh
  less_at (name ∷ names) [] edges (start ∷ starts) inlets held edges_are fresh = absurd held
  less_at (name ∷ names) (place ∷ places) edges [] inlets held edges_are fresh = absurd held
  less_at (name ∷ names) (place ∷ places) [] (start ∷ starts) inlets held edges_are fresh = absurd edges_are
  less_at (name ∷ names) (place ∷ places) (edge ∷ edges) (start ∷ starts) [] held edges_are fresh = absurd fresh
  less_at (name ∷ names) (place ∷ places) (edge ∷ edges) (start ∷ starts) (x ∷ inlets) held edges_are fresh =
      (device_less name place edge start x held.0 edges_are.0 fresh.0, less_at names places edges starts inlets held.1 edges_are.1 fresh.1)

  -- by the sources that were opened
  pub devices_less : (names : List (List ℕ)) (places : List Place) (edges : List (Option Place)) (sources : List S) (edge_sources : List (Option S))
      (starts : List (DeviceStart S R)) (inlets : List InletsView) → sources_at starts ≡ sources → edges_at starts ≡ edge_sources
      → AllZip (IsHeld behind facts.content) places sources → AllZip (IsEdgeHeld behind facts.content) edges edge_sources → AllZip (IsFreshDevice facts) starts inlets
      → AllZip TellsLess (devices_told behind names places edges) (devices_held names (map names_of inlets))
  devices_less names places edges sources edge_sources starts inlets are edges_are held edges_held fresh =
      less_at names places edges starts inlets
      (subst (AllZip (IsHeld behind facts.content) places) (sym are) held)
      (subst (AllZip (IsEdgeHeld behind facts.content) edges) (sym edges_are) edges_held) fresh
