-- A device: what one call makes of what it keeps.
use Rattle.std.proofs.Common.{◌≡◌, ℕ, refl, sym, ap, ◌∙◌, subst, List, [], ◌∷◌, ◌++◌, append-nil, Option, Some, None, true, false, option_map, option_to_list}
use Rattle.gps_fixed.specs.Moment.{Moment}
use Rattle.gps_report.specs.declared.edge.Edge.{Edge}
use Rattle.gps_report.specs.declared.edge.Symbol.{Symbol}
use Rattle.gps_report.specs.declared.edge.Symbol.TheVariants.{Edge as EdgeSymbol}
use Rattle.gps_report.specs.declared.fix.Pair.{Pair}
use Rattle.gps_report.specs.declared.packet.Packet.{Packet}
use Rattle.gps_report.specs.declared.report.Body.{Body}
use Rattle.gps_report.specs.declared.report.Body.TheVariants.{Pps}
use Rattle.packet_cut.specs.Packets.{Stamped, parts_from, stamped, packets_of, rest_of}
use Rattle.packet_cut.specs.Standing.{StandsFor as BytesStand, IsCut, Shift, applied}
use Rattle.packet_cut.proofs.StreamLaws.{rest_gain}
use Rattle.epoch_core.specs.Epochs.{epochs, reports}
use Rattle.epoch_core.specs.Days.{dated}
use Rattle.epoch_core.specs.Kept.{EpochsKept, StandsFor as NotesStand}
use Rattle.pps_edges.specs.Pulse.{StandsFor as EdgesStand, pps_of}
use Rattle.device_core.specs.Stream.{bytes_in, edges_in, piece, packets_in, notes_of}
use Rattle.device_core.specs.Reports.{last_toff, pulse_of, reports_from, Gains, device_reports}
use Rattle.device_core.specs.Standing.{DeviceView, DeviceKept, StandsFor}
use Rattle.device_core.specs.declared.draft.Draft.{Draft}
use Rattle.device_core.specs.Drafts.{FitsDraft, IsSound, back_of, bytes_now, edge_now, now_of, toff_now}
use Rattle.device_core.specs.Going.{TookAll}
use Rattle.device_core.proofs.Streams.{gains_piece, packets_after, stream_after, edges_after, bytes_join, edges_join, reports-append}

pub stands_new : (bytes : List Stamped) (kept : EpochsKept) (edge : Option Edge) → BytesStand bytes [] → NotesStand kept [] → EdgesStand edge []
    → StandsFor (record { bytes = bytes; epochs = kept; edge = edge; toff = None }) []
unfolding reports parts_from epochs dated
stands_new bytes kept edge b n e = record { bytes = b; notes = n; edges = e; toff = refl }

pub gains_fed : (kept : DeviceKept) (now : EpochsKept) (next : Option Pair) (at : Moment) (bytes : List ℕ) (packets : List Packet) (shift : Shift) (out : List Body)
    → IsCut kept.bytes at bytes packets shift → TookAll kept.epochs now kept.toff next packets out
    → (stream : List Symbol) → StandsFor kept stream → Gains stream (piece at bytes) out
gains_fed kept now next at bytes packets shift out cut took stream stands =
    gains_piece stream at bytes kept.bytes packets out stands.bytes cut.packets_are (took.told_all (packets_in stream) stands.notes)

pub stands_fed : (kept : DeviceKept) (now : EpochsKept) (next : Option Pair) (at : Moment) (bytes : List ℕ) (packets : List Packet) (shift : Shift) (out : List Body)
    → IsCut kept.bytes at bytes packets shift → TookAll kept.epochs now kept.toff next packets out
    → (stream : List Symbol) → StandsFor kept stream
    → StandsFor (record { bytes = applied shift kept.bytes; epochs = now; edge = kept.edge; toff = next }) (stream ++ piece at bytes)
stands_fed kept now next at bytes packets shift out cut took stream stands =
    let all = packets_after stream at bytes kept.bytes packets stands.bytes cut.packets_are in
    let B : List Stamped → Type 0 = λ t. BytesStand (applied shift kept.bytes) t in
    let N : List Packet → Type 0 = λ p. NotesStand now (notes_of p) in
    let E : List Edge → Type 0 = λ e. EdgesStand kept.edge e in
    record {
      bytes = subst B (stream_after stream at bytes)
          (cut.rest_is ∙ ap (λ k. rest_of (k ++ stamped at bytes)) stands.bytes ∙ sym (rest_gain (bytes_in stream) (stamped at bytes)));
      notes = subst N all (took.stands (packets_in stream) stands.notes);
      edges = subst E (edges_after stream at bytes) stands.edges;
      toff = took.toff_is (packets_in stream) stands.notes stands.toff ∙ ap (λ p. last_toff (reports (notes_of p))) all;
    }

-- an edge
edges_more : (stream : List Symbol) (edge : Edge) → edges_in stream ++ edge ∷ [] ≡ edges_in (stream ++ EdgeSymbol edge ∷ [])
edges_more stream edge = sym (edges_join stream (EdgeSymbol edge ∷ []))

bytes_same : (stream : List Symbol) (edge : Edge) → bytes_in stream ≡ bytes_in (stream ++ EdgeSymbol edge ∷ [])
bytes_same stream edge = sym (append-nil (bytes_in stream)) ∙ sym (bytes_join stream (EdgeSymbol edge ∷ []))

pub gains_edge : (kept : DeviceKept) (edge : Edge) (pulse : Option Pair) (out : List Body)
    → ((past : List Edge) → EdgesStand kept.edge past → pulse ≡ pps_of past kept.toff edge)
    → out ≡ option_to_list (option_map (λ pair. Pps pair) pulse)
    → (stream : List Symbol) → StandsFor kept stream → Gains stream (EdgeSymbol edge ∷ []) out
unfolding reports_from
gains_edge kept edge pulse out paired made stream stands =
    let told : out ≡ pulse_of stream edge =
    made ∙ ap (λ p. option_to_list (option_map (λ pair. Pps pair) p))
    (paired (edges_in stream) stands.edges ∙ ap (λ t. pps_of (edges_in stream) t edge) stands.toff) in
    reports-append [] stream (EdgeSymbol edge ∷ [])
    ∙ ap (λ r. device_reports stream ++ r) (append-nil (pulse_of stream edge) ∙ sym told)

pub stands_edge : (kept : DeviceKept) (edge : Edge) (next : Option Edge)
    → ((past : List Edge) → EdgesStand kept.edge past → EdgesStand next (past ++ edge ∷ []))
    → (stream : List Symbol) → StandsFor kept stream
    → StandsFor (record { bytes = kept.bytes; epochs = kept.epochs; edge = next; toff = kept.toff }) (stream ++ EdgeSymbol edge ∷ [])
stands_edge kept edge next goes stream stands =
    let B : List Stamped → Type 0 = λ t. BytesStand kept.bytes t in
    let N : List Stamped → Type 0 = λ t. NotesStand kept.epochs (notes_of (packets_of t)) in
    let E : List Edge → Type 0 = λ e. EdgesStand next e in
    record {
      bytes = subst B (bytes_same stream edge) stands.bytes;
      notes = subst N (bytes_same stream edge) stands.notes;
      edges = subst E (edges_more stream edge) (goes (edges_in stream) stands.edges);
      toff = stands.toff ∙ ap (λ t. last_toff (reports (notes_of (packets_of t)))) (bytes_same stream edge);
    }

-- without an open draft, what is kept is what the fields hold
pub committed_is : (draft : Option Draft) (bytes : List Stamped) (epochs : EpochsKept) (back : Option EpochsKept) (edge : Option Edge) (toff : Option Pair) (held : DeviceView) (before : DeviceKept)
    → IsSound draft bytes back toff
    → record { now = now_of draft bytes epochs edge toff; back = back_of draft bytes back edge toff } ≡ held → held ≡ record { now = before; back = None }
    → before ≡ record { bytes = bytes; epochs = epochs; edge = edge; toff = toff }
committed_is None bytes epochs back edge toff held before sound is committed = sym (ap (λ h. h.now) (is ∙ committed))
committed_is (Some draft) bytes epochs None edge toff held before sound is committed = absurd (let h : false ≡ true = sound.0.0 in cc)
committed_is (Some draft) bytes epochs (Some back) edge toff held before sound is committed =
    absurd (let h : Some (record { bytes = bytes; epochs = back; edge = edge; toff = toff }) ≡ None = ap (λ h. h.back) (is ∙ committed) in cc)

-- a device without an open draft, made of copies of its fields

pub copied : (draft : Option Draft) (bytes : List Stamped) (epochs : EpochsKept) (edge : Option Edge) (toff : Option Pair)
    → record { bytes = bytes_now draft bytes; epochs = epochs; edge = edge_now draft edge; toff = toff_now draft toff } ≡ now_of draft bytes epochs edge toff
copied None bytes epochs edge toff = refl
copied (Some draft) bytes epochs edge toff = refl

pub fits : (draft : Option Draft) (bytes : List Stamped) (back : Option EpochsKept) (toff : Option Pair) → IsSound draft bytes back toff → FitsDraft draft bytes
fits None bytes back toff sound = tt
fits (Some draft) bytes back toff sound = sound.0.1
