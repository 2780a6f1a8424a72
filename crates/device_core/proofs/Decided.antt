-- What later symbols add depends on what a device keeps alone, and on no stream that it stands for more than on another.
use Rattle.std.proofs.Common.{◌≡◌, refl, sym, ap, ◌∙◌, subst, cond, List, [], ◌∷◌, ◌++◌, append_assoc, append-nil, Some, None, option_map, option_to_list}
use Rattle.std.proofs.lemmas.List.{map-append}
use Rattle.std.specs.Option.{option_or}
use Rattle.gps_report.specs.declared.edge.Edge.{Edge}
use Rattle.gps_report.specs.declared.edge.Symbol.{Symbol}
use Rattle.gps_report.specs.declared.edge.Symbol.TheVariants.{Byte, Edge as EdgeSymbol}
use Rattle.gps_report.specs.declared.packet.Packet.{Packet}
use Rattle.gps_report.specs.declared.report.Body.{Body}
use Rattle.gps_report.specs.declared.report.Body.TheVariants.{Packet as PacketBody, Pps}
use Rattle.packet_cut.specs.Packets.{Stamped, packets_of, rest_of}
use Rattle.packet_cut.specs.Standing.{StandsFor as BytesStand}
use Rattle.packet_cut.proofs.StreamLaws.{rest_gain}
use Rattle.epoch_core.specs.declared.heard.Heard.{Heard}
use Rattle.epoch_core.specs.Epochs.{reports}
use Rattle.epoch_core.specs.Kept.{EpochsKept, StandsFor as NotesStand}
use Rattle.epoch_core.specs.Steps.{kept_after, kept_caused}
use Rattle.epoch_core.proofs.Told.{gained as note_gained, left_over}
use Rattle.pps_edges.specs.Pulse.{StandsFor as EdgesStand, is_assert, paired, pps_of}
use Rattle.pps_edges.proofs.Pasts.{goes_on}
use Rattle.device_core.specs.Stream.{bytes_in, heard, notes_of, notes_in, packets_in}
use Rattle.device_core.specs.Reports.{all_told, device_close, device_gain, device_reports, gained, last_toff, reports_from, told}
use Rattle.device_core.specs.Standing.{DeviceKept, StandsFor}
use Rattle.device_core.proofs.Streams.{beyond_is, byte_gains, edges_after, last_toff-append, packets_after, reports-append, stream_after}
use Rattle.device_core.proofs.Devices.{stands_edge}

abbrev all_out : EpochsKept → List Packet → List Body
all_out kept [] = []
all_out kept (packet ∷ more) = PacketBody packet ∷ kept_caused kept (heard packet) ++ all_out (kept_after kept (heard packet)) more

abbrev all_caused : EpochsKept → List Packet → List Body
all_caused kept [] = []
all_caused kept (packet ∷ more) = kept_caused kept (heard packet) ++ all_caused (kept_after kept (heard packet)) more

abbrev all_after : EpochsKept → List Packet → EpochsKept
all_after kept [] = kept
all_after kept (packet ∷ more) = all_after (kept_after kept (heard packet)) more

grows : (before : List Packet) (packet : Packet) → notes_of (before ++ packet ∷ []) ≡ notes_of before ++ heard packet ∷ []
grows before packet = map-append heard before (packet ∷ [])

reports_grow : (before : List Packet) (packet : Packet) (kept : EpochsKept) → NotesStand kept (notes_of before)
    → reports (notes_of (before ++ packet ∷ [])) ≡ reports (notes_of before) ++ kept_caused kept (heard packet)
reports_grow before packet kept s = ap reports (grows before packet) ∙ (note_gained kept (notes_of before) (heard packet) s).0

stands_on : (before : List Packet) (packet : Packet) (kept : EpochsKept) → NotesStand kept (notes_of before) → NotesStand (kept_after kept (heard packet)) (notes_of (before ++ packet ∷ []))
stands_on before packet kept s =
    let P : List Heard → Type 0 = λ notes. NotesStand (kept_after kept (heard packet)) notes in
    subst P (sym (grows before packet)) ((note_gained kept (notes_of before) (heard packet) s).1)

told_is : (before : List Packet) (packet : Packet) (kept : EpochsKept) → NotesStand kept (notes_of before) → told before packet ≡ PacketBody packet ∷ kept_caused kept (heard packet)
told_is before packet kept s =
    ap (λ c. PacketBody packet ∷ c) (beyond_is (reports (notes_of before)) (kept_caused kept (heard packet)) (reports (notes_of (before ++ packet ∷ []))) (reports_grow before packet kept s))

all_told_is : (before packets : List Packet) (kept : EpochsKept) → NotesStand kept (notes_of before) → all_told before packets ≡ all_out kept packets
all_told_is before [] kept s = refl
all_told_is before (packet ∷ more) kept s =
    ap (λ t. t ++ all_told (before ++ packet ∷ []) more) (told_is before packet kept s)
    ∙ ap (λ t. (PacketBody packet ∷ kept_caused kept (heard packet)) ++ t) (all_told_is (before ++ packet ∷ []) more (kept_after kept (heard packet)) (stands_on before packet kept s))

all_stand : (before packets : List Packet) (kept : EpochsKept) → NotesStand kept (notes_of before) → NotesStand (all_after kept packets) (notes_of (before ++ packets))
all_stand before [] kept s = let P : List Packet → Type 0 = λ p. NotesStand kept (notes_of p) in subst P (sym (append-nil before)) s
all_stand before (packet ∷ more) kept s =
    let P : List Packet → Type 0 = λ p. NotesStand (all_after kept (packet ∷ more)) (notes_of p) in
    subst P (append_assoc before (packet ∷ []) more) (all_stand (before ++ packet ∷ []) more (kept_after kept (heard packet)) (stands_on before packet kept s))

all_reports : (before packets : List Packet) (kept : EpochsKept) → NotesStand kept (notes_of before) → reports (notes_of (before ++ packets)) ≡ reports (notes_of before) ++ all_caused kept packets
all_reports before [] kept s = ap (λ p. reports (notes_of p)) (append-nil before) ∙ sym (append-nil (reports (notes_of before)))
all_reports before (packet ∷ more) kept s =
    ap (λ p. reports (notes_of p)) (sym (append_assoc before (packet ∷ []) more))
    ∙ all_reports (before ++ packet ∷ []) more (kept_after kept (heard packet)) (stands_on before packet kept s)
    ∙ ap (λ r. r ++ all_caused (kept_after kept (heard packet)) more) (reports_grow before packet kept s)
    ∙ append_assoc (reports (notes_of before)) (kept_caused kept (heard packet)) (all_caused (kept_after kept (heard packet)) more)

-- one symbol
abbrev out_of : DeviceKept → Symbol → List Body
out_of kept (Byte at b) = all_out kept.epochs (packets_of (kept.bytes ++ (at, b) ∷ []))
out_of kept (EdgeSymbol edge) = option_to_list (option_map (λ pair. Pps pair) (cond (is_assert edge.kind) (paired edge kept.edge kept.toff) None))

abbrev after_of : DeviceKept → Symbol → DeviceKept
after_of kept (Byte at b) =
    let packets = packets_of (kept.bytes ++ (at, b) ∷ []) in
    record { bytes = rest_of (kept.bytes ++ (at, b) ∷ []); epochs = all_after kept.epochs packets; edge = kept.edge; toff = option_or (last_toff (all_caused kept.epochs packets)) kept.toff }
after_of kept (EdgeSymbol edge) =
    record { bytes = kept.bytes; epochs = kept.epochs; edge = cond (is_assert edge.kind) (Some edge) kept.edge; toff = kept.toff }

gained_is : (kept : DeviceKept) (s : List Symbol) (x : Symbol) → StandsFor kept s → gained s x ≡ out_of kept x
unfolding pps_of
gained_is kept s (Byte at b) stands =
    byte_gains s at b
    ∙ ap (λ k. all_told (packets_in s) (packets_of (k ++ (at, b) ∷ []))) (sym stands.bytes)
    ∙ all_told_is (packets_in s) (packets_of (kept.bytes ++ (at, b) ∷ [])) kept.epochs stands.notes
gained_is kept s (EdgeSymbol edge) stands =
    ap (λ o. option_to_list (option_map (λ pair. Pps pair) (cond (is_assert edge.kind) (paired edge o (last_toff (reports (notes_in s)))) None))) (sym stands.edges)
    ∙ ap (λ t. option_to_list (option_map (λ pair. Pps pair) (cond (is_assert edge.kind) (paired edge kept.edge t) None))) (sym stands.toff)

stands_byte : (kept : DeviceKept) (s : List Symbol) (x : Symbol) → StandsFor kept s → StandsFor (after_of kept x) (s ++ x ∷ [])
stands_byte kept s (Byte at b) stands =
    let packets = packets_of (kept.bytes ++ (at, b) ∷ []) in
    let all = packets_after s at (b ∷ []) kept.bytes packets stands.bytes refl in
    let B : List Stamped → Type 0 = λ t. BytesStand (rest_of (kept.bytes ++ (at, b) ∷ [])) t in
    let N : List Packet → Type 0 = λ p. NotesStand (all_after kept.epochs packets) (notes_of p) in
    let E : List Edge → Type 0 = λ e. EdgesStand kept.edge e in
    record {
      bytes = subst B (stream_after s at (b ∷ [])) (ap (λ k. rest_of (k ++ (at, b) ∷ [])) stands.bytes ∙ sym (rest_gain (bytes_in s) ((at, b) ∷ [])));
      notes = subst N all (all_stand (packets_in s) packets kept.epochs stands.notes);
      edges = subst E (edges_after s at (b ∷ [])) stands.edges;
      toff = ap (option_or (last_toff (all_caused kept.epochs packets))) stands.toff
          ∙ sym (last_toff-append (reports (notes_in s)) (all_caused kept.epochs packets))
          ∙ ap last_toff (sym (all_reports (packets_in s) packets kept.epochs stands.notes))
          ∙ ap (λ p. last_toff (reports (notes_of p))) all;
    }
stands_byte kept s (EdgeSymbol edge) stands =
    stands_edge kept edge (cond (is_assert edge.kind) (Some edge) kept.edge) (λ past e. ap (cond (is_assert edge.kind) (Some edge)) e ∙ sym (goes_on past edge)) s stands

reports_decided : (t : List Symbol) (kept : DeviceKept) (s r : List Symbol) → StandsFor kept s → StandsFor kept r → reports_from s t ≡ reports_from r t
unfolding reports_from
reports_decided [] kept s r one two = refl
reports_decided (x ∷ t) kept s r one two =
    ap (λ g. g ++ reports_from (s ++ x ∷ []) t) (gained_is kept s x one ∙ sym (gained_is kept r x two))
    ∙ ap (λ g. gained r x ++ g) (reports_decided t (after_of kept x) (s ++ x ∷ []) (r ++ x ∷ []) (stands_byte kept s x one) (stands_byte kept r x two))

gain_is : (s t : List Symbol) → device_gain s t ≡ reports_from s t
gain_is s t = beyond_is (device_reports s) (reports_from s t) (device_reports (s ++ t)) (reports-append [] s t)

pub gain_decided : (kept : DeviceKept) (s r t : List Symbol) → StandsFor kept s → StandsFor kept r → device_gain s t ≡ device_gain r t
gain_decided kept s r t one two = gain_is s t ∙ reports_decided t kept s r one two ∙ sym (gain_is r t)

pub close_decided : (t : List Symbol) (kept : DeviceKept) (s r : List Symbol) → StandsFor kept s → StandsFor kept r → device_close (s ++ t) ≡ device_close (r ++ t)
close_decided [] kept s r one two =
    ap device_close (append-nil s) ∙ sym (left_over kept.epochs (notes_in s) one.notes) ∙ left_over kept.epochs (notes_in r) two.notes ∙ ap device_close (sym (append-nil r))
close_decided (x ∷ t) kept s r one two =
    ap device_close (sym (append_assoc s (x ∷ []) t))
    ∙ close_decided t (after_of kept x) (s ++ x ∷ []) (r ++ x ∷ []) (stands_byte kept s x one) (stands_byte kept r x two)
    ∙ ap device_close (append_assoc r (x ∷ []) t)
