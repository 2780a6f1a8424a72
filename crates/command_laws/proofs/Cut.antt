-- The bytes of the sentences of fixes are cut into these sentences, whatever their stamps; and what the device reports of them.
use Rattle.std.proofs.Common.{◌≡◌, ℕ, ◌≤◌, cond, List, [], ◌∷◌, ◌++◌, length, take, map, refl, sym, ap, ◌∙◌, subst, append_assoc, arith}
use Rattle.std.specs.Prelude.{pos}
use Rattle.std.specs.List.{AllByRecursion, filter, flat_map}
use Rattle.std.proofs.lemmas.List.{take_all}
use Rattle.std.proofs.lemmas.List.Elements.{filter-append}
use Rattle.gps_fixed.specs.Moment.{Moment}
use Rattle.gps_report.specs.declared.edge.Symbol.{Symbol}
use Rattle.gps_report.specs.declared.fix.Fix.{Fix}
use Rattle.gps_report.specs.declared.note.Note.{Note}
use Rattle.gps_report.specs.declared.packet.Packet.{Packet as PacketRecord}
use Rattle.gps_report.specs.declared.packet.PacketKind.{PacketKind}
use Rattle.gps_report.specs.declared.packet.PacketKind.TheVariants.{Nmea}
use Rattle.gps_report.specs.declared.policy.Form.TheVariants.{Json}
use Rattle.gps_report.specs.declared.report.Body.{Body}
use Rattle.gps_report.specs.declared.report.Body.TheVariants as body
use Rattle.nmea_frame.specs.Sentence.{IsSentence}
use Rattle.nmea_frame.specs.Scan.{shape_of as sentence_shape}
use Rattle.nmea_frame.proofs.Theorem.{whole_exact}
use Rattle.ubx_frame.specs.Scan.{shape_of as frame_shape}
use Rattle.packet_cut.specs.declared.head.Head.TheVariants as head
use Rattle.packet_cut.specs.Heads.{first_of, head_of}
use Rattle.packet_cut.specs.Packets.{bytes_of, packets_of}
use Rattle.epoch_core.specs.declared.heard.Heard.{Heard}
use Rattle.epoch_core.specs.Epochs.{closed, closings, epochs_of, is_no_toff, left, reports}
use Rattle.epoch_core.proofs.EpochLaws.{reports_are_closings}
use Rattle.device_core.specs.Reports.{device_close, device_reports}
use Rattle.device_core.specs.Stream.{bytes_in, heard, note_in, notes_in, notes_of, packets_in}
use Rattle.json_line.specs.Lines.{text}
use Rattle.pseudo_nmea.specs.Sentences.{gga_body, pseudo, rmc_body, sentence}
use Rattle.pseudo_nmea.proofs.OneEpoch.{heard as noted}
use Rattle.pseudo_nmea.proofs.Spoken.{gga_note, gga_says, rmc_note, rmc_says}
use Rattle.pseudo_nmea.proofs.Whole.{gga_is_sentence, rmc_is_sentence}
use Rattle.upstream_laws.specs.Alike.{is_shown, shown}
use Rattle.upstream_laws.specs.Joined.{AreWhole, HasAll, IsWhole, joined, plain}
use Rattle.upstream_laws.proofs.Cutting.{cut_back}
use Rattle.upstream_laws.proofs.Streams.{shown_reports}
use Rattle.command_laws.specs.Fixes.{AreApart, AreSayable, IsSayable, lines_of, lines_shown, sentences_of, spoken_fix}
use Rattle.command_laws.proofs.Notes.{Sent, all_given, fixes_of, notes_sent}

-- a sentence as a packet
abbrev packet : Moment → List ℕ → PacketRecord
packet at bytes = record { kind = Nmea; at = at; bytes = bytes }

sentence_whole : (at : Moment) (bytes : List ℕ) → IsSentence bytes → IsWhole (packet at bytes)
unfolding head_of
sentence_whole at bytes is =
    let all : IsSentence (take (length bytes) bytes) = subst IsSentence (sym (take_all (length bytes) bytes (omega arith))) is in
    ap (λ x. first_of x (frame_shape bytes)) ((whole_exact bytes (sentence_shape bytes) refl (length bytes)).1 (omega arith, all))

abbrev no_moment : Moment
no_moment = record { sec = pos 0; nsec = 0 }

abbrev packets_sent : List Fix → List PacketRecord
packets_sent [] = []
packets_sent (fix ∷ more) = packet no_moment (sentence (rmc_body fix)) ∷ packet no_moment (sentence (gga_body fix)) ∷ packets_sent more

all_whole : (fixes : List Fix) → AreWhole (packets_sent fixes)
all_whole [] = tt
all_whole (fix ∷ more) =
    (sentence_whole no_moment (sentence (rmc_body fix)) (rmc_is_sentence fix), (sentence_whole no_moment (sentence (gga_body fix)) (gga_is_sentence fix), all_whole more))

joined_are : (fixes : List Fix) → joined (packets_sent fixes) ≡ sentences_of fixes
unfolding pseudo
joined_are [] = refl
joined_are (fix ∷ more) =
    let rmc : List ℕ = sentence (rmc_body fix) in
    let gga : List ℕ = sentence (gga_body fix) in
    ap (λ (l : List ℕ). rmc ++ (gga ++ l)) (joined_are more) ∙ sym (append_assoc rmc gga (sentences_of more))

-- packets that are these but for their stamps have the notes of these fixes
record AreSent (fixes : List Fix) (notes : List Heard) : Type 0 where
  sent : List Sent
  fixes_are : fixes_of sent ≡ fixes
  notes_are : notes ≡ notes_sent sent

heard_as : (p : PacketRecord) (bytes : List ℕ) → plain p ≡ (Nmea, bytes) → heard p ≡ noted (note_in Nmea bytes) p.at
heard_as p bytes e = ap (λ (x : PacketKind × List ℕ). noted (note_in x.0 x.1) p.at) e

sent_are : (fixes : List Fix) → AreSayable fixes → (packets : List PacketRecord) → map plain packets ≡ map plain (packets_sent fixes) → AreSent fixes (notes_of packets)
sent_are [] all [] e = record { sent = []; fixes_are = refl; notes_are = refl }
sent_are [] all (p ∷ packets) e = cc
sent_are (fix ∷ fixes) all [] e = cc
sent_are (fix ∷ fixes) all (p ∷ []) e = cc
sent_are (fix ∷ fixes) all (p ∷ q ∷ packets) e =
    let is = all.0 in
    let first : plain p ≡ (Nmea, sentence (rmc_body fix)) = cc in
    let second : plain q ≡ (Nmea, sentence (gga_body fix)) = cc in
    let others : map plain packets ≡ map plain (packets_sent fixes) = cc in
    let rest = sent_are fixes all.1 packets others in
    let one : heard p ≡ noted (rmc_note fix) p.at = heard_as p (sentence (rmc_body fix)) first ∙ ap (λ (n : Note). noted n p.at) (rmc_says fix is.fits is.stamp) in
    let two : heard q ≡ noted (gga_note fix) q.at = heard_as q (sentence (gga_body fix)) second ∙ ap (λ (n : Note). noted n q.at) (gga_says fix is.fits is.stamp) in
    record {
      sent = record { fix = fix; one = p.at; two = q.at } ∷ rest.sent;
      fixes_are = ap (λ (l : List Fix). fix ∷ l) rest.fixes_are;
      notes_are = λ i. one i ∷ two i ∷ rest.notes_are i;
    }

-- only fixes are shown of fixes
all_shown : (fixes : List Fix) → shown (map spoken_fix fixes) ≡ map spoken_fix fixes
all_shown [] = refl
all_shown (fix ∷ fixes) = ap (λ (l : List Body). spoken_fix fix ∷ l) (all_shown fixes)

-- what is shown is no serial time
passes : (x : Body) (xs : List Body) → shown (filter is_no_toff (x ∷ xs)) ≡ shown (x ∷ filter is_no_toff xs)
passes (body.Packet p) xs = refl
passes (body.Tpv f) xs = refl
passes (body.Sky s) xs = refl
passes (body.Toff p) xs = refl
passes (body.Pps p) xs = refl
passes (body.Device a) xs = refl

shown_no_toff : (xs : List Body) → shown xs ≡ shown (filter is_no_toff xs)
shown_no_toff [] = refl
shown_no_toff (x ∷ xs) = ap (λ t. cond (is_shown x) (x ∷ t) t) (shown_no_toff xs) ∙ sym (passes x xs)

shown_of : (stream : List Symbol) → shown (device_reports stream ++ device_close stream) ≡ shown (closings (closed (epochs_of (notes_in stream))) ++ left (notes_in stream))
shown_of stream =
    filter-append is_shown (device_reports stream) (device_close stream)
    ∙ ap (λ (l : List Body). l ++ shown (device_close stream)) (shown_reports stream ∙ shown_no_toff (reports (notes_in stream)) ∙ ap shown (reports_are_closings (notes_in stream)))
    ∙ sym (filter-append is_shown (closings (closed (epochs_of (notes_in stream)))) (left (notes_in stream)))

pub given_back : (fixes : List Fix) (stream : List Symbol) → AreSayable fixes → AreApart fixes → bytes_of (bytes_in stream) ≡ sentences_of fixes
    → shown (device_reports stream ++ device_close stream) ≡ map spoken_fix fixes
given_back fixes stream all apart bytes =
    let cut = cut_back (packets_sent fixes) (all_whole fixes) (bytes_in stream) (bytes ∙ sym (joined_are fixes)) in
    let are = sent_are fixes all (packets_in stream) cut.packets_are in
    let all' : AreSayable (fixes_of are.sent) = subst AreSayable (sym are.fixes_are) all in
    let apart' : AreApart (fixes_of are.sent) = subst AreApart (sym are.fixes_are) apart in
    shown_of stream
    ∙ ap (λ (notes : List Heard). shown (closings (closed (epochs_of notes)) ++ left notes)) are.notes_are
    ∙ ap shown (all_given are.sent all' apart')
    ∙ ap (λ (l : List Fix). shown (map spoken_fix l)) are.fixes_are
    ∙ all_shown fixes

lines_are : (name : List ℕ) (fixes : List Fix) → flat_map (text Json name) (map spoken_fix fixes) ≡ lines_of name fixes
lines_are name [] = refl
lines_are name (fix ∷ fixes) = ap (λ (l : List ℕ). text Json name (spoken_fix fix) ++ l) (lines_are name fixes)

pub lines_back : (name : List ℕ) (fixes : List Fix) (stream : List Symbol) → AreSayable fixes → AreApart fixes → bytes_of (bytes_in stream) ≡ sentences_of fixes
    → lines_shown name (device_reports stream ++ device_close stream) ≡ lines_of name fixes
lines_back name fixes stream all apart bytes = ap (flat_map (text Json name)) (given_back fixes stream all apart bytes) ∙ lines_are name fixes
