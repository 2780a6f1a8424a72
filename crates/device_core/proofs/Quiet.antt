-- Packets taken one after another, making only what they cause.
use Rattle.std.proofs.Common.{◌≡◌, ℕ, refl, sym, ap, ◌∙◌, subst, Bool, true, false, cond, ◌&&◌, List, [], ◌∷◌, ◌++◌, append-nil, Option, Some, None, option_map, option_to_list, unwrap_or, map}
use Rattle.std.proofs.lemmas.Bool.{and_from}
use Rattle.std.proofs.lemmas.List.{map-append}
use Rattle.std.proofs.lemmas.List.Folds.{list_all-append}
use Rattle.std.proofs.lemmas.List.Elements.{filter-append}
use Rattle.std.specs.Option.{option_or}
use Rattle.std.specs.List.{list_all}
use Rattle.gps_fixed.specs.Moment.{Moment}
use Rattle.gps_report.specs.declared.edge.Symbol.{Symbol}
use Rattle.gps_report.specs.declared.fix.Pair.{Pair}
use Rattle.gps_report.specs.declared.note.Note.{Note}
use Rattle.gps_report.specs.declared.packet.Packet.{Packet}
use Rattle.gps_report.specs.declared.report.Body.{Body}
use Rattle.gps_report.specs.declared.report.Body.TheVariants.{Packet as PacketBody, Tpv, Sky as SkyBody, Toff, Pps, Device}
use Rattle.packet_cut.specs.declared.placed.Placed.{Placed}
use Rattle.packet_cut.specs.Packets.{placed_packet}
use Rattle.packet_cut.specs.Standing.{IsCut, Shift}
use Rattle.epoch_core.specs.declared.heard.Heard.{Heard}
use Rattle.epoch_core.specs.Days.{Dated}
use Rattle.epoch_core.specs.Quantities.{said}
use Rattle.epoch_core.specs.Fixes.{fix_of}
use Rattle.epoch_core.specs.Epochs.{reports, leaves_a_second, sky_of, closing, toffs, all_closed, all_told, epochs_of, has_ended, Gains as NotesGain}
use Rattle.epoch_core.specs.Kept.{EpochsKept, StandsFor as NotesStand}
use Rattle.device_core.specs.Stream.{note_in, notes_of, packets_in, piece}
use Rattle.device_core.specs.Reports.{last_toff, is_no_packet, without_packets, GainsWithoutPackets}
use Rattle.device_core.specs.Standing.{DeviceKept, StandsFor}
use Rattle.device_core.specs.Going.{TookOne, TookAll, TookOneQuietly, TookAllQuietly}
use Rattle.device_core.proofs.Taking.{heard_as, took_one, took_none, took_more}
use Rattle.device_core.proofs.Devices.{gains_fed}

-- ---- no report of an epoch is a packet

both_quiet : (xs ys : List Body) → list_all is_no_packet xs ≡ true → list_all is_no_packet ys ≡ true → list_all is_no_packet (xs ++ ys) ≡ true
both_quiet xs ys h k = list_all-append is_no_packet xs ys ∙ and_from (list_all is_no_packet xs) (list_all is_no_packet ys) h k

where_quiet : (b : Bool) (xs : List Body) → list_all is_no_packet xs ≡ true → list_all is_no_packet (cond b xs []) ≡ true
where_quiet true xs h = h
where_quiet false xs h = refl

closing_quiet : (epoch : List Dated) → list_all is_no_packet (closing epoch) ≡ true
unfolding closing
closing_quiet epoch =
    both_quiet (cond (said epoch).has_fix (Tpv (fix_of (said epoch)) ∷ []) []) (cond (said epoch).has_sky (SkyBody (sky_of epoch) ∷ []) [])
    (where_quiet (said epoch).has_fix (Tpv (fix_of (said epoch)) ∷ []) refl) (where_quiet (said epoch).has_sky (SkyBody (sky_of epoch) ∷ []) refl)

toff_quiet : (first stamped : Option Moment)
    → list_all is_no_packet (option_to_list (option_map (λ at. Toff (record { reference = at; host = unwrap_or first at })) stamped)) ≡ true
toff_quiet first None = refl
toff_quiet first (Some at) = refl

toffs_quiet : (epoch : List Dated) → list_all is_no_packet (toffs epoch) ≡ true
toffs_quiet epoch = toff_quiet (said epoch).first (said epoch).stamped

closed_quiet : (epochs : List (List Dated)) → list_all is_no_packet (all_closed epochs) ≡ true
closed_quiet [] = refl
closed_quiet (epoch ∷ earlier) =
    both_quiet (all_closed earlier ++ toffs epoch) (closing epoch)
    (both_quiet (all_closed earlier) (toffs epoch) (closed_quiet earlier) (toffs_quiet epoch)) (closing_quiet epoch)

told_quiet : (epochs : List (List Dated)) → list_all is_no_packet (all_told epochs) ≡ true
told_quiet [] = refl
told_quiet (epoch ∷ earlier) =
    both_quiet (all_closed earlier ++ toffs epoch) (cond (has_ended epoch) (closing epoch) [])
    (both_quiet (all_closed earlier) (toffs epoch) (closed_quiet earlier) (toffs_quiet epoch)) (where_quiet (has_ended epoch) (closing epoch) (closing_quiet epoch))

reports_quiet : (notes : List Heard) → list_all is_no_packet (reports notes) ≡ true
unfolding reports
reports_quiet notes = told_quiet (epochs_of notes)

second_part : (a b : Bool) → (a && b) ≡ true → b ≡ true
second_part true b e = e
second_part false b e = absurd (cc)

gain_quiet : (notes : List Heard) (heard : Heard) (caused : List Body) → NotesGain notes heard caused → list_all is_no_packet caused ≡ true
gain_quiet notes heard caused gains =
    second_part (list_all is_no_packet (reports notes)) (list_all is_no_packet caused)
    (sym (list_all-append is_no_packet (reports notes) caused) ∙ ap (list_all is_no_packet) (sym gains) ∙ reports_quiet (notes ++ heard ∷ []))

none_left_out : (bodies : List Body) → list_all is_no_packet bodies ≡ true → without_packets bodies ≡ bodies
none_left_out [] e = refl
none_left_out (PacketBody packet ∷ bodies) e = absurd (cc)
none_left_out (Tpv fix ∷ bodies) e = ap (λ t. Tpv fix ∷ t) (none_left_out bodies e)
none_left_out (SkyBody sky ∷ bodies) e = ap (λ t. SkyBody sky ∷ t) (none_left_out bodies e)
none_left_out (Toff pair ∷ bodies) e = ap (λ t. Toff pair ∷ t) (none_left_out bodies e)
none_left_out (Pps pair ∷ bodies) e = ap (λ t. Pps pair ∷ t) (none_left_out bodies e)
none_left_out (Device first ∷ bodies) e = ap (λ t. Device first ∷ t) (none_left_out bodies e)

-- ---- one packet, and all

pub took_one_quietly : (old now : EpochsKept) (toff next : Option Pair) (packet : Packet) (note : Note) (caused bodies more : List Body)
    → note ≡ note_in packet.kind packet.bytes
    → ((notes : List Heard) → NotesStand old notes → NotesGain notes (heard_as note packet.at) caused)
    → ((notes : List Heard) → NotesStand old notes → NotesStand now (notes ++ heard_as note packet.at ∷ []))
    → list_all leaves_a_second caused ≡ true
    → next ≡ option_or (last_toff caused) toff
    → more ≡ bodies ++ caused
    → TookOneQuietly old now toff next packet bodies more
took_one_quietly old now toff next packet note caused bodies more is gains stands low newest made = record {
  caused = caused;
  took = λ all. took_one old now toff next packet note caused all (all ++ PacketBody packet ∷ caused) is gains stands low newest refl;
  made = made;
  quiet = λ before s. none_left_out caused (gain_quiet (notes_of before) (heard_as note packet.at) caused (gains (notes_of before) s));
}

pub took_none_quietly : (old : EpochsKept) (toff : Option Pair) (bytes : List ℕ) (bodies : List Body) → bodies ≡ []
    → TookAllQuietly old old toff toff (map (placed_packet bytes) []) bodies
took_none_quietly old toff bytes bodies none = record {
  all = [];
  took = took_none old toff [] refl;
  quiet = λ before s. none;
  low = λ l. l;
}

more_quietly : (old now next : EpochsKept) (toff at_now at_next : Option Pair) (done : List Packet) (packet : Packet) (bodies more : List Body)
    → TookAllQuietly old now toff at_now done bodies → TookOneQuietly now next at_now at_next packet bodies more
    → TookAllQuietly old next toff at_next (done ++ packet ∷ []) more
more_quietly old now next toff at_now at_next done packet bodies more all one = record {
  all = all.all ++ PacketBody packet ∷ one.caused;
  took = took_more old now next toff at_now at_next done packet all.all (all.all ++ PacketBody packet ∷ one.caused) all.took (one.took all.all);
  quiet = λ before s.
      one.made ∙ ap (λ b. b ++ one.caused) (all.quiet before s)
      ∙ ap (λ c. without_packets all.all ++ c) (sym (one.quiet (before ++ done) (all.took.stands before s)))
      ∙ sym (filter-append is_no_packet all.all (PacketBody packet ∷ one.caused));
  low = λ l. (one.took all.all).low (all.low l);
}

pub took_more_quietly : (old now next : EpochsKept) (toff at_now at_next : Option Pair) (bytes : List ℕ) (done : List Placed) (placed : Placed) (bodies more : List Body)
    → TookAllQuietly old now toff at_now (map (placed_packet bytes) done) bodies → TookOneQuietly now next at_now at_next (placed_packet bytes placed) bodies more
    → TookAllQuietly old next toff at_next (map (placed_packet bytes) (done ++ placed ∷ [])) more
took_more_quietly old now next toff at_now at_next bytes done placed bodies more all one =
    let P : List Packet → Type 0 = λ packets. TookAllQuietly old next toff at_next packets more in
    subst P (sym (map-append (placed_packet bytes) done (placed ∷ [])))
    (more_quietly old now next toff at_now at_next (map (placed_packet bytes) done) (placed_packet bytes placed) bodies more all one)

pub gains_quietly : (kept : DeviceKept) (now : EpochsKept) (next : Option Pair) (at : Moment) (bytes : List ℕ) (packets : List Packet) (shift : Shift) (out : List Body)
    → IsCut kept.bytes at bytes packets shift → TookAllQuietly kept.epochs now kept.toff next packets out
    → (stream : List Symbol) → StandsFor kept stream → GainsWithoutPackets stream (piece at bytes) out
gains_quietly kept now next at bytes packets shift out cut took stream stands = (
  took.all,
  (gains_fed kept now next at bytes packets shift took.all cut took.took stream stands, took.quiet (packets_in stream) stands.notes),
)
