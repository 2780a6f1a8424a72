-- Packets taken one after another.
use Rattle.std.proofs.Common.{◌≡◌, refl, sym, ap, ◌∙◌, subst, List, [], ◌∷◌, ◌++◌, append_assoc, append-nil, Option, true, length, ◌+◌, ◌≤◌, arith}
use Rattle.std.proofs.lemmas.List.{length-append, map-append}
use Rattle.std.specs.Option.{option_or}
use Rattle.std.specs.List.{list_all}
use Rattle.gps_fixed.specs.Moment.{Moment}
use Rattle.gps_report.specs.declared.fix.Pair.{Pair}
use Rattle.gps_report.specs.declared.note.Note.{Note}
use Rattle.gps_report.specs.declared.packet.Packet.{Packet}
use Rattle.gps_report.specs.declared.report.Body.{Body}
use Rattle.gps_report.specs.declared.report.Body.TheVariants.{Packet as PacketBody}
use Rattle.epoch_core.specs.declared.heard.Heard.{Heard}
use Rattle.epoch_core.specs.Epochs.{reports, leaves_a_second, Gains as NotesGain}
use Rattle.epoch_core.specs.Kept.{EpochsKept, StandsFor as NotesStand}
use Rattle.device_core.specs.Stream.{note_in, heard, notes_of}
use Rattle.device_core.specs.Reports.{told, all_told, last_toff}
use Rattle.device_core.specs.Going.{TookOne, TookAll}
use Rattle.device_core.proofs.Streams.{beyond_is, told-append, last_toff-append}
use Rattle.device_core.proofs.Toffs.{newer_low}

abbrev pub heard_as : Note → Moment → Heard
heard_as note at = record { note = note; first = at }

notes_grow : (before : List Packet) (packet : Packet) (note : Note) → note ≡ note_in packet.kind packet.bytes
    → notes_of (before ++ packet ∷ []) ≡ notes_of before ++ heard_as note packet.at ∷ []
notes_grow before packet note is =
    map-append heard before (packet ∷ []) ∙ ap (λ n. notes_of before ++ heard_as n packet.at ∷ []) (sym is)

-- what the epochs' own contract says of the note of a packet is what it takes for the packet to be taken
pub took_one : (old now : EpochsKept) (toff next : Option Pair) (packet : Packet) (note : Note) (caused bodies more : List Body)
    → note ≡ note_in packet.kind packet.bytes
    → ((notes : List Heard) → NotesStand old notes → NotesGain notes (heard_as note packet.at) caused)
    → ((notes : List Heard) → NotesStand old notes → NotesStand now (notes ++ heard_as note packet.at ∷ []))
    → list_all leaves_a_second caused ≡ true
    → next ≡ option_or (last_toff caused) toff
    → more ≡ bodies ++ PacketBody packet ∷ caused
    → TookOne old now toff next packet bodies more
took_one old now toff next packet note caused bodies more is gains stands low newest made = record {
  told_it = λ before s.
      made ∙ ap (λ c. bodies ++ PacketBody packet ∷ c)
      (sym (beyond_is (reports (notes_of before)) caused (reports (notes_of (before ++ packet ∷ []))) (ap reports (notes_grow before packet note is) ∙ gains (notes_of before) s)));
  stands = λ before s. let P : List Heard → Type 0 = λ notes. NotesStand now notes in subst P (sym (notes_grow before packet note is)) (stands (notes_of before) s);
  toff_is = λ before s e.
      newest ∙ ap (option_or (last_toff caused)) e ∙ sym (last_toff-append (reports (notes_of before)) caused)
      ∙ sym (ap last_toff (ap reports (notes_grow before packet note is) ∙ gains (notes_of before) s));
  low = λ before_low. newer_low caused toff next newest low before_low;
}

pub took_none : (old : EpochsKept) (toff : Option Pair) (bodies : List Body) → bodies ≡ [] → TookAll old old toff toff [] bodies
took_none old toff bodies none = record {
  told_all = λ before s. none;
  stands = λ before s. let P : List Packet → Type 0 = λ packets. NotesStand old (notes_of packets) in subst P (sym (append-nil before)) s;
  toff_is = λ before s e. e ∙ ap (λ packets. last_toff (reports (notes_of packets))) (sym (append-nil before));
  low = λ l. l;
}

pub took_more : (old now next : EpochsKept) (toff at_now at_next : Option Pair) (done : List Packet) (packet : Packet) (bodies more : List Body)
    → TookAll old now toff at_now done bodies → TookOne now next at_now at_next packet bodies more → TookAll old next toff at_next (done ++ packet ∷ []) more
took_more old now next toff at_now at_next done packet bodies more all one = record {
  told_all = λ before s.
      one.told_it (before ++ done) (all.stands before s)
      ∙ ap (λ b. b ++ told (before ++ done) packet) (all.told_all before s)
      ∙ ap (λ t. all_told before done ++ t) (sym (append-nil (told (before ++ done) packet)))
      ∙ sym (told-append before done (packet ∷ []));
  stands = λ before s.
      let P : List Packet → Type 0 = λ packets. NotesStand next (notes_of packets) in
      subst P (append_assoc before done (packet ∷ [])) (one.stands (before ++ done) (all.stands before s));
  toff_is = λ before s e.
      one.toff_is (before ++ done) (all.stands before s) (all.toff_is before s e)
      ∙ ap (λ packets. last_toff (reports (notes_of packets))) (append_assoc before done (packet ∷ []));
  low = λ l. one.low (all.low l);
}

-- a packet and at most five reports that it causes
pub few_more : (packet : Packet) (caused bodies more : List Body) → length caused ≤ 5 → more ≡ bodies ++ PacketBody packet ∷ caused → length more ≤ length bodies + 6
few_more packet caused bodies more few made = omega (arith, ap length made, length-append bodies (PacketBody packet ∷ caused))

-- if one of two lists is empty, the other is both
pub none_behind : (before more : List Body) → length more ≡ 0 → before ≡ before ++ more
none_behind before [] none = sym (append-nil before)
none_behind before (body ∷ more) none = absurd (omega (arith, none))

pub none_before : (before more : List Body) → length before ≡ 0 → more ≡ before ++ more
none_before [] more none = refl
none_before (body ∷ before) more none = absurd (omega (arith, none))
