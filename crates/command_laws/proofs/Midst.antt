-- The fix of a NAV-PVT alone in its epoch does not depend on the notes before it: the note gives its day wherever it gives a time of day.
use Rattle.std.proofs.Common.{◌≡◌, ℕ, true, List, [], ◌∷◌, refl, sym, ap, ◌∙◌, subst, Option, Some, None, ℤ, unsigned_abs}
use Rattle.std.specs.Option.{option_map, option_or, option_flatten}
use Rattle.std.specs.List.{list_all}
use Rattle.gps_fixed.specs.Moment.{Moment}
use Rattle.gps_report.specs.declared.note.Note.{Note}
use Rattle.ubx_frame.specs.Frame.{is_byte}
use Rattle.ubx_decode.specs.declared.time.DayTime.{DayTime}
use Rattle.ubx_decode.specs.Pvt.{pvt_note}
use Rattle.ubx_decode.specs.Time.{time_of}
use Rattle.epoch_core.specs.declared.heard.Heard.{Heard}
use Rattle.epoch_core.specs.Days.{Dated, carried, dated, day_known, given_day, last_tod}
use Rattle.epoch_core.specs.Fixes.{fix_of, has_no_fix, mode_of}
use Rattle.epoch_core.specs.Quantities.{said, serial_time}
use Rattle.pseudo_nmea.specs.Fitting.{IsFitting, IsSayable}
use Rattle.pseudo_nmea.proofs.Frames.{frame_fits}
use Rattle.command_laws.specs.Composed.{alone_after}

abbrev told : Option ℕ → Option ℤ → Option ℕ → Option Moment
told tod day before = option_flatten (option_or (option_map (λ (x : ℕ). serial_time tod (option_or (option_map unsigned_abs day) before)) tod) None)

abbrev tod_in : Option DayTime → Option ℕ
tod_in t = option_map (λ (x : DayTime). x.tod) t

abbrev day_in : Option DayTime → Option ℤ
day_in t = option_map (λ (x : DayTime). x.day) t

told_same : (t : Option DayTime) (one two : Option ℕ) → told (tod_in t) (day_in t) one ≡ told (tod_in t) (day_in t) two
told_same None one two = refl
told_same (Some x) one two = refl

-- the epoch of a note, with the day before it
abbrev epoch_with : Note → Moment → Option ℕ → List Dated
epoch_with note first before = record { note = note; first = first; day = option_or (given_day note) before } ∷ []

same_time : (note : Note) (first : Moment) (t : Option DayTime) (one two : Option ℕ) → note.tod ≡ tod_in t → note.day ≡ day_in t
    → (said (epoch_with note first one)).time ≡ (said (epoch_with note first two)).time
unfolding said
same_time note first t one two tod day =
    let a : told note.tod note.day one ≡ told (tod_in t) (day_in t) one = λ i. told (tod i) (day i) one in
    let b : told note.tod note.day two ≡ told (tod_in t) (day_in t) two = λ i. told (tod i) (day i) two in
    a ∙ told_same t one two ∙ sym b

same_fix : (note : Note) (first : Moment) (one two : Option ℕ) → (said (epoch_with note first one)).time ≡ (said (epoch_with note first two)).time
    → fix_of (said (epoch_with note first one)) ≡ fix_of (said (epoch_with note first two))
unfolding fix_of mode_of has_no_fix said
same_fix note first one two e = ap (λ (time : Option Moment). fix_of (record (said (epoch_with note first two)) { time = time })) e

tod_is : (payload : List ℕ) → (pvt_note payload).tod ≡ tod_in (time_of payload)
unfolding pvt_note
tod_is payload = refl

day_is : (payload : List ℕ) → (pvt_note payload).day ≡ day_in (time_of payload)
unfolding pvt_note
day_is payload = refl

pub frames_fit : (past : List Heard) (payload : List ℕ) (first : Moment) → list_all is_byte payload ≡ true → IsSayable (pvt_note payload)
    → IsFitting (fix_of (said (alone_after past (pvt_note payload) first)))
unfolding dated day_known
frames_fit past payload first bytes may =
    let one : Option ℕ = carried (pvt_note payload).tod (last_tod []) (day_known []) in
    let two : Option ℕ = carried (pvt_note payload).tod (last_tod past) (day_known past) in
    let same : fix_of (said (epoch_with (pvt_note payload) first one)) ≡ fix_of (said (epoch_with (pvt_note payload) first two)) =
    same_fix (pvt_note payload) first one two (same_time (pvt_note payload) first (time_of payload) one two (tod_is payload) (day_is payload)) in
    subst IsFitting same (frame_fits payload first bytes may)
