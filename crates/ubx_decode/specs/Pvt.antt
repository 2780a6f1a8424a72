-- The note of a NAV-PVT. u-blox interface description, UBX-NAV-PVT.
use Rattle.std.specs.Prelude.{ℕ, ◌==◌, not, cond, List, slice_index, Option, Some, None, ◌-ℤ◌, neg_ℤ}
use Rattle.std.specs.Option.{option_map}
use Rattle.gps_report.specs.declared.note.Note.{Note}
use Rattle.gps_report.specs.declared.note.NoteKind.TheVariants.{Pvt}
use Rattle.gps_report.specs.declared.note.Tag.TheVariants.{Itow}
use Rattle.gps_report.specs.Note.{empty_note}
use Rattle.gps_fixed.specs.Fields.{u2_at, u4_at, i4_at}
use Rattle.ubx_decode.specs.Motion.{mode_of, position_of, speed_of, track_of}
use Rattle.ubx_decode.specs.Time.{time_of}

-- a quantity of a fix, which mode 1 has not
abbrev pub in_fix : {X : Type 0} → ℕ → Option X → Option X
in_fix mode quantity = cond (mode == 1) None quantity

unfoldable pub pvt_note : List ℕ → Note
pvt_note payload =
    let mode = mode_of (slice_index payload 20) (slice_index payload 21) in
    let height = i4_at payload 32 in
    let height_msl = i4_at payload 36 in
    record (empty_note Pvt) {
      tag = Some (Itow (u4_at payload 0));
      tod = option_map (λ time. time.tod) (time_of payload);
      day = option_map (λ time. time.day) (time_of payload);
      status = Some (not (mode == 1));
      dim = Some mode;
      position = in_fix mode (position_of (i4_at payload 28) (i4_at payload 24));
      alt_hae = in_fix mode (Some height);
      alt_msl = in_fix mode (Some height_msl);
      geoid_sep = in_fix mode (Some (height -ℤ height_msl));
      track = in_fix mode (track_of (i4_at payload 64));
      speed = in_fix mode (speed_of (i4_at payload 60));
      climb = in_fix mode (Some (neg_ℤ (i4_at payload 56)));
      pdop = Some (u2_at payload 76);
    }
