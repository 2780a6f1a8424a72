-- The Fix of an epoch whose only note is that of a NAV-PVT fits two sentences.
use Rattle.std.proofs.Common.{◌≡◌, ◌≢◌, ◌⊎◌, ℕ, Bool, true, false, cond, not, ◌||◌, List, refl, sym, ap, ◌∙◌, subst, inl, inr, ⊎_elim, Option, Some, None, ℤ, pos, ◌-ℤ◌, unsigned_abs}
use Rattle.std.specs.Prelude.{nat_le, int_le, slice_index, IsSome, ◌==◌}
use Rattle.std.specs.Option.{option_map}
use Rattle.std.specs.List.{list_all}
use Rattle.gps_fixed.specs.Civil.{civil_of}
use Rattle.gps_fixed.specs.Fields.{i4_at}
use Rattle.gps_fixed.specs.Moment.{Moment}
use Rattle.gps_report.specs.declared.note.Note.{Note}
use Rattle.gps_report.specs.Fits.{where_given}
use Rattle.epoch_core.specs.declared.said.Said.{Said}
use Rattle.epoch_core.specs.Days.{dated}
use Rattle.epoch_core.specs.Quantities.{said}
use Rattle.epoch_core.specs.Fixes.{fix_of}
use Rattle.ubx_frame.specs.Frame.{is_byte}
use Rattle.ubx_decode.specs.declared.time.DayTime.{DayTime}
use Rattle.ubx_decode.specs.Fields.{is_set}
use Rattle.ubx_decode.specs.Motion.{mode_of, position_of, speed_of, track_of}
use Rattle.ubx_decode.specs.Pvt.{in_fix, pvt_note}
use Rattle.ubx_decode.specs.Time.{time_of}
use Rattle.pseudo_nmea.specs.Fields.{is_place, is_speed, is_course, is_height}
use Rattle.pseudo_nmea.specs.Fitting.{alone, is_dated, is_coarse, IsSayable, IsFitting}
use Rattle.pseudo_nmea.proofs.Alone.{or_none, alone_time, dated_time, time_in}
use Rattle.pseudo_nmea.proofs.Modes.{IsRanged, none_fits, flat_fits, deep_fits}
use Rattle.pseudo_nmea.proofs.Ranges.{four_bytes, height_fits, separation_fits, position_fits, speed_fits, track_fits}

-- what an epoch of one note says is what the note says
pub record SaysTheSame (s : Said) (note : Note) : Type 0 where
  pub status : s.status ≡ note.status
  pub dim : s.dim ≡ note.dim
  pub position : s.position ≡ note.position
  pub alt_msl : s.alt_msl ≡ note.alt_msl
  pub geoid_sep : s.geoid_sep ≡ note.geoid_sep
  pub track : s.track ≡ note.track
  pub speed : s.speed ≡ note.speed

says : (note : Note) (first : Moment) → SaysTheSame (said (alone note first)) note
unfolding said dated
says note first = record {
  status = or_none note.status;
  dim = or_none note.dim;
  position = or_none note.position;
  alt_msl = or_none note.alt_msl;
  geoid_sep = or_none note.geoid_sep;
  track = or_none note.track;
  speed = or_none note.speed;
}

-- a quantity of a fix, if the mode is one or another
in_range : {X : Type 0} → (test : X → Bool) (mode : ℕ) (o : Option X) → where_given test o ≡ true → where_given test (in_fix mode o) ≡ true
in_range {X} test mode o h = by_mode (mode == 1)
  where
    by_mode : (b : Bool) → where_given test (cond b None o) ≡ true
    by_mode true = refl
    by_mode false = h

abbrev picked : Bool → Bool → Bool → ℕ
picked a b c = cond a (cond b 2 (cond c 3 1)) 1

one_of : (a b c : Bool) → (picked a b c ≡ 1) ⊎ (picked a b c ≡ 2) ⊎ (picked a b c ≡ 3)
one_of false b c = inl refl
one_of true true c = inr (inl refl)
one_of true false true = inr (inr refl)
one_of true false false = inl refl

modes : (fix_type flags : ℕ) → (mode_of fix_type flags ≡ 1) ⊎ (mode_of fix_type flags ≡ 2) ⊎ (mode_of fix_type flags ≡ 3)
unfolding mode_of
modes fix_type flags = one_of (is_set flags 0) (fix_type == 2) ((fix_type == 3) || (fix_type == 4))

-- the parts of the note of a NAV-PVT
pub record IsPvt (payload : List ℕ) (note : Note) (mode : ℕ) : Type 0 where
  pub modes : (mode ≡ 1) ⊎ (mode ≡ 2) ⊎ (mode ≡ 3)
  pub status : note.status ≡ Some (not (mode == 1))
  pub dim : note.dim ≡ Some mode
  pub tod : note.tod ≡ option_map (λ (x : DayTime). x.tod) (time_of payload)
  pub day : note.day ≡ option_map (λ (x : DayTime). x.day) (time_of payload)
  pub position : note.position ≡ in_fix mode (position_of (i4_at payload 28) (i4_at payload 24))
  pub alt_msl : note.alt_msl ≡ in_fix mode (Some (i4_at payload 36))
  pub geoid_sep : note.geoid_sep ≡ in_fix mode (Some (i4_at payload 32 -ℤ i4_at payload 36))
  pub track : note.track ≡ in_fix mode (track_of (i4_at payload 64))
  pub speed : note.speed ≡ in_fix mode (speed_of (i4_at payload 60))

is_pvt : (payload : List ℕ) → IsPvt payload (pvt_note payload) (mode_of (slice_index payload 20) (slice_index payload 21))
unfolding pvt_note
is_pvt payload = record {
  modes = modes (slice_index payload 20) (slice_index payload 21);
  status = refl;
  dim = refl;
  tod = refl;
  day = refl;
  position = refl;
  alt_msl = refl;
  geoid_sep = refl;
  track = refl;
  speed = refl;
}

module _ (payload : List ℕ) (note : Note) (mode : ℕ) (first : Moment) (bytes : list_all is_byte payload ≡ true) (is : IsPvt payload note mode) (may : IsSayable note) where
  s : Said
  s = said (alone note first)

  same : SaysTheSame (said (alone note first)) note
  same = says note first

  ranged : IsRanged (said (alone note first))
  ranged =
      let time = dated_time (time_of payload) (time_in payload) (subst (λ (o : Option ℤ). where_given (λ (day : ℤ). nat_le (civil_of (unsigned_abs day)).year 2079) o ≡ true) is.day may.day) in
      let place = position_fits (i4_at payload 28) (i4_at payload 24) in
      let height = four_bytes payload 32 bytes in
      let height_msl = four_bytes payload 36 bytes in
      record {
        time = ap (where_given is_dated) (alone_time note first (time_of payload) is.tod is.day) ∙ time;
        place = ap (where_given is_place) (same.position ∙ is.position) ∙ in_range is_place mode _ place.0;
        coarse = ap (where_given is_coarse) (same.position ∙ is.position) ∙ in_range is_coarse mode _ place.1;
        speed = ap (where_given is_speed) same.speed ∙ speeds (mode == 1) (is.speed) may.speed;
        track = ap (where_given is_course) (same.track ∙ is.track) ∙ in_range is_course mode _ (track_fits (i4_at payload 64));
        alt_msl = ap (where_given is_height) (same.alt_msl ∙ is.alt_msl) ∙ in_range is_height mode _ (height_fits (i4_at payload 36) height_msl);
        geoid_sep = ap (where_given is_height) (same.geoid_sep ∙ is.geoid_sep) ∙ in_range is_height mode _ (separation_fits (i4_at payload 32) (i4_at payload 36) height height_msl);
      }
    where
      speeds : (b : Bool) → note.speed ≡ cond b None (speed_of (i4_at payload 60)) → where_given (λ v. int_le v (pos 514_444_444)) note.speed ≡ true → where_given is_speed note.speed ≡ true
      speeds true e h = ap (where_given is_speed) e
      speeds false e h = ap (where_given is_speed) e ∙ speed_fits (i4_at payload 60) (subst (λ (o : Option ℤ). where_given (λ v. int_le v (pos 514_444_444)) o ≡ true) e h)

  placed : mode ≢ 1 → IsSome (said (alone note first)).position
  placed other = subst IsSome (sym same.position) (may.place (λ e. other (some_same (sym is.dim ∙ e))))
    where
      some_same : {a b : ℕ} → Some a ≡ Some b → a ≡ b
      some_same {a} {b} e = ap (λ (o : Option ℕ). or_nought o) e
        where
          or_nought : Option ℕ → ℕ
          or_nought (Some n) = n
          or_nought None = 0

  fits : IsFitting (fix_of (said (alone note first)))
  fits =
      ⊎_elim (λ (one : mode ≡ 1). none_fits (said (alone note first)) (same.dim ∙ is.dim ∙ ap Some one) (same.status ∙ is.status ∙ ap (λ (m : ℕ). Some (not (m == 1))) one) ranged)
      (λ other.
      ⊎_elim (λ (two : mode ≡ 2). flat_fits (said (alone note first)) (same.dim ∙ is.dim ∙ ap Some two) (same.status ∙ is.status ∙ ap (λ (m : ℕ). Some (not (m == 1))) two) (placed (λ one. cc)) ranged)
      (λ (three : mode ≡ 3). deep_fits (said (alone note first)) (same.dim ∙ is.dim ∙ ap Some three) (same.status ∙ is.status ∙ ap (λ (m : ℕ). Some (not (m == 1))) three) (placed (λ one. cc))
      (subst IsSome (sym (same.alt_msl ∙ is.alt_msl ∙ ap (λ (m : ℕ). in_fix m (Some (i4_at payload 36))) three)) refl) ranged)
      other) is.modes

pub frame_fits : (payload : List ℕ) (first : Moment) → list_all is_byte payload ≡ true → IsSayable (pvt_note payload) → IsFitting (fix_of (said (alone (pvt_note payload) first)))
frame_fits payload first bytes may = fits payload (pvt_note payload) (mode_of (slice_index payload 20) (slice_index payload 21)) first bytes (is_pvt payload) may
