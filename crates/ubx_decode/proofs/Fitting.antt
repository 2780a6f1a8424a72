-- Every note of a frame keeps the ranges of its fields.
use Rattle.std.proofs.Common.{◌≡◌, ℕ, zero, suc, ◌+◌, ◌-◌, ◌*◌, ◌/◌, ◌%◌, ◌<◌, Bool, true, false, cond, ◌&&◌, ◌||◌, List, [], ◌∷◌, length, take, drop, get_or, refl, sym, ap, ◌∙◌, subst, arith, Option, Some, None, Result, Ok, Err, ℤ, pos, unsigned_abs}
use Rattle.std.specs.Prelude.{nat_le, nat_eq, ◌==◌, IfOk}
use Rattle.std.specs.Option.{option_map}
use Rattle.std.specs.List.{list_all}
use Rattle.std.proofs.lemmas.List.{take-append-drop}
use Rattle.std.proofs.lemmas.List.Folds.{list_all-append}
use Rattle.std.proofs.lemmas.Bool.{and_parts, and_from, ltb-true, lt-ltb}
use Rattle.std.proofs.lemmas.Bool.Decides.{nat_tests}
use Rattle.gps_report.specs.Fits.{Fits, where_given, is_tod, is_day, is_dim, is_satellite, is_sentence_satellite}
use Rattle.ubx_frame.specs.Frame.{is_byte, class_of, id_of, payload_of}
use Rattle.ubx_decode.specs.declared.time.DayTime.{DayTime}
use Rattle.ubx_decode.specs.Fields.{is_set, plus}
use Rattle.ubx_decode.specs.Time.{day_length, clock, carried, joined, time_of}
use Rattle.ubx_decode.specs.Motion.{mode_of}
use Rattle.ubx_decode.specs.Sat.{satellite_of, satellites_of, sat_note}
use Rattle.ubx_decode.specs.Pvt.{pvt_note}
use Rattle.ubx_decode.specs.Message.{dop_note, kind_of, note_by_kind, note_of}
use Rattle.gps_report.specs.declared.note.Note.{Note}
use Rattle.gps_report.specs.declared.note.NoteKind.{NoteKind}
use Rattle.gps_report.specs.declared.note.NoteKind.TheVariants.{Pvt, Sat, Dop}
use Rattle.gps_fixed.specs.declared.no_memory.NoMemory.{NoMemory}

-- ---- bytes
byte_at : (xs : List ℕ) (k : ℕ) → list_all is_byte xs ≡ true → get_or xs k 0 < 256
byte_at [] k all = omega arith
byte_at (x ∷ xs) zero all = ltb-true x 256 (and_parts (is_byte x) (list_all is_byte xs) all).0
byte_at (x ∷ xs) (suc k) all = byte_at xs k (and_parts (is_byte x) (list_all is_byte xs) all).1

split_bytes : (n : ℕ) (xs : List ℕ) → list_all is_byte xs ≡ true → (list_all is_byte (take n xs) ≡ true) × (list_all is_byte (drop n xs) ≡ true)
split_bytes n xs all =
    and_parts (list_all is_byte (take n xs)) (list_all is_byte (drop n xs))
    (sym (list_all-append is_byte (take n xs) (drop n xs)) ∙ ap (list_all is_byte) (take-append-drop n xs) ∙ all)

-- ---- the time
record FitsTime (time : Option DayTime) : Type 0 where
  tod : where_given is_tod (option_map (λ (t : DayTime). t.tod) time) ≡ true
  day : where_given is_day (option_map (λ (t : DayTime). t.day) time) ≡ true

none_fits : FitsTime None
none_fits = record { tod = refl; day = refl }

some_fits : (day since : ℕ) (test : Bool) → nat_le 3_652 day && nat_le day 47_481 ≡ test
    → FitsTime (cond test (Some (record { day = pos day; tod = since % day_length })) None)
some_fits day since false is = none_fits
some_fits day since true is = record {
  tod = lt-ltb (since % day_length) 86_400_000_000_000 (omega arith);
  day = grind (arith, nat_tests, is);
}

carried_fits : (date since : ℕ) → FitsTime (carried date since)
unfolding carried
carried_fits date since = some_fits (date + since / day_length - 1) since _ refl

joined_fits : (date : Option ℤ) (clock : Option ℕ) (nano : Option ℤ) → FitsTime (joined date clock nano)
joined_fits (Some date) (Some clock) (Some nano) = carried_fits (unsigned_abs date) (plus (day_length + clock) nano)
joined_fits (Some date) (Some clock) None = none_fits
joined_fits (Some date) None nano = none_fits
joined_fits None clock nano = none_fits

chosen_fits : (b : Bool) (time : Option DayTime) → FitsTime time → FitsTime (cond b time None)
chosen_fits true time h = h
chosen_fits false time h = none_fits

time_fits : (payload : List ℕ) → FitsTime (time_of payload)
unfolding time_of
time_fits payload = chosen_fits _ _ (joined_fits _ _ _)

-- ---- the mode
mode_fits : (a b c : Bool) → is_dim (cond a (cond b 2 (cond c 3 1)) 1) ≡ true
mode_fits true true c = refl
mode_fits true false true = refl
mode_fits true false false = refl
mode_fits false b c = refl

pub pvt_fits : (payload : List ℕ) → Fits (pvt_note payload)
unfolding pvt_note mode_of
pvt_fits payload =
    let time = time_fits payload in
    record { tod = time.tod; day = time.day; dim = mode_fits (is_set (get_or payload 21 0) 0) (get_or payload 20 0 == 2) ((get_or payload 20 0 == 3) || (get_or payload 20 0 == 4)); system = refl; used = refl; sats = refl }

-- ---- satellites
of_frame : (id system : ℕ) → id < 256 → system < 256 → nat_le system 255 && nat_le id 255 && nat_eq (id + 100 * system) (id + 100 * system) ≡ true
of_frame id system narrow narrow_too = grind (arith, nat_tests, narrow, narrow_too)

or_true : (b c : Bool) → c ≡ true → (b || c) ≡ true
or_true true c h = refl
or_true false c h = h

and_true : (b : Bool) → b ≡ true → (true && b && true) ≡ true
and_true b h = ap (λ t. true && t && true) h

satellite_fits : (group : List ℕ) → list_all is_byte group ≡ true → is_satellite (satellite_of group) ≡ true
unfolding satellite_of
satellite_fits group all =
    or_true (is_sentence_satellite (satellite_of group)) _
    (and_true _ (of_frame (get_or group 1 0) (get_or group 0 0) (byte_at group 1 all) (byte_at group 0 all)))

satellites_fit : (n : ℕ) (groups : List ℕ) → list_all is_byte groups ≡ true → list_all is_satellite (satellites_of n groups) ≡ true
unfolding satellites_of
satellites_fit zero groups all = refl
satellites_fit (suc n) groups all =
    let parts = split_bytes 12 groups all in
    and_from (is_satellite (satellite_of (take 12 groups))) _ (satellite_fits (take 12 groups) (parts.0)) (satellites_fit n (drop 12 groups) (parts.1))

pub sat_fits : (payload : List ℕ) → list_all is_byte payload ≡ true → Fits (sat_note payload)
unfolding sat_note
sat_fits payload all = record {
  tod = refl;
  day = refl;
  dim = refl;
  system = refl;
  used = refl;
  sats = satellites_fit (get_or payload 5 0) (drop 8 payload) (split_bytes 8 payload all).1;
}

-- ---- any message
by_kind_fits : (kind : NoteKind) (payload : List ℕ) → list_all is_byte payload ≡ true → Fits (note_by_kind kind payload)
unfolding dop_note
by_kind_fits Pvt payload all = pvt_fits payload
by_kind_fits Sat payload all = sat_fits payload all
by_kind_fits Dop payload all = record { tod = refl; day = refl; dim = refl; system = refl; used = refl; sats = refl }
by_kind_fits kind payload all = record { tod = refl; day = refl; dim = refl; system = refl; used = refl; sats = refl }

pub frame_fits : (frame : List ℕ) → list_all is_byte frame ≡ true → Fits (note_of frame)
unfolding note_of
frame_fits frame all =
    by_kind_fits (kind_of (class_of frame) (id_of frame) (payload_of frame)) (payload_of frame)
    (split_bytes (length frame - 8) (drop 6 frame) (split_bytes 6 frame all).1).0

pub ok_fits : (result : Result Note NoMemory) (note : Note) → IfOk result (λ n. n ≡ note) → Fits note → IfOk result Fits
ok_fits (Ok n) note is fits = subst Fits (sym is) fits
ok_fits (Err e) note is fits = tt
