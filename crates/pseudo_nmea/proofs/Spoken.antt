-- What the two notes of a fitting fix say.
use Rattle.std.proofs.Common.{◌≡◌, ℕ, ◌+◌, ◌*◌, ◌/◌, ◌%◌, ◌^◌, Bool, true, false, cond, not, [], refl, sym, ap, ◌∙◌, subst, arith, Option, Some, None, ℤ, pos, unsigned_abs}
use Rattle.std.specs.Prelude.{codes, ◌==◌}
use Rattle.std.specs.Option.{option_map}
use Rattle.std.proofs.lemmas.Bool.{cond-true}
use Rattle.std.proofs.lemmas.Bool.Decides.{nat_tests}
use Rattle.gps_fixed.specs.Moment.{Moment}
use Rattle.gps_fixed.specs.Numeral.{numeral}
use Rattle.gps_fixed.specs.Scaled.{scaled, magnitude, digits_of}
use Rattle.gps_report.specs.declared.fix.Fix.{Fix}
use Rattle.gps_report.specs.declared.note.Note.{Note}
use Rattle.gps_report.specs.declared.note.Position.{Position}
use Rattle.gps_report.specs.declared.note.NoteKind.TheVariants.{Gga, Rmc}
use Rattle.gps_report.specs.declared.note.Tag.TheVariants.{Tod}
use Rattle.gps_report.specs.Fits.{where_given}
use Rattle.gps_report.specs.Note.{empty_note}
use Rattle.nmea_decode.specs.Notes.{timed, letter_status, quality_status, where_valid, sentence_note}
use Rattle.nmea_decode.specs.Places.{latitude_of, longitude_of, position_of}
use Rattle.nmea_decode.specs.Readings.{number_up_to, dilution_of, day_ns, tod_of, day_with, date_of, height_of, plain_number, speed_of, time_of, track_of}
use Rattle.pseudo_nmea.specs.Fields.{clock, date, placed, latitude, north, longitude, east, knots, course, metres, is_place, is_speed, is_course, is_height}
use Rattle.pseudo_nmea.specs.Fitting.{HasStamp, is_dated, is_coarse, HasTimeAlone, HasItsParts, IsFitting}
use Rattle.pseudo_nmea.specs.Sentences.{by_fix, sentence, rmc_body, gga_body}
use Rattle.pseudo_nmea.proofs.Back.{height_back, track_back, speed_back}
use Rattle.pseudo_nmea.proofs.Places.{place_back}
use Rattle.pseudo_nmea.proofs.Times.{time_back, date_back}
use Rattle.pseudo_nmea.proofs.Notes.{rmc_from, gga_from, rmc_sentence, gga_sentence}

-- the time of day and the day of a time
abbrev pub tod_at : Option Moment → Option ℕ
tod_at time = option_map (λ (at : Moment). unsigned_abs at.sec % 86_400 * 10 ^ 9 + at.nsec) time

abbrev pub day_at : Option Moment → Option ℤ
day_at time = option_map (λ (at : Moment). pos (unsigned_abs at.sec / 86_400)) time

-- the two notes
abbrev pub rmc_note : Fix → Note
rmc_note fix = record (empty_note Rmc) {
  tag = option_map (λ tod. Tod tod) (tod_at fix.time);
  tod = tod_at fix.time;
  status = Some (not (fix.mode == 1));
  position = fix.position;
  speed = fix.speed;
  track = fix.track;
  day = day_at fix.time;
}

abbrev pub gga_note : Fix → Note
gga_note fix = record (empty_note Gga) {
  tag = option_map (λ tod. Tod tod) (tod_at fix.time);
  tod = tod_at fix.time;
  status = Some (not (fix.mode == 1));
  position = fix.position;
  alt_msl = fix.alt_msl;
  geoid_sep = fix.geoid_sep;
}

times : (time : Option Moment) → HasStamp time → time_of (clock time) ≡ tod_at time
unfolding clock time_of digits_of numeral
times None stamp = refl
times (Some at) stamp = time_back at stamp.within

tods : (time : Option Moment) → HasStamp time → tod_of (tod_at time) ≡ tod_at time
tods None stamp = refl
tods (Some at) stamp = let within = stamp.within in ap (λ (n : ℕ). Some n) (let e : (unsigned_abs at.sec % 86_400 * 10 ^ 9 + at.nsec) % day_ns ≡ unsigned_abs at.sec % 86_400 * 10 ^ 9 + at.nsec = omega arith in e)

days : (time : Option Moment) → HasStamp time → where_given is_dated time ≡ true → day_with (tod_at time) (date_of (date time)) ≡ day_at time
unfolding date date_of plain_number
days None stamp dated = refl
days (Some at) stamp dated =
    let within = stamp.within in
    let none : (unsigned_abs at.sec % 86_400 * 10 ^ 9 + at.nsec) / day_ns ≡ 0 = omega arith in
    let d : ℕ = unsigned_abs at.sec / 86_400 in
    let same : d + (unsigned_abs at.sec % 86_400 * 10 ^ 9 + at.nsec) / day_ns ≡ d = omega arith in
    ap (λ (o : Option ℤ). day_with (tod_at (Some at)) o) (date_back at dated) ∙ ap (λ (n : ℕ). Some (pos n)) same

speeds : (q : Option ℤ) → where_given is_speed q ≡ true → speed_of (knots q) ≡ q
unfolding knots speed_of number_up_to scaled magnitude numeral
speeds None fits = refl
speeds (Some v) fits = speed_back v fits

tracks : (q : Option ℤ) → where_given is_course q ≡ true → track_of (course q) ≡ q
unfolding course track_of number_up_to scaled magnitude numeral
tracks None fits = refl
tracks (Some t) fits = track_back t fits

heights : (q : Option ℤ) → where_given is_height q ≡ true → height_of (metres q) ≡ q
unfolding metres scaled magnitude numeral
heights None fits = refl
heights (Some h) fits = height_back h fits

places : (q : Option Position) → where_given is_place q ≡ true → where_given is_coarse q ≡ true → position_of (latitude (placed q)) (north (placed q)) (longitude (placed q)) (east (placed q)) ≡ q
unfolding latitude north longitude east position_of latitude_of longitude_of digits_of numeral
places None fits coarse = refl
places (Some p) fits coarse =
    ap (λ (o : Option Position). position_of (latitude o) (north o) (longitude o) (east o)) (cond-true (is_place p) (Some p) None fits) ∙ place_back p fits coarse

no_dilution : dilution_of [] ≡ None
unfolding number_up_to scaled magnitude numeral
no_dilution = refl

-- a quantity counts beside a fix; without one it is not there
valid_back : {X : Type 0} → (b : Bool) (q read : Option X) → (b ≡ false → q ≡ None) → read ≡ q → where_valid (Some b) read ≡ q
valid_back true q read none same = same
valid_back false q read none same = sym (none refl)

letters : (fix : Fix) → letter_status (by_fix fix (codes "V") (codes "A")) ≡ Some (not (fix.mode == 1))
unfolding by_fix
letters fix = by_test (fix.mode == 1)
  where
    by_test : (b : Bool) → letter_status (cond b (codes "V") (codes "A")) ≡ Some (not b)
    by_test true = refl
    by_test false = refl

qualities : (fix : Fix) → quality_status (by_fix fix (codes "0") (codes "1")) ≡ Some (not (fix.mode == 1))
unfolding by_fix
qualities fix = by_test (fix.mode == 1)
  where
    by_test : (b : Bool) → quality_status (cond b (codes "0") (codes "1")) ≡ Some (not b)
    by_test true = refl
    by_test false = refl

alone : (fix : Fix) → HasItsParts fix.mode fix → not (fix.mode == 1) ≡ false → HasTimeAlone fix
alone fix parts test = let one : fix.mode ≡ 1 = grind (arith, nat_tests) in subst (λ (m : ℕ). HasItsParts m fix) one parts

module _ (fix : Fix) (fits : IsFitting fix) (stamp : HasStamp fix.time) where
  abbrev b : Bool
  b = not (fix.mode == 1)

  none : b ≡ false → HasTimeAlone fix
  none test = alone fix fits.parts test

  pub rmc_says : sentence_note (sentence (rmc_body fix)) ≡ rmc_note fix
  unfolding rmc_from timed
  rmc_says =
      let t = times fix.time stamp in
      let st = letters fix in
      rmc_sentence fix
      ∙ (λ i. record (empty_note Rmc) {
        tag = option_map (λ tod. Tod tod) (tod_of (t i));
        tod = tod_of (t i);
        status = st i;
        position = where_valid (st i) (position_of (latitude (placed fix.position)) (north (placed fix.position)) (longitude (placed fix.position)) (east (placed fix.position)));
        speed = where_valid (st i) (speed_of (knots fix.speed));
        track = where_valid (st i) (track_of (course fix.track));
        day = day_with (t i) (date_of (date fix.time));
      })
      ∙ (λ i. record (empty_note Rmc) {
        tag = option_map (λ tod. Tod tod) (tods fix.time stamp i);
        tod = tods fix.time stamp i;
        status = Some b;
        position = valid_back b fix.position _ (λ test. (none test).position) (places fix.position fits.place fits.coarse) i;
        speed = valid_back b fix.speed _ (λ test. (none test).speed) (speeds fix.speed fits.speed) i;
        track = valid_back b fix.track _ (λ test. (none test).track) (tracks fix.track fits.track) i;
        day = days fix.time stamp fits.time i;
      })

  pub gga_says : sentence_note (sentence (gga_body fix)) ≡ gga_note fix
  unfolding gga_from timed
  gga_says =
      let t = times fix.time stamp in
      let st = qualities fix in
      gga_sentence fix
      ∙ (λ i. record (empty_note Gga) {
        tag = option_map (λ tod. Tod tod) (tod_of (t i));
        tod = tod_of (t i);
        status = st i;
        position = where_valid (st i) (position_of (latitude (placed fix.position)) (north (placed fix.position)) (longitude (placed fix.position)) (east (placed fix.position)));
        hdop = where_valid (st i) (dilution_of []);
        alt_msl = where_valid (st i) (height_of (metres fix.alt_msl));
        geoid_sep = where_valid (st i) (height_of (metres fix.geoid_sep));
      })
      ∙ (λ i. record (empty_note Gga) {
        tag = option_map (λ tod. Tod tod) (tods fix.time stamp i);
        tod = tods fix.time stamp i;
        status = Some b;
        position = valid_back b fix.position _ (λ test. (none test).position) (places fix.position fits.place fits.coarse) i;
        hdop = valid_back b None _ (λ test. refl) no_dilution i;
        alt_msl = valid_back b fix.alt_msl _ (λ test. (none test).alt_msl) (heights fix.alt_msl fits.alt_msl) i;
        geoid_sep = valid_back b fix.geoid_sep _ (λ test. (none test).geoid_sep) (heights fix.geoid_sep fits.geoid_sep) i;
      })
