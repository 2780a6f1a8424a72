-- The notes of the two sentences of a fitting fix.
use Rattle.std.proofs.Common.{◌≡◌, ℕ, ◌/◌, ◌%◌, ◌<◌, true, ◌&&◌, List, [], ◌∷◌, ◌++◌, refl, ap, ◌∙◌, arith}
use Rattle.std.specs.Prelude.{codes}
use Rattle.std.proofs.lemmas.Bool.{and_from}
use Rattle.gps_fixed.specs.Hexadecimal.{upper_digit}
use Rattle.gps_report.specs.declared.fix.Fix.{Fix}
use Rattle.gps_report.specs.declared.note.Note.{Note}
use Rattle.gps_report.specs.declared.note.NoteKind.TheVariants.{Gga, Rmc}
use Rattle.nmea_frame.specs.Sentence.{body_of, checksum}
use Rattle.nmea_decode.specs.Notes.{timed, letter_status, quality_status, where_valid, plain_note, gga_row, rmc_row, body_note, sentence_note}
use Rattle.nmea_decode.specs.Places.{position_of}
use Rattle.nmea_decode.specs.Readings.{dilution_of, day_with, date_of, height_of, speed_of, time_of, track_of}
use Rattle.pseudo_nmea.specs.Fields.{clock, date, placed, latitude, north, longitude, east, knots, course, metres}
use Rattle.pseudo_nmea.specs.Sentences.{by_fix, sentence, rmc_body, gga_body}
use Rattle.pseudo_nmea.proofs.Rows.{rows, rows_behind, all_plain, row_is}
use Rattle.pseudo_nmea.proofs.Plain.{clock_plain, by_fix_plain, latitude_plain, north_plain, longitude_plain, east_plain, knots_plain, course_plain, metres_plain, date_plain, rows_starless, before_star}

abbrev pub rmc_list : Fix → List (List ℕ)
rmc_list fix =
    clock fix.time ∷ by_fix fix (codes "V") (codes "A") ∷ latitude (placed fix.position) ∷ north (placed fix.position) ∷ longitude (placed fix.position) ∷ east (placed fix.position)
    ∷ knots fix.speed ∷ course fix.track ∷ date fix.time ∷ [] ∷ [] ∷ by_fix fix (codes "N") (codes "A") ∷ []

abbrev pub gga_list : Fix → List (List ℕ)
gga_list fix =
    clock fix.time ∷ latitude (placed fix.position) ∷ north (placed fix.position) ∷ longitude (placed fix.position) ∷ east (placed fix.position) ∷ by_fix fix (codes "0") (codes "1")
    ∷ [] ∷ [] ∷ metres fix.alt_msl ∷ codes "M" ∷ metres fix.geoid_sep ∷ codes "M" ∷ [] ∷ [] ∷ []

pub rmc_plain : (fix : Fix) → all_plain (rmc_list fix) ≡ true
rmc_plain fix =
    λ i. (clock_plain fix.time) i && ((by_fix_plain fix (codes "V") (codes "A") refl refl) i && ((latitude_plain (placed fix.position)) i && ((north_plain (placed fix.position)) i && ((longitude_plain (placed fix.position)) i && ((east_plain (placed fix.position)) i && ((knots_plain fix.speed) i && ((course_plain fix.track) i && ((date_plain fix.time) i && (true && (true && ((by_fix_plain fix (codes "N") (codes "A") refl refl) i && (true))))))))))))

pub gga_plain : (fix : Fix) → all_plain (gga_list fix) ≡ true
gga_plain fix =
    λ i. (clock_plain fix.time) i && ((latitude_plain (placed fix.position)) i && ((north_plain (placed fix.position)) i && ((longitude_plain (placed fix.position)) i && ((east_plain (placed fix.position)) i && ((by_fix_plain fix (codes "0") (codes "1") refl refl) i && (true && (true && ((metres_plain fix.alt_msl) i && (true && ((metres_plain fix.geoid_sep) i && (true && (true && (true && (true))))))))))))))

pub rmc_body_is : (fix : Fix) → rmc_body fix ≡ codes "GPRMC" ++ rows (rmc_list fix)
unfolding rmc_body
rmc_body_is fix = rows_behind (codes "GPRMC") (rmc_list fix)

pub gga_body_is : (fix : Fix) → gga_body fix ≡ codes "GPGGA" ++ rows (gga_list fix)
unfolding gga_body
gga_body_is fix = rows_behind (codes "GPGGA") (gga_list fix)

rmc_text : (fix : Fix) → body_note (codes "GPRMC" ++ rows (rmc_list fix)) ≡ plain_note rmc_row (rows (rmc_list fix))
unfolding body_note
rmc_text fix = refl

gga_text : (fix : Fix) → body_note (codes "GPGGA" ++ rows (gga_list fix)) ≡ plain_note gga_row (rows (gga_list fix))
unfolding body_note
gga_text fix = refl

-- the readings of single fields
unfoldable pub rmc_from : (time status latitude north longitude east knots course date : List ℕ) → Note
rmc_from time status latitude north longitude east knots course date =
    let t = time_of time in
    let s = letter_status status in
    record (timed Rmc t) {
      status = s;
      position = where_valid s (position_of latitude north longitude east);
      speed = where_valid s (speed_of knots);
      track = where_valid s (track_of course);
      day = day_with t (date_of date);
    }

unfoldable pub gga_from : (time latitude north longitude east quality dilution height separation : List ℕ) → Note
gga_from time latitude north longitude east quality dilution height separation =
    let s = quality_status quality in
    record (timed Gga (time_of time)) {
      status = s;
      position = where_valid s (position_of latitude north longitude east);
      hdop = where_valid s (dilution_of dilution);
      alt_msl = where_valid s (height_of height);
      geoid_sep = where_valid s (height_of separation);
    }

rmc_reads : (fix : Fix) → plain_note rmc_row (rows (rmc_list fix))
    ≡ rmc_from (clock fix.time) (by_fix fix (codes "V") (codes "A")) (latitude (placed fix.position)) (north (placed fix.position)) (longitude (placed fix.position)) (east (placed fix.position)) (knots fix.speed) (course fix.track) (date fix.time)
unfolding plain_note timed rmc_from
rmc_reads fix =
    let at = λ (k : ℕ) (h : k < 12). row_is (rmc_list fix) k (rmc_plain fix) h in
    λ i. rmc_from (at 0 (omega arith) i) (at 1 (omega arith) i) (at 2 (omega arith) i) (at 3 (omega arith) i) (at 4 (omega arith) i) (at 5 (omega arith) i) (at 6 (omega arith) i) (at 7 (omega arith) i) (at 8 (omega arith) i)

gga_reads : (fix : Fix) → plain_note gga_row (rows (gga_list fix))
    ≡ gga_from (clock fix.time) (latitude (placed fix.position)) (north (placed fix.position)) (longitude (placed fix.position)) (east (placed fix.position)) (by_fix fix (codes "0") (codes "1")) [] (metres fix.alt_msl) (metres fix.geoid_sep)
unfolding plain_note timed gga_from
gga_reads fix =
    let at = λ (k : ℕ) (h : k < 14). row_is (gga_list fix) k (gga_plain fix) h in
    λ i. gga_from (at 0 (omega arith) i) (at 1 (omega arith) i) (at 2 (omega arith) i) (at 3 (omega arith) i) (at 4 (omega arith) i) (at 5 (omega arith) i) (at 7 (omega arith) i) (at 8 (omega arith) i) (at 10 (omega arith) i)

-- the body of a sentence
body_back : (front : List ℕ) (fs : List (List ℕ)) → all_plain (front ∷ fs) ≡ true → body_of (sentence (front ++ rows fs)) ≡ front ++ rows fs
unfolding sentence
body_back front fs all =
    let body = front ++ rows fs in
    let starless = rows_starless (front ∷ fs) all in
    before_star body (upper_digit (checksum body / 16) ∷ upper_digit (checksum body % 16) ∷ 13 ∷ 10 ∷ []) starless

pub rmc_sentence : (fix : Fix) → sentence_note (sentence (rmc_body fix))
    ≡ rmc_from (clock fix.time) (by_fix fix (codes "V") (codes "A")) (latitude (placed fix.position)) (north (placed fix.position)) (longitude (placed fix.position)) (east (placed fix.position)) (knots fix.speed) (course fix.track) (date fix.time)
unfolding sentence_note
rmc_sentence fix =
    ap (λ (b : List ℕ). body_note (body_of (sentence b))) (rmc_body_is fix) ∙ ap body_note (body_back (codes "GPRMC") (rmc_list fix) (and_from true (all_plain (rmc_list fix)) refl (rmc_plain fix))) ∙ rmc_text fix ∙ rmc_reads fix

pub gga_sentence : (fix : Fix) → sentence_note (sentence (gga_body fix))
    ≡ gga_from (clock fix.time) (latitude (placed fix.position)) (north (placed fix.position)) (longitude (placed fix.position)) (east (placed fix.position)) (by_fix fix (codes "0") (codes "1")) [] (metres fix.alt_msl) (metres fix.geoid_sep)
unfolding sentence_note
gga_sentence fix =
    ap (λ (b : List ℕ). body_note (body_of (sentence b))) (gga_body_is fix) ∙ ap body_note (body_back (codes "GPGGA") (gga_list fix) (and_from true (all_plain (gga_list fix)) refl (gga_plain fix))) ∙ gga_text fix ∙ gga_reads fix
