-- What a sentence or a frame says is within the ranges of a line.
use Rattle.std.proofs.Common.{◌≡◌, ℕ, zero, suc, ◌+◌, ◌-◌, ◌*◌, ◌/◌, ◌%◌, ◌^◌, ◌<◌, ◌≤◌, Bool, true, false, cond, ◌&&◌, ◌||◌, List, [], ◌∷◌, ◌++◌, get_or, length, length-take, take, drop, replicate, refl, sym, ap, ◌∙◌, subst, arith, Option, Some, None, Result, Ok, ℤ, pos, negsuc, neg_ℤ, ◌+ℤ◌, ◌-ℤ◌, ◌*ℤ◌, unsigned_abs, IfSome, option_map, option_to_list}
use Rattle.std.specs.Prelude.{nat_le, nat_eq, nat_lt, int_le, ◌==◌, is_some, is_none}
use Rattle.std.specs.Option.{option_and_then}
use Rattle.std.specs.List.{list_all, AllByRecursion}
use Rattle.std.specs.Str.{bytes_eq}
use Rattle.std.specs.Int.{w32, cast_signed}
use Rattle.std.specs.Char.{is_ascii_digit}
use Rattle.std.proofs.lemmas.Bool.{and_parts, and_from, ltb-true}
use Rattle.std.proofs.lemmas.Bool.Decides.{nat_tests}
use Rattle.std.proofs.lemmas.Int.{ints, unsigned_abs-mul}
use Rattle.std.proofs.lemmas.List.Folds.{list_all-append}
use Rattle.std.proofs.Math.Nat.{pow-le-pow_right}
use Rattle.gps_fixed.specs.Fields.{u2_at, u4_at, i4_at}
use Rattle.gps_fixed.specs.Numeral.{Parts, AreParts, fraction, number, first_digits, scaled_magnitude}
use Rattle.gps_fixed.specs.Ratio.{nearest}
use Rattle.gps_fixed.specs.Scaled.{signed as with_sign, scaled, digits_of}
use Rattle.gps_fixed.proofs.NumeralLaws.{number_below, scaled_small}
use Rattle.gps_fixed.proofs.ScaledTheorem.{scaled_exact}
use Rattle.gps_report.specs.declared.note.Note.{Note}
use Rattle.gps_report.specs.declared.note.NoteKind.{NoteKind}
use Rattle.gps_report.specs.declared.note.NoteKind.TheVariants.{Pvt, Sat, Dop, Other}
use Rattle.gps_report.specs.declared.satellite.Satellite.{Satellite}
use Rattle.gps_report.specs.Fits.{Fits, is_satellite, where_given, is_id, is_named_system}
use Rattle.gps_report.specs.Note.{empty_note}
use Rattle.nmea_frame.specs.Sentence.{body_of}
use Rattle.nmea_decode.specs.Fields.{address_of, field_at, fields_of}
use Rattle.nmea_decode.specs.Kinds.{is_address}
use Rattle.nmea_decode.specs.Notes.{Said, Contents, SingleFields, UsedSatellites, SeenSatellites, SentenceKind, FieldNumbers, StatusField, Unstated, body_note, gsa, gsv, plain_note, plainly, position_in, quantity_in, said_among, said_at, said_by, said_with, sentence_kinds, sentence_note, status_in, timed, where_valid, where_valid_by}
use Rattle.nmea_decode.specs.Places.{angle, both, latitude_of, longitude_of, on_side, position_of}
use Rattle.nmea_decode.specs.Readings.{dilution_of, elevation_of, height_of, number_up_to, speed_of, track_of, up_to as upto, within_right_angle}
use Rattle.nmea_decode.specs.Satellites.{satellite_of, satellites_in, satellites_of}
use Rattle.nmea_decode.proofs.Fitting.{result_fits}
use Rattle.ubx_frame.specs.Frame.{is_byte, payload_of}
use Rattle.ubx_decode.specs.Message.{dop_note, note_by_kind, note_of}
use Rattle.ubx_decode.specs.Motion.{mode_of}
use Rattle.ubx_decode.specs.Motion as motion
use Rattle.ubx_decode.specs.Pvt.{in_fix, pvt_note}
use Rattle.ubx_decode.specs.Sat.{sat_note}
use Rattle.ubx_decode.specs.Sat as sat
use Rattle.gps_client.specs.Ranges.{HasNineDigits, IsI32, IsPlace, IsSatellite, IsU8, IsU16, IsU32}

-- a satellite's place in the sky and its strength
pub record IsPlaced (s : Satellite) : Type 0 where
  pub el_in : IfSome s.el IsI32
  pub az_in : IfSome s.az IsU32
  pub ss_in : IfSome s.ss IsU32

-- the quantities of a note, within the ranges of a line
pub record IsRanged (note : Note) : Type 0 where
  pub position_in : IfSome note.position IsPlace
  pub alt_hae_in : IfSome note.alt_hae (HasNineDigits 3)
  pub alt_msl_in : IfSome note.alt_msl (HasNineDigits 3)
  pub geoid_sep_in : IfSome note.geoid_sep (HasNineDigits 3)
  pub track_in : IfSome note.track (HasNineDigits 4)
  pub speed_in : IfSome note.speed (HasNineDigits 3)
  pub climb_in : IfSome note.climb (HasNineDigits 3)
  pub pdop_in : IfSome note.pdop IsU32
  pub hdop_in : IfSome note.hdop IsU32
  pub vdop_in : IfSome note.vdop IsU32
  pub sats_in : AllByRecursion IsPlaced note.sats

empty_ranged : (kind : NoteKind) → IsRanged (empty_note kind)
empty_ranged kind = record { position_in = tt; alt_hae_in = tt; alt_msl_in = tt; geoid_sep_in = tt; track_in = tt; speed_in = tt; climb_in = tt; pdop_in = tt; hdop_in = tt; vdop_in = tt; sats_in = tt }

-- ---- numbers of sentences
zeros_pass : (k : ℕ) → list_all is_ascii_digit (replicate k 48) ≡ true
zeros_pass zero = refl
zeros_pass (suc k) = zeros_pass k

all_taken : (k : ℕ) (ds : List ℕ) → list_all is_ascii_digit ds ≡ true → list_all is_ascii_digit (take k ds) ≡ true
all_taken zero [] all = refl
all_taken (suc k) [] all = refl
all_taken zero (c ∷ ds) all = refl
all_taken (suc k) (c ∷ ds) all = let parts = and_parts (is_ascii_digit c) (list_all is_ascii_digit ds) all in and_from (is_ascii_digit c) (list_all is_ascii_digit (take k ds)) parts.0 (all_taken k ds parts.1)

first_small : (k : ℕ) (ds : List ℕ) → list_all is_ascii_digit ds ≡ true → number (first_digits k ds) < 10 ^ k
first_small k ds all =
    let digits = list_all-append is_ascii_digit ds (replicate k 48) ∙ and_from (list_all is_ascii_digit ds) (list_all is_ascii_digit (replicate k 48)) all (zeros_pass k) in
    let below = number_below (first_digits k ds) (all_taken k (ds ++ replicate k 48) digits) in
    let long : length (first_digits k ds) ≤ k = omega (arith, length-take k (ds ++ replicate k 48)) in
    omega (arith, below, pow-le-pow_right {n = 10} (omega arith) long)

magnitude_small : (k : ℕ) (p : Parts) → AreParts p → scaled_magnitude k p < 10 ^ (9 + k)
magnitude_small k p are =
    let whole : number p.whole < 10 ^ 9 = omega (arith, number_below p.whole are.whole, pow-le-pow_right {n = 10} (omega arith) are.few) in
    scaled_small 9 k (number p.whole) (10 ^ k) (number (first_digits k (fraction p.behind))) whole refl (first_small k (fraction p.behind) are.behind)

sign_keeps : (negative : Bool) (m : ℕ) → unsigned_abs (with_sign negative m) ≡ m
sign_keeps true zero = refl
sign_keeps true (suc m) = refl
sign_keeps false m = refl

scaled_ranged : (k : ℕ) (text : List ℕ) → IfSome (scaled k text) (HasNineDigits k)
scaled_ranged k text = by_answer (scaled k text) refl
  where
    by_answer : (o : Option ℤ) → scaled k text ≡ o → IfSome o (HasNineDigits k)
    by_answer None e = tt
    by_answer (Some v) e =
        let is = (scaled_exact k text v).0 e in
        subst (λ m. m < 10 ^ (9 + k)) (sym (ap unsigned_abs is.value_is ∙ sign_keeps is.negative (scaled_magnitude k is.parts))) (magnitude_small k is.parts is.are)

upto_ranged : (most : ℕ) (z : ℤ) → IfSome (upto most z) (λ n. n ≤ most)
upto_ranged most (negsuc n) = tt
upto_ranged most (pos n) = by_test (nat_le n most) refl
  where
    by_test : (b : Bool) → nat_le n most ≡ b → IfSome (cond b (Some n) None) (λ m. m ≤ most)
    by_test true e = grind (arith, nat_tests, e)
    by_test false e = tt

pub if_then : {A B : Type 0} (f : A → Option B) (P : B → Type 0) → ((a : A) → IfSome (f a) P) → (o : Option A) → IfSome (option_and_then f o) P
if_then f P h None = tt
if_then f P h (Some a) = h a

pub if_map : {A B : Type 0} (f : A → B) (P : A → Type 0) (Q : B → Type 0) → ((a : A) → P a → Q (f a)) → (o : Option A) → IfSome o P → IfSome (option_map f o) Q
if_map f P Q h None p = tt
if_map f P Q h (Some a) p = h a p

pub if_more : {A : Type 0} (P Q : A → Type 0) → ((a : A) → P a → Q a) → (o : Option A) → IfSome o P → IfSome o Q
if_more P Q h None p = tt
if_more P Q h (Some a) p = h a p

number_ranged : (most decimals : ℕ) (text : List ℕ) → IfSome (number_up_to most decimals text) (λ n. n ≤ most)
unfolding number_up_to
number_ranged most decimals text = if_then (upto most) (λ n. n ≤ most) (upto_ranged most) (scaled decimals text)

small_number : (most decimals : ℕ) (text : List ℕ) → most < 2 ^ 32 → IfSome (number_up_to most decimals text) IsU32
small_number most decimals text h = if_more (λ n. n ≤ most) IsU32 (λ n s. omega (arith, s, h)) (number_up_to most decimals text) (number_ranged most decimals text)

track_ranged : (text : List ℕ) → IfSome (track_of text) (HasNineDigits 4)
unfolding track_of
track_ranged text = if_map (λ n. pos n) (λ n. n ≤ 3_600_000) (HasNineDigits 4) (λ n s. omega (arith, s)) (number_up_to 3_600_000 4 text) (number_ranged 3_600_000 4 text)

from_knots : (k : ℕ) → nearest (pos k) (pos 463) (pos 900) ≡ pos ((926 * k + 900) / 1800)
from_knots k = omega (arith, ints)

knots_ranged : (n : ℕ) → n ≤ 10 ^ 9 → HasNineDigits 3 (nearest (pos n) (pos 463) (pos 900))
knots_ranged n s = subst (HasNineDigits 3) (sym (from_knots n)) (omega (arith, s))

speed_ranged : (text : List ℕ) → IfSome (speed_of text) (HasNineDigits 3)
unfolding speed_of
speed_ranged text = if_map (λ n. nearest (pos n) (pos 463) (pos 900)) (λ n. n ≤ 10 ^ 9) (HasNineDigits 3) knots_ranged (number_up_to (10 ^ 9) 3 text) (number_ranged (10 ^ 9) 3 text)

-- places
angle_ranged : (most n : ℕ) → most ≤ 180 → IfSome (angle most n) (λ m. m ≤ 180 * 10 ^ 9)
angle_ranged most n h = by_test _ refl
  where
    by_test : (b : Bool) → (nat_lt (n % 10 ^ 9) (60 * 10 ^ 7) && nat_le ((n / 10 ^ 9) * 10 ^ 9 + (10 * (n % 10 ^ 9) + 3) / 6) (most * 10 ^ 9)) ≡ b → IfSome (cond b (Some ((n / 10 ^ 9) * 10 ^ 9 + (10 * (n % 10 ^ 9) + 3) / 6)) None) (λ m. m ≤ 180 * 10 ^ 9)
    by_test true e =
        let tests = and_parts (nat_lt (n % 10 ^ 9) (60 * 10 ^ 7)) (nat_le ((n / 10 ^ 9) * 10 ^ 9 + (10 * (n % 10 ^ 9) + 3) / 6) (most * 10 ^ 9)) e in
        let few : (n / 10 ^ 9) * 10 ^ 9 + (10 * (n % 10 ^ 9) + 3) / 6 ≤ most * 10 ^ 9 = grind (arith, nat_tests, tests.1) in
        omega (arith, few, h)
    by_test false e = tt

side_ranged : (side : Option Bool) (o : Option ℕ) → IfSome o (λ m. m ≤ 180 * 10 ^ 9) → IfSome (on_side side o) (HasNineDigits 9)
side_ranged None o h = tt
side_ranged (Some negative) None h = tt
side_ranged (Some true) (Some zero) h = omega arith
side_ranged (Some true) (Some (suc n)) h = omega (arith, h)
side_ranged (Some false) (Some n) h = omega (arith, h)

both_ranged : (lat lon : Option ℤ) → IfSome lat (HasNineDigits 9) → IfSome lon (HasNineDigits 9) → IfSome (both lat lon) IsPlace
both_ranged None lon a b = tt
both_ranged (Some lat) None a b = tt
both_ranged (Some lat) (Some lon) a b = (a, b)

position_ranged : (a b c d : List ℕ) → IfSome (position_of a b c d) IsPlace
unfolding position_of latitude_of longitude_of
position_ranged a b c d = both_ranged (latitude_of a b) (longitude_of c d) (side_ranged _ _ (if_then (angle 90) (λ m. m ≤ 180 * 10 ^ 9) (λ n. angle_ranged 90 n (omega arith)) (digits_of 4 7 a))) (side_ranged _ _ (if_then (angle 180) (λ m. m ≤ 180 * 10 ^ 9) (λ n. angle_ranged 180 n (omega arith)) (digits_of 5 7 c)))

valid_ranged : {X : Type 0} (P : X → Type 0) (status : Option Bool) (o : Option X) → IfSome o P → IfSome (where_valid status o) P
valid_ranged P None o h = tt
valid_ranged P (Some true) o h = h
valid_ranged P (Some false) o h = tt

-- satellites of sentences
angle_above : (z : ℤ) → IfSome (within_right_angle z) IsI32
angle_above z = by_test (int_le (negsuc 89) z && int_le z (pos 90)) refl
  where
    by_test : (b : Bool) → (int_le (negsuc 89) z && int_le z (pos 90)) ≡ b → IfSome (cond b (Some z) None) IsI32
    by_test true e = (grind (arith, ints, nat_tests, e), grind (arith, ints, nat_tests, e))
    by_test false e = tt

elevation_ranged : (text : List ℕ) → IfSome (elevation_of text) IsI32
unfolding elevation_of
elevation_ranged text = if_then within_right_angle IsI32 angle_above (scaled 0 text)

placed_of : (system signal : Option ℕ) (text : List ℕ) → IfSome (satellite_of system signal text) IsPlaced
unfolding satellite_of
placed_of system signal text = if_map _ Any IsPlaced (λ id a. record { el_in = elevation_ranged _; az_in = small_number 360 0 _ (omega arith); ss_in = small_number 99 0 _ (omega arith) }) _ (any _)
  where
    Any : ℕ → Type 0
    Any n = Unit {0}

    any : (o : Option ℕ) → IfSome o Any
    any None = tt
    any (Some n) = tt

one_placed : (o : Option Satellite) (xs : List Satellite) → IfSome o IsPlaced → AllByRecursion IsPlaced xs → AllByRecursion IsPlaced (option_to_list o ++ xs)
one_placed None xs h all = all
one_placed (Some s) xs h all = (h, all)

all_placed : (n : ℕ) (system signal : Option ℕ) (text : List ℕ) → AllByRecursion IsPlaced (satellites_in n system signal text)
unfolding satellites_in
all_placed zero system signal text = tt
all_placed (suc n) system signal text = one_placed (satellite_of system signal text) (satellites_in n system signal _) (placed_of system signal text) (all_placed n system signal _)

gsv_placed : (system : Option ℕ) (text : List ℕ) → AllByRecursion IsPlaced (satellites_of system text)
unfolding satellites_of
gsv_placed system text = all_placed _ system _ text

-- a sentence without a list
valid_by_ranged : {X : Type 0} (P : X → Type 0) (status : StatusField) (text : List ℕ) (o : Option X) → IfSome o P → IfSome (where_valid_by status text o) P
valid_by_ranged P Unstated text o h = h
valid_by_ranged P status text o h = valid_ranged P (status_in status text) o h

quantity_ranged : {X : Type 0} (P : X → Type 0) (reading : List ℕ → Option X) → ((field : List ℕ) → IfSome (reading field) P)
    → (k : Option ℕ) (status : StatusField) (text : List ℕ) → IfSome (quantity_in reading k status text) P
quantity_ranged P reading h None status text = tt
quantity_ranged P reading h (Some k) status text = valid_by_ranged P status text (reading (field_at k text)) (h (field_at k text))

position_in_ranged : (k : Option ℕ) (status : StatusField) (text : List ℕ) → IfSome (position_in k status text) IsPlace
position_in_ranged None status text = tt
position_in_ranged (Some k) status text =
    valid_by_ranged IsPlace status text (position_of (field_at k text) (field_at (k + 1) text) (field_at (k + 2) text) (field_at (k + 3) text)) (position_ranged _ _ _ _)

plain_ranged : (row : FieldNumbers) (text : List ℕ) → IsRanged (plain_note row text)
unfolding plain_note timed
plain_ranged row text = record {
  position_in = position_in_ranged row.position row.status text;
  alt_hae_in = tt;
  alt_msl_in = quantity_ranged (HasNineDigits 3) height_of (λ field. scaled_ranged 3 field) row.alt_msl row.status text;
  geoid_sep_in = quantity_ranged (HasNineDigits 3) height_of (λ field. scaled_ranged 3 field) row.geoid_sep row.status text;
  track_in = quantity_ranged (HasNineDigits 4) track_of track_ranged row.track row.status text;
  speed_in = quantity_ranged (HasNineDigits 3) speed_of speed_ranged row.speed row.status text;
  climb_in = tt;
  pdop_in = tt;
  hdop_in = quantity_ranged IsU32 dilution_of (λ field. small_number 9_999 2 field (omega arith)) row.hdop row.status text;
  vdop_in = tt;
  sats_in = tt;
}

gsv_ranged : (talker text : List ℕ) → IsRanged (gsv talker text)
unfolding gsv
gsv_ranged talker text = record { position_in = tt; alt_hae_in = tt; alt_msl_in = tt; geoid_sep_in = tt; track_in = tt; speed_in = tt; climb_in = tt; pdop_in = tt; hdop_in = tt; vdop_in = tt; sats_in = gsv_placed _ _ }

gsa_ranged : (text : List ℕ) → IsRanged (gsa text)
unfolding gsa
gsa_ranged text = record { position_in = tt; alt_hae_in = tt; alt_msl_in = tt; geoid_sep_in = tt; track_in = tt; speed_in = tt; climb_in = tt; pdop_in = small_number 9_999 2 _ (omega arith); hdop_in = small_number 9_999 2 _ (omega arith); vdop_in = small_number 9_999 2 _ (omega arith); sats_in = tt }

-- what each kind of sentence says is in range, so what is found among them is
contents_ranged : (contents : Contents) (talker text : List ℕ) → IsRanged (said_with contents talker text).note
contents_ranged (SingleFields row) talker text = plain_ranged row text
contents_ranged UsedSatellites talker text = gsa_ranged text
contents_ranged SeenSatellites talker text = gsv_ranged talker text

either_ranged : (b : Bool) (this rest : Said) → IsRanged this.note → IsRanged rest.note → IsRanged (cond b this rest).note
either_ranged true this rest first second = first
either_ranged false this rest first second = second

said_ranged : (kinds : List SentenceKind) (name talker text : List ℕ) → IsRanged (said_among kinds name talker text).note
said_ranged [] name talker text = empty_ranged Other
said_ranged (kind ∷ kinds) name talker text =
    either_ranged (bytes_eq name kind.name) (said_with kind.contents talker text) (said_among kinds name talker text)
    (contents_ranged kind.contents talker text) (said_ranged kinds name talker text)

ranged_at : (address text : List ℕ) → IsRanged (said_at address text).note
ranged_at address text =
    either_ranged (is_address address) (said_by (drop 2 address) (take 2 address) text) (plainly (empty_note Other))
    (said_ranged sentence_kinds (drop 2 address) (take 2 address) text) (empty_ranged Other)

pub sentence_ranged : (sentence : List ℕ) → IsRanged (sentence_note sentence)
unfolding sentence_note body_note
sentence_ranged sentence = ranged_at (address_of (body_of sentence)) (fields_of (body_of sentence))

pub sentence_fits : (sentence : List ℕ) → Fits (sentence_note sentence)
unfolding sentence_note
sentence_fits sentence =
    let read : Result Note ℕ = Ok (body_note (body_of sentence)) in
    result_fits (body_of sentence) read refl

-- ---- frames
byte_at : (xs : List ℕ) (k : ℕ) → list_all is_byte xs ≡ true → get_or xs k 0 < 256
byte_at [] k all = omega arith
byte_at (x ∷ xs) zero all = ltb-true x 256 (and_parts (is_byte x) (list_all is_byte xs) all).0
byte_at (x ∷ xs) (suc k) all = byte_at xs k (and_parts (is_byte x) (list_all is_byte xs) all).1

split_bytes : (n : ℕ) (xs : List ℕ) → list_all is_byte xs ≡ true → (list_all is_byte (take n xs) ≡ true) × (list_all is_byte (drop n xs) ≡ true)
split_bytes zero xs all = (refl, all)
split_bytes (suc n) [] all = (refl, refl)
split_bytes (suc n) (x ∷ xs) all =
    let parts = and_parts (is_byte x) (list_all is_byte xs) all in
    let more = split_bytes n xs parts.1 in
    (and_from (is_byte x) (list_all is_byte (take n xs)) parts.0 more.0, more.1)

signed_small : (n : ℕ) → n < 2 ^ 32 → unsigned_abs (cast_signed w32 n) ≤ 2 ^ 31
signed_small n h = omega (arith, ints, h)

four_bytes : (xs : List ℕ) (k : ℕ) → list_all is_byte xs ≡ true → unsigned_abs (i4_at xs k) ≤ 2 ^ 31
four_bytes xs k all =
    let a = byte_at xs k all in
    let b = byte_at xs (k + 1) all in
    let c = byte_at xs (k + 2) all in
    let d = byte_at xs (k + 3) all in
    let small : u4_at xs k < 2 ^ 32 = omega arith in
    signed_small (u4_at xs k) small

two_bytes : (xs : List ℕ) (k : ℕ) → list_all is_byte xs ≡ true → IsU32 (u2_at xs k)
two_bytes xs k all =
    let a = byte_at xs k all in
    let b = byte_at xs (k + 1) all in
    omega arith

in_ranged : {X : Type 0} (P : X → Type 0) (mode : ℕ) (o : Option X) → IfSome o P → IfSome (in_fix mode o) P
in_ranged P mode o h = by_mode (mode == 1)
  where
    by_mode : (b : Bool) → IfSome (cond b None o) P
    by_mode true = tt
    by_mode false = h

place_ranged : (lat lon : ℤ) → IfSome (motion.position_of lat lon) IsPlace
unfolding motion.position_of
place_ranged lat lon = by_test (nat_le (unsigned_abs lat) 900_000_000 && nat_le (unsigned_abs lon) 1_800_000_000) refl
  where
    by_test : (b : Bool) → (nat_le (unsigned_abs lat) 900_000_000 && nat_le (unsigned_abs lon) 1_800_000_000) ≡ b → IfSome (cond b (Some (record { lat = pos 100 *ℤ lat; lon = pos 100 *ℤ lon })) None) IsPlace
    by_test false e = tt
    by_test true e =
        let tests = and_parts (nat_le (unsigned_abs lat) 900_000_000) (nat_le (unsigned_abs lon) 1_800_000_000) e in
        let low : unsigned_abs lat ≤ 900_000_000 = grind (arith, nat_tests, tests.0) in
        let high : unsigned_abs lon ≤ 1_800_000_000 = grind (arith, nat_tests, tests.1) in
        (omega (arith, low, unsigned_abs-mul (pos 100) lat), omega (arith, high, unsigned_abs-mul (pos 100) lon))

speed_small : (z : ℤ) → unsigned_abs z ≤ 2 ^ 31 → IfSome (motion.speed_of z) (HasNineDigits 3)
unfolding motion.speed_of
speed_small (pos n) h = omega (arith, h)
speed_small (negsuc n) h = tt

tenth : (n : ℕ) → nearest (pos n) (pos 1) (pos 10) ≡ pos ((2 * n + 10) / 20)
tenth n = omega (arith, ints)

tenth_ranged : (n : ℕ) → n ≤ 36_000_000 → HasNineDigits 4 (nearest (pos n) (pos 1) (pos 10))
tenth_ranged n h = subst (HasNineDigits 4) (sym (tenth n)) (omega (arith, h))

course_ranged : (z : ℤ) → IfSome (motion.track_of z) (HasNineDigits 4)
unfolding motion.track_of
course_ranged (pos n) = by_test (nat_le n 36_000_000) refl
  where
    by_test : (b : Bool) → nat_le n 36_000_000 ≡ b → IfSome (cond b (Some (nearest (pos n) (pos 1) (pos 10))) None) (HasNineDigits 4)
    by_test false e = tt
    by_test true e = tenth_ranged n (grind (arith, nat_tests, e))
course_ranged (negsuc n) = by_test (nat_le (suc n) 18_000_000) refl
  where
    by_test : (b : Bool) → nat_le (suc n) 18_000_000 ≡ b → IfSome (cond b (Some (nearest (negsuc n +ℤ pos 36_000_000) (pos 1) (pos 10))) None) (HasNineDigits 4)
    by_test false e = tt
    by_test true e =
        let low : suc n ≤ 18_000_000 = grind (arith, nat_tests, e) in
        let around : negsuc n +ℤ pos 36_000_000 ≡ pos (36_000_000 - suc n) = omega (arith, ints, low) in
        subst (λ z. HasNineDigits 4 (nearest z (pos 1) (pos 10))) (sym around) (tenth_ranged (36_000_000 - suc n) (omega arith))

height_small : (z : ℤ) → unsigned_abs z ≤ 2 ^ 31 → HasNineDigits 3 z
height_small z h = omega (arith, h)

difference_small : (a b : ℤ) → unsigned_abs a ≤ 2 ^ 31 → unsigned_abs b ≤ 2 ^ 31 → HasNineDigits 3 (a -ℤ b)
difference_small a b h k = let small : unsigned_abs (a -ℤ b) ≤ 2 ^ 32 = omega (arith, ints, h, k) in omega (arith, small)

turned_small : (z : ℤ) → unsigned_abs z ≤ 2 ^ 31 → HasNineDigits 3 (neg_ℤ z)
turned_small (pos zero) h = omega arith
turned_small (pos (suc n)) h = omega (arith, h)
turned_small (negsuc n) h = omega (arith, h)

pvt_ranged : (payload : List ℕ) → list_all is_byte payload ≡ true → IsRanged (pvt_note payload)
unfolding pvt_note
pvt_ranged payload all =
    let height = four_bytes payload 32 all in
    let height_msl = four_bytes payload 36 all in
    record {
      position_in = in_ranged IsPlace _ _ (place_ranged _ _);
      alt_hae_in = in_ranged (HasNineDigits 3) _ (Some (i4_at payload 32)) (height_small (i4_at payload 32) height);
      alt_msl_in = in_ranged (HasNineDigits 3) _ (Some (i4_at payload 36)) (height_small (i4_at payload 36) height_msl);
      geoid_sep_in = in_ranged (HasNineDigits 3) _ (Some (i4_at payload 32 -ℤ i4_at payload 36)) (difference_small (i4_at payload 32) (i4_at payload 36) height height_msl);
      track_in = in_ranged (HasNineDigits 4) _ _ (course_ranged _);
      speed_in = in_ranged (HasNineDigits 3) _ _ (speed_small (i4_at payload 60) (four_bytes payload 60 all));
      climb_in = in_ranged (HasNineDigits 3) _ (Some (neg_ℤ (i4_at payload 56))) (turned_small (i4_at payload 56) (four_bytes payload 56 all));
      pdop_in = two_bytes payload 76 all;
      hdop_in = tt;
      vdop_in = tt;
      sats_in = tt;
    }

right_angle : (z : ℤ) → IfSome (sat.elevation_of z) IsI32
unfolding sat.elevation_of
right_angle z = by_test (nat_le (unsigned_abs z) 90) refl
  where
    by_test : (b : Bool) → nat_le (unsigned_abs z) 90 ≡ b → IfSome (cond b (Some z) None) IsI32
    by_test false e = tt
    by_test true e = let few : unsigned_abs z ≤ 90 = grind (arith, nat_tests, e) in (omega (arith, ints, few), omega (arith, ints, few))

full_circle : (z : ℤ) → IfSome (sat.azimuth_of z) IsU32
unfolding sat.azimuth_of
full_circle (negsuc n) = tt
full_circle (pos n) = by_test (nat_le n 360) refl
  where
    by_test : (b : Bool) → nat_le n 360 ≡ b → IfSome (cond b (Some n) None) IsU32
    by_test false e = tt
    by_test true e = let few : n ≤ 360 = grind (arith, nat_tests, e) in omega (arith, few)

group_placed : (group : List ℕ) → list_all is_byte group ≡ true → IsPlaced (sat.satellite_of group)
unfolding sat.satellite_of
group_placed group all = record { el_in = right_angle _; az_in = full_circle _; ss_in = let b = byte_at group 2 all in omega (arith, b) }

groups_placed : (n : ℕ) (groups : List ℕ) → list_all is_byte groups ≡ true → AllByRecursion IsPlaced (sat.satellites_of n groups)
unfolding sat.satellites_of
groups_placed zero groups all = tt
groups_placed (suc n) groups all = let parts = split_bytes 12 groups all in (group_placed (take 12 groups) parts.0, groups_placed n (drop 12 groups) parts.1)

message_ranged : (kind : NoteKind) (payload : List ℕ) → list_all is_byte payload ≡ true → IsRanged (note_by_kind kind payload)
unfolding dop_note sat_note
message_ranged Pvt payload all = pvt_ranged payload all
message_ranged Sat payload all = record { position_in = tt; alt_hae_in = tt; alt_msl_in = tt; geoid_sep_in = tt; track_in = tt; speed_in = tt; climb_in = tt; pdop_in = tt; hdop_in = tt; vdop_in = tt; sats_in = groups_placed _ (drop 8 payload) (split_bytes 8 payload all).1 }
message_ranged Dop payload all = record { position_in = tt; alt_hae_in = tt; alt_msl_in = tt; geoid_sep_in = tt; track_in = tt; speed_in = tt; climb_in = tt; pdop_in = two_bytes payload 6 all; hdop_in = two_bytes payload 12 all; vdop_in = two_bytes payload 10 all; sats_in = tt }
message_ranged kind payload all = empty_ranged kind

pub frame_ranged : (frame : List ℕ) → list_all is_byte frame ≡ true → IsRanged (note_of frame)
unfolding note_of
frame_ranged frame all = message_ranged _ (payload_of frame) (split_bytes (length frame - 8) (drop 6 frame) (split_bytes 6 frame all).1).0

-- a satellite of a note is one that a line can say
abbrev named : ℕ → Option (ℕ × ℕ) → Option ℕ → Bool
named prn gnss signal =
    (is_id prn && where_given (λ g. is_named_system g.0 && nat_eq g.1 prn) gnss && where_given (λ n. nat_le n 15) signal)
    || (is_some gnss && where_given (λ g. nat_le g.0 255 && nat_le g.1 255 && nat_eq prn (g.1 + 100 * g.0)) gnss && is_none signal)

record IsNamed (prn : ℕ) (gnss : Option (ℕ × ℕ)) (signal : Option ℕ) : Type 0 where
  prn_in : IsU32 prn
  gnss_in : IfSome gnss (λ g. IsU8 g.0 × IsU16 g.1)
  signal_in : IfSome signal IsU8

is_named : (prn : ℕ) (gnss : Option (ℕ × ℕ)) (signal : Option ℕ) → named prn gnss signal ≡ true → IsNamed prn gnss signal
is_named prn None None h = record { prn_in = grind (arith, nat_tests, h); gnss_in = tt; signal_in = tt }
is_named prn None (Some n) h = record { prn_in = grind (arith, nat_tests, h); gnss_in = tt; signal_in = grind (arith, nat_tests, h) }
is_named prn (Some g) None h = record { prn_in = grind (arith, nat_tests, h); gnss_in = (grind (arith, nat_tests, h), grind (arith, nat_tests, h)); signal_in = tt }
is_named prn (Some g) (Some n) h = record { prn_in = grind (arith, nat_tests, h); gnss_in = (grind (arith, nat_tests, h), grind (arith, nat_tests, h)); signal_in = grind (arith, nat_tests, h) }

pub sat_of : (s : Satellite) → is_satellite s ≡ true → IsPlaced s → IsSatellite s
sat_of s h p =
    let n = is_named s.prn s.gnss s.signal h in
    record { prn_in = n.prn_in; el_in = p.el_in; az_in = p.az_in; ss_in = p.ss_in; gnss_in = n.gnss_in; signal_in = n.signal_in }
