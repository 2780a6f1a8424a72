-- Every note of a sentence keeps the ranges of its fields.
use Rattle.std.proofs.Common.{◌≡◌, ℕ, zero, suc, ◌+◌, ◌*◌, ◌/◌, ◌%◌, ◌^◌, ◌<◌, ◌≤◌, refl, sym, ap, ◌∙◌, Bool, true, false, cond, ◌&&◌, ◌||◌, ◌==◌, nat_eq, nat_le, arith, List, [], ◌∷◌, ◌++◌, take, drop, Option, Some, None, IfSome, IfOk, Result, Ok, Err, ℤ, pos, negsuc, ◌-◌, subst, eq-eqb}
use Rattle.std.proofs.lemmas.Bool.Decides.{nat_tests}
use Rattle.std.specs.Option.{option_map, option_and_then, option_to_list}
use Rattle.std.specs.List.{list_all}
use Rattle.std.specs.Str.{bytes_eq}
use Rattle.gps_fixed.specs.Scaled.{scaled, digits_of}
use Rattle.gps_report.specs.Fits.{Fits, where_given, is_tod, is_day, is_dim, is_named_system, is_id, is_satellite}
use Rattle.gps_report.specs.Note.{empty_note}
use Rattle.gps_report.specs.declared.note.Note.{Note}
use Rattle.gps_report.specs.declared.note.NoteKind.{NoteKind}
use Rattle.gps_report.specs.declared.note.NoteKind.TheVariants.{Other}
use Rattle.nmea_frame.specs.Sentence.{hex_value}
use Rattle.nmea_decode.specs.Fields.{behind, field, field_count, field_at, address_of, fields_of, skipped}
use Rattle.nmea_decode.specs.Kinds.{dim_of, is_address, stated_system, talker_system}
use Rattle.nmea_decode.specs.Notes.{Said, Contents, SingleFields, UsedSatellites, SeenSatellites, SentenceKind, FieldNumbers, DateField, ShortDate, LongDate, NoDate, day_in, time_in, plain_note, timed, gsa, gsv, plainly, sentence_kinds, said_among, said_at, said_by, said_with, body_note}
use Rattle.nmea_decode.specs.Readings.{above_nought, clock, date_from, date_of, dated, day_with, days_passed, full_year, id_of, later_by, long_date_of, number_up_to, plain_number, time_of, tod_of, up_to, IsOfCentury}
use Rattle.nmea_decode.specs.Satellites.{ids_in, satellite_of, satellites_in, satellites_of, signal_in, signal_of}
use Rattle.nmea_decode.proofs.Days.{day_within}

tod_fits : (time : Option ℕ) → where_given is_tod (tod_of time) ≡ true
tod_fits None = refl
tod_fits (Some t) = grind (arith, nat_tests)

-- a time is less than two days
pub record IsShort (time : Option ℕ) : Type 0 where
  pub passed : days_passed time ≤ 1

within_clock : (h m s f : ℕ) (b : Bool) → nat_le h 23 && nat_le m 59 && nat_le s 60 ≡ b → f < 10 ^ 9 → IsShort (cond b (Some ((h * 3600 + m * 60 + s) * 10 ^ 9 + f)) None)
within_clock h m s f false e below = record { passed = omega arith }
within_clock h m s f true e below =
    let few : h * 3600 + m * 60 + s ≤ 86_400 = grind (arith, nat_tests, e) in
    record { passed = omega (arith, few, below) }

clock_is_short : (n : ℕ) → IsShort (clock n)
clock_is_short n =
    let below : n % 10 ^ 9 < 10 ^ 9 = omega arith in
    within_clock (n / 10 ^ 9 / 10_000) (n / 10 ^ 9 / 100 % 100) (n / 10 ^ 9 % 100) (n % 10 ^ 9) _ refl below

read_is_short : (read : Option ℕ) → IsShort (option_and_then clock read)
read_is_short None = record { passed = omega arith }
read_is_short (Some n) = clock_is_short n

time_is_short : (text : List ℕ) → IsShort (time_of text)
unfolding time_of
time_is_short text = read_is_short (digits_of 6 9 text)

later_fits : (days : ℕ) (day : ℤ) → days ≤ 1 → IsOfCentury day → is_day (later_by days day) ≡ true
later_fits days (pos n) few of = grind (arith, nat_tests, few, of.to)
later_fits days (negsuc n) few of = absurd (omega (arith, of.from))

day_fits : (time : Option ℕ) (day : Option ℤ) → IsShort time → IfSome day IsOfCentury → where_given is_day (day_with time day) ≡ true
day_fits time None short of = refl
day_fits time (Some day) short of = later_fits (days_passed time) day short.passed of

dated_of : (n : Option ℕ) → IfSome (option_and_then dated n) IsOfCentury
dated_of None = tt
dated_of (Some n) = day_within (pos (full_year (n % 100))) (n / 100 % 100) (n / 10_000)

date_within : (text : List ℕ) → IfSome (date_of text) IsOfCentury
unfolding date_of
date_within text = dated_of (plain_number 6 text)

from_within : (year month day : Option ℕ) → IfSome (date_from year month day) IsOfCentury
from_within None month day = tt
from_within (Some y) None day = tt
from_within (Some y) (Some m) None = tt
from_within (Some y) (Some m) (Some d) = day_within (pos y) m d

long_date_within : (day month year : List ℕ) → IfSome (long_date_of day month year) IsOfCentury
unfolding long_date_of
long_date_within day month year = from_within (plain_number 4 year) (number_up_to 12 0 month) (number_up_to 31 0 day)

-- one of two, three or four values
one_of_3 : (a b c : Bool) → where_given is_dim (cond a (Some 1) (cond b (Some 2) (cond c (Some 3) None))) ≡ true
one_of_3 true b c = refl
one_of_3 false true c = refl
one_of_3 false false true = refl
one_of_3 false false false = refl

dim_fits : (text : List ℕ) → where_given is_dim (dim_of text) ≡ true
unfolding dim_of
dim_fits text = one_of_3 _ _ _

one_of_4 : (a b c d : Bool) → where_given is_named_system (cond a (Some 0) (cond b (Some 6) (cond c (Some 2) (cond d (Some 3) None)))) ≡ true
one_of_4 true b c d = refl
one_of_4 false true c d = refl
one_of_4 false false true d = refl
one_of_4 false false false true = refl
one_of_4 false false false false = refl

stated_fits : (text : List ℕ) → where_given is_named_system (stated_system text) ≡ true
unfolding stated_system
stated_fits text = one_of_4 _ _ _ _

talker_fits : (talker : List ℕ) → where_given is_named_system (talker_system talker) ≡ true
unfolding talker_system
talker_fits talker = one_of_4 _ _ _ _

-- ids
up_to_within : (most : ℕ) (z : ℤ) → IfSome (up_to most z) (λ n. n ≤ most)
up_to_within most (pos n) = by_le (nat_le n most) refl
  where
    by_le : (b : Bool) → nat_le n most ≡ b → IfSome (cond b (Some n) None) (λ k. k ≤ most)
    by_le true e = grind (arith, nat_tests, e)
    by_le false e = tt
up_to_within most (negsuc n) = tt

nought_dropped : (n : ℕ) → n ≤ 999 → where_given is_id (above_nought n) ≡ true
nought_dropped zero few = refl
nought_dropped (suc n) few = grind (arith, nat_tests, few)

id_read : (read : Option ℕ) → IfSome read (λ n. n ≤ 999) → where_given is_id (option_and_then above_nought read) ≡ true
id_read None few = refl
id_read (Some n) few = nought_dropped n few

number_read : (read : Option ℤ) → IfSome (option_and_then (up_to 999) read) (λ n. n ≤ 999)
number_read None = tt
number_read (Some z) = up_to_within 999 z

id_fits : (text : List ℕ) → where_given is_id (id_of text) ≡ true
unfolding id_of number_up_to
id_fits text = id_read (option_and_then (up_to 999) (scaled 0 text)) (number_read (scaled 0 text))

one_passes : {X : Type 0} (test : X → Bool) (o : Option X) (xs : List X) → where_given test o ≡ true → list_all test xs ≡ true → list_all test (option_to_list o ++ xs) ≡ true
one_passes test None xs one all = all
one_passes test (Some x) xs one all = ap (λ b. b && list_all test xs) one ∙ all

ids_fit : (n : ℕ) (text : List ℕ) → list_all is_id (ids_in n text) ≡ true
unfolding ids_in
ids_fit zero text = refl
ids_fit (suc n) text = one_passes is_id (id_of (field text)) (ids_in n (behind text)) (id_fits (field text)) (ids_fit n (behind text))

-- satellites
abbrev is_signal : ℕ → Bool
is_signal n = nat_le n 15

both : (a b : Bool) → a ≡ true → b ≡ true → (a && b) ≡ true
both true b one two = two
both false b one two = one

either : (a b : Bool) → a ≡ true → (a || b) ≡ true
either true b one = refl
either false b one = absurd (cc)

system_fits : (system : Option ℕ) (n : ℕ) → where_given is_named_system system ≡ true
    → where_given (λ (g : ℕ × ℕ). is_named_system g.0 && nat_eq g.1 n) (option_map (λ g. (g, n)) system) ≡ true
system_fits None n named = refl
system_fits (Some g) n named = both (is_named_system g) (nat_eq n n) named (eq-eqb n n refl)

one_satellite : (system signal : Option ℕ) (n : ℕ) (el : Option ℤ) (az ss : Option ℕ)
    → where_given is_named_system system ≡ true → where_given is_signal signal ≡ true → is_id n ≡ true
    → is_satellite (record { prn = n; el = el; az = az; ss = ss; used = false; gnss = option_map (λ g. (g, n)) system; signal = signal }) ≡ true
one_satellite system signal n el az ss named low id =
    either _ _ (both _ _ (both _ _ id (system_fits system n named)) low)

read_satellite : (system signal : Option ℕ) (id : Option ℕ) (el : Option ℤ) (az ss : Option ℕ)
    → where_given is_named_system system ≡ true → where_given is_signal signal ≡ true → where_given is_id id ≡ true
    → where_given is_satellite (option_map (λ n. record { prn = n; el = el; az = az; ss = ss; used = false; gnss = option_map (λ g. (g, n)) system; signal = signal }) id) ≡ true
read_satellite system signal None el az ss named low good = refl
read_satellite system signal (Some n) el az ss named low good = one_satellite system signal n el az ss named low good

satellite_fits : (system signal : Option ℕ) (text : List ℕ)
    → where_given is_named_system system ≡ true → where_given is_signal signal ≡ true → where_given is_satellite (satellite_of system signal text) ≡ true
unfolding satellite_of
satellite_fits system signal text named low = read_satellite system signal (id_of (field_at 1 text)) _ _ _ named low (id_fits (field_at 1 text))

satellites_fit : (n : ℕ) (system signal : Option ℕ) (text : List ℕ)
    → where_given is_named_system system ≡ true → where_given is_signal signal ≡ true → list_all is_satellite (satellites_in n system signal text) ≡ true
unfolding satellites_in
satellites_fit zero system signal text named low = refl
satellites_fit (suc n) system signal text named low =
    one_passes is_satellite (satellite_of system signal text) (satellites_in n system signal (skipped 4 text))
    (satellite_fits system signal text named low) (satellites_fit n system signal (skipped 4 text) named low)

-- a signal id
digit_low : (a b c : Bool) (k l m : ℕ) → (a ≡ true → k ≤ 15) → (b ≡ true → l ≤ 15) → (c ≡ true → m ≤ 15)
    → where_given is_signal (cond a (Some k) (cond b (Some l) (cond c (Some m) None))) ≡ true
digit_low true b c k l m x y z = grind (arith, nat_tests, x refl)
digit_low false true c k l m x y z = grind (arith, nat_tests, y refl)
digit_low false false true k l m x y z = grind (arith, nat_tests, z refl)
digit_low false false false k l m x y z = refl

hex_low : (c : ℕ) → where_given is_signal (hex_value c) ≡ true
hex_low c =
    digit_low (nat_le 48 c && nat_le c 57) (nat_le 65 c && nat_le c 70) (nat_le 97 c && nat_le c 102) (c - 48) (c - 55) (c - 87)
    (λ h. grind (arith, nat_tests, h)) (λ h. grind (arith, nat_tests, h)) (λ h. grind (arith, nat_tests, h))

digit_in : (text : List ℕ) → where_given is_signal (signal_in text) ≡ true
digit_in [] = refl
digit_in (c ∷ []) = hex_low c
digit_in (c ∷ d ∷ text) = refl

signal_chosen : (b : Bool) (signal : Option ℕ) → where_given is_signal signal ≡ true → where_given is_signal (cond b signal None) ≡ true
signal_chosen true signal low = low
signal_chosen false signal low = refl

signal_low : (text : List ℕ) → where_given is_signal (signal_of text) ≡ true
unfolding signal_of
signal_low text =
    let last = field (skipped (field_count text / 4 * 4) text) in
    signal_chosen (field_count text % 4 == 1) (signal_in last) (digit_in last)

-- the notes
gsv_fits : (talker text : List ℕ) → Fits (gsv talker text)
unfolding gsv satellites_of
gsv_fits talker text = record {
  tod = refl;
  day = refl;
  dim = refl;
  system = refl;
  used = refl;
  sats = satellites_fit _ (talker_system talker) (signal_of (skipped 3 text)) (skipped 3 text) (talker_fits talker) (signal_low (skipped 3 text));
}

gsa_fits : (text : List ℕ) → Fits (gsa text)
unfolding gsa
gsa_fits text = record { tod = refl; day = refl; dim = dim_fits (field_at 2 text); system = stated_fits (field_at 18 text); used = ids_fit 12 (skipped 2 text); sats = refl }

is_short_in : (time : Option ℕ) (text : List ℕ) → IsShort (time_in time text)
is_short_in None text = record { passed = omega arith }
is_short_in (Some k) text = time_is_short (field_at k text)

within_in : (date : DateField) (text : List ℕ) → IfSome (day_in date text) IsOfCentury
within_in (ShortDate k) text = date_within (field_at k text)
within_in (LongDate k) text = long_date_within (field_at k text) (field_at (k + 1) text) (field_at (k + 2) text)
within_in NoDate text = tt

plain_fits : (row : FieldNumbers) (text : List ℕ) → Fits (plain_note row text)
unfolding plain_note timed
plain_fits row text = record {
  tod = tod_fits (time_in row.time text);
  day = day_fits (time_in row.time text) (day_in row.date text) (is_short_in row.time text) (within_in row.date text);
  dim = refl;
  system = refl;
  used = refl;
  sats = refl;
}

empty_fits : (kind : NoteKind) → Fits (empty_note kind)
empty_fits kind = record { tod = refl; day = refl; dim = refl; system = refl; used = refl; sats = refl }

-- what each kind says fits, so what is found among them does
contents_fit : (contents : Contents) (talker text : List ℕ) → Fits (said_with contents talker text).note
contents_fit (SingleFields row) talker text = plain_fits row text
contents_fit UsedSatellites talker text = gsa_fits text
contents_fit SeenSatellites talker text = gsv_fits talker text

either_fits : (b : Bool) (this rest : Said) → Fits this.note → Fits rest.note → Fits (cond b this rest).note
either_fits true this rest first second = first
either_fits false this rest first second = second

said_fits : (kinds : List SentenceKind) (name talker text : List ℕ) → Fits (said_among kinds name talker text).note
said_fits [] name talker text = empty_fits Other
said_fits (kind ∷ kinds) name talker text =
    either_fits (bytes_eq name kind.name) (said_with kind.contents talker text) (said_among kinds name talker text)
    (contents_fit kind.contents talker text) (said_fits kinds name talker text)

fits_at : (address text : List ℕ) → Fits (said_at address text).note
fits_at address text =
    either_fits (is_address address) (said_by (drop 2 address) (take 2 address) text) (plainly (empty_note Other))
    (said_fits sentence_kinds (drop 2 address) (take 2 address) text) (empty_fits Other)

all_fit : (body : List ℕ) (note : Note) → note ≡ body_note body → Fits note
unfolding body_note
all_fit body note is = subst Fits (sym is) (fits_at (address_of body) (fields_of body))

pub result_fits : {E : Type 0} (body : List ℕ) (result : Result Note E) → IfOk result (λ note. note ≡ body_note body) → IfOk result (λ note. Fits note)
result_fits body (Ok note) is = all_fit body note is
result_fits body (Err e) is = tt
