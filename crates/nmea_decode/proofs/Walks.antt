-- Walks over fields: one turn of each loop, and its end.
use Rattle.std.proofs.Common.{◌≡◌, ℕ, zero, suc, ◌-◌, ◌<◌, ◌≤◌, refl, sym, ap, ◌∙◌, subst, arith, List, ◌++◌, Option, Result, Ok, Err, OnErr, length, append_assoc, append-nil, length-append}
use Rattle.std.specs.Option.{option_to_list}
use Rattle.gps_report.specs.declared.satellite.Satellite.{Satellite}
use Rattle.nmea_decode.specs.Fields.{behind, field, skipped}
use Rattle.nmea_decode.specs.Readings.{id_of}
use Rattle.nmea_decode.specs.Satellites.{satellite_of, satellites_in, ids_in}

one_less : (k : ℕ) → suc k - 1 ≡ k
one_less k = omega arith

pub skipped_turn : (n : ℕ) (rest next all : List ℕ) → 0 < n → next ≡ behind rest → skipped n rest ≡ all → skipped (n - 1) next ≡ all
skipped_turn zero rest next all some step is = absurd (omega (arith, some))
skipped_turn (suc k) rest next all some step is = ap (λ j. skipped j next) (one_less k) ∙ ap (skipped k) step ∙ is

pub skipped_all : (n : ℕ) (rest all : List ℕ) → n ≡ 0 → skipped n rest ≡ all → rest ≡ all
skipped_all n rest all done is = ap (λ j. skipped j rest) (sym done) ∙ is

-- the satellites that were read and those that are still to be read are all
pub record GroupsSoFar (left groups : ℕ) (system signal : Option ℕ) (rest : List ℕ) (sats all : List Satellite) : Type 0 where
  pub within : left ≤ groups
  pub read : sats ++ satellites_in left system signal rest ≡ all

more_satellites : (n : ℕ) (system signal : Option ℕ) (rest next : List ℕ) (sats more all : List Satellite)
    → 0 < n → next ≡ skipped 4 rest → more ≡ sats ++ option_to_list (satellite_of system signal rest)
    → sats ++ satellites_in n system signal rest ≡ all → more ++ satellites_in (n - 1) system signal next ≡ all
unfolding satellites_in
more_satellites zero system signal rest next sats more all some step pushed is = absurd (omega (arith, some))
more_satellites (suc k) system signal rest next sats more all some step pushed is =
    ap (λ j. more ++ satellites_in j system signal next) (one_less k)
    ∙ ap (λ t. more ++ satellites_in k system signal t) step
    ∙ ap (λ m. m ++ satellites_in k system signal (skipped 4 rest)) pushed
    ∙ append_assoc sats (option_to_list (satellite_of system signal rest)) (satellites_in k system signal (skipped 4 rest))
    ∙ is

pub groups_turn : (n groups : ℕ) (system signal : Option ℕ) (rest next : List ℕ) (sats more all : List Satellite)
    → 0 < n → next ≡ skipped 4 rest → more ≡ sats ++ option_to_list (satellite_of system signal rest)
    → GroupsSoFar n groups system signal rest sats all → GroupsSoFar (n - 1) groups system signal next more all
groups_turn n groups system signal rest next sats more all some step pushed so = record {
  within = omega (arith, so.within);
  read = more_satellites n system signal rest next sats more all some step pushed so.read;
}

pub groups_all : (n groups : ℕ) (system signal : Option ℕ) (rest : List ℕ) (sats all : List Satellite)
    → n ≡ 0 → GroupsSoFar n groups system signal rest sats all → sats ≡ all
unfolding satellites_in
groups_all n groups system signal rest sats all done so =
    sym (append-nil sats) ∙ ap (λ j. sats ++ satellites_in j system signal rest) (sym done) ∙ so.read

-- the ids that were read and those that are still to be read are all, and what follows them is the rest
pub record IdsSoFar (left : ℕ) (rest ids all behind_all : List ℕ) : Type 0 where
  pub read : ids ++ ids_in left rest ≡ all
  pub skips : skipped left rest ≡ behind_all

pub ids_begin : (n : ℕ) (text ids : List ℕ) → IdsSoFar n text ids (ids ++ ids_in n text) (skipped n text)
ids_begin n text ids = record { read = refl; skips = refl }

more_ids : (n : ℕ) (rest next : List ℕ) (ids more all : List ℕ)
    → 0 < n → next ≡ behind rest → more ≡ ids ++ option_to_list (id_of (field rest))
    → ids ++ ids_in n rest ≡ all → more ++ ids_in (n - 1) next ≡ all
unfolding ids_in
more_ids zero rest next ids more all some step pushed is = absurd (omega (arith, some))
more_ids (suc k) rest next ids more all some step pushed is =
    ap (λ j. more ++ ids_in j next) (one_less k)
    ∙ ap (λ t. more ++ ids_in k t) step
    ∙ ap (λ m. m ++ ids_in k (behind rest)) pushed
    ∙ append_assoc ids (option_to_list (id_of (field rest))) (ids_in k (behind rest))
    ∙ is

pub ids_turn : (n : ℕ) (rest next : List ℕ) (ids more all behind_all : List ℕ)
    → 0 < n → next ≡ behind rest → more ≡ ids ++ option_to_list (id_of (field rest))
    → IdsSoFar n rest ids all behind_all → IdsSoFar (n - 1) next more all behind_all
ids_turn n rest next ids more all behind_all some step pushed so = record {
  read = more_ids n rest next ids more all some step pushed so.read;
  skips = skipped_turn n rest next behind_all some step so.skips;
}

pub ids_all : (n : ℕ) (rest ids all behind_all : List ℕ) → n ≡ 0 → IdsSoFar n rest ids all behind_all → (ids ≡ all) × (rest ≡ behind_all)
unfolding ids_in
ids_all n rest ids all behind_all done so = (
  sym (append-nil ids) ∙ ap (λ j. ids ++ ids_in j rest) (sym done) ∙ so.read,
  skipped_all n rest behind_all done so.skips,
)

-- if a field that is still to be read is readable, all ids are one at least
some_length : (n : ℕ) (rest ids all : List ℕ) → 0 < n → 0 < length (option_to_list (id_of (field rest))) → ids ++ ids_in n rest ≡ all → 0 < length all
unfolding ids_in
some_length zero rest ids all some readable is = absurd (omega (arith, some))
some_length (suc k) rest ids all some readable is =
    let whole = ap length (sym is) in
    let parts = length-append ids (option_to_list (id_of (field rest)) ++ ids_in k (behind rest)) in
    let last = length-append (option_to_list (id_of (field rest))) (ids_in k (behind rest)) in
    omega (arith, readable, whole, parts, last)

-- what is known in any case is known of an error
pub told : {T E P : Type 0} (result : Result T E) → P → OnErr result P
told (Ok value) known = tt
told (Err error) known = known

pub some_ids : (n : ℕ) (rest ids all behind_all : List ℕ) (id : Option ℕ)
    → 0 < n → id ≡ id_of (field rest) → 0 < length (option_to_list id) → IdsSoFar n rest ids all behind_all → 0 < length all
some_ids n rest ids all behind_all id some is readable so =
    some_length n rest ids all some (subst (λ o. 0 < length (option_to_list o)) is readable) so.read
