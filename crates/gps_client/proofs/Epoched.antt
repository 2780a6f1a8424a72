-- What the reports of notes say is within the ranges of a line, once their times are cut to milliseconds.
use Rattle.std.proofs.Common.{◌≡◌, ℕ, ◌<◌, ◌≤◌, Bool, true, false, cond, ◌||◌, List, [], ◌∷◌, ◌++◌, reverse, refl, sym, ap, subst, arith, Option, Some, None, pos, ◌≤ℤ◌, IfSome, option_map, option_to_list, unwrap_or, map}
use Rattle.std.specs.Prelude.{nat_eq, is_some}
use Rattle.std.specs.Option.{option_or, option_flatten}
use Rattle.std.specs.List.{list_all, AllByRecursion, filter}
use Rattle.std.proofs.lemmas.Bool.{and_parts, ltb-true, leb-true}
use Rattle.std.proofs.lemmas.Bool.Decides.{nat_tests}
use Rattle.std.proofs.lemmas.Int.{ints}
use Rattle.std.proofs.lemmas.List.{reverse-append}
use Rattle.gps_fixed.specs.Iso.{IsWhole as IsWholeStamp, in_milliseconds}
use Rattle.gps_fixed.specs.Moment.{Moment}
use Rattle.gps_report.specs.declared.report.Body.{Body}
use Rattle.gps_report.specs.declared.report.Body.TheVariants as body
use Rattle.gps_report.specs.declared.satellite.Satellite.{Satellite}
use Rattle.gps_report.specs.Fits.{Fits, is_dim, is_satellite, is_tod, where_given}
use Rattle.epoch_core.specs.declared.days.Days.{Days}
use Rattle.epoch_core.specs.declared.heard.Heard.{Heard}
use Rattle.epoch_core.specs.declared.said.Said.{Said}
use Rattle.epoch_core.specs.declared.used_id.UsedId.{UsedId}
use Rattle.epoch_core.specs.Days.{Dated, dated, day_known, is_known_day, last_tod}
use Rattle.epoch_core.specs.Epochs.{all_closed, all_told, begins, closing, epochs, epochs_of, has_ended, joined, left, reports, running, sky_of, toffs}
use Rattle.epoch_core.specs.Fixes.{fix_of, has_no_fix, mode_of}
use Rattle.epoch_core.specs.Past.{earliest, latest}
use Rattle.epoch_core.specs.Quantities.{said, serial_time, stamped, timed}
use Rattle.epoch_core.specs.Satellites.{all_sats, all_used_ids, firsts, marked, same_satellite, satellites}
use Rattle.epoch_core.specs.Steps.{days_after}
use Rattle.epoch_core.proofs.Low.{days_known}
use Rattle.gps_client.specs.History.{cut_fix, cut_sky, cut_time}
use Rattle.gps_client.specs.Ranges.{HasNineDigits, IsFix, IsMode, IsPair, IsPlace, IsSatellite, IsShort, IsSky, IsStamp, IsU32}
use Rattle.gps_client.proofs.Noted.{IsPlaced, IsRanged, if_map, sat_of}

-- ---- lists
pub all_both : {X : Type 0} (P : X → Type 0) (xs ys : List X) → AllByRecursion P xs → AllByRecursion P ys → AllByRecursion P (xs ++ ys)
all_both P [] ys a b = b
all_both P (x ∷ xs) ys a b = (a.0, all_both P xs ys a.1 b)

pub all_where : {X : Type 0} (P : X → Type 0) (b : Bool) (xs : List X) → AllByRecursion P xs → AllByRecursion P (cond b xs [])
all_where P true xs a = a
all_where P false xs a = tt

pub all_map : {X Y : Type 0} (f : X → Y) (P : X → Type 0) (Q : Y → Type 0) → ((x : X) → P x → Q (f x)) → (xs : List X) → AllByRecursion P xs → AllByRecursion Q (map f xs)
all_map f P Q h [] a = tt
all_map f P Q h (x ∷ xs) a = (h x a.0, all_map f P Q h xs a.1)

all_filter : {X : Type 0} (P : X → Type 0) (test : X → Bool) (xs : List X) → AllByRecursion P xs → AllByRecursion P (filter test xs)
all_filter P test [] a = tt
all_filter {X} P test (x ∷ xs) a = by_test (test x) (all_filter P test xs a.1)
  where
    by_test : (b : Bool) → AllByRecursion P (filter test xs) → AllByRecursion P (cond b (x ∷ filter test xs) (filter test xs))
    by_test true more = (a.0, more)
    by_test false more = more

all_firsts : {X : Type 0} (P : X → Type 0) (same : X → X → Bool) (xs : List X) → AllByRecursion P xs → AllByRecursion P (firsts same xs)
all_firsts P same [] a = tt
all_firsts P same (x ∷ xs) a = (a.0, all_filter P _ (firsts same xs) (all_firsts P same xs a.1))

pub all_reverse : {X : Type 0} (P : X → Type 0) (xs : List X) → AllByRecursion P xs → AllByRecursion P (reverse xs)
all_reverse P [] a = tt
all_reverse P (x ∷ xs) a = subst (AllByRecursion P) (sym (reverse-append (x ∷ []) xs)) (all_both P (reverse xs) (x ∷ []) (all_reverse P xs a.1) (a.0, tt))

-- ---- what was given last, and first
or_in : {X : Type 0} (P : X → Type 0) (a b : Option X) → IfSome a P → IfSome b P → IfSome (option_or a b) P
or_in P None b p q = q
or_in P (Some x) b p q = p

latest_in : {X Y : Type 0} (Q : X → Type 0) (given : X → Option Y) (P : Y → Type 0) → ((x : X) → Q x → IfSome (given x) P) → (xs : List X) → AllByRecursion Q xs → IfSome (latest given xs) P
latest_in Q given P h [] a = tt
latest_in Q given P h (x ∷ xs) a = or_in P (given x) (latest given xs) (h x a.0) (latest_in Q given P h xs a.1)

earliest_in : {X Y : Type 0} (Q : X → Type 0) (given : X → Option Y) (P : Y → Type 0) → ((x : X) → Q x → IfSome (given x) P) → (xs : List X) → AllByRecursion Q xs → IfSome (earliest given xs) P
earliest_in Q given P h [] a = tt
earliest_in Q given P h (x ∷ xs) a = or_in P (earliest given xs) (given x) (earliest_in Q given P h xs a.1) (h x a.0)

-- ---- times
pub record IsLow (at : Moment) : Type 0 where
  pub stamp : IsStamp at
  pub low : at.sec ≤ℤ pos 9_999_999_998

serial_in : (tod day : Option ℕ) → where_given is_tod tod ≡ true → where_given is_known_day day ≡ true → IfSome (serial_time tod day) IsLow
serial_in None day t d = tt
serial_in (Some tod) None t d = tt
serial_in (Some tod) (Some day) t d =
    let few : tod < 86_400_000_000_000 = ltb-true tod 86_400_000_000_000 t in
    let early : day ≤ 47_482 = leb-true day 47_482 d in
    record {
      stamp = record { from = omega (arith, ints); to = omega (arith, ints, few, early); within = omega arith };
      low = omega (arith, ints, few, early);
    }

pub whole_of : (at : Moment) → IsStamp at → IsWholeStamp (in_milliseconds at)
whole_of at is = record {
  stamp = record { from = is.from; to = is.to; within = omega (arith, is.within) };
  whole = ap (λ k. record { sec = at.sec; nsec = k }) (omega arith);
}

pub cut_in : (o : Option Moment) → IfSome o IsStamp → IfSome (cut_time o) IsWholeStamp
cut_in o h = if_map in_milliseconds IsStamp IsWholeStamp whole_of o h

-- ---- epochs
pub record IsGood (d : Dated) : Type 0 where
  pub fits : Fits d.note
  pub ranged : IsRanged d.note
  pub first : IsStamp d.first
  pub day : where_given is_known_day d.day ≡ true

given_if : {X : Type 0} (test : X → Bool) (P : X → Type 0) → ((x : X) → test x ≡ true → P x) → (o : Option X) → where_given test o ≡ true → IfSome o P
given_if test P h None e = tt
given_if test P h (Some x) e = h x e

stamped_in : (d : Dated) → IsGood d → IfSome (stamped d) IsLow
stamped_in d g = serial_in d.note.tod d.day g.fits.tod g.day

timed_in : (d : Dated) → IsGood d → IfSome (timed d) (λ o. IfSome o IsLow)
timed_in d g = by_tod d.note.tod (stamped_in d g)
  where
    by_tod : (o : Option ℕ) → IfSome (stamped d) IsLow → IfSome (option_map (λ (tod : ℕ). stamped d) o) (λ x. IfSome x IsLow)
    by_tod None h = tt
    by_tod (Some tod) h = h

flat : (o : Option (Option Moment)) → IfSome o (λ x. IfSome x IsLow) → IfSome (option_flatten o) IsStamp
flat None h = tt
flat (Some None) h = tt
flat (Some (Some at)) h = h.stamp

is_mode : (dim : ℕ) → is_dim dim ≡ true → IsMode dim
is_mode dim e = (grind (arith, nat_tests, e), grind (arith, nat_tests, e))

abbrev Good : List Dated → Type 0
Good epoch = AllByRecursion IsGood epoch

pub record SaidIn (s : Said) : Type 0 where
  pub time : IfSome s.time IsStamp
  pub stamped : IfSome s.stamped IsLow
  pub first : IfSome s.first IsStamp
  pub dim : IfSome s.dim IsMode
  pub position : IfSome s.position IsPlace
  pub alt_hae : IfSome s.alt_hae (HasNineDigits 3)
  pub alt_msl : IfSome s.alt_msl (HasNineDigits 3)
  pub geoid_sep : IfSome s.geoid_sep (HasNineDigits 3)
  pub track : IfSome s.track (HasNineDigits 4)
  pub speed : IfSome s.speed (HasNineDigits 3)
  pub climb : IfSome s.climb (HasNineDigits 3)
  pub pdop : IfSome s.pdop IsU32
  pub hdop : IfSome s.hdop IsU32
  pub vdop : IfSome s.vdop IsU32

said_in : (epoch : List Dated) → Good epoch → SaidIn (said epoch)
unfolding said
said_in epoch all = record {
  time = flat (latest timed epoch) (latest_in IsGood timed (λ o. IfSome o IsLow) timed_in epoch all);
  stamped = earliest_in IsGood stamped IsLow stamped_in epoch all;
  first = earliest_in IsGood (λ d. Some d.first) IsStamp (λ d g. g.first) epoch all;
  dim = latest_in IsGood (λ d. d.note.dim) IsMode (λ d g. given_if is_dim IsMode is_mode d.note.dim g.fits.dim) epoch all;
  position = latest_in IsGood (λ d. d.note.position) IsPlace (λ d g. g.ranged.position_in) epoch all;
  alt_hae = latest_in IsGood (λ d. d.note.alt_hae) (HasNineDigits 3) (λ d g. g.ranged.alt_hae_in) epoch all;
  alt_msl = latest_in IsGood (λ d. d.note.alt_msl) (HasNineDigits 3) (λ d g. g.ranged.alt_msl_in) epoch all;
  geoid_sep = latest_in IsGood (λ d. d.note.geoid_sep) (HasNineDigits 3) (λ d g. g.ranged.geoid_sep_in) epoch all;
  track = latest_in IsGood (λ d. d.note.track) (HasNineDigits 4) (λ d g. g.ranged.track_in) epoch all;
  speed = latest_in IsGood (λ d. d.note.speed) (HasNineDigits 3) (λ d g. g.ranged.speed_in) epoch all;
  climb = latest_in IsGood (λ d. d.note.climb) (HasNineDigits 3) (λ d g. g.ranged.climb_in) epoch all;
  pdop = latest_in IsGood (λ d. d.note.pdop) IsU32 (λ d g. g.ranged.pdop_in) epoch all;
  hdop = latest_in IsGood (λ d. d.note.hdop) IsU32 (λ d g. g.ranged.hdop_in) epoch all;
  vdop = latest_in IsGood (λ d. d.note.vdop) IsU32 (λ d g. g.ranged.vdop_in) epoch all;
}

mode_in : (s : Said) → SaidIn s → IsMode (mode_of s)
unfolding mode_of
mode_in s is = by_tests (has_no_fix s) s.dim (is_some s.alt_msl || is_some s.alt_hae) is.dim
  where
    by_tests : (b : Bool) (dim : Option ℕ) (c : Bool) → IfSome dim IsMode → IsMode (cond b 1 (unwrap_or dim (cond c 3 2)))
    by_tests true dim c h = (omega arith, omega arith)
    by_tests false (Some dim) c h = h
    by_tests false None true h = (omega arith, omega arith)
    by_tests false None false h = (omega arith, omega arith)

fix_in : (s : Said) → SaidIn s → IsFix (cut_fix (fix_of s))
unfolding fix_of
fix_in s is = by_mode (nat_eq (mode_of s) 1) (nat_eq (mode_of s) 2)
  where
    by_mode : (b c : Bool) → IsFix (cut_fix (cond b (record { mode = 1; time = s.time; position = None; alt_hae = None; alt_msl = None; geoid_sep = None; track = None; speed = None; climb = None })
        (cond c (record { mode = 2; time = s.time; position = s.position; alt_hae = None; alt_msl = None; geoid_sep = None; track = s.track; speed = s.speed; climb = None })
        (record { mode = mode_of s; time = s.time; position = s.position; alt_hae = s.alt_hae; alt_msl = s.alt_msl; geoid_sep = s.geoid_sep; track = s.track; speed = s.speed; climb = s.climb }))))
    by_mode true c = record { mode_in = (omega arith, omega arith); time_in = cut_in s.time is.time; position_in = tt; alt_hae_in = tt; alt_msl_in = tt; geoid_sep_in = tt; track_in = tt; speed_in = tt; climb_in = tt }
    by_mode false true = record { mode_in = (omega arith, omega arith); time_in = cut_in s.time is.time; position_in = is.position; alt_hae_in = tt; alt_msl_in = tt; geoid_sep_in = tt; track_in = is.track; speed_in = is.speed; climb_in = tt }
    by_mode false false = record { mode_in = mode_in s is; time_in = cut_in s.time is.time; position_in = is.position; alt_hae_in = is.alt_hae; alt_msl_in = is.alt_msl; geoid_sep_in = is.geoid_sep; track_in = is.track; speed_in = is.speed; climb_in = is.climb }

sats_of : (sats : List Satellite) → list_all is_satellite sats ≡ true → AllByRecursion IsPlaced sats → AllByRecursion IsSatellite sats
sats_of [] fit placed = tt
sats_of (s ∷ sats) fit placed = let parts = and_parts (is_satellite s) (list_all is_satellite sats) fit in (sat_of s parts.0 placed.0, sats_of sats parts.1 placed.1)

all_sats_in : (epoch : List Dated) → Good epoch → AllByRecursion IsSatellite (all_sats epoch)
all_sats_in [] all = tt
all_sats_in (d ∷ past) all = all_both IsSatellite (all_sats past) d.note.sats (all_sats_in past all.1) (sats_of d.note.sats all.0.fits.sats all.0.ranged.sats_in)

marked_in : (seen : List UsedId) (s : Satellite) → IsSatellite s → IsSatellite (marked seen s)
unfolding marked
marked_in seen s is = record { prn_in = is.prn_in; el_in = is.el_in; az_in = is.az_in; ss_in = is.ss_in; gnss_in = is.gnss_in; signal_in = is.signal_in }

sky_sats_in : (epoch : List Dated) → Good epoch → AllByRecursion IsSatellite (satellites epoch)
unfolding satellites
sky_sats_in epoch all = all_map (marked (all_used_ids epoch)) IsSatellite IsSatellite (marked_in (all_used_ids epoch)) (firsts same_satellite (all_sats epoch)) (all_firsts IsSatellite same_satellite (all_sats epoch) (all_sats_in epoch all))

sky_in : (epoch : List Dated) → Good epoch → IsShort (sky_of epoch).sats → IsSky (cut_sky (sky_of epoch))
unfolding sky_of
sky_in epoch all short = let is = said_in epoch all in record { time_in = cut_in (said epoch).time is.time; pdop_in = is.pdop; hdop_in = is.hdop; vdop_in = is.vdop; sats_in = sky_sats_in epoch all; sats_short = short }

-- ---- reports
abbrev pub BodyIn : Body → Type 0
BodyIn (body.Packet packet) = Unit {0}
BodyIn (body.Tpv fix) = IsFix (cut_fix fix)
BodyIn (body.Sky sky) = IsShort sky.sats → IsSky (cut_sky sky)
BodyIn (body.Toff pair) = IsLow pair.reference × IsStamp pair.host
BodyIn (body.Pps pair) = IsPair pair
BodyIn (body.Device activated) = IfSome activated IsStamp

closing_in : (epoch : List Dated) → Good epoch → AllByRecursion BodyIn (closing epoch)
unfolding closing
closing_in epoch all =
    all_both BodyIn (cond (said epoch).has_fix (body.Tpv (fix_of (said epoch)) ∷ []) []) (cond (said epoch).has_sky (body.Sky (sky_of epoch) ∷ []) [])
    (all_where BodyIn (said epoch).has_fix _ (fix_in (said epoch) (said_in epoch all), tt)) (all_where BodyIn (said epoch).has_sky _ (sky_in epoch all, tt))

toffs_in : (epoch : List Dated) → Good epoch → AllByRecursion BodyIn (toffs epoch)
toffs_in epoch all = let is = said_in epoch all in by_stamp (said epoch).stamped (said epoch).first is.stamped is.first
  where
    by_stamp : (at first : Option Moment) → IfSome at IsLow → IfSome first IsStamp → AllByRecursion BodyIn (option_to_list (option_map (λ x. body.Toff (record { reference = x; host = unwrap_or first x })) at))
    by_stamp None first h k = tt
    by_stamp (Some at) None h k = ((h, h.stamp), tt)
    by_stamp (Some at) (Some first) h k = ((h, k), tt)

abbrev AllGood : List (List Dated) → Type 0
AllGood es = AllByRecursion Good es

all_closed_in : (es : List (List Dated)) → AllGood es → AllByRecursion BodyIn (all_closed es)
all_closed_in [] all = tt
all_closed_in (epoch ∷ earlier) all =
    all_both BodyIn (all_closed earlier ++ toffs epoch) (closing epoch) (all_both BodyIn (all_closed earlier) (toffs epoch) (all_closed_in earlier all.1) (toffs_in epoch all.0)) (closing_in epoch all.0)

all_told_in : (es : List (List Dated)) → AllGood es → AllByRecursion BodyIn (all_told es)
all_told_in [] all = tt
all_told_in (epoch ∷ earlier) all =
    all_both BodyIn (all_closed earlier ++ toffs epoch) (cond (has_ended epoch) (closing epoch) []) (all_both BodyIn (all_closed earlier) (toffs epoch) (all_closed_in earlier all.1) (toffs_in epoch all.0))
    (all_where BodyIn (has_ended epoch) (closing epoch) (closing_in epoch all.0))

joined_in : (d : Dated) (es : List (List Dated)) → IsGood d → AllGood es → AllGood (joined d es)
joined_in d [] g all = ((g, tt), tt)
joined_in d (epoch ∷ earlier) g all = by_test (begins d epoch)
  where
    by_test : (b : Bool) → AllGood (cond b ((d ∷ []) ∷ epoch ∷ earlier) ((d ∷ epoch) ∷ earlier))
    by_test true = ((g, tt), all)
    by_test false = ((g, all.0), all.1)

epochs_in : (past : List Dated) → Good past → AllGood (epochs past)
unfolding epochs
epochs_in [] all = tt
epochs_in (d ∷ past) all = joined_in d (epochs past) all.0 (epochs_in past all.1)

running_in : (es : List (List Dated)) → AllGood es → Good (running es)
running_in [] all = tt
running_in (epoch ∷ earlier) all = by_test (has_ended epoch)
  where
    by_test : (b : Bool) → Good (cond b [] epoch)
    by_test true = tt
    by_test false = all.0

pub record IsHeard (h : Heard) : Type 0 where
  pub fits : Fits h.note
  pub ranged : IsRanged h.note
  pub first : IsStamp h.first

known_in : (past : List Heard) → AllByRecursion IsHeard past → where_given is_known_day (day_known past) ≡ true
unfolding day_known days_after
known_in [] all = refl
known_in (h ∷ past) all =
    let before : Days = record { day = day_known past; last_tod = last_tod past } in
    days_known before (days_after before h.note) h.note (known_in past all.1) all.0.fits refl

dated_in : (past : List Heard) → AllByRecursion IsHeard past → Good (dated past)
unfolding dated
dated_in [] all = tt
dated_in (h ∷ past) all = (record { fits = all.0.fits; ranged = all.0.ranged; first = all.0.first; day = known_in (h ∷ past) all }, dated_in past all.1)

epochs_of_in : (notes : List Heard) → AllByRecursion IsHeard notes → AllGood (epochs_of notes)
epochs_of_in notes all = epochs_in (dated (reverse notes)) (dated_in (reverse notes) (all_reverse IsHeard notes all))

pub reports_in : (notes : List Heard) → AllByRecursion IsHeard notes → AllByRecursion BodyIn (reports notes)
unfolding reports
reports_in notes all = all_told_in (epochs_of notes) (epochs_of_in notes all)

pub left_in : (notes : List Heard) → AllByRecursion IsHeard notes → AllByRecursion BodyIn (left notes)
unfolding left
left_in notes all = closing_in (running (epochs_of notes)) (running_in (epochs_of notes) (epochs_of_in notes all))
