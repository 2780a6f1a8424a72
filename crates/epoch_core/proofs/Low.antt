-- The days stay in their range, after a Toff a whole second is left, and a note causes few reports.
use Rattle.std.proofs.Common.{◌≡◌, ℕ, ℤ, pos, negsuc, ◌+◌, ◌*◌, ◌/◌, ◌≤◌, Bool, true, false, cond, List, [], ◌∷◌, ◌++◌, length, Option, None, Some, nat_lt, nat_le, is_some, option_map, option_to_list, unsigned_abs, unwrap_or, refl, ap, ◌∙◌, arith}
use Rattle.std.specs.List.{list_all}
use Rattle.std.specs.Option.{option_or, option_and_then}
use Rattle.std.proofs.lemmas.Bool.{and_from, leb-true, le-leb, ltb-true}
use Rattle.std.proofs.lemmas.List.Folds.{list_all-append}
use Rattle.std.proofs.lemmas.List.{length-append}
use Rattle.gps_fixed.specs.Moment.{Moment}
use Rattle.gps_report.specs.declared.note.Note.{Note}
use Rattle.gps_report.specs.declared.report.Body.{Body}
use Rattle.gps_report.specs.declared.report.Body.TheVariants.{Toff, Tpv, Sky as SkyBody}
use Rattle.epoch_core.specs.Fixes.{fix_of}
use Rattle.gps_report.specs.Fits.{Fits, is_day, is_tod, where_given}
use Rattle.epoch_core.specs.declared.days.Days.{Days}
use Rattle.epoch_core.specs.declared.said.Said.{Said}
use Rattle.epoch_core.specs.Days.{Dated, day_after, passes_midnight, carried, given_day, is_known_day}
use Rattle.epoch_core.specs.Quantities.{breaks, serial_time, stamped}
use Rattle.epoch_core.specs.Epochs.{is_eoe, leaves_a_second}
use Rattle.epoch_core.specs.Kept.{Ran}
use Rattle.epoch_core.specs.Steps.{days_after, ran_sky, said_grown, ran_grown, ran_closing, toff_told, ran_told, ran_before, ran_caused}

-- ---- days

given_known : (o : Option ℤ) → where_given is_day o ≡ true → where_given is_known_day (option_map unsigned_abs o) ≡ true
given_known None h = refl
given_known (Some (pos n)) h = h
given_known (Some (negsuc n)) h = absurd (cc)

next_known : (day : ℕ) → where_given is_known_day (day_after day) ≡ true
unfolding day_after
next_known day = split (nat_lt day 47_482) refl
  where
    split : (b : Bool) → nat_lt day 47_482 ≡ b → where_given is_known_day (cond b (Some (day + 1)) None) ≡ true
    split true h = let l = ltb-true day 47_482 h in le-leb (day + 1) 47_482 (omega arith)
    split false h = refl

carried_known : (tod last day : Option ℕ) → where_given is_known_day day ≡ true → where_given is_known_day (carried tod last day) ≡ true
unfolding carried
carried_known tod last day h = split (passes_midnight last tod) day h
  where
    split : (b : Bool) (day : Option ℕ) → where_given is_known_day day ≡ true → where_given is_known_day (cond b (option_and_then day_after day) day) ≡ true
    split true None h = refl
    split true (Some day) h = next_known day
    split false day h = h

or_known : (a b : Option ℕ) → where_given is_known_day a ≡ true → where_given is_known_day b ≡ true → where_given is_known_day (option_or a b) ≡ true
or_known None b h k = k
or_known (Some x) b h k = h

pub days_known : (days now : Days) (note : Note) → where_given is_known_day days.day ≡ true → Fits note → now ≡ days_after days note → where_given is_known_day now.day ≡ true
unfolding days_after
days_known days now note h fits e =
    ap (λ v. where_given is_known_day v.day) e
    ∙ or_known (given_day note) (carried note.tod days.last_tod days.day) (given_known note.day fits.day) (carried_known note.tod days.last_tod days.day h)

-- ---- Toffs

at_low : (tod day : Option ℕ) → where_given is_tod tod ≡ true → where_given is_known_day day ≡ true → (first : Option Moment) → list_all leaves_a_second (option_to_list (option_map (λ x. Toff (record { reference = x; host = unwrap_or first x })) (serial_time tod day))) ≡ true
at_low None day h k first = refl
at_low (Some tod) None h k first = refl
at_low (Some tod) (Some day) h k first =
    let t = ltb-true tod 86_400_000_000_000 h in
    let d = leb-true day 47_482 k in
    let l : 86_400 * day + tod / 1_000_000_000 ≤ 9_999_999_998 = omega arith in
    and_from (nat_le (86_400 * day + tod / 1_000_000_000) 9_999_999_998) true (le-leb (86_400 * day + tod / 1_000_000_000) 9_999_999_998 l) refl

both_low : (xs ys : List Body) → list_all leaves_a_second xs ≡ true → list_all leaves_a_second ys ≡ true → list_all leaves_a_second (xs ++ ys) ≡ true
both_low xs ys h k =
    list_all-append leaves_a_second xs ys ∙ and_from (list_all leaves_a_second xs) (list_all leaves_a_second ys) h k

where_low : (b : Bool) (xs : List Body) → list_all leaves_a_second xs ≡ true → list_all leaves_a_second (cond b xs []) ≡ true
where_low true xs h = h
where_low false xs h = refl

where_none : (b : Bool) (xs : List Body) → list_all leaves_a_second xs ≡ true → list_all leaves_a_second (cond b [] xs) ≡ true
where_none true xs h = refl
where_none false xs h = h

pub closing_low : (r : Ran) → list_all leaves_a_second (ran_closing r) ≡ true
unfolding ran_closing
closing_low r =
    both_low (cond r.said.has_fix (Tpv (fix_of r.said) ∷ []) []) (cond r.said.has_sky (SkyBody (ran_sky r) ∷ []) [])
    (where_low r.said.has_fix (Tpv (fix_of r.said) ∷ []) refl) (where_low r.said.has_sky (SkyBody (ran_sky r) ∷ []) refl)

toff_low : (s : Said) (d : Dated) → where_given is_tod d.note.tod ≡ true → where_given is_known_day d.day ≡ true → list_all leaves_a_second (toff_told s d) ≡ true
unfolding toff_told said_grown
toff_low s d h k = split s.stamped
  where
    split : (o : Option Moment) → list_all leaves_a_second (cond (is_some o) [] (option_to_list (option_map (λ x. Toff (record { reference = x; host = unwrap_or (option_or s.first (Some d.first)) x })) (option_or o (stamped d))))) ≡ true
    split None = at_low d.note.tod d.day h k (option_or s.first (Some d.first))
    split (Some at) = refl

told_low : (r : Ran) (d : Dated) → where_given is_tod d.note.tod ≡ true → where_given is_known_day d.day ≡ true → list_all leaves_a_second (ran_told r d) ≡ true
unfolding ran_told
told_low r d h k =
    both_low (toff_told r.said d) (cond (is_eoe d.note.kind) (ran_closing (ran_grown r d)) []) (toff_low r.said d h k)
    (where_low (is_eoe d.note.kind) (ran_closing (ran_grown r d)) (closing_low (ran_grown r d)))

caused_low : (r : Ran) (d : Dated) → where_given is_tod d.note.tod ≡ true → where_given is_known_day d.day ≡ true → list_all leaves_a_second (ran_caused r d) ≡ true
unfolding ran_caused
caused_low r d h k =
    both_low (cond (breaks d.note.tag r.said) (ran_closing r) []) (ran_told (ran_before r d) d)
    (where_low (breaks d.note.tag r.said) (ran_closing r) (closing_low r)) (told_low (ran_before r d) d h k)

pub told_all_low : (r : Ran) (d : Dated) (out : List Body) → Fits d.note → where_given is_known_day d.day ≡ true → out ≡ ran_caused r d → list_all leaves_a_second out ≡ true
told_all_low r d out fits k e = ap (list_all leaves_a_second) e ∙ caused_low r d fits.tod k

-- ---- few reports

short : (b : Bool) (x : Body) → length (cond b (x ∷ []) []) ≤ 1
short true x = omega arith
short false x = omega arith

pub few_closing : (r : Ran) (out : List Body) → out ≡ ran_closing r → length out ≤ 2
unfolding ran_closing
few_closing r out e =
    let f : List Body = cond r.said.has_fix (Tpv (fix_of r.said) ∷ []) [] in
    let k : List Body = cond r.said.has_sky (SkyBody (ran_sky r) ∷ []) [] in
    let n : length f ≤ 1 = short r.said.has_fix (Tpv (fix_of r.said)) in
    let m : length k ≤ 1 = short r.said.has_sky (SkyBody (ran_sky r)) in
    let l : length out ≡ length f + length k = ap length e ∙ length-append f k in omega arith

few_where : (b : Bool) (r : Ran) → length (cond b (ran_closing r) []) ≤ 2
few_where true r = few_closing r (ran_closing r) refl
few_where false r = omega arith

few_toffs : (s : Said) (d : Dated) → length (toff_told s d) ≤ 1
unfolding toff_told
few_toffs s d = split (is_some s.stamped) (said_grown s d.note d.first (stamped d)).stamped
  where
    split : (b : Bool) (o : Option Moment) → length (cond b [] (option_to_list (option_map (λ x. Toff (record { reference = x; host = unwrap_or (said_grown s d.note d.first (stamped d)).first x })) o))) ≤ 1
    split true o = omega arith
    split false None = omega arith
    split false (Some at) = omega arith

pub few_told : (r : Ran) (d : Dated) (out : List Body) → out ≡ ran_caused r d → length out ≤ 5
unfolding ran_caused ran_told
few_told r d out e =
    let a : List Body = cond (breaks d.note.tag r.said) (ran_closing r) [] in
    let b : List Body = toff_told (ran_before r d).said d in
    let c : List Body = cond (is_eoe d.note.kind) (ran_closing (ran_grown (ran_before r d) d)) [] in
    let na : length a ≤ 2 = few_where (breaks d.note.tag r.said) r in
    let nb : length b ≤ 1 = few_toffs (ran_before r d).said d in
    let nc : length c ≤ 2 = few_where (is_eoe d.note.kind) (ran_grown (ran_before r d) d) in
    let l : length out ≡ length a + (length b + length c) = ap length e ∙ length-append a (b ++ c) ∙ ap (λ n. length a + n) (length-append b c) in
    omega arith
