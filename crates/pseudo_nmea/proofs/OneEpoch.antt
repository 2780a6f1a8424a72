-- The two notes of a fitting fix are one epoch, whose Fix it is.
use Rattle.std.proofs.Common.{◌≡◌, ℕ, zero, suc, ◌+◌, ◌-◌, ◌*◌, ◌/◌, ◌%◌, ◌^◌, Bool, true, false, cond, not, ◌||◌, is_some, unwrap_or, List, [], ◌∷◌, refl, sym, ap, ◌∙◌, arith, Option, Some, None, ℤ, pos, ◌+ℤ◌, ◌*ℤ◌, unsigned_abs}
use Rattle.std.specs.Prelude.{◌==◌, nat_eq, nat_lt}
use Rattle.std.specs.Option.{option_map, option_or, option_and_then}
use Rattle.std.proofs.lemmas.Bool.{cond-false}
use Rattle.std.proofs.lemmas.Bool.Decides.{nat_tests}
use Rattle.std.proofs.lemmas.Int.{ints}
use Rattle.gps_fixed.specs.Moment.{Moment, IsMoment}
use Rattle.gps_fixed.specs.Utc.{utc}
use Rattle.gps_report.specs.declared.fix.Fix.{Fix}
use Rattle.gps_report.specs.declared.note.Note.{Note}
use Rattle.gps_report.specs.declared.note.Tag.TheVariants.{Tod}
use Rattle.epoch_core.specs.declared.heard.Heard.{Heard}
use Rattle.epoch_core.specs.declared.said.Said.{Said}
use Rattle.epoch_core.specs.Days.{Dated, dated, day_known, day_after, carried}
use Rattle.epoch_core.specs.Epochs.{begins, epochs, epochs_of}
use Rattle.epoch_core.specs.Fixes.{has_no_fix, mode_of, fix_of}
use Rattle.epoch_core.specs.Quantities.{breaks, differs, said, serial_time, tod_tag}
use Rattle.pseudo_nmea.specs.Fitting.{HasItsParts, IsFitting, HasStamp, spoken, GivesBack}
use Rattle.pseudo_nmea.proofs.Alone.{or_none}
use Rattle.pseudo_nmea.proofs.Modes.{no_fix, mode_one, fix_at, there}
use Rattle.pseudo_nmea.proofs.Spoken.{tod_at, rmc_note, gga_note, rmc_says, gga_says}

abbrev pub heard : Note → Moment → Heard
heard note first = record { note = note; first = first }

-- the later first
abbrev pub both_dated : Fix → Moment → Moment → List Dated
both_dated fix one two = dated (heard (gga_note fix) two ∷ heard (rmc_note fix) one ∷ [])

not_itself : (t : ℕ) → not (nat_eq t t) ≡ false
not_itself t = grind (arith, nat_tests)

no_break : (fix : Fix) (first : Moment) (day : Option ℕ) (o : Option ℕ) → tod_at fix.time ≡ o → breaks (option_map (λ tod. Tod tod) o) (said (record { note = rmc_note fix; first = first; day = day } ∷ [])) ≡ false
unfolding breaks said
no_break fix first day None e = refl
no_break fix first day (Some t) e = ap (λ (p : Option ℕ). differs t (option_or (tod_tag (option_map (λ tod. Tod tod) p)) None)) e ∙ not_itself t

pub one_epoch : (fix : Fix) (one two : Moment) → epochs_of (heard (rmc_note fix) one ∷ heard (gga_note fix) two ∷ []) ≡ both_dated fix one two ∷ []
unfolding epochs dated
one_epoch fix one two =
    let d1 : Dated = record { note = rmc_note fix; first = one; day = day_known (heard (rmc_note fix) one ∷ []) } in
    let d2 : Dated = record { note = gga_note fix; first = two; day = day_known (heard (gga_note fix) two ∷ heard (rmc_note fix) one ∷ []) } in
    cond-false (begins d2 (d1 ∷ [])) ((d2 ∷ []) ∷ (d1 ∷ []) ∷ []) ((d2 ∷ d1 ∷ []) ∷ []) (no_break fix one (day_known (heard (rmc_note fix) one ∷ [])) (tod_at fix.time) refl)

-- the time
moment_back : (at : Moment) → IsMoment at.sec at.nsec → utc (pos (unsigned_abs at.sec / 86_400)) (unsigned_abs at.sec % 86_400 * 10 ^ 9 + at.nsec) ≡ at
moment_back at is =
    let a : ℕ = unsigned_abs at.sec in
    let t : ℕ = a % 86_400 * 10 ^ 9 + at.nsec in
    let within = is.within in
    let low = is.from in
    let whole : pos a ≡ at.sec = omega (arith, ints) in
    let sum : 86_400 * (a / 86_400) + t / 10 ^ 9 ≡ a = omega arith in
    let joined_up : pos 86_400 *ℤ pos (a / 86_400) +ℤ pos (t / 10 ^ 9) ≡ pos (86_400 * (a / 86_400) + t / 10 ^ 9) = omega (arith, ints) in
    let sec : pos 86_400 *ℤ pos (a / 86_400) +ℤ pos (t / 10 ^ 9) ≡ at.sec = joined_up ∙ ap (λ (n : ℕ). pos n) sum ∙ whole in
    let nsec : t % 10 ^ 9 ≡ at.nsec = omega arith in
    (λ i. record { sec = sec i; nsec = nsec i })

abbrev with_time : Fix → Option Moment → Fix
with_time fix time = record fix { time = time }

same_day : (t : ℕ) → nat_lt 43_200_000_000_000 (t - t) ≡ false
same_day t = let none : t - t ≡ 0 = omega arith in ap (nat_lt 43_200_000_000_000) none

said_time : (fix : Fix) (time : Option Moment) (one two : Moment) → HasStamp time → (said (both_dated (with_time fix time) one two)).time ≡ time
unfolding said dated day_known carried
said_time fix None one two stamp = refl
said_time fix (Some at) one two stamp =
    let t : ℕ = unsigned_abs at.sec % 86_400 * 10 ^ 9 + at.nsec in
    let day : ℕ = unsigned_abs at.sec / 86_400 in
    ap (λ (b : Bool). serial_time (Some t) (cond b (option_and_then day_after (Some day)) (Some day))) (same_day t) ∙ ap (λ (m : Moment). Some m) (moment_back at stamp)

or_same : {X : Type 0} → (o : Option X) → option_or o (option_or o None) ≡ o
or_same None = refl
or_same (Some x) = refl

-- what the epoch says
pub record Says (s : Said) (fix : Fix) : Type 0 where
  pub time : s.time ≡ fix.time
  pub status : s.status ≡ Some (not (fix.mode == 1))
  pub dim : s.dim ≡ None
  pub position : s.position ≡ fix.position
  pub alt_hae : s.alt_hae ≡ None
  pub alt_msl : s.alt_msl ≡ fix.alt_msl
  pub geoid_sep : s.geoid_sep ≡ fix.geoid_sep
  pub track : s.track ≡ fix.track
  pub speed : s.speed ≡ fix.speed
  pub climb : s.climb ≡ None

says : (fix : Fix) (one two : Moment) → HasStamp fix.time → Says (said (both_dated fix one two)) fix
unfolding said dated
says fix one two stamp = record {
  time = said_time fix fix.time one two stamp;
  status = refl;
  dim = refl;
  position = or_same fix.position;
  alt_hae = refl;
  alt_msl = or_none fix.alt_msl;
  geoid_sep = or_none fix.geoid_sep;
  track = or_none fix.track;
  speed = or_none fix.speed;
  climb = refl;
}

pub mode_by : (s : Said) (high hae : Option ℤ) → has_no_fix s ≡ false → s.dim ≡ None → s.alt_msl ≡ high → s.alt_hae ≡ hae → mode_of s ≡ cond (is_some high || is_some hae) 3 2
unfolding mode_of
mode_by s high hae has dim a b =
    ap (λ (t : Bool). cond t 1 (unwrap_or s.dim (cond (is_some s.alt_msl || is_some s.alt_hae) 3 2))) has
    ∙ (λ i. unwrap_or (dim i) (cond (is_some (a i) || is_some (b i)) 3 2))

fix_back : (s : Said) (fix : Fix) (mode : ℕ) → fix.mode ≡ mode → HasItsParts mode fix → Says s fix → fix_of s ≡ spoken fix
fix_back s fix zero m parts is = absurd parts
fix_back s fix (suc zero) m parts is =
    let status : s.status ≡ Some false = is.status ∙ ap (λ (n : ℕ). Some (not (n == 1))) m in
    let none : has_no_fix s ≡ true = no_fix s None (Some false) None (is.position ∙ parts.position) status is.dim in
    fix_at s 1 (mode_one s none)
    ∙ (λ i. record { mode = sym m i; time = is.time i; position = sym parts.position i; alt_hae = None; alt_msl = sym parts.alt_msl i; geoid_sep = sym parts.geoid_sep i; track = sym parts.track i; speed = sym parts.speed i; climb = None })
fix_back s fix (suc (suc zero)) m parts is =
    let status : s.status ≡ Some true = is.status ∙ ap (λ (n : ℕ). Some (not (n == 1))) m in
    let place = there fix.position parts.position in
    let has : has_no_fix s ≡ false = no_fix s (Some place.0) (Some true) None (is.position ∙ place.1) status is.dim in
    fix_at s 2 (mode_by s None None has is.dim (is.alt_msl ∙ parts.alt_msl) is.alt_hae)
    ∙ (λ i. record { mode = sym m i; time = is.time i; position = is.position i; alt_hae = None; alt_msl = sym parts.alt_msl i; geoid_sep = sym parts.geoid_sep i; track = is.track i; speed = is.speed i; climb = None })
fix_back s fix (suc (suc (suc zero))) m parts is =
    let status : s.status ≡ Some true = is.status ∙ ap (λ (n : ℕ). Some (not (n == 1))) m in
    let place = there fix.position parts.position in
    let high = there fix.alt_msl parts.alt_msl in
    let has : has_no_fix s ≡ false = no_fix s (Some place.0) (Some true) None (is.position ∙ place.1) status is.dim in
    let three : mode_of s ≡ 3 = mode_by s (Some high.0) None has is.dim (is.alt_msl ∙ high.1) is.alt_hae in
    fix_at s 3 three
    ∙ (λ i. record { mode = (three ∙ sym m) i; time = is.time i; position = is.position i; alt_hae = is.alt_hae i; alt_msl = is.alt_msl i; geoid_sep = is.geoid_sep i; track = is.track i; speed = is.speed i; climb = is.climb i })
fix_back s fix (suc (suc (suc (suc mode)))) m parts is = absurd parts

pub fix_of_both : (fix : Fix) (one two : Moment) → IsFitting fix → HasStamp fix.time → fix_of (said (both_dated fix one two)) ≡ spoken fix
fix_of_both fix one two fits stamp = fix_back (said (both_dated fix one two)) fix fix.mode refl fits.parts (says fix one two stamp)

pub given_back : (fix : Fix) (one two : Moment) → IsFitting fix → HasStamp fix.time → GivesBack fix one two
given_back fix one two fits stamp = (
  both_dated fix one two,
  (λ i. epochs_of (heard (rmc_says fix fits stamp i) one ∷ heard (gga_says fix fits stamp i) two ∷ [])) ∙ one_epoch fix one two,
  fix_of_both fix one two fits stamp,
)
