-- The notes of the sentences of fixes, one fix after another: each fix is an epoch of its own.
use Rattle.std.proofs.Common.{◌≡◌, ◌≢◌, ℕ, ◌+◌, ◌-◌, ◌*◌, ◌%◌, ◌^◌, Bool, true, false, cond, not, ◌||◌, List, [], ◌∷◌, ◌++◌, map, refl, sym, ap, ◌∙◌, subst, append_assoc, append-nil, arith, Option, Some, None, IsSome}
use Rattle.std.specs.Prelude.{nat_eq, nat_lt, reverse, unsigned_abs}
use Rattle.std.specs.Option.{option_map, option_or}
use Rattle.std.proofs.lemmas.Bool.{cond-false, cond-true}
use Rattle.std.proofs.lemmas.Bool.Decides.{nat_tests}
use Rattle.std.proofs.lemmas.List.{reverse-append}
use Rattle.gps_fixed.specs.Moment.{Moment}
use Rattle.gps_report.specs.declared.fix.Fix.{Fix}
use Rattle.gps_report.specs.declared.note.Note.{Note}
use Rattle.gps_report.specs.declared.note.Tag.TheVariants.{Tod}
use Rattle.gps_report.specs.declared.report.Body.{Body}
use Rattle.gps_report.specs.declared.report.Body.TheVariants.{Tpv}
use Rattle.epoch_core.specs.declared.heard.Heard.{Heard}
use Rattle.epoch_core.specs.declared.said.Said.{Said}
use Rattle.epoch_core.specs.Days.{Dated, carried, dated, day_known}
use Rattle.epoch_core.specs.Epochs.{begins, closed, closing, closings, epochs, epochs_of, joined, left, running}
use Rattle.epoch_core.specs.Fixes.{fix_of}
use Rattle.epoch_core.specs.Quantities.{breaks, differs, said, tod_tag}
use Rattle.pseudo_nmea.specs.Fitting.{IsFitting, HasStamp, spoken}
use Rattle.pseudo_nmea.proofs.OneEpoch.{both_dated, fix_of_both, heard}
use Rattle.pseudo_nmea.proofs.Spoken.{gga_note, rmc_note, tod_at}
use Rattle.command_laws.specs.Fixes.{AreApart, AreSayable, IsSayable, spoken_fix, time_of_day}

-- a fix that was sent, and the stamps of its two sentences
pub record Sent : Type 0 where
  pub fix : Fix
  pub one : Moment
  pub two : Moment

abbrev pub notes_sent : List Sent → List Heard
notes_sent [] = []
notes_sent (s ∷ more) = heard (rmc_note s.fix) s.one ∷ heard (gga_note s.fix) s.two ∷ notes_sent more

abbrev pub fixes_of : List Sent → List Fix
fixes_of sent = map (λ (s : Sent). s.fix) sent

abbrev epoch_of : Sent → List Dated
epoch_of s = both_dated s.fix s.one s.two

-- the two notes after others, the latest first
abbrev behind : Sent → List Heard → List Heard
behind s past = heard (gga_note s.fix) s.two ∷ heard (rmc_note s.fix) s.one ∷ past

abbrev with_time : Fix → Option Moment → Fix
with_time fix time = record fix { time = time }

-- the day of the two notes is that of their fix, whatever came before
day_is : (fix : Fix) (time : Option Moment) (one two : Moment) (past : List Heard) → IsSome time
    → dated (heard (gga_note (with_time fix time)) two ∷ heard (rmc_note (with_time fix time)) one ∷ past) ≡ both_dated (with_time fix time) one two ++ dated past
unfolding dated day_known carried
day_is fix None one two past some = absurd (cc)
day_is fix (Some at) one two past some = refl

not_itself : (t : ℕ) → not (nat_eq t t) ≡ false
not_itself t = grind (arith, nat_tests)

is_other : (t u : ℕ) → t ≢ u → not (nat_eq t u) ≡ true
is_other t u other = by_test (nat_eq t u) refl
  where
    by_test : (b : Bool) → nat_eq t u ≡ b → not b ≡ true
    by_test true test = absurd (other (grind (arith, nat_tests)))
    by_test false test = refl

-- the second note goes on with the epoch of the first
no_break : (fix : Fix) (first : Moment) (day : Option ℕ) (o : Option ℕ) → tod_at fix.time ≡ o
    → breaks (option_map (λ tod. Tod tod) o) (said (record { note = rmc_note fix; first = first; day = day } ∷ [])) ≡ false
unfolding breaks said
no_break fix first day None e = refl
no_break fix first day (Some t) e = ap (λ (p : Option ℕ). differs t (option_or (tod_tag (option_map (λ tod. Tod tod) p)) None)) e ∙ not_itself t

-- the last time of day that an epoch of two notes has
tag_is : (s : Sent) (t : ℕ) → tod_at s.fix.time ≡ Some t → (said (epoch_of s)).tod_tag ≡ Some t
unfolding said dated
tag_is s t e = ap (λ (p : Option ℕ). option_or (tod_tag (option_map (λ tod. Tod tod) p)) (option_or (tod_tag (option_map (λ tod. Tod tod) p)) None)) e

-- a fix of another time of day begins an epoch
other_breaks : (o : Option ℕ) (t u : ℕ) (s : Said) → o ≡ Some t → s.tod_tag ≡ Some u → t ≢ u → breaks (option_map (λ tod. Tod tod) o) s ≡ true
unfolding breaks
other_breaks o t u s a b other = ap (λ (p : Option ℕ). breaks (option_map (λ tod. Tod tod) p) s) a ∙ ap (differs t) b ∙ is_other t u other

timed : (time : Option Moment) → IsSome time → (t : ℕ) × (tod_at time ≡ Some t)
timed None some = absurd (cc)
timed (Some at) some = (unsigned_abs at.sec % 86_400 * 10 ^ 9 + at.nsec, refl)

-- the epoch of the fix before, if there is one, is of another time of day
abbrev Comes : Sent → List Sent → Type 0
Comes s [] = Unit {0}
Comes s (e ∷ done) = IsSome e.fix.time × (time_of_day s.fix ≢ time_of_day e.fix)

-- the two notes of a fix
abbrev first_of : Sent → Dated
first_of s = record { note = rmc_note s.fix; first = s.one; day = day_known (heard (rmc_note s.fix) s.one ∷ []) }

abbrev second_of : Sent → Dated
second_of s = record { note = gga_note s.fix; first = s.two; day = day_known (heard (gga_note s.fix) s.two ∷ heard (rmc_note s.fix) s.one ∷ []) }

two_are : (s : Sent) → epoch_of s ≡ second_of s ∷ first_of s ∷ []
unfolding dated
two_are s = refl

goes_on : (s : Sent) → begins (second_of s) (first_of s ∷ []) ≡ false
goes_on s = no_break s.fix s.one (day_known (heard (rmc_note s.fix) s.one ∷ [])) (tod_at s.fix.time) refl

-- the first note begins an epoch after that of a fix of another time of day
begins_new : (s e : Sent) → IsSome s.fix.time → IsSome e.fix.time → time_of_day s.fix ≢ time_of_day e.fix → begins (first_of s) (epoch_of e) ≡ true
unfolding dated
begins_new s e some there other =
    let t = timed s.fix.time some in
    let u = timed e.fix.time there in
    other_breaks (tod_at s.fix.time) t.0 u.0 (said (epoch_of e)) t.1 (tag_is e u.0 u.1) (λ same. other (t.1 ∙ ap (λ (n : ℕ). Some n) same ∙ sym u.1))

joined_on : (s : Sent) (done : List Sent) → IsSome s.fix.time → Comes s done → joined (second_of s) (joined (first_of s) (map epoch_of done)) ≡ (second_of s ∷ first_of s ∷ []) ∷ map epoch_of done
joined_on s [] some comes = cond-false (begins (second_of s) (first_of s ∷ [])) ((second_of s ∷ []) ∷ (first_of s ∷ []) ∷ []) ((second_of s ∷ first_of s ∷ []) ∷ []) (goes_on s)
joined_on s (e ∷ done) some comes =
    let es : List (List Dated) = map epoch_of done in
    ap (joined (second_of s)) (cond-true (begins (first_of s) (epoch_of e)) ((first_of s ∷ []) ∷ epoch_of e ∷ es) ((first_of s ∷ epoch_of e) ∷ es) (begins_new s e some comes.0 comes.1))
    ∙ cond-false (begins (second_of s) (first_of s ∷ [])) ((second_of s ∷ []) ∷ (first_of s ∷ []) ∷ epoch_of e ∷ es) ((second_of s ∷ first_of s ∷ []) ∷ epoch_of e ∷ es) (goes_on s)

joins_two : (a b : Dated) (past : List Dated) → epochs ((a ∷ b ∷ []) ++ past) ≡ joined a (joined b (epochs past))
unfolding epochs
joins_two a b past = refl

-- one more fix is one more epoch
one_more : (s : Sent) (past : List Heard) (done : List Sent) → IsSome s.fix.time → Comes s done → epochs (dated past) ≡ map epoch_of done → epochs (dated (behind s past)) ≡ map epoch_of (s ∷ done)
one_more s past done some comes is =
    ap epochs (day_is s.fix s.fix.time s.one s.two past some ∙ ap (λ (l : List Dated). l ++ dated past) (two_are s))
    ∙ joins_two (second_of s) (first_of s) (dated past)
    ∙ ap (λ (es : List (List Dated)). joined (second_of s) (joined (first_of s) es)) is
    ∙ joined_on s done some comes
    ∙ ap (λ (l : List Dated). l ∷ map epoch_of done) (sym (two_are s))

-- what was sent, the latest first, after what was sent before
abbrev onto : List Sent → List Sent → List Sent
onto [] done = done
onto (s ∷ more) done = onto more (s ∷ done)

notes_onto : (s : Sent) (notes past : List Heard) → reverse (heard (rmc_note s.fix) s.one ∷ heard (gga_note s.fix) s.two ∷ notes) ++ past ≡ reverse notes ++ behind s past
notes_onto s notes past =
    let a : Heard = heard (rmc_note s.fix) s.one in
    let b : Heard = heard (gga_note s.fix) s.two in
    ap (λ (l : List Heard). l ++ past) (reverse-append (a ∷ b ∷ []) notes) ∙ append_assoc (reverse notes) (b ∷ a ∷ []) past

-- each fix comes after the one before it
abbrev Follow : List Sent → List Sent → Type 0
Follow done [] = Unit {0}
Follow done (s ∷ more) = IsSome s.fix.time × Comes s done × Follow (s ∷ done) more

all_epochs : (sent : List Sent) (past : List Heard) (done : List Sent) → Follow done sent → epochs (dated past) ≡ map epoch_of done → epochs (dated (reverse (notes_sent sent) ++ past)) ≡ map epoch_of (onto sent done)
all_epochs [] past done follow is = is
all_epochs (s ∷ more) past done follow is =
    ap (λ (l : List Heard). epochs (dated l)) (notes_onto s (notes_sent more) past)
    ∙ all_epochs more (behind s past) (s ∷ done) follow.2 (one_more s past done follow.0 follow.1 is)

no_epochs : epochs (dated []) ≡ []
unfolding epochs dated
no_epochs = refl

epochs_sent : (sent : List Sent) → Follow [] sent → epochs_of (notes_sent sent) ≡ map epoch_of (onto sent [])
epochs_sent sent follow = ap (λ (l : List Heard). epochs (dated l)) (sym (append-nil (reverse (notes_sent sent)))) ∙ all_epochs sent [] [] follow no_epochs

-- ---- what the epochs give
abbrev Fit : List Sent → Type 0
Fit [] = Unit {0}
Fit (s ∷ more) = IsFitting s.fix × HasStamp s.fix.time × Fit more

one_closing : (s : Sent) → IsFitting s.fix → HasStamp s.fix.time → closing (epoch_of s) ≡ spoken_fix s.fix ∷ []
unfolding closing said dated
one_closing s fits stamp = ap (λ (f : Fix). Tpv f ∷ []) (fix_of_both s.fix s.one s.two fits stamp)

all_closings : (sent done : List Sent) → Fit sent → closings (map epoch_of (onto sent done)) ≡ closings (map epoch_of done) ++ map spoken_fix (fixes_of sent)
all_closings [] done fit = sym (append-nil (closings (map epoch_of done)))
all_closings (s ∷ more) done fit =
    all_closings more (s ∷ done) fit.2
    ∙ ap (λ (l : List Body). (closings (map epoch_of done) ++ l) ++ map spoken_fix (fixes_of more)) (one_closing s fit.0 fit.1)
    ∙ append_assoc (closings (map epoch_of done)) (spoken_fix s.fix ∷ []) (map spoken_fix (fixes_of more))

-- the last epoch is closed by the end, each other one by the next
nothing_closed : closing [] ≡ []
unfolding closing said
nothing_closed = refl

not_ended : (s : Sent) (earlier : List (List Dated)) → (closed (epoch_of s ∷ earlier) ≡ earlier) × (running (epoch_of s ∷ earlier) ≡ epoch_of s)
unfolding dated
not_ended s earlier = (refl, refl)

whole : (done : List Sent) → closings (closed (map epoch_of done)) ++ closing (running (map epoch_of done)) ≡ closings (map epoch_of done)
whole [] = nothing_closed
whole (s ∷ done) =
    let both = not_ended s (map epoch_of done) in
    λ i. closings (both.0 i) ++ closing (both.1 i)

left_is : (notes : List Heard) → left notes ≡ closing (running (epochs_of notes))
unfolding left
left_is notes = refl

-- what the notes of these fixes give, with the end
pub given : (sent : List Sent) → Follow [] sent → Fit sent → closings (closed (epochs_of (notes_sent sent))) ++ left (notes_sent sent) ≡ map spoken_fix (fixes_of sent)
given sent follow fit =
    let is = epochs_sent sent follow in
    ap (λ (l : List Body). closings (closed (epochs_of (notes_sent sent))) ++ l) (left_is (notes_sent sent))
    ∙ ap (λ (es : List (List Dated)). closings (closed es) ++ closing (running es)) is
    ∙ whole (onto sent [])
    ∙ all_closings sent [] fit

-- ---- what is asked of the fixes
fit_of : (sent : List Sent) → AreSayable (fixes_of sent) → Fit sent
fit_of [] all = tt
fit_of (s ∷ more) all = let is = all.0 in (is.fits, is.stamp, fit_of more all.1)

follow_of : (done : List Sent) (s : Sent) (more : List Sent) → Comes s done → AreSayable (fixes_of (s ∷ more)) → AreApart (fixes_of (s ∷ more)) → Follow done (s ∷ more)
follow_of done s [] comes all apart = let is = all.0 in (is.timed, comes, tt)
follow_of done s (next ∷ more) comes all apart =
    let is = all.0 in (is.timed, comes, follow_of (s ∷ done) next more (is.timed, λ same. apart.0 (sym same)) all.1 apart.1)

pub all_given : (sent : List Sent) → AreSayable (fixes_of sent) → AreApart (fixes_of sent) → closings (closed (epochs_of (notes_sent sent))) ++ left (notes_sent sent) ≡ map spoken_fix (fixes_of sent)
all_given [] all apart = given [] tt tt
all_given (s ∷ more) all apart = given (s ∷ more) (follow_of [] s more tt all apart) (fit_of (s ∷ more) all)
