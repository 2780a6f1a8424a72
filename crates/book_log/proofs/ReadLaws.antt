-- What is read of a book's devices and log is that of each log before it, joined with the log since.
use Rattle.std.proofs.Common.{◌≡◌, ◌≤◌, ◌<◌, ◌^◌, ◌||◌, ℕ, zero, suc, true, refl, sym, ap, ◌∙◌, subst, List, [], ◌∷◌, ◌++◌, length, get_or, Option, None, cond, map, append-nil, append_assoc, arith}
use Rattle.std.proofs.lemmas.List.{get_or-map}
use Rattle.gps_fixed.specs.Moment.{Moment}
use Rattle.gps_report.specs.declared.fix.Fix.{Fix}
use Rattle.gps_report.specs.declared.fix.Sky.{Sky}
use Rattle.book_log.specs.declared.device_stage.DeviceStage.{DeviceStage}
use Rattle.book_log.specs.declared.device_stage.DeviceStage.TheVariants.{Running, Ended, Lost}
use Rattle.book_log.specs.Entries.{Entry, GoesOn, has_end, has_lost, stops_in}
use Rattle.book_log.specs.Readings.{last_fix, last_sky, last_stamp}
use Rattle.book_log.specs.History.{active, history, history_after}
use Rattle.book_log.specs.Standing.{DeviceStateView, StandsAt, StandsFor, has_stopped, is_ended, is_lost}
use Rattle.book_log.specs.DeviceLogView.{LogHolds, DeviceLogView, stopped_of, turned}
use Rattle.book_log.proofs.HistoryLaws.{history_decided}

pub few_places : (b : DeviceLogView) → LogHolds b → b.length < 2 ^ 63
few_places b h = omega (arith, h.bound, h.few, h.limit, h.devices)

pub stamp_stands : (b : DeviceLogView) (before : List Entry) → LogHolds b → StandsFor b.opening before → b.present.stamp ≡ last_stamp (before ++ b.log)
stamp_stands b before h was = (h.over before was).present.stamp

pub stopped_in : (lines : List DeviceStateView) (d : ℕ) (free : DeviceStateView) → d < length lines → get_or (map (λ line. has_stopped line.stage) lines) d true ≡ has_stopped (get_or lines d free).stage
stopped_in lines d free within = get_or-map (λ line. has_stopped line.stage) lines d free true within

pub stopped_past : (lines : List DeviceStateView) (d : ℕ) → length lines ≤ d → get_or (map (λ line. has_stopped line.stage) lines) d true ≡ true
stopped_past [] d past = refl
stopped_past (line ∷ lines) zero past = absurd (omega arith)
stopped_past (line ∷ lines) (suc d) past = stopped_past lines d (omega arith)

stopped_by : (stage : DeviceStage) → has_stopped stage ≡ (is_ended stage || is_lost stage)
stopped_by Running = refl
stopped_by Ended = refl
stopped_by Lost = refl

active_at : (line : DeviceStateView) (d : ℕ) (log : List Entry) → StandsAt line d log → cond (has_stopped line.stage) None line.first ≡ active d log
active_at line d log was =
    ap (λ b. cond b None line.first) (stopped_by line.stage ∙ ap (λ b. b || is_lost line.stage) was.ended ∙ ap (λ b. has_end d log || b) was.lost)
    ∙ ap (λ o. cond (stops_in d log) None o) was.first

pub active_stands : (b : DeviceLogView) (d : ℕ) (before : List Entry) (line : DeviceStateView) → LogHolds b → d < length b.present.lines
    → ((free : DeviceStateView) → line ≡ get_or b.present.lines d free) → StandsFor b.opening before → cond (has_stopped line.stage) None line.first ≡ active d (before ++ b.log)
active_stands b d before line h within is was =
    ap (λ l. cond (has_stopped l.stage) None l.first) (is line) ∙ active_at (get_or b.present.lines d line) d (before ++ b.log) ((h.over before was).present.lines d line within)

pub fix_stands : (b : DeviceLogView) (d : ℕ) (before : List Entry) (line : DeviceStateView) → LogHolds b → d < length b.present.lines
    → ((free : DeviceStateView) → line ≡ get_or b.present.lines d free) → StandsFor b.opening before → line.fix ≡ last_fix d (history (before ++ b.log))
fix_stands b d before line h within is was = ap (λ l. l.fix) (is line) ∙ ((h.over before was).present.lines d line within).fix

pub sky_stands : (b : DeviceLogView) (d : ℕ) (before : List Entry) (line : DeviceStateView) → LogHolds b → d < length b.present.lines
    → ((free : DeviceStateView) → line ≡ get_or b.present.lines d free) → StandsFor b.opening before → line.sky ≡ last_sky d (history (before ++ b.log))
sky_stands b d before line h within is was = ap (λ l. l.sky) (is line) ∙ ((h.over before was).present.lines d line within).sky

pub active_read : (b now : DeviceLogView) (d : ℕ) (line : DeviceStateView) (value : Option Moment) → LogHolds b → b ≡ now → d < length now.present.lines
    → ((free : DeviceStateView) → line ≡ get_or b.present.lines d free) → value ≡ cond (has_stopped line.stage) None line.first
    → (before : List Entry) → StandsFor now.opening before → value ≡ active d (before ++ now.log)
active_read b now d line value h seen within is read before =
    let P : DeviceLogView → Type 0 = λ m. d < length m.present.lines → StandsFor m.opening before → value ≡ active d (before ++ m.log) in
    subst P seen (λ inside was. read ∙ active_stands b d before line h inside is was) within

pub fix_read : (b now : DeviceLogView) (d : ℕ) (line : DeviceStateView) (value : Option Fix) → LogHolds b → b ≡ now → d < length now.present.lines
    → ((free : DeviceStateView) → line ≡ get_or b.present.lines d free) → value ≡ line.fix
    → (before : List Entry) → StandsFor now.opening before → value ≡ last_fix d (history (before ++ now.log))
fix_read b now d line value h seen within is read before =
    let P : DeviceLogView → Type 0 = λ m. d < length m.present.lines → StandsFor m.opening before → value ≡ last_fix d (history (before ++ m.log)) in
    subst P seen (λ inside was. read ∙ fix_stands b d before line h inside is was) within

pub sky_read : (b now : DeviceLogView) (d : ℕ) (line : DeviceStateView) (value : Option Sky) → LogHolds b → b ≡ now → d < length now.present.lines
    → ((free : DeviceStateView) → line ≡ get_or b.present.lines d free) → value ≡ line.sky
    → (before : List Entry) → StandsFor now.opening before → value ≡ last_sky d (history (before ++ now.log))
sky_read b now d line value h seen within is read before =
    let P : DeviceLogView → Type 0 = λ m. d < length m.present.lines → StandsFor m.opening before → value ≡ last_sky d (history (before ++ m.log)) in
    subst P seen (λ inside was. read ∙ sky_stands b d before line h inside is was) within

pub turn_stands : (b : DeviceLogView) (before : List Entry) → LogHolds b → StandsFor b.opening before → StandsFor (turned b).opening (before ++ b.log)
turn_stands b before h was = (h.over before was).present

pub end_stands : (b : DeviceLogView) (before : List Entry) (d : ℕ) (free : DeviceStateView) → LogHolds b → StandsFor b.opening before → d < length b.present.lines
    → is_ended (get_or b.present.lines d free).stage ≡ has_end d (before ++ b.log)
end_stands b before d free h was within = ((h.over before was).present.lines d free within).ended

pub loss_stands : (b : DeviceLogView) (before : List Entry) (d : ℕ) (free : DeviceStateView) → LogHolds b → StandsFor b.opening before → d < length b.present.lines
    → is_lost (get_or b.present.lines d free).stage ≡ has_lost d (before ++ b.log)
loss_stands b before d free h was within = ((h.over before was).present.lines d free within).lost

first_line : (lines : List DeviceStateView) (d : ℕ) → d < length lines → DeviceStateView
first_line [] d within = absurd (omega arith)
first_line (line ∷ lines) d within = line

pub stops_stand : (b : DeviceLogView) (before : List Entry) (d : ℕ) → LogHolds b → StandsFor b.opening before → d < length b.present.lines
    → get_or (stopped_of b.present) d true ≡ stops_in d (before ++ b.log)
stops_stand b before d h was within =
    let free = first_line b.present.lines d within in
    let line = get_or b.present.lines d free in
    stopped_in b.present.lines d free within ∙ stopped_by line.stage
    ∙ ap (λ s. s || is_lost line.stage) (end_stands b before d free h was within)
    ∙ ap (λ s. has_end d (before ++ b.log) || s) (loss_stands b before d free h was within)

goes_behind : (n : ℕ) (before xs ys : List Entry) → GoesOn n before (xs ++ ys) → GoesOn n (before ++ xs) ys
unfolding GoesOn
goes_behind n before [] ys on = let P : List Entry → Type 0 = λ b. GoesOn n b ys in subst P (sym (append-nil before)) on
goes_behind n before (x ∷ xs) ys on =
    let P : List Entry → Type 0 = λ b. GoesOn n b ys in subst P (append_assoc before (x ∷ []) xs) (goes_behind n (before ++ x ∷ []) xs ys on.2)

pub generation_decided : (b : DeviceLogView) (before other : List Entry) → LogHolds b → StandsFor b.opening before → StandsFor b.opening other
    → history_after before b.log ≡ history_after other b.log
generation_decided b before other h one two =
    let P : ℕ → Type 0 = λ n. GoesOn n before b.log in
    history_decided b.opening before other b.log one two
    (subst P (sym h.count) (goes_behind (length b.present.lines) [] before b.log (h.over before one).present.is_log))
