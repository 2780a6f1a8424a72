-- The laws of a history.
use Rattle.std.proofs.Common.{◌≡◌, ◌<◌, ℕ, Bool, true, false, ◌||◌, refl, sym, ap, ◌∙◌, subst, List, [], ◌∷◌, ◌++◌, length, drop, get_or, None, append-nil, append_assoc, arith}
use Rattle.std.specs.Option.{option_or}
use Rattle.std.proofs.Math.Seq.{drop-append_seam}
use Rattle.gps_report.specs.declared.edge.Symbol.{Symbol}
use Rattle.gps_report.specs.declared.report.Body.TheVariants.{Device}
use Rattle.device_core.specs.Reports.{device_close, device_gain, device_reports, gained, reports_from}
use Rattle.device_core.specs.Standing.{DeviceKept, StandsFor as DeviceStands}
use Rattle.device_core.proofs.Decided.{close_decided, gain_decided}
use Rattle.device_core.proofs.Streams.{beyond_is, reports-append}
use Rattle.std.proofs.lemmas.List.Folds.{list_any-append}
use Rattle.book_log.specs.declared.device_stage.DeviceStage.{DeviceStage}
use Rattle.book_log.specs.declared.device_stage.DeviceStage.TheVariants.{Running, Ended as HasEnded, Lost as WasLost}
use Rattle.book_log.specs.Entries.{Entry, Got, Ended, Lost, GoesOn, device_of, has_end, has_lost, is_end_of, is_loss_of, stops_in, stream}
use Rattle.book_log.specs.Readings.{first_stamp, of_device, stamp_in}
use Rattle.book_log.specs.History.{announced, history, history_after, reports_at}
use Rattle.book_log.specs.Standing.{DeviceStateView, StandsAt, StandsFor, DeviceStatesView, has_stopped, is_ended, is_lost}
use Rattle.book_log.proofs.ReadingLaws.{first_of-append}
use Rattle.book_log.proofs.Histories.{history-append, stream-append}

pub whole_history : (before log : List Entry) → history (before ++ log) ≡ history before ++ history_after before log
whole_history before log = history-append [] before log

from_gain : (s t : List Symbol) → device_gain s t ≡ reports_from s t
from_gain s t = beyond_is (device_reports s) (reports_from s t) (device_reports (s ++ t)) (reports-append [] s t)

same_reports : (kept : DeviceKept) (s r t : List Symbol) → DeviceStands kept s → DeviceStands kept r → reports_from s t ≡ reports_from r t
same_reports kept s r t one other = sym (from_gain s t) ∙ gain_decided kept s r t one other ∙ from_gain r t

-- what comes after t is the same, too
same_later : (kept : DeviceKept) (s r t more : List Symbol) → DeviceStands kept s → DeviceStands kept r → reports_from (s ++ t) more ≡ reports_from (r ++ t) more
same_later kept s r t more one other =
    sym (drop-append_seam (reports_from s t) (reports_from (s ++ t) more))
    ∙ ap (drop (length (reports_from s t))) (sym (reports-append s t more) ∙ same_reports kept s r (t ++ more) one other ∙ reports-append r t more
    ∙ ap (λ b. b ++ reports_from (r ++ t) more) (sym (same_reports kept s r t one other)))
    ∙ drop-append_seam (reports_from s t) (reports_from (r ++ t) more)

same_symbol : (kept : DeviceKept) (s r t : List Symbol) (x : Symbol) → DeviceStands kept s → DeviceStands kept r → gained (s ++ t) x ≡ gained (r ++ t) x
unfolding reports_from
same_symbol kept s r t x one other =
    sym (append-nil (gained (s ++ t) x)) ∙ same_later kept s r t (x ∷ []) one other ∙ append-nil (gained (r ++ t) x)

or_first : (a b : Bool) → (a || b) ≡ false → a ≡ false
or_first false b is = refl
or_first true b is = let e : true ≡ false = is in cc

or_second : (a b : Bool) → (a || b) ≡ false → b ≡ false
or_second false b is = is
or_second true b is = let e : true ≡ false = is in cc

-- a device that runs at a log's end runs at the end of its beginning
runs_before : (d : ℕ) (f done : List Entry) (line : DeviceStateView) → stops_in d (f ++ done) ≡ false → StandsAt line d f → has_stopped line.stage ≡ false
runs_before d f done line runs was =
    running line.stage
    (was.ended ∙ or_first (has_end d f) (has_end d done) (sym (list_any-append (is_end_of d) f done) ∙ or_first (has_end d (f ++ done)) (has_lost d (f ++ done)) runs))
    (was.lost ∙ or_first (has_lost d f) (has_lost d done) (sym (list_any-append (is_loss_of d) f done) ∙ or_second (has_end d (f ++ done)) (has_lost d (f ++ done)) runs))
  where
    running : (stage : DeviceStage) → is_ended stage ≡ false → is_lost stage ≡ false → has_stopped stage ≡ false
    running Running a b = refl
    running HasEnded a b = a
    running WasLost a b = b

some_line : (lines : List DeviceStateView) (d : ℕ) → d < length lines → DeviceStateView
some_line [] d within = absurd (omega arith)
some_line (line ∷ lines) d within = line

-- one entry adds the same after both
same_entry : (kept : DeviceStatesView) (f g done : List Entry) (entry : Entry) → StandsFor kept f → StandsFor kept g → device_of entry < length kept.lines
    → stops_in (device_of entry) (f ++ done) ≡ false → reports_at (f ++ done) entry ≡ reports_at (g ++ done) entry
same_entry kept f g done (Lost d) one other within runs = refl
same_entry kept f g done (Ended d) one other within runs =
    let line = get_or kept.lines d (some_line kept.lines d within) in
    let was = one.lines d (some_line kept.lines d within) within in
    let is = other.lines d (some_line kept.lines d within) within in
    let still = runs_before d f done line runs was in
    ap (λ s. of_device d (device_close s ++ Device None ∷ [])) (stream-append d f done)
    ∙ ap (λ c. of_device d (c ++ Device None ∷ [])) (close_decided (stream d done) line.kept (stream d f) (stream d g) (was.device still) (is.device still))
    ∙ ap (λ s. of_device d (device_close s ++ Device None ∷ [])) (sym (stream-append d g done))
same_entry kept f g done (Got d x) one other within runs =
    let line = get_or kept.lines d (some_line kept.lines d within) in
    let was = one.lines d (some_line kept.lines d within) within in
    let is = other.lines d (some_line kept.lines d within) within in
    let still = runs_before d f done line runs was in
    let t = stream d done in
    let firsts : first_stamp (stream d f ++ t) ≡ first_stamp (stream d g ++ t) =
    first_of-append stamp_in (stream d f) t ∙ ap (λ o. option_or o (first_stamp t)) (sym was.first ∙ is.first) ∙ sym (first_of-append stamp_in (stream d g) t) in
    ap (λ s. of_device d (announced (first_stamp s) x ++ gained s x)) (stream-append d f done)
    ∙ ap (λ o. of_device d (announced o x ++ gained (stream d f ++ t) x)) firsts
    ∙ ap (λ r. of_device d (announced (first_stamp (stream d g ++ t)) x ++ r)) (same_symbol line.kept (stream d f) (stream d g) t x (was.device still) (is.device still))
    ∙ ap (λ s. of_device d (announced (first_stamp s) x ++ gained s x)) (sym (stream-append d g done))

same_rest : (kept : DeviceStatesView) (f g done rest : List Entry) → StandsFor kept f → StandsFor kept g → GoesOn (length kept.lines) (f ++ done) rest
    → history_after (f ++ done) rest ≡ history_after (g ++ done) rest
unfolding GoesOn history_after
same_rest kept f g done [] one other on = refl
same_rest kept f g done (entry ∷ rest) one other on =
    let P : List Entry → Type 0 = λ b. GoesOn (length kept.lines) b rest in
    ap (λ r. r ++ history_after ((f ++ done) ++ entry ∷ []) rest) (same_entry kept f g done entry one other on.0 on.1)
    ∙ ap (λ b. reports_at (g ++ done) entry ++ history_after b rest) (append_assoc f done (entry ∷ []))
    ∙ ap (λ r. reports_at (g ++ done) entry ++ r) (same_rest kept f g (done ++ entry ∷ []) rest one other (subst P (append_assoc f done (entry ∷ [])) on.2))
    ∙ ap (λ b. reports_at (g ++ done) entry ++ history_after b rest) (sym (append_assoc g done (entry ∷ [])))

pub history_decided : (kept : DeviceStatesView) (before other log : List Entry) → StandsFor kept before → StandsFor kept other
    → GoesOn (length kept.lines) before log → history_after before log ≡ history_after other log
history_decided kept before other log one two on =
    let P : List Entry → Type 0 = λ b. GoesOn (length kept.lines) b log in
    ap (λ b. history_after b log) (sym (append-nil before))
    ∙ same_rest kept before other [] log one two (subst P (sym (append-nil before)) on)
    ∙ ap (λ b. history_after b log) (append-nil other)

pub parts_of_history : (before log more : List Entry) → history_after before (log ++ more) ≡ history_after before log ++ history_after (before ++ log) more
parts_of_history before log more = history-append before log more
