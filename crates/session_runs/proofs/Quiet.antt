-- Entries that give no report.
use Rattle.std.proofs.Common.{◌≡◌, ℕ, List, [], ◌++◌, length, Option, Some, None, refl, sym, ap, ◌∙◌, subst, inl, inr, append-nil, append_assoc}
use Rattle.std.specs.List.{AllZip}
use Rattle.gps_report.specs.declared.report.Report.{Report}
use Rattle.session_core.specs.declared.mark.Close.{Close}
use Rattle.session_core.specs.Holding.{Holding}
use Rattle.session_core.specs.SessionView.{SessionView}
use Rattle.session_core.specs.Stretches.{left_of, session_items}
use Rattle.book_batch.specs.Lines.{line_for}
use Rattle.book_log.specs.Entries.{Entry}
use Rattle.book_log.specs.History.{history, history_after}
use Rattle.book_log.specs.Standing.{StandsFor, DeviceStatesView}
use Rattle.book_log.proofs.Histories.{history-append}
use Rattle.book_sessions.specs.MemberView.{MemberView}
use Rattle.session_runs.specs.Runs.{SessionRun, IsRunOf, items_over}
use Rattle.session_runs.specs.Following.{Extends, Follows, closing_after}
use Rattle.session_runs.specs.Laws.{QuietEntriesKeepRuns}
use Rattle.session_runs.proofs.Books.{runs_on}
use Rattle.session_runs.proofs.Going.{here_of}
use Rattle.session_runs.proofs.Whole.{whole_history}
use Rattle.session_runs.proofs.Zipping.{zip_same}

run_longer : (names : List (List ℕ)) (before log longer : List Entry) (s : SessionView) (r : SessionRun) → history_after before longer ≡ history_after before log
    → IsRunOf names before log s r → IsRunOf names before longer s r
run_longer names before log longer s r same (inl x) =
    let P : List Report → Type 0 = λ h. Holding (line_for names) h s (left_of x.earlier ++ x.later) in
    inl (record { earlier = x.earlier; later = x.later; joined = x.joined; order = x.order; holding = subst P (sym same) x.holding; closing = x.closing })
run_longer names before log longer s r same (inr x) = inr x

closing_same : (c : Option (ℕ × Close)) (names : List (List ℕ)) (before log : List Entry) (s : SessionView) (r : SessionRun) → s.closing ≡ c → IsRunOf names before log s r
    → r.closing ≡ closing_after (length (history before)) c s.closing r.closing
closing_same None names before log s r is run = (here_of names before log s r is run).closing
closing_same (Some closing) names before log s r is run = refl

quiet_follows : (names : List (List ℕ)) (before log longer : List Entry) (s : SessionView) → history_after before longer ≡ history_after before log
    → Follows names before log before longer s s
quiet_follows names before log longer s same r run =
    let base : ℕ = length (history before) in
    let P : Option (ℕ × Close) → Type 0 = λ c. Extends names before log before longer s s [] r (record { stretches = r.stretches; closing = c }) in
    let whole : history (before ++ longer) ≡ history (before ++ log) =
    whole_history before longer ∙ ap (λ h. history before ++ h) same ∙ sym (whole_history before log) in
    let stays : P r.closing = record {
      run = run_longer names before log longer s r same run;
      kept = sym (append-nil s.kept);
      items = ap (λ h. session_items (line_for names) r.closing r.stretches h) whole ∙ sym (append-nil (items_over names (before ++ log) r));
    } in
    ([], subst P (closing_same s.closing names before log s r refl run) stays, λ some. refl)

pub quiet_entries : QuietEntriesKeepRuns
quiet_entries old new entries before stands quiet =
    let O : DeviceStatesView → Type 0 = λ s. StandsFor s before in
    let same : history_after before new.log.log ≡ history_after before old.log.log =
    ap (history_after before) quiet.log.log
    ∙ history-append before old.log.log entries
    ∙ ap (λ h. history_after before old.log.log ++ h) (quiet.log.reports_are before stands)
    ∙ append-nil (history_after before old.log.log) in
    let R : MemberView → MemberView → Type 0 = λ a b. Follows old.names before old.log.log before new.log.log a.session b.session in
    let Q : List MemberView → Type 0 = λ l. AllZip R old.sessions l in
    let sessions : AllZip R old.sessions new.sessions =
    subst Q (sym quiet.sessions) (zip_same R (λ a. quiet_follows old.names before old.log.log new.log.log a.session same) old.sessions) in
    record {
      stands = subst O (sym quiet.log.opening) stands;
      whole = ap (λ l. before ++ l) quiet.log.log ∙ sym (append_assoc before old.log.log entries);
      names = quiet.names;
      sessions = sessions;
      runs = runs_on old new before before quiet.names sessions;
    }
