-- How the runs of all sessions of a book go on.
use Rattle.std.proofs.Common.{◌≡◌, ℕ, ◌+◌, Bool, true, false, List, [], ◌∷◌, ◌++◌, length, Option, Some, None, refl, sym, ap, ◌∙◌, subst, inl, append-nil, append_assoc, set, arith, is_some}
use Rattle.std.specs.List.{AllZip}
use Rattle.gps_report.specs.declared.report.Report.{Report}
use Rattle.session_core.specs.declared.mark.Close.{Close}
use Rattle.session_core.specs.declared.mark.Close.TheVariants.{DaemonEnd}
use Rattle.session_core.specs.SessionView.{SessionView, opening_policy, turned, turned_closing}
use Rattle.session_core.specs.Stretches.{Stretch, answer_stretch}
use Rattle.session_core.proofs.Growth.{items_marked}
use Rattle.book_batch.specs.Lines.{line_for}
use Rattle.book_log.specs.Entries.{Entry}
use Rattle.book_log.specs.History.{history, history_after}
use Rattle.book_log.specs.DeviceLogView.{DeviceLogView}
use Rattle.book_log.specs.Standing.{StandsFor, DeviceStatesView}
use Rattle.book_replies.specs.Replies.{opening_reply}
use Rattle.book_sessions.specs.MemberView.{MemberView, opened, renewed}
use Rattle.book_sessions.specs.Roster.{Shuts}
use Rattle.book_sessions.specs.Spreading.{Reports, Spreads}
use Rattle.report_book.specs.BookView.{BookView, turned_if}
use Rattle.report_book.specs.Moves.{BookAdds}
use Rattle.report_book.specs.Standing.{BookHolds}
use Rattle.session_runs.specs.Runs.{SessionRun, IsHere, IsRunOf, RunsOf, items_over}
use Rattle.session_runs.specs.Following.{BookGoesOn, Extends, Follows, closing_after, opened_run, run_after, shut_run}
use Rattle.session_runs.specs.Laws.{AdmittedRunBegins, GivenMore, GivenTaken, MovesExtendRuns, OneRunChanges, ShutAllRuns}
use Rattle.session_runs.proofs.Going.{reports_extend, shuts_end, turns_keep}
use Rattle.session_runs.proofs.Whole.{whole_length}
use Rattle.session_runs.proofs.Zipping.{zip_carry, zip_push, zip_set, zip_unmapped, zip_weaker}

-- the place at the end of this generation
pub place_is : (b : BookView) (before : List Entry) → BookHolds b → StandsFor b.log.opening before → length (history_after before b.log.log) ≡ b.log.length
place_is b before held stands = sym (held.log.over before stands).places

-- the same sessions, over equal names and an equal log
renamed : (names named : List (List ℕ)) (before log logged : List Entry) (sessions : List MemberView) (runs : List SessionRun) → named ≡ names → logged ≡ log
    → AllZip (λ (a : MemberView) r. IsRunOf names before log a.session r) sessions runs → AllZip (λ (a : MemberView) r. IsRunOf named before logged a.session r) sessions runs
renamed names named before log logged sessions runs same_names same_log zip =
    let P : List (List ℕ) → Type 0 = λ n. AllZip (λ (a : MemberView) r. IsRunOf n before logged a.session r) sessions runs in
    let Q : List Entry → Type 0 = λ l. AllZip (λ (a : MemberView) r. IsRunOf names before l a.session r) sessions runs in
    subst P (sym same_names) (subst Q (sym same_log) zip)

-- ---- a new session

pub admitted_begins : AdmittedRunBegins
admitted_begins name cap old new before held stands admits =
    let G : List Entry = before ++ old.log.log in
    let a : MemberView = opened name cap old.most_requests old.log.length in
    let at : length (history G) ≡ length (history before) + old.log.length = omega (arith, whole_length before old.log.log, place_is old before held stands) in
    let here : IsHere old.names before old.log.log a.session (opened_run G) = record {
      earlier = [];
      later = answer_stretch old.log.length opening_policy opening_reply ∷ [];
      joined = ap (λ n. answer_stretch n opening_policy opening_reply ∷ []) at;
      order = tt;
      holding = admits.holding before stands;
      closing = refl;
    } in
    let same_log : new.log.log ≡ old.log.log = ap (λ (l : DeviceLogView). l.log) admits.same.log in
    let N : List (List ℕ) → Type 0 = λ n. IsRunOf n before new.log.log a.session (opened_run (before ++ new.log.log)) in
    let L : List Entry → Type 0 = λ l. IsRunOf old.names before l a.session (opened_run (before ++ l)) in
    let run : N new.names = subst N (sym admits.same.names) (subst L (sym same_log) (inl here)) in
    let last : Stretch = answer_stretch (length (history (before ++ new.log.log))) opening_policy opening_reply in
    record {
      run = run;
      items = items_marked (line_for new.names) (length (history (before ++ new.log.log))) [] last (history (before ++ new.log.log)) refl;
      kept = refl;
      runs = λ runs zip.
          let P : MemberView → SessionRun → Type 0 = λ a r. IsRunOf new.names before new.log.log a.session r in
          let Q : List MemberView → Type 0 = λ l. AllZip P l (runs ++ opened_run (before ++ new.log.log) ∷ []) in
          subst Q (sym admits.sessions)
          (zip_push P old.sessions runs a (opened_run (before ++ new.log.log)) run (renamed old.names new.names before old.log.log new.log.log old.sessions runs admits.same.names same_log zip));
    }

-- ---- entries

turned_after : (base : ℕ) (c now was : Option (ℕ × Close)) → closing_after base (turned_closing c) now was ≡ closing_after base c now was
turned_after base None now was = refl
turned_after base (Some closing) now was = refl

turned_closed : (c : Option (ℕ × Close)) → is_some c ≡ true → is_some (turned_closing c) ≡ true
turned_closed None some = some
turned_closed (Some closing) some = refl

-- after a turn
follows_turned : (names : List (List ℕ)) (before log longer : List Entry) (old new : SessionView)
    → Follows names (before ++ log) [] (before ++ log) longer (turned old) new → Follows names before log (before ++ log) longer old new
follows_turned names before log longer old new follows r run =
    let turn = turns_keep names before log old r run in
    let rest = follows r turn.run in
    let base : ℕ = length (history (before ++ log)) in
    let P : Option (ℕ × Close) → Type 0 = λ c. Extends names before log (before ++ log) longer old new rest.0 r (record { stretches = r.stretches; closing = c }) in
    let whole : P (closing_after base (turned_closing old.closing) new.closing r.closing) = record {
      run = rest.1.run;
      kept = rest.1.kept;
      items = rest.1.items ∙ ap (λ l. l ++ rest.0) (ap (λ l. items_over names l r) (append-nil (before ++ log)));
    } in
    (rest.0, subst P (turned_after base old.closing new.closing r.closing) whole, λ some. rest.2 (turned_closed old.closing some))

-- in this generation
follows_added : (exact : Bool) (names : List (List ℕ)) (before log longer entries : List Entry) (reports : List Report) (first : ℕ)
    → longer ≡ log ++ entries → first ≡ length (history_after before log) → history_after (before ++ log) entries ≡ reports
    → (old new : MemberView) → Spreads exact (line_for names) first reports old new → Follows names before log before longer old.session new.session
follows_added exact names before log longer entries reports first longer_is first_is added old new spreads =
    let P : List Entry → Type 0 = λ l. Follows names before log before l old.session new.session in
    let F : ℕ → Type 0 = λ n. Reports exact (line_for names) n reports old.session new.session in
    subst P (sym longer_is) (reports_extend exact names before log entries reports old.session new.session added (subst F first_is spreads.session))

-- the runs of all, if each one follows
pub runs_on : (old new : BookView) (before onward : List Entry) → new.names ≡ old.names
    → AllZip (λ (a b : MemberView). Follows old.names before old.log.log onward new.log.log a.session b.session) old.sessions new.sessions
    → (runs : List SessionRun) → RunsOf old before runs
    → (nexts : List SessionRun) × RunsOf new onward nexts × AllZip (λ (r next : SessionRun). next.stretches ≡ r.stretches) runs nexts
runs_on old new before onward names follows runs zip =
    let P : MemberView → SessionRun → Type 0 = λ a r. IsRunOf old.names before old.log.log a.session r in
    let R : MemberView → MemberView → Type 0 = λ a b. Follows old.names before old.log.log onward new.log.log a.session b.session in
    let Q : MemberView → SessionRun → Type 0 = λ a r. IsRunOf new.names onward new.log.log a.session r in
    let S : SessionRun → SessionRun → Type 0 = λ r next. next.stretches ≡ r.stretches in
    zip_carry P R Q S
    (λ a b r follow run.
    let on = follow r run in
    let next : SessionRun = run_after (length (history onward)) a.session b.session r in
    let N : List (List ℕ) → Type 0 = λ n. IsRunOf n onward new.log.log b.session next in
    (next, subst N (sym names) on.1.run, refl))
    old.sessions new.sessions runs follows zip

-- entries and their reports were added, after a turn or without one
moved : (exact turns : Bool) (old new : BookView) (entries before : List Entry) (reports : List Report) → BookHolds old → StandsFor old.log.opening before
    → BookAdds exact (turned_if turns old) new entries reports → BookGoesOn turns old new entries before
moved true_or turns old new entries before reports held stands adds = by turns adds
  where
    by : (turns : Bool) → BookAdds true_or (turned_if turns old) new entries reports → BookGoesOn turns old new entries before
    by true adds =
        let onward : List Entry = before ++ old.log.log in
        let present : StandsFor old.log.present onward = (held.log.over before stands).present in
        let O : DeviceStatesView → Type 0 = λ s. StandsFor s onward in
        let reports_are : history_after (onward ++ []) entries ≡ reports = adds.log.reports_are onward present in
        let R : MemberView → MemberView → Type 0 = λ a b. Follows old.names before old.log.log onward new.log.log a.session b.session in
        let sessions : AllZip R old.sessions new.sessions =
        zip_weaker (λ (a b : MemberView). Spreads true_or (line_for old.names) 0 reports (renewed a) b) R
        (λ a b spreads. follows_turned old.names before old.log.log new.log.log a.session b.session
        (follows_added true_or old.names onward [] new.log.log entries reports 0 adds.log.log (sym (ap length (Rattle.session_runs.proofs.Whole.nothing_after onward))) reports_are (renewed a) b spreads))
        old.sessions new.sessions (zip_unmapped (Spreads true_or (line_for old.names) 0 reports) renewed old.sessions new.sessions adds.sessions) in
        record {
          stands = subst O (sym adds.log.opening) present;
          whole = ap (λ l. onward ++ l) adds.log.log;
          names = adds.names;
          sessions = sessions;
          runs = runs_on old new before onward adds.names sessions;
        }
    by false adds =
        let O : DeviceStatesView → Type 0 = λ s. StandsFor s before in
        let R : MemberView → MemberView → Type 0 = λ a b. Follows old.names before old.log.log before new.log.log a.session b.session in
        let sessions : AllZip R old.sessions new.sessions =
        zip_weaker (Spreads true_or (line_for old.names) old.log.length reports) R
        (follows_added true_or old.names before old.log.log new.log.log entries reports old.log.length adds.log.log (sym (place_is old before held stands)) (adds.log.reports_are before stands))
        old.sessions new.sessions adds.sessions in
        record {
          stands = subst O (sym adds.log.opening) stands;
          whole = ap (λ l. before ++ l) adds.log.log ∙ sym (append_assoc before old.log.log entries);
          names = adds.names;
          sessions = sessions;
          runs = runs_on old new before before adds.names sessions;
        }

pub moves_extend : MovesExtendRuns
moves_extend exact turns old new entries before held stands moves = moved exact turns old new entries before moves.0 held stands moves.1

-- ---- what is given

pub given_more : GivenMore
given_more names before log onward longer old new more taken put r next extends given = record {
  items = ap (λ l. l ++ more) given.items ∙ sym extends.items;
  rest = ap (λ l. taken ++ l) extends.kept ∙ sym (append_assoc taken old.kept more) ∙ ap (λ l. l ++ more) given.rest;
}

pub given_taken : GivenTaken
given_taken names log taken [] put r given = record { items = given.items; rest = append-nil (taken ++ []) ∙ given.rest }
given_taken names log taken (item ∷ kept) put r given = record { items = given.items; rest = append_assoc taken (item ∷ []) kept ∙ given.rest }

-- ---- one session, and all

pub one_changes : OneRunChanges
one_changes s old new before runs next run same changed is_run zip =
    let P : MemberView → SessionRun → Type 0 = λ a r. IsRunOf new.names before new.log.log a.session r in
    let Q : List MemberView → Type 0 = λ l. AllZip P l (set runs s run) in
    let same_log : new.log.log ≡ old.log.log = ap (λ (l : DeviceLogView). l.log) same.log in
    subst Q (sym changed) (zip_set P old.sessions runs s next run is_run
    (renamed old.names new.names before old.log.log new.log.log old.sessions runs same.names same_log zip))

shut_stretches : (log : List Entry) (why : Close) (c : Option (ℕ × Close)) (r : SessionRun) → (shut_run log why c r).stretches ≡ r.stretches
shut_stretches log why None r = refl
shut_stretches log why (Some closing) r = refl

pub shut_all : ShutAllRuns
shut_all old new before runs held stands shuts zip =
    let P : MemberView → SessionRun → Type 0 = λ a r. IsRunOf new.names before new.log.log a.session r in
    let S : SessionRun → SessionRun → Type 0 = λ r next. next.stretches ≡ r.stretches in
    let same_log : new.log.log ≡ old.log.log = ap (λ (l : DeviceLogView). l.log) shuts.same.log in
    let L : List Entry → Type 0 = λ l. length (history_after before l) ≡ old.log.length in
    let long : L new.log.log = subst L (sym same_log) (place_is old before held stands) in
    zip_carry P (Shuts old.log.length DaemonEnd) P S
    (λ a b r shut run.
    let next : SessionRun = shut_run (before ++ new.log.log) DaemonEnd a.session.closing r in
    (next, (shuts_end new.names before new.log.log old.log.length DaemonEnd a b r long shut run).run, shut_stretches (before ++ new.log.log) DaemonEnd a.session.closing r))
    old.sessions new.sessions runs shuts.sessions
    (renamed old.names new.names before old.log.log new.log.log old.sessions runs shuts.same.names same_log zip)
