-- The run of such a session has the two stretches that `upstream_laws` describes.
use Rattle.std.proofs.Common.{◌≡◌, ℕ, List, [], ◌∷◌, ◌++◌, Option, Some, length, take, drop, sym, ap, subst, ◌∙◌, take-append-drop}
use Rattle.std.specs.Prelude.{Ok}
use Rattle.std.specs.List.{concat}
use Rattle.std.proofs.lemmas.List.Folds.{concat-append}
use Rattle.gps_report.specs.declared.policy.Policy.{Policy}
use Rattle.gps_command.specs.Policies.{policy_answered}
use Rattle.gps_command.specs.Requests.{requests}
use Rattle.gps_command.specs.declared.command.Command.TheVariants as command
use Rattle.gps_command.specs.declared.request.RawCommand.{RawCommand}
use Rattle.gps_command.specs.declared.request.RawCommand.TheVariants as raw
use Rattle.session_core.specs.SessionView.{opening_policy}
use Rattle.session_core.specs.Stretches.{Stretch, answer_stretch, between, end_of, items_to}
use Rattle.book_batch.specs.Lines.{line_for}
use Rattle.book_log.specs.Entries.{Entry, stream}
use Rattle.book_log.specs.History.{history}
use Rattle.book_replies.specs.ReplyDataView.{ReplyDataView}
use Rattle.book_replies.specs.Replies.{opening_reply, reply_by}
use Rattle.report_book.specs.Knowing.{known_in}
use Rattle.session_runs.specs.Runs.{SessionRun}
use Rattle.session_runs.specs.Asking.{Asked}
use Rattle.upstream_laws.specs.Head.{behind, fresh}
use Rattle.upstream_laws.specs.Alike.{AreAlike, BeginsAlike}
use Rattle.upstream_laws.specs.Asking.{IsUnderstood}
use Rattle.upstream_laws.specs.Carried.{asked_once, carried, packets_policy, request, session_bytes, watch_reply}
use Rattle.upstream_laws.specs.Across.{ComesAcross, IsTheDevice}
use Rattle.upstream_laws.proofs.Asked.{understood}
use Rattle.upstream_laws.proofs.Crossing.{first_reports_come_across, packets_come_across, reports_come_across}
use Rattle.command_laws.specs.Sessions.{AskedOnce, SessionsAreAlike, SessionsBeginAlike, SessionsComeAcross, TakenComesAcross, all_bytes}

-- the two stretches, by what the devices were known to be
record IsRun (device : Option (List ℕ)) (names : List (List ℕ)) (run : SessionRun) (mark : Stretch) : Type 0 where
  opening : ℕ
  known : ReplyDataView
  stretches : run.stretches ≡ asked_once device names opening mark.place known

stretch_is : (s : Stretch) (policy : Policy) (text : List ℕ) → s.policy ≡ policy → s.reply ≡ Some text → s ≡ answer_stretch s.place policy text
stretch_is s policy text p r =
    ap (λ q. record { place = s.place; policy = q; reply = s.reply }) p ∙ ap (λ t. record { place = s.place; policy = policy; reply = t }) r

is_run : (device : Option (List ℕ)) (names : List (List ℕ)) (log : List Entry) (run : SessionRun) (mark : Stretch)
    → AskedOnce device names log run mark → IsRun device names run mark
is_run device names log run mark once =
    let meant : IsUnderstood device = understood device (once.names_are).device_is in
    let words : RawCommand = raw.Words meant.words in
    let asked : Asked names log (once.opening ∷ mark ∷ []) (words ∷ []) =
    subst (λ asked. Asked names log (once.opening ∷ mark ∷ []) asked) meant.alone (subst (λ s. Asked names log s (requests (request device))) once.stretches once.asked) in
    let first = asked.2 in
    let answers = asked.3 in
    let moment : ℕ = answers.0 in
    let answer = answers.2 in
    let known : ReplyDataView = known_in (length names) (take moment log) in
    let policy : mark.policy ≡ packets_policy device = answer.policy ∙ ap (policy_answered opening_policy) meant.watches ∙ meant.policy in
    let text : mark.reply ≡ Some (watch_reply device names known) =
    answer.reply ∙ ap (λ c. Some (reply_by known names mark.policy c)) meant.watches
    ∙ ap (λ p. Some (reply_by known names p (Ok (command.Watch (Some meant.change))))) policy in
    record {
      opening = (once.opening).place;
      known = known;
      stretches = once.stretches
          ∙ ap (λ s. s ∷ mark ∷ []) (stretch_is once.opening opening_policy opening_reply first.0 first.1)
          ∙ ap (λ s. answer_stretch (once.opening).place opening_policy opening_reply ∷ s ∷ []) (stretch_is mark (packets_policy device) (watch_reply device names known) policy text);
    }

bytes_are : (device : Option (List ℕ)) (names : List (List ℕ)) (log : List Entry) (run : SessionRun) (mark : Stretch) (is : IsRun device names run mark)
    → all_bytes names log run ≡ session_bytes device names is.opening mark.place (end_of run.closing (history log)) is.known log
bytes_are device names log run mark is = ap (λ s. concat (items_to (line_for names) (end_of run.closing (history log)) s (history log))) is.stretches

pub sessions_cross : SessionsComeAcross
sessions_cross device names log run mark once =
    let is : IsRun device names run mark = is_run device names log run mark once in
    let end : ℕ = end_of run.closing (history log) in
    subst (λ bytes. ComesAcross bytes (carried device names (between mark.place end (history log)))) (sym (bytes_are device names log run mark is))
    (packets_come_across device names is.opening mark.place end is.known log once.names_are)

pub sessions_alike : SessionsAreAlike
sessions_alike device names log run mark d again once first only all e =
    let is : IsRun device names run mark = is_run device names log run mark once in
    let before : List Entry = take first.moment log in
    let later : List Entry = drop first.moment log in
    let cut : before ++ later ≡ log = take-append-drop first.moment log in
    let same : all_bytes names log run
    ≡ session_bytes device names is.opening (length (history before)) (length (history (before ++ later))) is.known (before ++ later) =
    bytes_are device names log run mark is
    ∙ ap (λ place. session_bytes device names is.opening place (end_of run.closing (history log)) is.known log) first.place
    ∙ ap (λ end. session_bytes device names is.opening (length (history before)) end is.known log) all
    ∙ ap (λ l. session_bytes device names is.opening (length (history before)) (length (history l)) is.known l) (sym cut) in
    subst (λ l. AreAlike again (stream d l)) cut
    (reports_come_across device names is.opening is.known before later d again once.names_are
    (subst (λ l. IsTheDevice device names d (history l)) (sym cut) only) first.first (e ∙ ap (behind fresh) same))

pub sessions_begin_alike : SessionsBeginAlike
sessions_begin_alike device names log run mark d front rest again once first only divides e =
    let is : IsRun device names run mark = is_run device names log run mark once in
    let before : List Entry = take first.moment log in
    let later : List Entry = drop first.moment log in
    let end : ℕ = end_of run.closing (history log) in
    let cut : before ++ later ≡ log = take-append-drop first.moment log in
    let same : all_bytes names log run ≡ session_bytes device names is.opening (length (history before)) end is.known (before ++ later) =
    bytes_are device names log run mark is
    ∙ ap (λ place. session_bytes device names is.opening place end is.known log) first.place
    ∙ ap (λ l. session_bytes device names is.opening (length (history before)) end is.known l) (sym cut) in
    subst (λ l. BeginsAlike again (stream d l)) cut
    (first_reports_come_across device names is.opening end is.known before later d front rest again once.names_are
    (subst (λ l. IsTheDevice device names d (history l)) (sym cut) only) first.first (sym same ∙ divides) e)

pub taken_cross : TakenComesAcross
taken_cross device names before log a run taken opening mark again are account stretches e =
    let once : AskedOnce device names (before ++ log) run mark =
    record { names_are = are; opening = opening; stretches = stretches; asked = (account.sent).asked } in
    let all : all_bytes names (before ++ log) run ≡ concat taken ++ concat a.session.kept =
    ap concat (sym account.given) ∙ concat-append taken a.session.kept in
    (sessions_cross device names (before ++ log) run mark once).part (concat taken) (concat a.session.kept) again all e
