-- What is allowed of the lines and the replies that a call of a book causes.
use Rattle.std.proofs.Common.{◌≡◌, ℕ, Bool, true, false, refl, sym, ap, ◌∙◌, subst, List, [], ◌∷◌, ◌++◌, length, map, get_or, append-nil, Option, Some, None, is_some, nat_lt, option_and_then, slice_get}
use Rattle.std.specs.List.{All, list_any}
use Rattle.std.proofs.lemmas.Bool.{ltb-true}
use Rattle.std.proofs.lemmas.List.Elements.{All-map}
use Rattle.std.proofs.lemmas.Option.{slice_get-get_or}
use Rattle.gps_command.specs.Kept.{CommandCutterView}
use Rattle.gps_command.specs.declared.request.RawCommand.{RawCommand}
use Rattle.gps_report.specs.declared.report.Report.{Report}
use Rattle.session_core.specs.declared.mark.Close.{Close}
use Rattle.session_core.specs.Allowing.{AllowsAll, MayReport}
use Rattle.session_core.specs.Holding.{Selection}
use Rattle.session_core.specs.Naming.{OutletName}
use Rattle.session_core.specs.SessionView.{turned_closing}
use Rattle.book_batch.specs.Lines.{line_for}
use Rattle.book_log.specs.Entries.{Entry}
use Rattle.book_log.specs.History.{history_after}
use Rattle.book_log.specs.DeviceLogView.{DeviceLogView, LogAdds, turned_if as log_turned_if}
use Rattle.book_log.specs.Standing.{StandsFor}
use Rattle.book_replies.specs.declared.answering.Answer.{Answer}
use Rattle.book_replies.specs.Polling.{is_poll}
use Rattle.book_replies.specs.Replies.{answered}
use Rattle.book_replies.specs.ReplyDataView.{ReplyDataView}
use Rattle.book_sessions.specs.Allowing.{MayReply, MayReportEach, replies_left}
use Rattle.book_sessions.specs.Answering.{IsCut}
use Rattle.book_sessions.specs.MemberView.{MemberView, renewed}
use Rattle.book_units.specs.Units.{UnitView}
use Rattle.report_book.specs.Allowing.{MayAdd, MayInput}
use Rattle.report_book.specs.BookView.{BookView, renewed_if}
use Rattle.report_book.specs.Knowing.{known_in, shown_in}
use Rattle.report_book.specs.Refusals.{device_fault, session_fault}
use Rattle.report_book.specs.Standing.{BookHolds}
use Rattle.report_book.proofs.Changing.{no_fault}
use Rattle.report_book.proofs.Reading.{shown_answers}

was_open : (c : Option (ℕ × Close)) → turned_closing c ≡ None → c ≡ None
was_open None none = refl
was_open (Some closing) none = absurd (cc)

module _ (may : OutletName → List (List ℕ) → Type 0) where
  -- a turn changes nothing of it
  renewed_may : (lines : Selection) (reports : List Report) (a : MemberView) → MayReport may lines reports a.session → MayReport may lines reports (renewed a).session
  renewed_may lines reports a allows still = allows (was_open a.session.closing still)

  each_renewed : (turns : Bool) (lines : Selection) (reports : List Report) (sessions : List MemberView) → MayReportEach may lines reports sessions
      → MayReportEach may lines reports (renewed_if turns sessions)
  each_renewed false lines reports sessions all = all
  each_renewed true lines reports sessions all =
      All-map (λ (a : MemberView). MayReport may lines reports a.session) renewed sessions
      (λ k free within. renewed_may lines reports (get_or sessions k free) (all k free within))

  -- the reports that the log gave are those of the entries, after a turn too
  are_reports : (turns : Bool) (log next : DeviceLogView) (entries before : List Entry) (reports : List Report) → StandsFor log.opening before
      → StandsFor log.present (before ++ log.log) → LogAdds (log_turned_if turns log) next entries reports → history_after (before ++ log.log) entries ≡ reports
  are_reports false log next entries before reports opening present adds = adds.reports_are before opening
  are_reports true log next entries before reports opening present adds =
      ap (λ l. history_after l entries) (sym (append-nil (before ++ log.log))) ∙ adds.reports_are (before ++ log.log) present

  pub lines_allowed : (d : ℕ) (entries : List Entry) (names : List (List ℕ)) (most : ℕ) (log next : DeviceLogView) (sessions : List MemberView) (units : List UnitView) (turns began : Bool)
      (reports : List Report) → BookHolds (record { names = names; most_requests = most; log = log; sessions = sessions; units = units })
      → LogAdds (log_turned_if turns log) next entries reports
      → device_fault (record { names = names; most_requests = most; log = log; sessions = sessions; units = units }) d ≡ None
      → MayAdd may d entries (record { names = names; most_requests = most; log = log; sessions = sessions; units = units })
      → MayReportEach may (line_for names) reports (renewed_if began sessions)
  lines_allowed d entries names most log next sessions units turns began reports held adds runs allows =
      let found = allows runs held in
      let before = found.0 in
      let P : List Report → Type 0 = λ l. MayReportEach may (line_for names) l sessions in
      each_renewed began (line_for names) reports sessions
      (subst P (are_reports turns log next entries before reports found.1 (held.log.over before found.1).present adds) found.2)

  pub replies_known : (polls : Bool) (b : BookView) (s : ℕ) (piece : List ℕ) (known : ReplyDataView) (requests : List RawCommand) (cutter : CommandCutterView)
      → BookHolds b → (polls ≡ false → list_any is_poll requests ≡ false)
      → ((before : List Entry) → StandsFor b.log.opening before → known ≡ shown_in polls (length b.names) (before ++ b.log.log))
      → ((free : MemberView) → IsCut piece (get_or b.sessions s free) requests cutter)
      → session_fault b s ≡ None → MayInput may s piece b
      → (free : MemberView) → MayReply may known b.names requests (get_or b.sessions s free).session
  replies_known polls b s piece known requests cutter held none known_is cut is_open allows free =
      let found = allows is_open held in
      let log = found.0 ++ b.log.log in
      let a = get_or b.sessions s free in
      let exists : nat_lt s (length b.sessions) ≡ true =
      (no_fault (nat_lt s (length b.sessions)) (is_some (option_and_then (λ (x : MemberView). x.session.closing) (slice_get b.sessions s))) is_open).0 in
      let there : slice_get b.sessions s ≡ Some a = slice_get-get_or b.sessions s free (ltb-true s (length b.sessions) exists) in
      let same : answered known b.names a.session.policy requests ≡ answered (known_in (length b.names) log) b.names a.session.policy requests =
      ap (λ k. answered k b.names a.session.policy requests) (known_is found.0 found.1) ∙ shown_answers polls (length b.names) log b.names a.session.policy requests none in
      let P : List Answer → Type 0 = λ l. AllowsAll may a.session (replies_left a.session l) in
      subst P (sym same) (found.2 a there requests (λ bytes stands. (cut free bytes stands).0))

-- an outlet that may keep anything
pub any_lines : (d : ℕ) (entries : List Entry) (b : BookView) → MayAdd (λ _ _. Unit {0}) d entries b
any_lines d entries b runs held = (held.log.some.0, held.log.some.1, λ k free within is_open front rest split. tt)

pub any_replies : (s : ℕ) (piece : List ℕ) (b : BookView) → MayInput (λ _ _. Unit {0}) s piece b
any_replies s piece b runs held = (held.log.some.0, held.log.some.1, λ a there requests gains front rest split. tt)
