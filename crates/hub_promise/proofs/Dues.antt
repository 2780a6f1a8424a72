-- What is put into the outlet of a session begins something that is due to its client: the lines of reports, the replies to its requests, and
-- its opening reply.
use Rattle.std.proofs.Common.{◌≡◌, ℕ, ◌-◌, List, [], ◌∷◌, ◌++◌, length, map, take, Option, Some, None, refl, sym, ap, ◌∙◌, subst, inr, append-nil, append_assoc}
use Rattle.std.specs.Prelude.{IfSome}
use Rattle.atomic_table.specs.Seated.{TableId}
use Rattle.book_batch.specs.Lines.{line_for}
use Rattle.book_log.specs.Entries.{Entry}
use Rattle.book_log.specs.History.{history, history_after}
use Rattle.book_replies.specs.declared.answering.Answer.{Answer}
use Rattle.book_replies.specs.ReplyDataView.{ReplyDataView}
use Rattle.book_replies.specs.Replies.{answered, opening_reply}
use Rattle.book_sessions.specs.Allowing.{MayHear}
use Rattle.book_sessions.specs.Answering.{stretch_at}
use Rattle.book_sessions.specs.MemberView.{MemberView}
use Rattle.gps_command.specs.declared.request.RawCommand.{RawCommand}
use Rattle.gps_command.specs.Requests.{requests}
use Rattle.gps_lane.specs.Lane.{MayKeep}
use Rattle.gps_report.specs.declared.policy.Policy.{Policy}
use Rattle.gps_report.specs.declared.report.Report.{Report}
use Rattle.report_book.specs.Knowing.{known_in}
use Rattle.session_core.specs.declared.mark.Close.{Close}
use Rattle.session_core.specs.declared.subject.Subject.{Subject}
use Rattle.session_core.specs.Allowing.{AllowsAll, MayReport}
use Rattle.session_core.specs.Holding.{Selection}
use Rattle.session_core.specs.Naming.{OutletName, alone, of_table}
use Rattle.session_core.specs.SessionView.{SessionView, opening_policy}
use Rattle.session_core.specs.Stretches.{Stretch, AreInOrder, answer_stretch, end_of, items_to, last_watched, left_of, plain_stretch, selected, session_items}
use Rattle.session_core.proofs.Growth.{items_grow, items_marked}
use Rattle.session_runs.specs.Accounts.{Account}
use Rattle.session_runs.specs.Asking.{Asked}
use Rattle.session_runs.specs.Due.{IsDue, IsLogFor, device_names}
use Rattle.gps_fixed.specs.Lists.{IsPrefix}
use Rattle.session_runs.specs.Following.{answered_run, opened_run}
use Rattle.session_runs.specs.Runs.{SessionRun, IsHere, IsRunOf, closed_from, items_over}
use Rattle.session_runs.proofs.Answering.{answers_now, asked_joined, asked_longer}
use Rattle.session_runs.proofs.Going.{here_of}
use Rattle.session_runs.proofs.Joined.{left_is, left_joined}
use Rattle.session_runs.proofs.Ordered.{in_order}
use Rattle.session_runs.proofs.Sending.{nothing_sent}
use Rattle.session_runs.proofs.Whole.{whole_history}

-- these bytes are a prefix of what the client sends, if that is told
abbrev pub IsSentBy : Subject → List ℕ → Type 0
IsSentBy about bytes = IfSome about.source (λ (all : List ℕ). IsPrefix bytes all)

-- with all of these the outlet would keep just what is due, so it may keep the first of them
due_begins : (names : List (List ℕ)) (log : List Entry) (about : Subject) (table : TableId) (s : SessionView) (run : SessionRun) (heard : List ℕ) (items : List (List ℕ))
    → device_names about ≡ names → s.name ≡ of_table table about → IsLogFor about log → IsSentBy about heard
    → Asked names log run.stretches (requests heard)
    → s.kept ++ items ≡ items_over names log run → AllowsAll MayKeep s items
due_begins names log about table s run heard items named name read sent asked all front rest is =
    let May : OutletName → Type 0 = λ o. MayKeep o (s.kept ++ front) in
    let Asks : List (List ℕ) → Type 0 = λ l. Asked l log run.stretches (requests heard) in
    let due : IsDue about ((s.kept ++ front) ++ rest) = record {
      log = log;
      run = run;
      heard = heard;
      read = read;
      sent = sent;
      asked = subst Asks (sym named) asked;
      all = append_assoc s.kept front rest ∙ ap (λ l. s.kept ++ l) (sym is) ∙ all ∙ ap (λ l. items_over l log run) (sym named);
    } in
    subst May (sym name) (inr (rest, due))

-- ---- the lines of reports

-- the last stretch goes on, with the policy that is watched
grown_by : (lines : Selection) (policy : Policy) (stretches : List Stretch) (past more : List Report) → left_of stretches ≡ plain_stretch 0 policy ∷ []
    → AreInOrder (length past) stretches
    → items_to lines (length (past ++ more)) stretches (past ++ more) ≡ items_to lines (length past) stretches past ++ selected lines policy more
grown_by lines policy [] past more left order = absurd (cc)
grown_by lines policy (stretch ∷ rest) past more left order =
    items_grow lines stretch rest past more order
    ∙ ap (λ p. items_to lines (length past) (stretch ∷ rest) past ++ selected lines p more) (ap (last_watched policy) left)

-- the run of an open session gains what its policy selects of further reports
items_grown : (names : List (List ℕ)) (before log entries : List Entry) (s : SessionView) (r : SessionRun) → s.closing ≡ None
    → IsRunOf names before log s r
    → items_over names ((before ++ log) ++ entries) r
    ≡ items_over names (before ++ log) r ++ selected (line_for names) s.policy (history_after (before ++ log) entries)
items_grown names before log entries s r is run =
    let lines : Selection = line_for names in
    let whole : List Entry = before ++ log in
    let base : ℕ = length (history before) in
    let x : IsHere names before log s r = here_of names before log s r is run in
    let here : List Stretch = left_of x.earlier ++ x.later in
    let agrees = x.holding.agrees in
    let none : r.closing ≡ None = x.closing ∙ ap (closed_from base) is in
    let left : left_of r.stretches ≡ plain_stretch 0 s.policy ∷ [] =
    ap left_of x.joined ∙ sym (left_joined base x.earlier x.later) ∙ left_is s.policy s.marks here (x.holding.opened is) agrees.marks agrees.policy in
    let Ordered : Option (ℕ × Close) → Type 0 = λ c. AreInOrder (end_of c (history whole)) r.stretches in
    let order : AreInOrder (length (history whole)) r.stretches = subst Ordered none (in_order names before log s r run).order in
    ap (λ c. session_items lines c r.stretches (history (whole ++ entries))) none
    ∙ ap (λ h. items_to lines (length h) r.stretches h) (whole_history whole entries)
    ∙ grown_by lines s.policy r.stretches (history whole) (history_after whole entries) left order
    ∙ ap (λ c. session_items lines c r.stretches (history whole) ++ selected lines s.policy (history_after whole entries)) (sym none)

pub reports_due : (names : List (List ℕ)) (before log entries : List Entry) (about : Subject) (table : TableId) (a : MemberView) (r : SessionRun) (bytes : List ℕ)
    → device_names about ≡ names → a.session.name ≡ of_table table about → IsLogFor about ((before ++ log) ++ entries) → IsSentBy about bytes
    → Account names before log a r [] bytes → MayReport MayKeep (line_for names) (history_after (before ++ log) entries) a.session
reports_due names before log entries about table a r bytes named name read sent account is =
    let more : List (List ℕ) = selected (line_for names) a.session.policy (history_after (before ++ log) entries) in
    due_begins names ((before ++ log) ++ entries) about table a.session r bytes more named name read sent
    (asked_longer names (before ++ log) entries r.stretches (requests bytes) account.sent.asked)
    (ap (λ l. l ++ more) account.given ∙ sym (items_grown names before log entries a.session r is account.run))

-- ---- the replies to requests

-- answers at the end add their replies
answers_add : (lines : Selection) (end : ℕ) (stretches : List Stretch) (answers : List Answer) (past : List Report)
    → items_to lines end (stretches ++ map (stretch_at end) answers) past ≡ items_to lines end stretches past ++ map (λ answer. answer.reply) answers
answers_add lines end stretches [] past = ap (λ l. items_to lines end l past) (append-nil stretches) ∙ sym (append-nil (items_to lines end stretches past))
answers_add lines end stretches (answer ∷ answers) past =
    let one : Stretch = stretch_at end answer in
    ap (λ l. items_to lines end l past) (sym (append_assoc stretches (one ∷ []) (map (stretch_at end) answers)))
    ∙ answers_add lines end (stretches ++ one ∷ []) answers past
    ∙ ap (λ l. l ++ map (λ answer. answer.reply) answers) (items_marked lines end stretches one past refl)
    ∙ append_assoc (items_to lines end stretches past) (answer.reply ∷ []) (map (λ answer. answer.reply) answers)

pub replies_due : (names : List (List ℕ)) (before log : List Entry) (about : Subject) (table : TableId) (a : MemberView) (r : SessionRun) (bytes piece : List ℕ)
    → device_names about ≡ names → a.session.name ≡ of_table table about → a.session.closing ≡ None → IsLogFor about (before ++ log)
    → IsSentBy about (bytes ++ piece) → Account names before log a r [] bytes → MayHear MayKeep (known_in (length names) (before ++ log)) names piece a
replies_due names before log about table a r bytes piece named name is read sent account more cut =
    let whole : List Entry = before ++ log in
    let place : ℕ = length (history whole) in
    let s : SessionView = a.session in
    let known : ReplyDataView = known_in (length names) whole in
    let left : ℕ = s.most_requests - s.requests in
    let put : List Answer = take left (answered known names s.policy more) in
    let replies : List (List ℕ) = map (λ answer. answer.reply) put in
    let gains : requests (bytes ++ piece) ≡ requests bytes ++ more = cut bytes (account.sent.cutter is) in
    let x : IsHere names before log s r = here_of names before log s r is account.run in
    let none : r.closing ≡ None = x.closing ∙ ap (closed_from (length (history before))) is in
    let run : SessionRun = answered_run whole put None r in
    let Asks : List RawCommand → Type 0 = λ l. Asked names whole run.stretches l in
    let asked : Asks (requests (bytes ++ piece)) =
    subst Asks (sym gains)
    (asked_joined names whole r.stretches (map (stretch_at place) put) (requests bytes) more (account.sent.whole is) account.sent.asked
    (λ last within. answers_now names whole (requests bytes) more last place left s.policy within refl (account.sent.policy is))) in
    due_begins names whole about table s run (bytes ++ piece) replies named name read sent asked
    (ap (λ l. l ++ replies) account.given
    ∙ ap (λ c. session_items (line_for names) c r.stretches (history whole) ++ replies) none
    ∙ sym (answers_add (line_for names) place r.stretches put (history whole)))

-- ---- the opening reply

-- nothing begins what the client sends
nothing_first : (source : Option (List ℕ)) → IfSome source (λ (all : List ℕ). IsPrefix [] all)
nothing_first None = tt
nothing_first (Some all) = (all, refl)

pub opening_due : (log : List Entry) (about : Subject) (table : TableId) → IsLogFor about log → MayKeep (of_table table about) (opening_reply ∷ [])
opening_due log about table read =
    let names : List (List ℕ) = device_names about in
    let place : ℕ = length (history log) in
    let last : Stretch = answer_stretch place opening_policy opening_reply in
    let due : IsDue about (opening_reply ∷ []) = record {
      log = log;
      run = opened_run log;
      heard = [];
      read = read;
      sent = nothing_first about.source;
      asked = (nothing_sent names log alone 1 0 place).asked;
      all = sym (items_marked (line_for names) place [] last (history log) refl);
    } in
    inr ([], due)
