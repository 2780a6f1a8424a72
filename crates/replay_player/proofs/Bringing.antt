-- Entries come to a book, after a turn or without one: the stage stands for the state that they bring.
use Rattle.std.proofs.Common.{◌≡◌, ◌<◌, ℕ, Bool, true, false, List, [], ◌∷◌, ◌++◌, length, map, slice_index, refl, sym, ap, ◌∙◌, subst, append-nil, append_assoc, arith, Option, Some, None, drop}
use Rattle.std.specs.List.{AllZip}
use Rattle.std.proofs.lemmas.List.Concat.{flat_map-append}
use Rattle.std.proofs.lemmas.List.{length-append}
use Rattle.gps_report.specs.declared.report.Report.{Report}
use Rattle.session_core.specs.declared.mark.Close.{Close}
use Rattle.session_core.specs.SessionView.{SessionView}
use Rattle.shm_segment.specs.declared.sample.Sample.{Sample}
use Rattle.book_log.specs.Entries.{Entry}
use Rattle.book_log.specs.History.{history, history_after}
use Rattle.book_log.specs.DeviceLogView.{DeviceLogView}
use Rattle.book_log.specs.DeviceLogView.{turned_if as log_turned_if}
use Rattle.book_log.specs.Standing.{StandsFor}
use Rattle.book_log.proofs.Histories.{history-append}
use Rattle.book_sessions.specs.Answering.{raised}
use Rattle.book_sessions.specs.MemberView.{MemberView}
use Rattle.book_units.specs.Samples.{samples_in, samples_of}
use Rattle.report_book.specs.BookView.{BookView, renewed_if, turned_if}
use Rattle.report_book.specs.Moves.{AddsQuietly, Earns, Moves}
use Rattle.report_book.specs.Standing.{BookHolds}
use Rattle.session_runs.specs.Runs.{SessionRun, IsRunOf}
use Rattle.session_runs.specs.Following.{Extends, Follows, closing_after, forgotten_if, run_after}
use Rattle.session_runs.proofs.Whole.{nothing_after}
use Rattle.session_runs.proofs.Quiet.{quiet_entries}
use Rattle.replay_player.specs.Books.{IsStoredAt, KeepSegments}
use Rattle.replay_player.specs.UnitMonitorView.{UnitMonitorView}
use Rattle.replay_player.proofs.Books.{fed, keeps_moves, keeps_same, same_units, still_of}
use Rattle.replay_player.specs.Clients.{Client, overrun_at, overrun_by, room_of, told}
use Rattle.replay_player.specs.Playing.{Attends, BookStandsFor, ReplayBookView, Watches, state_of}
use Rattle.replay_player.specs.States.{State, MonitorState, came}
use Rattle.replay_player.proofs.Dues.{none_left}
use Rattle.replay_player.proofs.Telling.{closed_too, goes_on, overrun_none, run_open, stays_closed, told_all, turned_all}

pub history_more : (log entries : List Entry) → history (log ++ entries) ≡ history log ++ history_after log entries
history_more log entries = history-append [] log entries

pub samples_more : (u : ℕ) (log entries : List Entry) → samples_of u (history (log ++ entries)) ≡ samples_of u (history log) ++ samples_of u (history_after log entries)
samples_more u log entries = ap (samples_of u) (history_more log entries) ∙ flat_map-append (λ (r : Report). samples_in u r.device r.body) (history log) (history_after log entries)

-- monitors are beside a book that keeps its segments
pub watched_on : (old new : BookView) → KeepSegments old new → (watchers : List UnitMonitorView) (watches : List MonitorState) → AllZip (Watches old) watchers watches → AllZip (Watches new) watchers watches
watched_on old new keeps [] [] zip = tt
watched_on old new keeps [] (t ∷ watches) zip = zip
watched_on old new keeps (w ∷ watchers) [] zip = zip
watched_on old new keeps (w ∷ watchers) (t ∷ watches) zip =
    (record { unit = zip.0.unit; reading = zip.0.reading; of = still_of w old new zip.0.of keeps }, watched_on old new keeps watchers watches zip.1)

-- what a turn leaves

whole_if : (turns : Bool) (before : List Entry) (log : DeviceLogView) → forgotten_if turns before log.log ++ (log_turned_if turns log).log ≡ before ++ log.log
whole_if true before log = append-nil (before ++ log.log)
whole_if false before log = refl

stands_if : (turns : Bool) (b : BookView) (before : List Entry) → BookHolds b → StandsFor b.log.opening before → StandsFor (log_turned_if turns b.log).opening (forgotten_if turns before b.log.log)
stands_if true b before held stands = (held.log.over before stands).present
stands_if false b before held stands = stands

long_if : (turns : Bool) (b : BookView) (before : List Entry) → BookHolds b → StandsFor b.log.opening before
    → length (history_after (forgotten_if turns before b.log.log) (log_turned_if turns b.log).log) ≡ (log_turned_if turns b.log).length
long_if true b before held stands = ap length (nothing_after (before ++ b.log.log))
long_if false b before held stands = sym (held.log.over before stands).places

clients_if : (turns : Bool) (names : List (List ℕ)) (before : List Entry) (log : DeviceLogView) (sessions : List MemberView) (clients : List Client) → AllZip (Attends names before log.log) sessions clients
    → AllZip (Attends names (forgotten_if turns before log.log) (log_turned_if turns log).log) (renewed_if turns sessions) clients
clients_if true names before log sessions clients zip = turned_all names before log.log sessions clients zip
clients_if false names before log sessions clients zip = zip

pub same_state : (names names' : List (List ℕ)) (log log' : List Entry) (firsts : List ℕ) (clients clients' : List Client) (stores : List ℕ) (watches : List MonitorState)
    → names ≡ names' → log ≡ log' → clients ≡ clients' → state_of names log firsts clients stores watches ≡ state_of names' log' firsts clients' stores watches
same_state names names' log log' firsts clients clients' stores watches n l c =
    ap (λ x. state_of x log firsts clients stores watches) n
    ∙ ap (λ x. state_of names' x firsts clients stores watches) l
    ∙ ap (λ x. state_of names' log' firsts x stores watches) c

-- the entries come

pub brought : (s : ReplayBookView) (b : BookView) (turns : Bool) (entries : List Entry) (state : State) → BookHolds s.book
    → Moves true turns s.book b entries → Earns (turned_if turns s.book) b entries → BookStandsFor s state → BookStandsFor (record s { book = b }) (came entries state)
unfolding came
brought s b turns entries state held moves earns plays =
    let reports = moves.0 in
    let adds = moves.1 in
    let names = s.book.names in
    let stands = plays.standing.stands in
    let onward = forgotten_if turns plays.before s.book.log.log in
    let log = (log_turned_if turns s.book.log).log in
    let whole = plays.before ++ s.book.log.log in
    let same : onward ++ log ≡ whole = whole_if turns plays.before s.book.log in
    let there : StandsFor (log_turned_if turns s.book.log).opening onward = stands_if turns s.book plays.before held stands in
    let gives : history_after (onward ++ log) entries ≡ reports = adds.log.reports_are onward there in
    let clients = map (told names (onward ++ log) reports) plays.clients in
    let zip = told_all names onward log entries reports (log_turned_if turns s.book.log).length (long_if turns s.book plays.before held stands) gives
    (renewed_if turns s.book.sessions) b.sessions plays.clients (clients_if turns names plays.before s.book.log s.book.sessions plays.clients plays.standing.clients_are) adds.sessions in
    let N : List (List ℕ) → Type 0 = λ n. AllZip (Attends n onward (log ++ entries)) b.sessions clients in
    let L : List Entry → Type 0 = λ l. AllZip (Attends b.names onward l) b.sessions clients in
    let joined : onward ++ b.log.log ≡ whole ++ entries = ap (λ l. onward ++ l) adds.log.log ∙ sym (append_assoc onward log entries) ∙ ap (λ l. l ++ entries) same in
    let told_so : clients ≡ map (told names whole (history_after whole entries)) plays.clients =
    ap (λ r. map (told names (onward ++ log) r) plays.clients) (sym gives) ∙ ap (λ l. map (told names l (history_after l entries)) plays.clients) same in
    let O : List Entry → Type 0 = λ o. StandsFor b.log.opening onward in
    let keeps = keeps_moves true turns s.book b entries moves in
    let S : State → Type 0 = λ st. BookStandsFor (record s { book = b }) (came entries st) in
    subst S plays.is (record {
      before = onward;
      firsts = plays.firsts;
      clients = clients;
      stores = plays.stores;
      watches = plays.watches;
      standing = record {
        stands = subst (λ o. StandsFor o onward) (sym adds.log.opening) there;
        requests = adds.requests ∙ plays.standing.requests;
        clients_are = subst L (sym adds.log.log) (subst N (sym adds.names) zip);
        units_are = λ u within.
            let old_within : u < length s.book.units = let count = keeps.count in omega (arith, within, count) in
            let samples = samples_of u (history whole) in
            let was = plays.standing.units_are u old_within in
            let now = fed true turns s.book b entries onward moves earns there u (slice_index plays.firsts u) (slice_index plays.stores u) samples old_within was in
            let more : samples ++ samples_of u (history_after (onward ++ log) entries) ≡ samples_of u (history (onward ++ b.log.log)) =
            ap (λ l. samples ++ samples_of u (history_after l entries)) same ∙ sym (samples_more u whole entries) ∙ ap (λ l. samples_of u (history l)) (sym joined) in
            let P : List Sample → Type 0 = λ l. IsStoredAt u (slice_index plays.firsts u) l (slice_index plays.stores u) b in
            subst P more now;
        many = plays.standing.many;
        few = plays.standing.few;
        watches_are = watched_on s.book b keeps s.watchers plays.watches plays.standing.watches_are;
      };
      is = same_state b.names names (onward ++ b.log.log) (whole ++ entries) plays.firsts clients (map (told names whole (history_after whole entries)) plays.clients) plays.stores plays.watches
          adds.names joined told_so;
    })

-- Entries come that give no report.

closing_stays : (names : List (List ℕ)) (before log : List Entry) (s : SessionView) (r : SessionRun) (k : ℕ) → IsRunOf names before log s r
    → (o : Option (ℕ × Close)) → s.closing ≡ o → closing_after (length (history before)) o o r.closing ≡ overrun_by r.closing (drop k [])
closing_stays names before log s r k run None is_open =
    sym (ap (λ c. overrun_by c (drop k [])) (run_open names before log s r run is_open) ∙ ap overrun_at (none_left k))
closing_stays names before log s r k run (Some closing) is_closed = stays_closed r.closing (drop k []) (closed_too closing names before log s r run is_closed)

still_told : (names : List (List ℕ)) (before log longer : List Entry) (a : MemberView) (c : Client) → Attends names before log a c
    → Follows names before log before longer a.session a.session → Attends names before longer a (told names (before ++ log) [] c)
unfolding told
still_told names before log longer a c attends follows =
    let goes = follows c.run attends.run in
    let k = room_of names (before ++ log) c in
    let d : Client = told names (before ++ log) [] c in
    let run_is : run_after (length (history before)) a.session a.session c.run ≡ d.run =
    ap (λ o. record { stretches = c.run.stretches; closing = o }) (closing_stays names before log a.session c.run k attends.run a.session.closing refl) in
    let E : SessionRun → Type 0 = λ r. Extends names before log before longer a.session a.session goes.0 c.run r in
    goes_on names before log longer a a c d goes.0 attends (subst E run_is goes.1)
    (record {
      cap = refl;
      policy = refl;
      requests = refl;
      items = λ more kept.
          let both : length a.session.kept ≡ length (a.session.kept ++ more) = ap length kept in
          let none : 0 ≡ length more = omega (arith, both, length-append a.session.kept more) in
          ap (raised a.session.items) none;
    })
    refl refl attends.room (λ is_open. refl) (overrun_none c.run.closing (drop k []))

still_all : (names : List (List ℕ)) (before log longer : List Entry) (sessions : List MemberView) (clients : List Client) → AllZip (Attends names before log) sessions clients
    → AllZip (λ (a b : MemberView). Follows names before log before longer a.session b.session) sessions sessions
    → AllZip (Attends names before longer) sessions (map (told names (before ++ log) []) clients)
still_all names before log longer [] [] zip follow = tt
still_all names before log longer [] (c ∷ clients) zip follow = absurd zip
still_all names before log longer (a ∷ sessions) [] zip follow = absurd zip
still_all names before log longer (a ∷ sessions) (c ∷ clients) zip follow =
    (still_told names before log longer a c zip.0 follow.0, still_all names before log longer sessions clients zip.1 follow.1)

pub brought_quietly : (s : ReplayBookView) (b : BookView) (entries : List Entry) (state : State)
    → AddsQuietly s.book b entries → BookStandsFor s state → BookStandsFor (record s { book = b }) (came entries state)
unfolding came
brought_quietly s b entries state adds plays =
    let names = s.book.names in
    let before = plays.before in
    let stands = plays.standing.stands in
    let whole = before ++ s.book.log.log in
    let goes = quiet_entries s.book b entries before stands adds in
    let F : List MemberView → Type 0 = λ l. AllZip (λ (a b' : MemberView). Follows names before s.book.log.log before b.log.log a.session b'.session) s.book.sessions l in
    let follow : F s.book.sessions = subst F adds.sessions goes.sessions in
    let clients = map (told names whole []) plays.clients in
    let zip = still_all names before s.book.log.log b.log.log s.book.sessions plays.clients plays.standing.clients_are follow in
    let N : List (List ℕ) → Type 0 = λ n. AllZip (Attends n before b.log.log) s.book.sessions clients in
    let A : List MemberView → Type 0 = λ l. AllZip (Attends b.names before b.log.log) l clients in
    let gives : history_after whole entries ≡ [] = adds.log.reports_are before stands in
    let joined : before ++ b.log.log ≡ whole ++ entries = ap (λ l. before ++ l) adds.log.log ∙ sym (append_assoc before s.book.log.log entries) in
    let told_so : clients ≡ map (told names whole (history_after whole entries)) plays.clients = ap (λ r. map (told names whole r) plays.clients) (sym gives) in
    let keeps = keeps_same s.book b adds.units in
    let S : State → Type 0 = λ st. BookStandsFor (record s { book = b }) (came entries st) in
    subst S plays.is (record {
      before = before;
      firsts = plays.firsts;
      clients = clients;
      stores = plays.stores;
      watches = plays.watches;
      standing = record {
        stands = subst (λ o. StandsFor o before) (sym adds.log.opening) stands;
        requests = adds.requests ∙ plays.standing.requests;
        clients_are = subst A (sym adds.sessions) (subst N (sym adds.names) zip);
        units_are = λ u within.
            let old_within : u < length s.book.units = let count = keeps.count in omega (arith, within, count) in
            let samples = samples_of u (history whole) in
            let now = same_units s.book b adds.units u (slice_index plays.firsts u) (slice_index plays.stores u) samples (plays.standing.units_are u old_within) in
            let more : samples ≡ samples_of u (history (before ++ b.log.log)) =
            sym (ap (λ l. samples_of u (history l)) joined ∙ samples_more u whole entries ∙ ap (λ r. samples ++ samples_of u r) gives ∙ append-nil samples) in
            let P : List Sample → Type 0 = λ l. IsStoredAt u (slice_index plays.firsts u) l (slice_index plays.stores u) b in
            subst P more now;
        many = plays.standing.many;
        few = plays.standing.few;
        watches_are = watched_on s.book b keeps s.watchers plays.watches plays.standing.watches_are;
      };
      is = same_state b.names names (before ++ b.log.log) (whole ++ entries) plays.firsts clients (map (told names whole (history_after whole entries)) plays.clients) plays.stores plays.watches
          adds.names joined told_so;
    })
