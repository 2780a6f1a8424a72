-- The account of a session through the calls of a book.
use Rattle.std.proofs.Common.{◌≡◌, ℕ, Bool, false, List, [], ◌++◌, ◌-◌, ◌^◌, min, length, drop, map, Option, Some, None, refl, sym, ap, ◌∙◌, subst, append-nil, append_assoc}
use Rattle.std.specs.List.{AllZip}
use Rattle.std.proofs.lemmas.List.{length-map}
use Rattle.session_core.specs.declared.mark.Close.{Close}
use Rattle.session_core.specs.declared.mark.Close.TheVariants.{DaemonEnd}
use Rattle.session_core.specs.SessionView.{SessionView}
use Rattle.book_log.specs.Entries.{Entry}
use Rattle.book_log.specs.History.{history, history_after}
use Rattle.book_log.specs.DeviceLogView.{DeviceLogView}
use Rattle.book_sessions.specs.Answering.{raised}
use Rattle.book_sessions.specs.MemberView.{MemberView, with_kept}
use Rattle.book_replies.specs.declared.answering.Answer.{Answer}
use Rattle.book_sessions.specs.Roster.{Shuts}
use Rattle.report_book.specs.BookView.{BookView}
use Rattle.session_runs.specs.Accounts.{Account, AccountIn, AdmittedHasAccount, CarriesOn, ClosedHearsNothing, ClosingsEndAccounts, EntriesCarryAccounts, InputsExtendAccounts, OthersKeepAccounts, QuietEntriesCarryAccounts, ShutEndsAccounts, TakingMovesItems, put_of}
use Rattle.session_runs.specs.Asking.{HasSent, HearsNothing}
use Rattle.session_runs.specs.Following.{BookGoesOn, Extends, Follows, answered_run, closed_run, forgotten_if, run_after, shut_run}
use Rattle.session_runs.specs.Runs.{SessionRun, items_over}
use Rattle.session_runs.proofs.Books.{admitted_begins, given_taken, moves_extend, place_is}
use Rattle.session_runs.proofs.Counting.{AllCount, Counts, closings_count, counts_these, entries_count, items_on, same_counts, shuts_count}
use Rattle.session_runs.proofs.Going.{answers_extend, closings_end, shuts_end, taking_keeps}
use Rattle.session_runs.proofs.Quiet.{quiet_entries}
use Rattle.session_runs.proofs.Sending.{closings_unheard, entries_unheard, nothing_sent, same_unheard, sent_in_vain, sent_more, sent_onward, shuts_unheard, taking_unheard}
use Rattle.session_runs.proofs.Zipping.{zip_both, zip_same, zip_weaker}

-- what was given goes on as the run does
given_on : (names : List (List ℕ)) (before log onward longer : List Entry) (old new : SessionView) (more taken : List (List ℕ)) (r next : SessionRun)
    → Extends names before log onward longer old new more r next → taken ++ old.kept ≡ items_over names (before ++ log) r
    → taken ++ new.kept ≡ items_over names (onward ++ longer) next
given_on names before log onward longer old new more taken r next extends given =
    ap (λ l. taken ++ l) extends.kept ∙ sym (append_assoc taken old.kept more) ∙ ap (λ l. l ++ more) given ∙ sym extends.items

-- in the same log, if nothing is heard
unheard : (names : List (List ℕ)) (log : List Entry) (old new : MemberView) (r : SessionRun) (bytes : List ℕ) → HearsNothing old new
    → HasSent names log old r.stretches bytes → HasSent names log new r.stretches bytes
unheard names log old new r bytes nothing sent =
    let P : List Entry → Type 0 = λ l. HasSent names l new r.stretches bytes in
    subst P (append-nil log) (sent_onward names log [] old new r.stretches bytes nothing sent)

-- ---- entries

carries : (old new : BookView) (entries before onward : List Entry) → new.names ≡ old.names → onward ++ new.log.log ≡ (before ++ old.log.log) ++ entries
    → (a b : MemberView) → Follows old.names before old.log.log onward new.log.log a.session b.session → HearsNothing a b × Counts a.session b.session
    → CarriesOn old before new onward a b
carries old new entries before onward names whole a b follows (nothing, counts) r taken bytes account =
    let on = follows r account.run in
    let next : SessionRun = run_after (length (history onward)) a.session b.session r in
    let S : List Entry → Type 0 = λ l. HasSent old.names l b r.stretches bytes in
    let N : List (List ℕ) → Type 0 = λ n. Account n onward new.log.log b next taken bytes in
    subst N (sym names) (record {
      run = on.1.run;
      given = given_on old.names before old.log.log onward new.log.log a.session b.session on.0 taken r next on.1 account.given;
      items = items_on a.session b.session on.0 (items_over old.names (before ++ old.log.log) r) (items_over old.names (onward ++ new.log.log) next) counts on.1.kept on.1.items account.items;
      sent = subst S (sym whole) (sent_onward old.names (before ++ old.log.log) entries a b r.stretches bytes nothing account.sent);
    })

all_carry : (turns : Bool) (old new : BookView) (entries before : List Entry) → BookGoesOn turns old new entries before → AllZip HearsNothing old.sessions new.sessions
    → AllCount old.sessions new.sessions → AllZip (CarriesOn old before new (forgotten_if turns before old.log.log)) old.sessions new.sessions
all_carry turns old new entries before on nothing counts =
    let onward : List Entry = forgotten_if turns before old.log.log in
    let F : MemberView → MemberView → Type 0 = λ a b. Follows old.names before old.log.log onward new.log.log a.session b.session in
    let C : MemberView → MemberView → Type 0 = λ a b. Counts a.session b.session in
    let N : MemberView → MemberView → Type 0 = λ a b. HearsNothing a b × Counts a.session b.session in
    zip_both F N (CarriesOn old before new onward) (carries old new entries before onward on.names on.whole) old.sessions new.sessions on.sessions
    (zip_both HearsNothing C N (λ a b unheard count. (unheard, count)) old.sessions new.sessions nothing counts)

pub entries_carry : EntriesCarryAccounts
entries_carry exact turns old new entries before held stands moves =
    all_carry turns old new entries before (moves_extend exact turns old new entries before held stands moves) (entries_unheard exact turns old new entries moves)
    (entries_count exact turns old new entries moves)

pub quiet_carry : QuietEntriesCarryAccounts
quiet_carry old new entries before stands quiet =
    let Q : List MemberView → Type 0 = λ l. AllZip HearsNothing old.sessions l in
    all_carry false old new entries before (quiet_entries old new entries before stands quiet) (subst Q (sym quiet.sessions) (zip_same HearsNothing same_unheard old.sessions))
    (subst (AllCount old.sessions) (sym quiet.sessions) (zip_same (λ (a b : MemberView). Counts a.session b.session) same_counts old.sessions))

-- ---- sessions

pub admitted_account : AdmittedHasAccount
admitted_account name cap old new before held stands admits =
    let begins = admitted_begins name cap old new before held stands admits in
    record {
      run = begins.run;
      given = begins.kept ∙ sym begins.items;
      items = ap (λ l. min (length l) (2 ^ 64 - 1)) (sym begins.items);
      sent = nothing_sent new.names (before ++ new.log.log) name cap old.most_requests old.log.length;
    }

pub others_keep : OthersKeepAccounts
others_keep old new before a r taken bytes same account =
    let N : List (List ℕ) → Type 0 = λ n. Account n before new.log.log a r taken bytes in
    let L : DeviceLogView → Type 0 = λ l. Account old.names before l.log a r taken bytes in
    subst N (sym same.names) (subst L (sym same.log) account)

pub inputs_extend : InputsExtendAccounts
inputs_extend exact names before log place piece old new r taken bytes long is heard account =
    let put : List Answer = put_of exact names (before ++ log) place piece old new heard in
    let next : SessionRun = answered_run (before ++ log) put new.session.closing r in
    let extends = answers_extend names before log place (length heard.requests - heard.count) old new put r long is heard.puts heard.stops account.run in
    record {
      run = extends.run;
      given = given_on names before log before log old.session new.session (map (λ answer. answer.reply) put) taken r next extends account.given;
      items = items_on old.session new.session (map (λ answer. answer.reply) put) (items_over names (before ++ log) r) (items_over names (before ++ log) next)
          (counts_these old.session new.session (map (λ answer. answer.reply) put) extends.kept
          (heard.puts.items ∙ ap (raised old.session.items) (sym (length-map put (λ answer. answer.reply)))))
          extends.kept extends.items account.items;
      sent = sent_more exact names (before ++ log) place piece old new r.stretches bytes heard is account.sent;
    }

pub closings_account : ClosingsEndAccounts
closings_account names before log place why old new r taken bytes long is closes account =
    let next : SessionRun = closed_run (before ++ log) why r in
    let extends = closings_end names before log place why old new r long is closes account.run in
    record {
      run = extends.run;
      given = given_on names before log before log old.session new.session [] taken r next extends account.given;
      items = items_on old.session new.session [] (items_over names (before ++ log) r) (items_over names (before ++ log) next)
          (closings_count place why old new closes) extends.kept extends.items account.items;
      sent = unheard names (before ++ log) old new r bytes (closings_unheard place why old new closes) account.sent;
    }

pub closed_hears : ClosedHearsNothing
closed_hears names before log a r taken bytes piece over account = record {
  run = account.run;
  given = account.given;
  items = account.items;
  sent = sent_in_vain names (before ++ log) a r.stretches bytes piece over account.sent;
}

shut_sent : (c : Option (ℕ × Close)) (names : List (List ℕ)) (log : List Entry) (why : Close) (a : MemberView) (r : SessionRun) (bytes : List ℕ)
    → HasSent names log a r.stretches bytes → HasSent names log a (shut_run log why c r).stretches bytes
shut_sent None names log why a r bytes sent = sent
shut_sent (Some closing) names log why a r bytes sent = sent

pub shut_accounts : ShutEndsAccounts
shut_accounts old new before held stands shuts =
    let R : MemberView → MemberView → Type 0 = λ a b. (r : SessionRun) (taken : List (List ℕ)) (bytes : List ℕ) → AccountIn old before a r taken bytes
    → AccountIn new before b (shut_run (before ++ new.log.log) DaemonEnd a.session.closing r) taken bytes in
    let L : DeviceLogView → Type 0 = λ l. length (history_after before l.log) ≡ old.log.length in
    let long : L new.log = subst L (sym shuts.same.log) (place_is old before held stands) in
    zip_weaker (Shuts old.log.length DaemonEnd) R
    (λ a b shut r taken bytes account.
    let was = others_keep old new before a r taken bytes shuts.same account in
    let next : SessionRun = shut_run (before ++ new.log.log) DaemonEnd a.session.closing r in
    let extends = shuts_end new.names before new.log.log old.log.length DaemonEnd a b r long shut was.run in
    record {
      run = extends.run;
      given = given_on new.names before new.log.log before new.log.log a.session b.session [] taken r next extends was.given;
      items = items_on a.session b.session [] (items_over new.names (before ++ new.log.log) r) (items_over new.names (before ++ new.log.log) next)
          (shuts_count old.log.length DaemonEnd a b shut) extends.kept extends.items was.items;
      sent = shut_sent a.session.closing new.names (before ++ new.log.log) DaemonEnd b r bytes
          (unheard new.names (before ++ new.log.log) a b r bytes (shuts_unheard old.log.length DaemonEnd a b shut) was.sent);
    })
    old.sessions new.sessions shuts.sessions

pub taking_moves : TakingMovesItems
taking_moves names before log a r taken bytes account =
    let kept : List (List ℕ) = drop 1 a.session.kept in
    let given = given_taken names (before ++ log) taken a.session.kept (items_over names (before ++ log) r) r (record { items = refl; rest = account.given }) in
    record {
      run = taking_keeps names before log a kept r refl account.run;
      given = given.rest;
      items = account.items;
      sent = unheard names (before ++ log) a (with_kept kept a) r bytes (taking_unheard kept a) account.sent;
    }
