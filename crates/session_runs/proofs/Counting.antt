-- The number of a session's items, through the calls.
use Rattle.std.proofs.Common.{◌≡◌, ℕ, zero, suc, ◌+◌, ◌-◌, ◌^◌, min, Bool, true, false, List, [], ◌++◌, length, map, Option, Some, None, sym, ap, ◌∙◌, subst, refl, length-append, arith}
use Rattle.std.specs.List.{AllZip}
use Rattle.gps_report.specs.declared.report.Report.{Report}
use Rattle.session_core.specs.declared.mark.Close.{Close}
use Rattle.session_core.specs.SessionView.{SessionView, one_more}
use Rattle.book_batch.specs.Lines.{line_for}
use Rattle.book_log.specs.Entries.{Entry}
use Rattle.book_sessions.specs.Answering.{raised}
use Rattle.book_sessions.specs.MemberView.{MemberView, renewed}
use Rattle.book_sessions.specs.Roster.{Closes, Shuts, ShutsBy}
use Rattle.book_sessions.specs.Spreading.{ReportsBy, Spreads}
use Rattle.report_book.specs.BookView.{BookView, turned_if}
use Rattle.report_book.specs.Moves.{BookAdds, Moves}
use Rattle.session_runs.proofs.Zipping.{zip_unmapped, zip_weaker}

pub counted : (n k : ℕ) → raised (min n (2 ^ 64 - 1)) k ≡ min (n + k) (2 ^ 64 - 1)
counted n zero = let e : n ≡ n + 0 = omega arith in ap (λ m. min m (2 ^ 64 - 1)) e
counted n (suc k) =
    let one : one_more (2 ^ 64 - 1) (min n (2 ^ 64 - 1)) ≡ min (n + 1) (2 ^ 64 - 1) = omega arith in
    let more : n + 1 + k ≡ n + suc k = omega arith in
    ap (λ m. raised m k) one ∙ counted (n + 1) k ∙ ap (λ m. min m (2 ^ 64 - 1)) more

-- it counts each item that it is given
abbrev pub Counts : SessionView → SessionView → Type 0
Counts old new = (more : List (List ℕ)) → new.kept ≡ old.kept ++ more → new.items ≡ raised old.items (length more)

-- it is given these
pub counts_these : (old new : SessionView) (put : List (List ℕ)) → new.kept ≡ old.kept ++ put → new.items ≡ raised old.items (length put) → Counts old new
counts_these old new put put_is items more more_is =
    let long : length put ≡ length more = omega (arith, ap length (sym put_is ∙ more_is), length-append old.kept put, length-append old.kept more) in
    items ∙ ap (raised old.items) long

-- nothing is given
pub counts_none : (old new : SessionView) → new.kept ≡ old.kept → new.items ≡ old.items → Counts old new
counts_none old new kept items more more_is =
    let none : 0 ≡ length more = omega (arith, ap length (sym kept ∙ more_is), length-append old.kept more) in
    items ∙ ap (raised old.items) none

spread_by : (c : Option (ℕ × Close)) (exact : Bool) (names : List (List ℕ)) (first : ℕ) (old new : SessionView) (reports : List Report)
    → ReportsBy c exact (line_for names) first reports old new → Counts old new
spread_by None exact names first old new reports reported = counts_these old new reported.more reported.gets.kept reported.gets.items
spread_by (Some closing) exact names first old new reports same =
    counts_none old new (ap (λ (s : SessionView). s.kept) same.same) (ap (λ (s : SessionView). s.items) same.same)

spread_counts : (exact : Bool) (names : List (List ℕ)) (first : ℕ) (reports : List Report) (old new : MemberView)
    → Spreads exact (line_for names) first reports old new → Counts old.session new.session
spread_counts exact names first reports old new spreads = spread_by old.session.closing exact names first old.session new.session reports spreads.session

abbrev pub AllCount : List MemberView → List MemberView → Type 0
AllCount old new = AllZip (λ (a b : MemberView). Counts a.session b.session) old new

added_count : (turns exact : Bool) (old new : BookView) (entries : List Entry) (reports : List Report)
    → BookAdds exact (turned_if turns old) new entries reports → AllCount old.sessions new.sessions
added_count true exact old new entries reports adds =
    zip_weaker (λ (a b : MemberView). Spreads exact (line_for old.names) 0 reports (renewed a) b) (λ (a b : MemberView). Counts a.session b.session)
    (λ a b spreads. spread_counts exact old.names 0 reports (renewed a) b spreads)
    old.sessions new.sessions (zip_unmapped (Spreads exact (line_for old.names) 0 reports) renewed old.sessions new.sessions adds.sessions)
added_count false exact old new entries reports adds =
    zip_weaker (Spreads exact (line_for old.names) old.log.length reports) (λ (a b : MemberView). Counts a.session b.session)
    (spread_counts exact old.names old.log.length reports) old.sessions new.sessions adds.sessions

pub entries_count : (exact turns : Bool) (old new : BookView) (entries : List Entry) → Moves exact turns old new entries → AllCount old.sessions new.sessions
entries_count exact turns old new entries moves = added_count turns exact old new entries moves.0 moves.1

pub same_counts : (a : MemberView) → Counts a.session a.session
same_counts a = counts_none a.session a.session refl refl

pub closings_count : (place : ℕ) (why : Close) (old new : MemberView) → Closes place why old new → Counts old.session new.session
closings_count place why old new closes =
    counts_none old.session new.session (ap (λ (a : MemberView). a.session.kept) closes.becomes) (ap (λ (a : MemberView). a.session.items) closes.becomes)

shut_by_counts : (c : Option (ℕ × Close)) (place : ℕ) (why : Close) (old new : MemberView) → ShutsBy c place why old new → Counts old.session new.session
shut_by_counts None place why old new shuts = closings_count place why old new shuts
shut_by_counts (Some closing) place why old new same =
    counts_none old.session new.session (ap (λ (a : MemberView). a.session.kept) same) (ap (λ (a : MemberView). a.session.items) same)

pub shuts_count : (place : ℕ) (why : Close) (old new : MemberView) → Shuts place why old new → Counts old.session new.session
shuts_count place why old new shuts = shut_by_counts old.session.closing place why old new shuts

-- the number goes on as the items do
pub items_on : (old new : SessionView) (more was now : List (List ℕ)) → Counts old new → new.kept ≡ old.kept ++ more → now ≡ was ++ more
    → old.items ≡ min (length was) (2 ^ 64 - 1) → new.items ≡ min (length now) (2 ^ 64 - 1)
items_on old new more was now counts kept items before =
    counts more kept
    ∙ ap (λ n. raised n (length more)) before
    ∙ counted (length was) (length more)
    ∙ ap (λ n. min n (2 ^ 64 - 1)) (sym (length-append was more) ∙ ap length (sym items))
