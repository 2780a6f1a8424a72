-- Reports come to a session, and its client is told them.
use Rattle.std.proofs.Common.{◌≡◌, ◌≤◌, ◌<◌, ℕ, zero, suc, ◌+◌, ◌-◌, ◌^◌, min, true, List, [], ◌∷◌, ◌++◌, length, map, drop, Option, Some, None, refl, sym, ap, ◌∙◌, subst, inl, inr, length-append, append-nil, arith}
use Rattle.std.specs.List.{AllZip}
use Rattle.std.proofs.lemmas.List.{drop-append-le}
use Rattle.gps_command.specs.Kept as input
use Rattle.gps_command.specs.Kept.{CommandCutterView}
use Rattle.gps_report.specs.declared.report.Report.{Report}
use Rattle.session_core.specs.declared.mark.Close.{Close}
use Rattle.session_core.specs.SessionView.{SessionView, opening_policy, usual_requests}
use Rattle.session_core.specs.Stretches.{Stretch, last_watched}
use Rattle.book_batch.specs.Lines.{line_for}
use Rattle.book_log.specs.Entries.{Entry}
use Rattle.book_log.specs.History.{history, history_after}
use Rattle.book_sessions.specs.Answering.{raised}
use Rattle.book_sessions.specs.MemberView.{MemberView, cutter_left, renewed}
use Rattle.book_sessions.specs.Spreading.{Due, Reports, ReportsBy, Spreads, cutter_by, due}
use Rattle.session_runs.specs.Runs.{SessionRun, IsRunOf, closed_from}
use Rattle.session_runs.specs.Following.{Extends, closing_after, run_after}
use Rattle.session_runs.proofs.Counting.{counted}
use Rattle.session_runs.proofs.Going.{reports_extend, turns_keep}
use Rattle.session_runs.proofs.Whole.{whole_length}
use Rattle.replay_player.specs.Clients.{Client, kept_of, items_of, lines_due, overrun_at, overrun_by, room_of, told}
use Rattle.replay_player.specs.Playing.{Attends}
use Rattle.replay_player.proofs.Dues.{closed_behind, takes_as_due}

-- a session is open exactly if its run is

open_from : (base : ℕ) (closing : Option (ℕ × Close)) → closed_from base closing ≡ None → closing ≡ None
open_from base None is_open = refl
open_from base (Some closing) is_open = absurd (cc)

pub still_open : (names : List (List ℕ)) (before log : List Entry) (s : SessionView) (r : SessionRun) → IsRunOf names before log s r → r.closing ≡ None → s.closing ≡ None
still_open names before log s r (inl here) is_open = open_from (length (history before)) s.closing (sym here.closing ∙ is_open)
still_open names before log s r (inr over) is_open = absurd (let e : Some (over.place, over.why) ≡ None = sym over.closing ∙ is_open in cc)

pub run_open : (names : List (List ℕ)) (before log : List Entry) (s : SessionView) (r : SessionRun) → IsRunOf names before log s r → s.closing ≡ None → r.closing ≡ None
run_open names before log s r (inl here) is_open = here.closing ∙ ap (closed_from (length (history before))) is_open
run_open names before log s r (inr over) is_open = absurd (let e : Some (0, over.why) ≡ None = sym over.now ∙ is_open in cc)

-- one that is closed stays so
pub stays_closed : (was : Option (ℕ × Close)) (lines : List Due) → (was ≡ None → ⊥) → was ≡ overrun_by was lines
stays_closed None lines some = absurd (some refl)
stays_closed (Some was) lines some = refl

pub closed_too : (closing : ℕ × Close) (names : List (List ℕ)) (before log : List Entry) (s : SessionView) (r : SessionRun) → IsRunOf names before log s r → s.closing ≡ Some closing → r.closing ≡ None → ⊥
closed_too closing names before log s r run is_closed is_open = let e = still_open names before log s r run is_open in let f : None ≡ Some closing = sym e ∙ is_closed in cc

-- the closing that a client is told of

closed_so : (names : List (List ℕ)) (before log : List Entry) (reports : List Report) (first : ℕ) (a b : MemberView) (c : Client)
    → length (history_after before log) ≡ first → Attends names before log a c
    → (closing : Option (ℕ × Close)) → a.session.closing ≡ closing
    → ReportsBy closing true (line_for names) first reports a.session b.session
    → (closing_after (length (history before)) closing b.session.closing c.run.closing ≡ overrun_by c.run.closing (drop (room_of names (before ++ log) c) (lines_due names (before ++ log) reports c)))
    × (length b.session.kept ≤ b.session.cap)
closed_so names before log reports first a b c long attends None is_open reported =
    let base = length (history before) in
    let lines = lines_due names (before ++ log) reports c in
    let due_so = takes_as_due (due (line_for names) a.session.policy first reports) a.session b.session attends.room is_open reported.takes in
    let place : base + first ≡ length (history (before ++ log)) = ap (λ n. base + n) (sym long) ∙ sym (whole_length before log) in
    let room : a.session.cap - length a.session.kept ≡ room_of names (before ++ log) c = ap (λ n. n - length a.session.kept) attends.cap ∙ ap (λ k. c.cap - length k) attends.kept in
    let none = run_open names before log a.session c.run attends.run is_open in (
      ap (closed_from base) due_so.0
          ∙ closed_behind (line_for names) a.session.policy base first (a.session.cap - length a.session.kept) reports
          ∙ ap (λ n. overrun_at (drop (a.session.cap - length a.session.kept) (due (line_for names) a.session.policy n reports))) place
          ∙ ap (λ p. overrun_at (drop (a.session.cap - length a.session.kept) (due (line_for names) p (length (history (before ++ log))) reports))) attends.policy
          ∙ ap (λ n. overrun_at (drop n lines)) room
          ∙ ap (λ o. overrun_by o (drop (room_of names (before ++ log) c) lines)) (sym none),
      due_so.1,
    )
closed_so names before log reports first a b c long attends (Some closing) is_closed unreported =
    let P : SessionView → Type 0 = λ s. length s.kept ≤ s.cap in (
      stays_closed c.run.closing (drop (room_of names (before ++ log) c) (lines_due names (before ++ log) reports c)) (closed_too closing names before log a.session c.run attends.run is_closed),
      subst P (sym unreported.same) attends.room,
    )

pub overrun_none : (o : Option (ℕ × Close)) (lines : List Due) → overrun_by o lines ≡ None → o ≡ None
overrun_none None lines is_open = refl
overrun_none (Some closing) lines is_open = absurd (cc)

-- what reports leave as it is, and how many items there are
pub record Leaves (old new : SessionView) : Type 0 where
  pub cap : new.cap ≡ old.cap
  pub policy : new.policy ≡ old.policy
  pub requests : new.requests ≡ old.requests
  pub items : (more : List (List ℕ)) → new.kept ≡ old.kept ++ more → new.items ≡ raised old.items (length more)

leaves_so : (names : List (List ℕ)) (reports : List Report) (first : ℕ) (old new : SessionView) (closing : Option (ℕ × Close))
    → ReportsBy closing true (line_for names) first reports old new → Leaves old new
leaves_so names reports first old new None reported = record {
  cap = reported.stays.cap;
  policy = reported.stays.policy;
  requests = reported.stays.requests;
  items = λ more kept.
      let both : length (old.kept ++ reported.more) ≡ length (old.kept ++ more) = ap length (sym reported.gets.kept ∙ kept) in
      let same : length reported.more ≡ length more = omega (arith, both, length-append old.kept reported.more, length-append old.kept more) in
      reported.gets.items ∙ ap (raised old.items) same;
}
leaves_so names reports first old new (Some closing) unreported = record {
  cap = ap (λ s. s.cap) unreported.same;
  policy = ap (λ s. s.policy) unreported.same;
  requests = ap (λ s. s.requests) unreported.same;
  items = λ more kept.
      let both : length old.kept ≡ length (old.kept ++ more) = ap (λ (s : SessionView). length s.kept) (sym unreported.same) ∙ ap length kept in
      let none : 0 ≡ length more = omega (arith, both, length-append old.kept more) in
      ap (λ s. s.items) unreported.same ∙ ap (raised old.items) none;
}

-- a session that goes on so is that of the client that is told
pub goes_on : (names : List (List ℕ)) (before log longer : List Entry) (a b : MemberView) (c d : Client) (more : List (List ℕ))
    → Attends names before log a c → Extends names before log before longer a.session b.session more c.run d.run → Leaves a.session b.session
    → d ≡ record c { run = d.run } → d.run.stretches ≡ c.run.stretches → length b.session.kept ≤ b.session.cap
    → (d.run.closing ≡ None → b.cutter ≡ a.cutter) → (d.run.closing ≡ None → c.run.closing ≡ None)
    → Attends names before longer b d
goes_on names before log longer a b c d more attends extends leaves is stretches room cutter was_open =
    let taken : d.taken ≡ c.taken = ap (λ (x : Client). x.taken) is in
    let cap : d.cap ≡ c.cap = ap (λ (x : Client). x.cap) is in
    let heard : d.heard ≡ c.heard = ap (λ (x : Client). x.heard) is in
    let within : length (items_of names (before ++ log) c ++ more) ≡ length (items_of names (before ++ log) c) + length more = length-append (items_of names (before ++ log) c) more in
    let count : length (items_of names (before ++ longer) d) ≡ length (items_of names (before ++ log) c) + length more = ap length extends.items ∙ within in
    record {
      run = extends.run;
      cap = leaves.cap ∙ attends.cap ∙ sym cap;
      least = let most = attends.least in omega (arith, most, cap);
      kept = extends.kept
          ∙ ap (λ k. k ++ more) attends.kept
          ∙ sym (drop-append-le c.taken (items_of names (before ++ log) c) more attends.taken)
          ∙ ap (drop c.taken) (sym extends.items)
          ∙ ap (λ n. drop n (items_of names (before ++ longer) d)) (sym taken);
      taken = let low = attends.taken in omega (arith, low, taken, count);
      room = room;
      items = leaves.items more extends.kept ∙ ap (λ n. raised n (length more)) attends.items ∙ counted (length (items_of names (before ++ log) c)) (length more)
          ∙ ap (λ n. min n (2 ^ 64 - 1)) (sym count);
      policy = leaves.policy ∙ attends.policy ∙ ap (λ s. last_watched opening_policy s) (sym stretches);
      some = let P : List Stretch → Type 0 = λ s. 0 < length s in subst P (sym stretches) attends.some;
      requests = leaves.requests ∙ attends.requests ∙ ap (λ (s : List Stretch). length s - 1) (sym stretches);
      few = let P : List Stretch → Type 0 = λ s. length s - 1 ≤ usual_requests in subst P (sym stretches) attends.few;
      cutter = λ is_open.
          let P : CommandCutterView → Type 0 = λ k. input.StandsFor k d.heard in
          let Q : List ℕ → Type 0 = λ h. input.StandsFor a.cutter h in
          subst P (sym (cutter is_open)) (subst Q (sym heard) (attends.cutter (was_open is_open)));
    }

pub told_one : (names : List (List ℕ)) (before log entries : List Entry) (reports : List Report) (first : ℕ) (a b : MemberView) (c : Client)
    → length (history_after before log) ≡ first → history_after (before ++ log) entries ≡ reports
    → Attends names before log a c → Spreads true (line_for names) first reports a b
    → Attends names before (log ++ entries) b (told names (before ++ log) reports c)
unfolding told
told_one names before log entries reports first a b c long is attends spreads =
    let R : ℕ → Type 0 = λ n. Reports true (line_for names) n reports a.session b.session in
    let goes = reports_extend true names before log entries reports a.session b.session is (subst R (sym long) spreads.session) c.run attends.run in
    let closes = closed_so names before log reports first a b c long attends a.session.closing refl spreads.session in
    let d : Client = told names (before ++ log) reports c in
    let run_is : run_after (length (history before)) a.session b.session c.run ≡ d.run = ap (λ o. record { stretches = c.run.stretches; closing = o }) closes.0 in
    let E : SessionRun → Type 0 = λ r. Extends names before log before (log ++ entries) a.session b.session goes.0 c.run r in
    let extends : E d.run = subst E run_is goes.1 in
    goes_on names before log (log ++ entries) a b c d goes.0 attends extends
    (leaves_so names reports first a.session b.session a.session.closing spreads.session) refl refl closes.1
    (λ is_open.
    let was = overrun_none c.run.closing (drop (room_of names (before ++ log) c) (lines_due names (before ++ log) reports c)) is_open in
    let a_open = still_open names before log a.session c.run attends.run was in
    let b_open = still_open names before (log ++ entries) b.session d.run extends.run is_open in
    spreads.cutter ∙ ap (λ o. cutter_by o b.session.closing a.cutter) a_open ∙ ap (λ o. cutter_left o a.cutter) b_open)
    (overrun_none c.run.closing (drop (room_of names (before ++ log) c) (lines_due names (before ++ log) reports c)))

pub turned_one : (names : List (List ℕ)) (before log : List Entry) (a : MemberView) (c : Client) → Attends names before log a c → Attends names (before ++ log) [] (renewed a) c
turned_one names before log a c attends =
    let same : before ++ log ≡ (before ++ log) ++ [] = sym (append-nil (before ++ log)) in
    let keeps = turns_keep names before log a.session c.run attends.run in
    record {
      run = keeps.run;
      cap = attends.cap;
      least = attends.least;
      kept = attends.kept ∙ ap (λ l. kept_of names l c) same;
      taken = let P : List Entry → Type 0 = λ l. c.taken ≤ length (items_of names l c) in subst P same attends.taken;
      room = attends.room;
      items = attends.items ∙ ap (λ l. min (length (items_of names l c)) (2 ^ 64 - 1)) same;
      policy = attends.policy;
      some = attends.some;
      requests = attends.requests;
      few = attends.few;
      cutter = attends.cutter;
    }

module _ (names : List (List ℕ)) (before log : List Entry) where
  pub turned_all : (sessions : List MemberView) (clients : List Client) → AllZip (Attends names before log) sessions clients → AllZip (Attends names (before ++ log) []) (map renewed sessions) clients
  turned_all [] [] zip = tt
  turned_all [] (c ∷ clients) zip = zip
  turned_all (a ∷ sessions) [] zip = zip
  turned_all (a ∷ sessions) (c ∷ clients) zip = (turned_one names before log a c zip.0, turned_all sessions clients zip.1)

  pub told_all : (entries : List Entry) (reports : List Report) (first : ℕ) → length (history_after before log) ≡ first → history_after (before ++ log) entries ≡ reports
      → (sessions members : List MemberView) (clients : List Client) → AllZip (Attends names before log) sessions clients → AllZip (Spreads true (line_for names) first reports) sessions members
      → AllZip (Attends names before (log ++ entries)) members (map (told names (before ++ log) reports) clients)
  told_all entries reports first long is [] [] [] zip spread = tt
  told_all entries reports first long is [] (b ∷ members) [] zip spread = spread
  told_all entries reports first long is [] [] (c ∷ clients) zip spread = zip
  told_all entries reports first long is [] (b ∷ members) (c ∷ clients) zip spread = absurd spread
  told_all entries reports first long is (a ∷ sessions) [] [] zip spread = absurd zip
  told_all entries reports first long is (a ∷ sessions) [] (c ∷ clients) zip spread = absurd spread
  told_all entries reports first long is (a ∷ sessions) (b ∷ members) [] zip spread = absurd zip
  told_all entries reports first long is (a ∷ sessions) (b ∷ members) (c ∷ clients) zip spread =
      (told_one names before log entries reports first a b c long is zip.0 spread.0, told_all entries reports first long is sessions members clients zip.1 spread.1)
