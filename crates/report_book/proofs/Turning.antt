-- A new generation of a book.
use Rattle.std.proofs.Common.{◌≡◌, ◌≤◌, ◌+◌, ℕ, Bool, true, false, ◌&&◌, cond, refl, sym, ap, ◌∙◌, subst, List, [], ◌∷◌, ◌++◌, length, map, get_or, append-nil, arith, ◌<◌}
use Rattle.std.specs.List.{All, AllZip, fold}
use Rattle.std.proofs.lemmas.List.{length-map}
use Rattle.std.proofs.lemmas.List.Elements.{All-map, AllZip-get_or}
use Rattle.session_core.specs.declared.mark.Close.{Close}
use Rattle.session_core.specs.Holding.{stretches_left}
use Rattle.session_core.specs.SessionView.{turned_closing}
use Rattle.book_batch.specs.Lines.{line_for}
use Rattle.book_log.specs.History.{history_after}
use Rattle.book_log.specs.DeviceLogView.{DeviceLogView, LogHolds, turned as turned_log}
use Rattle.book_log.proofs.LoggedSteps.{turned_holds}
use Rattle.book_sessions.specs.MemberView.{MemberView, is_open, listens, renewed}
use Rattle.book_sessions.specs.Roster.{MemberTurns, listening_in}
use Rattle.book_units.specs.Changes.{EachUnit, UnitTurns, turned as turned_unit}
use Rattle.book_units.specs.Units.{UnitView, carried_by, since_turn}
use Rattle.report_book.specs.BookView.{BookView, renewed_if, turned_if}
use Rattle.report_book.specs.Standing.{BookHolds, FollowsReports, SessionHolds, UnitHolds}

book_turned : (b : BookView) → BookHolds b → AllZip MemberTurns b.sessions (map renewed b.sessions) → EachUnit (λ _. UnitTurns) b.units (map turned_unit b.units) → BookHolds (turned_if true b)
unfolding history_after
book_turned b held sessions units =
    let count = units.count in
    record {
      log = turned_holds b.log held.log;
      over = λ before stands. record {
        sessions = λ k d within.
            let long : length (map renewed b.sessions) ≡ length b.sessions = length-map b.sessions renewed in
            let there : k < length b.sessions = omega arith in
            let turns : MemberTurns (get_or b.sessions k d) (get_or (map renewed b.sessions) k d) =
            AllZip-get_or MemberTurns b.sessions (map renewed b.sessions) k d d sessions there in
            let s = (get_or b.sessions k d).session in
            (stretches_left s.closing s.policy, turns.holding (line_for b.names));
        units = λ u free within.
            let there : u < length b.units = omega arith in
            let turns : UnitTurns (get_or b.units u free) (get_or (map turned_unit b.units) u free) = units.each u free there in
            turns.since ∙ sym turns.carried ∙ sym (append-nil (carried_by (get_or (map turned_unit b.units) u free)));
      };
      names = held.names;
      count = held.count;
      units = count ∙ held.units;
      requests = All-map (λ (a : MemberView). a.session.most_requests ≡ b.most_requests) renewed b.sessions held.requests;
    }

pub book_turned_if : (turns : Bool) (b : BookView) → BookHolds b → (turns ≡ true → AllZip MemberTurns b.sessions (map renewed b.sessions))
    → (turns ≡ true → EachUnit (λ _. UnitTurns) b.units (map turned_unit b.units)) → BookHolds (turned_if turns b)
book_turned_if true b held sessions units = book_turned b held (sessions refl) (units refl)
book_turned_if false b held sessions units = held

-- a turn closes no session, and leaves each policy
open_still : (a : MemberView) → is_open (renewed a) ≡ is_open a
open_still a = by a.session.closing
  where
    by : (c : Rattle.std.specs.Prelude.Option (ℕ × Close)) → Rattle.std.specs.Prelude.not (Rattle.std.specs.Prelude.is_some (turned_closing c)) ≡ Rattle.std.specs.Prelude.not (Rattle.std.specs.Prelude.is_some c)
    by Rattle.std.specs.Prelude.None = refl
    by (Rattle.std.specs.Prelude.Some closing) = refl

listens_still : (a : MemberView) → listens (renewed a) ≡ listens a
listens_still a = ap (λ o. o && a.session.policy.enable) (open_still a)

listening_from : (n : ℕ) (sessions : List MemberView) → fold (λ (m : ℕ) (a : MemberView). m + cond (listens a) 1 0) n (map renewed sessions) ≡ fold (λ (m : ℕ) (a : MemberView). m + cond (listens a) 1 0) n sessions
listening_from n [] = refl
listening_from n (a ∷ sessions) =
    listening_from (n + cond (listens (renewed a)) 1 0) sessions
    ∙ ap (λ b. fold (λ (m : ℕ) (x : MemberView). m + cond (listens x) 1 0) (n + cond b 1 0) sessions) (listens_still a)

pub listening_still : (turns : Bool) (sessions : List MemberView) → listening_in (renewed_if turns sessions) ≡ listening_in sessions
listening_still true sessions = listening_from 0 sessions
listening_still false sessions = refl
