-- Entries and their reports come to a book: the history goes on, and each session and each unit with it.
use Rattle.std.proofs.Common.{◌≡◌, ℕ, Bool, refl, sym, ap, ◌∙◌, subst, List, [], ◌∷◌, ◌++◌, length, get_or, Option, Some, None, append_assoc, arith, ◌<◌, ◌*◌}
use Rattle.std.specs.List.{All, AllZip, flat_map}
use Rattle.std.proofs.lemmas.List.Concat.{flat_map-append}
use Rattle.gps_report.specs.declared.report.Report.{Report}
use Rattle.session_core.specs.declared.mark.Close.{Close}
use Rattle.shm_segment.specs.declared.sample.Sample.{Sample}
use Rattle.book_batch.specs.Lines.{line_for}
use Rattle.book_log.specs.Entries.{Entry}
use Rattle.book_log.specs.History.{history_after}
use Rattle.book_log.specs.DeviceLogView.{DeviceLogView, LogAdds, LogHolds}
use Rattle.book_log.specs.Standing.{StandsFor}
use Rattle.book_log.proofs.Histories.{history-append}
use Rattle.book_sessions.specs.MemberView.{MemberView}
use Rattle.book_sessions.specs.Spreading.{Spreads, ReportsBy}
use Rattle.session_core.specs.Holding.{Selection, SessionGains}
use Rattle.session_core.specs.SessionView.{SessionView}
use Rattle.session_core.proofs.Gaining.{over}
use Rattle.report_book.specs.Moves.{Earns, SessionEarns}
use Rattle.book_units.specs.Changes.{EachUnit, UnitGains}
use Rattle.book_units.specs.Samples.{samples_in, samples_of}
use Rattle.book_units.specs.Units.{UnitView, all_of, carried_by, since_turn}
use Rattle.report_book.specs.BookView.{BookView}
use Rattle.report_book.specs.Standing.{BookHolds, FollowsReports, SessionHolds, UnitHolds, history_of}
use Rattle.std.proofs.lemmas.List.Elements.{AllZip-get_or}
use Rattle.report_book.proofs.Lists.{all_along}

pub history_added : (log next : DeviceLogView) (entries : List Entry) (reports : List Report) (before : List Entry) → LogAdds log next entries reports
    → StandsFor log.opening before → history_after before next.log ≡ history_after before log.log ++ reports
history_added log next entries reports before adds stands =
    ap (history_after before) adds.log ∙ history-append before log.log entries ∙ ap (λ r. history_after before log.log ++ r) (adds.reports_are before stands)

spread_by : (c : Option (ℕ × Close)) (exact : Bool) (names : List (List ℕ)) (first : ℕ) (history reports : List Report) (old new : SessionView) → length history ≡ first
    → SessionHolds names history old → ReportsBy c exact (line_for names) first reports old new → SessionHolds names (history ++ reports) new
spread_by None exact names first history reports old new long held spreads = (held.0, (spreads.gets.gains history held.0 long held.1).holding)
spread_by (Some closing) exact names first history reports old new long held spreads = (held.0, spreads.holding history held.0 long held.1)

-- reports leave how many requests are answered
same_number : (c : Option (ℕ × Close)) (exact : Bool) (lines : Selection) (first : ℕ) (reports : List Report) (old new : SessionView) → ReportsBy c exact lines first reports old new
    → new.most_requests ≡ old.most_requests
same_number None exact lines first reports old new spreads = spreads.stays.most_requests
same_number (Some closing) exact lines first reports old new spreads = ap (λ (s : SessionView). s.most_requests) spreads.same

earned_by : (c : Option (ℕ × Close)) (exact : Bool) (names : List (List ℕ)) (first : ℕ) (history reports : List Report) (old new : SessionView) → length history ≡ first → old.closing ≡ c
    → ReportsBy c exact (line_for names) first reports old new → SessionEarns names history (history ++ reports) old new
earned_by None exact names first history reports old new long is spreads = λ stretches held. (spreads.more, spreads.gets.gains history stretches long held)
earned_by (Some closing) exact names first history reports old new long is spreads = λ stretches held.
    let P : SessionView → Type 0 = λ s. SessionGains (line_for names) history (history ++ reports) old s stretches stretches [] in
    ([], subst P (sym spreads.same) (over (line_for names) closing history reports old stretches is held.agrees))

unit_more : (u : ℕ) (history reports : List Report) (x y : UnitView) → UnitHolds u history x → UnitGains (samples_of u reports) x y → UnitHolds u (history ++ reports) y
unit_more u history reports x y held gains =
    gains.since
    ∙ ap (λ l. l ++ samples_of u reports) held
    ∙ append_assoc (carried_by x) (samples_of u history) (samples_of u reports)
    ∙ ap (λ c. c ++ (samples_of u history ++ samples_of u reports)) (sym gains.carried)
    ∙ ap (λ l. carried_by y ++ l) (sym (flat_map-append (λ (r : Report). samples_in u r.device r.body) history reports))

over_more : (exact : Bool) (names : List (List ℕ)) (most : ℕ) (log next : DeviceLogView) (sessions members : List MemberView) (units others : List UnitView) (first : ℕ) (history reports longer : List Report)
    → length history ≡ first → longer ≡ history ++ reports
    → FollowsReports (record { names = names; most_requests = most; log = log; sessions = sessions; units = units }) history
    → AllZip (Spreads exact (line_for names) first reports) sessions members
    → EachUnit (λ u. UnitGains (samples_of u reports)) units others
    → FollowsReports (record { names = names; most_requests = most; log = next; sessions = members; units = others }) (history ++ reports)
over_more exact names most log next sessions members units others first history reports longer long is over spread gains =
    record {
      sessions = all_along (λ a. SessionHolds names history a.session) (λ a. SessionHolds names (history ++ reports) a.session) (Spreads exact (line_for names) first reports)
          (λ a b held spreads. spread_by a.session.closing exact names first history reports a.session b.session long held spreads.session) sessions members over.sessions spread;
      units = λ u free within.
          let count = gains.count in
          let there : u < length units = omega arith in
          unit_more u history reports (get_or units u free) (get_or others u free) (over.units u free there) (gains.each u free there);
    }

pub added : (exact : Bool) (names : List (List ℕ)) (most : ℕ) (log next : DeviceLogView) (sessions members : List MemberView) (units others : List UnitView) (entries : List Entry) (reports : List Report)
    → BookHolds (record { names = names; most_requests = most; log = log; sessions = sessions; units = units })
    → LogHolds next → LogAdds log next entries reports
    → AllZip (Spreads exact (line_for names) log.length reports) sessions members
    → EachUnit (λ u. UnitGains (samples_of u reports)) units others
    → BookHolds (record { names = names; most_requests = most; log = next; sessions = members; units = others })
added exact names most log next sessions members units others entries reports held holds adds spread gains =
    let count = gains.count in
    let P : MemberView → Type 0 = λ a. a.session.most_requests ≡ most in
    record {
      log = holds;
      over = λ before stands.
          let P : List Report → Type 0 = λ r. FollowsReports (record { names = names; most_requests = most; log = next; sessions = members; units = others }) r in
          let was : StandsFor log.opening before = subst (λ s. StandsFor s before) adds.opening stands in
          subst P (sym (history_added log next entries reports before adds was))
          (over_more exact names most log next sessions members units others log.length (history_after before log.log) reports (history_after before next.log)
          (sym (held.log.over before was).places) (history_added log next entries reports before adds was) (held.over before was) spread gains);
      names = held.names ∙ sym adds.count;
      count = held.count;
      units = count ∙ held.units;
      requests = all_along P P (Spreads exact (line_for names) log.length reports)
          (λ a b answers spreads. same_number a.session.closing exact (line_for names) log.length reports a.session b.session spreads.session ∙ answers) sessions members held.requests spread;
    }

pub earned : (exact : Bool) (names : List (List ℕ)) (most : ℕ) (log next : DeviceLogView) (sessions members : List MemberView) (units others : List UnitView) (entries : List Entry) (reports : List Report)
    → BookHolds (record { names = names; most_requests = most; log = log; sessions = sessions; units = units })
    → LogAdds log next entries reports
    → AllZip (Spreads exact (line_for names) log.length reports) sessions members
    → EachUnit (λ u. UnitGains (samples_of u reports)) units others
    → Earns (record { names = names; most_requests = most; log = log; sessions = sessions; units = units }) (record { names = names; most_requests = most; log = next; sessions = members; units = others }) entries
earned exact names most log next sessions members units others entries reports held adds spread gains =
    record {
      sessions = λ before stands s free within.
          let P : List Report → Type 0 = λ r. SessionEarns names (history_after before log.log) r (get_or sessions s free).session (get_or members s free).session in
          let spreads : Spreads exact (line_for names) log.length reports (get_or sessions s free) (get_or members s free) =
          AllZip-get_or (Spreads exact (line_for names) log.length reports) sessions members s free free spread within in
          subst P (sym (history_added log next entries reports before adds stands))
          (earned_by (get_or sessions s free).session.closing exact names log.length (history_after before log.log) reports (get_or sessions s free).session (get_or members s free).session
          (sym (held.log.over before stands).places) refl spreads.session);
      units = λ before stands u free within.
          (gains.each u free within).all ∙ ap (λ r. all_of (get_or units u free) ++ samples_of u r) (sym (adds.reports_are before stands));
    }
