-- What each call of a book comes to.
use Rattle.std.proofs.Common.{◌≡◌, ◌≤◌, ◌+◌, ◌*◌, ℕ, zero, suc, Bool, true, false, refl, sym, ap, ◌∙◌, subst, List, [], ◌∷◌, ◌++◌, length, map, get_or, append-nil, Option, Some, None, Result, Ok, Err, is_some, slice_get, option_and_then, nat_lt, nat_eq, take, drop, arith, ◌<◌}
use Rattle.std.specs.List.{All, AllZip, list_any}
use Rattle.std.proofs.Math.ListN.{set}
use Rattle.std.proofs.lemmas.Bool.{ltb-true, eqb-true}
use Rattle.std.proofs.lemmas.List.Elements.{All-set, All-push, All-map, AllZip-get_or, length_all_zip}
use Rattle.std.proofs.lemmas.List.Sums.{AllPass-from_list_all}
use Rattle.std.proofs.lemmas.Option.{slice_get-get_or}
use Rattle.std.proofs.lemmas.Slice.Zip.{AllZip-long}
use Rattle.std.proofs.lemmas.List.{length-take}
use Rattle.gps_report.specs.declared.policy.Policy.{Policy}
use Rattle.gps_report.specs.declared.report.Report.{Report}
use Rattle.session_core.specs.declared.mark.Close.{Close}
use Rattle.session_core.specs.Holding.{SessionGains, Holding}
use Rattle.session_core.specs.SessionView.{SessionView, last_place, turned_marks}
use Rattle.session_core.specs.Stretches.{Stretch}
use Rattle.session_core.proofs.Gaining.{taken}
use Rattle.book_batch.specs.Lines.{line_for}
use Rattle.book_log.specs.Entries.{Entry}
use Rattle.book_log.specs.History.{history_after}
use Rattle.book_log.specs.DeviceLogView.{DeviceLogView, LogAdds, AreOf, LogHolds, IsFresh, stopped_of, turned_if as log_turned_if}
use Rattle.book_log.specs.Standing.{StandsFor}
use Rattle.book_replies.specs.Polling.{is_poll}
use Rattle.book_replies.specs.Replies.{answered}
use Rattle.book_replies.specs.ReplyDataView.{ReplyDataView}
use Rattle.gps_command.specs.Kept.{CommandCutterView}
use Rattle.gps_command.specs.declared.request.RawCommand.{RawCommand}
use Rattle.book_sessions.specs.Answering.{AnswersCut, Inputs, IsCut}
use Rattle.book_sessions.specs.MemberView.{MemberView, renewed, with_cutter, with_kept}
use Rattle.book_sessions.specs.Roster.{Changes, Closes, IsAfterAll, IsOpenAt, Shuts, ShutsBy, MemberTurns}
use Rattle.book_sessions.specs.Spreading.{Spreads}
use Rattle.book_units.specs.Changes.{EachUnit, UnitGains, UnitTurns, turned as turned_unit}
use Rattle.book_units.specs.Samples.{samples_of}
use Rattle.book_units.specs.Units.{UnitView, HasRoom, HasRoomAt, IsNew, all_of, carried_by, new_unit, since_turn}
use Rattle.book_units.proofs.Given.{few, room}
use Rattle.report_book.specs.BookView.{BookView, renewed_if, turned_if, units_turned_if}
use Rattle.report_book.specs.Moves.{BookAdds, Earns, SessionEarns}
use Rattle.report_book.specs.Refusals.{RefusesOnly, device_fault, missing_session, session_fault}
use Rattle.report_book.specs.Standing.{BookHolds, FollowsReports, SessionHolds, UnitHolds, history_of}
use Rattle.report_book.proofs.Adding.{added, earned, history_added}
use Rattle.report_book.proofs.Changing.{after_all, no_fault, not_missing, passes, sessions_changed}
use Rattle.report_book.proofs.Lists.{all_along}
use Rattle.report_book.proofs.Reading.{shown_answers}
use Rattle.report_book.proofs.Turning.{book_turned_if}
use Rattle.report_book.specs.Knowing.{known_in, shown_in}
use Rattle.book_sessions.proofs.Answered.{heard, heard_on}

-- entries came, after a turn if one was due
pub record Moved (exact turns : Bool) (old new : BookView) (entries : List Entry) (reports : List Report) : Type 0 where
  pub holds : BookHolds new
  pub adds : BookAdds exact (turned_if turns old) new entries reports
  pub earns : Earns (turned_if turns old) new entries

pub moved : (exact : Bool) (names : List (List ℕ)) (most : ℕ) (log next : DeviceLogView) (sessions members : List MemberView) (units kept others : List UnitView) (turns began : Bool) (first : ℕ) (entries : List Entry) (reports : List Report)
    → BookHolds (record { names = names; most_requests = most; log = log; sessions = sessions; units = units })
    → began ≡ turns → first ≡ (log_turned_if turns log).length → kept ≡ units
    → LogHolds next → LogAdds (log_turned_if turns log) next entries reports
    → (began ≡ true → AllZip MemberTurns sessions (map renewed sessions))
    → (began ≡ true → EachUnit (λ _. UnitTurns) kept (map turned_unit kept))
    → AllZip (Spreads exact (line_for names) first reports) (renewed_if began sessions) members
    → EachUnit (λ u. UnitGains (samples_of u reports)) (units_turned_if began kept) others
    → Moved exact turns (record { names = names; most_requests = most; log = log; sessions = sessions; units = units }) (record { names = names; most_requests = most; log = next; sessions = members; units = others }) entries reports
moved exact names most log next sessions members units kept others turns began first entries reports held is first_is kept_is holds adds sessions_turn units_turn spread gains =
    let P : Bool → Type 0 = λ b. AllZip (Spreads exact (line_for names) (log_turned_if turns log).length reports) (renewed_if b sessions) members in
    let F : ℕ → Type 0 = λ n. AllZip (Spreads exact (line_for names) n reports) (renewed_if began sessions) members in
    let spread_is = subst P is (subst F first_is spread) in
    let U : Bool → Type 0 = λ b. EachUnit (λ u. UnitGains (samples_of u reports)) (units_turned_if b units) others in
    let K : List UnitView → Type 0 = λ l. EachUnit (λ u. UnitGains (samples_of u reports)) (units_turned_if began l) others in
    let gains_are = subst U is (subst K kept_is gains) in
    let T : List UnitView → Type 0 = λ l. EachUnit (λ _. UnitTurns) l (map turned_unit l) in
    let whole = book_turned_if turns (record { names = names; most_requests = most; log = log; sessions = sessions; units = units }) held (λ e. sessions_turn (is ∙ e)) (λ e. subst T kept_is (units_turn (is ∙ e))) in
    record {
      holds = added exact names most (log_turned_if turns log) next (renewed_if turns sessions) members (units_turned_if turns units) others entries reports whole holds adds spread_is gains_are;
      adds = record { names = refl; requests = refl; log = adds; sessions = spread_is; units = gains_are };
      earns = earned exact names most (log_turned_if turns log) next (renewed_if turns sessions) members (units_turned_if turns units) others entries reports whole adds spread_is gains_are;
    }

-- no turn and no entries change the limit of a generation
pub limit_kept : (turns : Bool) (old new : DeviceLogView) (entries : List Entry) (reports : List Report) → LogAdds (log_turned_if turns old) new entries reports → new.limit ≡ old.limit
limit_kept true old new entries reports adds = adds.limit
limit_kept false old new entries reports adds = adds.limit

-- no mark is after the place of the next report
marks_first : (policy : Policy) (closing : Option (ℕ × Close)) → last_place 0 (turned_marks closing policy) ≤ 0
marks_first policy None = omega arith
marks_first policy (Some closing) = omega arith

after_begun : (turns : Bool) (b : BookView) → BookHolds b → IsAfterAll (log_turned_if turns b.log).length (renewed_if turns b.sessions)
after_begun true b held =
    let P : MemberView → Type 0 = λ a. last_place 0 a.session.marks ≤ 0 in
    All-map P renewed b.sessions (λ k d within. marks_first (get_or b.sessions k d).session.policy (get_or b.sessions k d).session.closing)
after_begun false b held = after_all b held.log.some.0 held held.log.some.1

pub after_if : (turns began : Bool) (first : ℕ) (b : BookView) → BookHolds b → began ≡ turns → first ≡ (log_turned_if turns b.log).length → IsAfterAll first (renewed_if began b.sessions)
after_if turns began first b held is first_is =
    let P : Bool → Type 0 = λ t. IsAfterAll first (renewed_if t b.sessions) in
    let F : ℕ → Type 0 = λ n. IsAfterAll n (renewed_if turns b.sessions) in
    subst P (sym is) (subst F (sym first_is) (after_begun turns b held))

-- room at a device's units is room for its reports
pub roomy : (d more : ℕ) (spare : List ℕ) (reports : List Report) → HasRoomAt d more spare → AreOf d reports → length reports ≤ more → HasRoom spare reports
roomy d more spare reports free own short =
    let ours : All (λ (r : Report). r.device ≡ d) reports = λ k x within. eqb-true (get_or reports k x).device d (AllPass-from_list_all (λ (r : Report). nat_eq r.device d) reports own k x within) in
    let serial = few (2 * d) reports in
    let pulse = few (2 * d + 1) reports in
    room d more spare reports free ours (omega arith) (omega arith)

-- what a test that passed tells
pub is_device : (b : BookView) (d : ℕ) (x : Unit {0}) → RefusesOnly (device_fault b d) (Ok x) → d < length b.names
is_device b d x passed = ltb-true d (length b.names) (no_fault (nat_lt d (length b.names)) (get_or (stopped_of b.log.present) d true) (passes (device_fault b d) x passed)).0

pub is_session : (b : BookView) (s : ℕ) (x : Unit {0}) → RefusesOnly (session_fault b s) (Ok x) → s < length b.sessions
is_session b s x passed =
    ltb-true s (length b.sessions) (no_fault (nat_lt s (length b.sessions)) (is_some (option_and_then (λ (a : MemberView). a.session.closing) (slice_get b.sessions s))) (passes (session_fault b s) x passed)).0

none_of : {X : Type 0} (o : Option X) → is_some o ≡ false → o ≡ None
none_of None e = refl
none_of (Some x) e = absurd (cc)

pub is_open_at : (b : BookView) (s : ℕ) (x : Unit {0}) → RefusesOnly (session_fault b s) (Ok x) → IsOpenAt s b.sessions
is_open_at b s x passed = λ free.
    let closings = λ (a : MemberView). a.session.closing in
    let parts = no_fault (nat_lt s (length b.sessions)) (is_some (option_and_then closings (slice_get b.sessions s))) (passes (session_fault b s) x passed) in
    let there = slice_get-get_or b.sessions s free (ltb-true s (length b.sessions) parts.0) in
    sym (ap (option_and_then closings) there) ∙ none_of (option_and_then closings (slice_get b.sessions s)) parts.1

pub after_at : (b : BookView) (s place : ℕ) → BookHolds b → s < length b.sessions → place ≡ b.log.length → (free : MemberView) → last_place 0 (get_or b.sessions s free).session.marks ≤ place
after_at b s place held within place_is = λ free.
    let F : ℕ → Type 0 = λ n. last_place 0 (get_or b.sessions s free).session.marks ≤ n in
    subst F (sym place_is) (after_all b held.log.some.0 held held.log.some.1 s free within)

pub after_all_at : (b : BookView) (place : ℕ) → BookHolds b → place ≡ b.log.length → IsAfterAll place b.sessions
after_all_at b place held place_is =
    let F : ℕ → Type 0 = λ n. IsAfterAll n b.sessions in
    subst F (sym place_is) (after_all b held.log.some.0 held held.log.some.1)

-- one session becomes another: of that one's requests as many are answered, and what it has is known over any history as long as the place
pub one_changed : (R : MemberView → MemberView → Type 0) (b : BookView) (s place : ℕ) (members : List MemberView)
    → ((history : List Report) (old next : MemberView) → length history ≡ place → R old next → SessionHolds b.names history old.session → SessionHolds b.names history next.session)
    → ((old next : MemberView) → R old next → next.session.most_requests ≡ old.session.most_requests)
    → BookHolds b → s < length b.sessions → place ≡ b.log.length → Changes s R b.sessions members
    → BookHolds (record { names = b.names; most_requests = b.most_requests; log = b.log; sessions = members; units = b.units })
one_changed R b s place members keeps same held within place_is changes =
    let M : MemberView → Type 0 = λ a. a.session.most_requests ≡ b.most_requests in
    let N : List MemberView → Type 0 = λ l. All M l in
    sessions_changed b.names b.most_requests b.log b.sessions members b.units held (λ before stands all.
    let P : MemberView → Type 0 = λ a. SessionHolds b.names (history_of b before) a.session in
    let next = changes.0 in
    let Q : List MemberView → Type 0 = λ l. All P l in
    subst Q (sym changes.1) (All-set P b.sessions s next
    (keeps (history_of b before) (get_or b.sessions s next) next (sym (held.log.over before stands).places ∙ sym place_is) (changes.2 next) (all s next within)) all))
    (subst N (sym changes.1) (All-set M b.sessions s changes.0
    (same (get_or b.sessions s changes.0) changes.0 (changes.2 changes.0) ∙ held.requests s changes.0 within) held.requests))

pub closed_holds : (why : Close) (names : List (List ℕ)) (place : ℕ) (history : List Report) (old next : MemberView) → length history ≡ place → Closes place why old next
    → SessionHolds names history old.session → SessionHolds names history next.session
closed_holds why names place history old next long closes held = (held.0, (closes.gains (line_for names) history held.0 long held.1).holding)

pub heard_holds : (exact : Bool) (known : ReplyDataView) (place : ℕ) (piece : List ℕ) (names : List (List ℕ)) (history : List Report) (old next : MemberView) → length history ≡ place
    → Inputs exact known names place piece old next → SessionHolds names history old.session → SessionHolds names history next.session
heard_holds exact known place piece names history old next long inputs held = (_, (inputs.puts.gains (line_for names) history held.0 long held.1).holding)

-- a session heard a piece of its input
pub record Hears (exact : Bool) (s place : ℕ) (piece : List ℕ) (b : BookView) (members : List MemberView) : Type 0 where
  pub holds : BookHolds (record { names = b.names; most_requests = b.most_requests; log = b.log; sessions = members; units = b.units })
  pub session : (before : List Entry) → StandsFor b.log.opening before
      → Changes s (Inputs exact (known_in (length b.names) (before ++ b.log.log)) b.names place piece) b.sessions members

hears : (exact : Bool) (b : BookView) (s place : ℕ) (piece : List ℕ) (members : List MemberView) → BookHolds b → s < length b.sessions → place ≡ b.log.length
    → ((before : List Entry) → StandsFor b.log.opening before → Changes s (Inputs exact (known_in (length b.names) (before ++ b.log.log)) b.names place piece) b.sessions members)
    → Hears exact s place piece b members
hears exact b s place piece members held within place_is session =
    let known = known_in (length b.names) (held.log.some.0 ++ b.log.log) in
    record {
      holds = one_changed (Inputs exact known b.names place piece) b s place members (heard_holds exact known place piece b.names)
          (λ old next inputs. inputs.puts.most_requests) held within place_is (session held.log.some.0 held.log.some.1);
      session = session;
    }

-- by what the requests of the piece ask for
pub hears_requests : (exact polls : Bool) (b : BookView) (s place : ℕ) (piece : List ℕ) (known : ReplyDataView) (requests : List RawCommand) (cutter : CommandCutterView) (members : List MemberView)
    → BookHolds b → s < length b.sessions → place ≡ b.log.length → (polls ≡ false → list_any is_poll requests ≡ false)
    → ((before : List Entry) → StandsFor b.log.opening before → known ≡ shown_in polls (length b.names) (before ++ b.log.log))
    → ((free : MemberView) → IsCut piece (get_or b.sessions s free) requests cutter)
    → Changes s (AnswersCut exact known b.names place requests cutter) b.sessions members → Hears exact s place piece b members
hears_requests exact polls b s place piece known requests cutter members held within place_is none known_is cut answers =
    hears exact b s place piece members held within place_is (λ before stands.
    let log = before ++ b.log.log in
    let full = known_in (length b.names) log in (
      answers.0,
      answers.1,
      λ free.
          let old = get_or b.sessions s free in
          heard exact known full b.names place piece requests cutter old answers.0 (cut free)
          (ap (λ k. answered k b.names old.session.policy requests) (known_is before stands) ∙ shown_answers polls (length b.names) log b.names old.session.policy requests none)
          (answers.2 free),
    ))

pub nothing : {A : Type 0} (xs : List A) → length xs ≡ 0 → xs ≡ []
nothing [] none = refl
nothing (x ∷ xs) none = absurd (omega (arith, none))

-- one that ends no request
pub hears_on : (exact : Bool) (b : BookView) (s place : ℕ) (piece : List ℕ) (requests : List RawCommand) (cutter : CommandCutterView) (members : List MemberView)
    → BookHolds b → s < length b.sessions → place ≡ b.log.length → IsOpenAt s b.sessions → requests ≡ []
    → ((free : MemberView) → IsCut piece (get_or b.sessions s free) requests cutter)
    → Changes s (λ x y. y ≡ with_cutter cutter x) b.sessions members → Hears exact s place piece b members
hears_on exact b s place piece requests cutter members held within place_is is_open none cut goes =
    hears exact b s place piece members held within place_is (λ before stands. (
      goes.0,
      goes.1,
      λ free. heard_on exact (known_in (length b.names) (before ++ b.log.log)) b.names place piece requests cutter (get_or b.sessions s free) goes.0 (cut free) none (is_open free) (goes.2 free),
    ))

shut_by_holds : (c : Option (ℕ × Close)) (why : Close) (names : List (List ℕ)) (place : ℕ) (history : List Report) (old next : MemberView) → length history ≡ place → ShutsBy c place why old next
    → SessionHolds names history old.session → SessionHolds names history next.session
shut_by_holds None why names place history old next long shuts held = closed_holds why names place history old next long shuts held
shut_by_holds (Some closing) why names place history old next long shuts held = let P : MemberView → Type 0 = λ a. SessionHolds names history a.session in subst P (sym shuts) held

shut_same : (c : Option (ℕ × Close)) (why : Close) (place : ℕ) (old next : MemberView) → ShutsBy c place why old next → next.session.most_requests ≡ old.session.most_requests
shut_same None why place old next shuts = ap (λ (a : MemberView). a.session.most_requests) shuts.becomes
shut_same (Some closing) why place old next shuts = ap (λ (a : MemberView). a.session.most_requests) shuts

pub shut_all : (why : Close) (b : BookView) (place : ℕ) (members : List MemberView) → BookHolds b → place ≡ b.log.length → AllZip (Shuts place why) b.sessions members
    → BookHolds (record { names = b.names; most_requests = b.most_requests; log = b.log; sessions = members; units = b.units })
shut_all why b place members held place_is shuts =
    sessions_changed b.names b.most_requests b.log b.sessions members b.units held (λ before stands all.
    let P : MemberView → Type 0 = λ a. SessionHolds b.names (history_of b before) a.session in
    all_along P P (Shuts place why) (λ x y old shut. shut_by_holds x.session.closing why b.names place (history_of b before) x y (sym (held.log.over before stands).places ∙ sym place_is) shut old)
    b.sessions members all shuts)
    (let M : MemberView → Type 0 = λ a. a.session.most_requests ≡ b.most_requests in
    all_along M M (Shuts place why) (λ x y answers shut. shut_same x.session.closing why place x y shut ∙ answers) b.sessions members held.requests shuts)

pub one_more : (b : BookView) (place : ℕ) (a : MemberView) (stretches : List Stretch) (members : List MemberView) → BookHolds b → place ≡ b.log.length
    → a.session.most_requests ≡ b.most_requests
    → ((lines : Policy → Report → List (List ℕ)) (history : List Report) → length history ≡ place → Holding lines history a.session stretches)
    → members ≡ b.sessions ++ a ∷ []
    → BookHolds (record { names = b.names; most_requests = b.most_requests; log = b.log; sessions = members; units = b.units })
one_more b place a stretches members held place_is answers opens is =
    let M : MemberView → Type 0 = λ x. x.session.most_requests ≡ b.most_requests in
    let N : List MemberView → Type 0 = λ l. All M l in
    sessions_changed b.names b.most_requests b.log b.sessions members b.units held (λ before stands all.
    let P : MemberView → Type 0 = λ x. SessionHolds b.names (history_of b before) x.session in
    let Q : List MemberView → Type 0 = λ l. All P l in
    subst Q (sym is) (All-push P b.sessions a all (stretches, opens (line_for b.names) (history_of b before) (sym (held.log.over before stands).places ∙ sym place_is))))
    (subst N (sym is) (All-push M b.sessions a held.requests answers))

pub taken_holds : (names : List (List ℕ)) (place : ℕ) (history : List Report) (old next : MemberView) → length history ≡ place → next ≡ with_kept (drop 1 old.session.kept) old
    → SessionHolds names history old.session → SessionHolds names history next.session
taken_holds names place history old next long is held =
    let P : MemberView → Type 0 = λ a. SessionHolds names history a.session in
    subst P (sym is) (held.0, taken (line_for names) history old.session held.0 held.1)

pub is_there : (b : BookView) (s : ℕ) (x : Unit {0}) → RefusesOnly (missing_session b s) (Ok x) → s < length b.sessions
is_there b s x passed = ltb-true s (length b.sessions) (not_missing (nat_lt s (length b.sessions)) (passes (missing_session b s) x passed))

-- entries that give no report change nothing else
pub quiet : (names : List (List ℕ)) (most : ℕ) (log next : DeviceLogView) (sessions : List MemberView) (units : List UnitView) (entries : List Entry)
    → BookHolds (record { names = names; most_requests = most; log = log; sessions = sessions; units = units }) → LogHolds next → LogAdds log next entries []
    → BookHolds (record { names = names; most_requests = most; log = next; sessions = sessions; units = units }) × Earns (record { names = names; most_requests = most; log = log; sessions = sessions; units = units }) (record { names = names; most_requests = most; log = next; sessions = sessions; units = units }) entries
quiet names most log next sessions units entries held holds adds =
    let same : (before : List Entry) → StandsFor log.opening before → history_after before log.log ≡ history_after before next.log =
    λ before stands. sym (append-nil (history_after before log.log)) ∙ sym (history_added log next entries [] before adds stands) in (
      record {
        log = holds;
        over = λ before stands.
            let P : List Report → Type 0 = λ r. FollowsReports (record { names = names; most_requests = most; log = next; sessions = sessions; units = units }) r in
            let was : StandsFor log.opening before = subst (λ s. StandsFor s before) adds.opening stands in
            subst P (same before was) (record { sessions = (held.over before was).sessions; units = (held.over before was).units });
        names = held.names ∙ sym adds.count;
        count = held.count;
        units = held.units;
        requests = held.requests;
      },
      record {
        sessions = λ before stands s free within stretches holding.
            let a = (get_or sessions s free).session in
            let P : List Report → Type 0 = λ r. SessionGains (line_for names) (history_after before log.log) r a a stretches stretches [] in
            ([], subst P (same before stands) (record { kept = sym (append-nil a.kept); items = sym (append-nil _); holding = holding }));
        units = λ before stands u free within.
            sym (append-nil (all_of (get_or units u free))) ∙ ap (λ r. all_of (get_or units u free) ++ samples_of u r) (sym (adds.reports_are before stands));
      },
    )

-- a new book
unit_new : (first u : ℕ) (x : UnitView) → IsNew first x → UnitHolds u [] x
unit_new first u x new =
    let P : UnitView → Type 0 = λ v. UnitHolds u [] v in
    subst P (sym new.1) refl

new_at : (firsts : List ℕ) (units : List UnitView) → AllZip IsNew firsts units → (u : ℕ) (free : UnitView) → u < length units → (first : ℕ) × IsNew first (get_or units u free)
new_at [] [] new u free within = absurd (omega arith)
new_at [] (x ∷ units) new u free within = absurd new
new_at (first ∷ firsts) [] new u free within = absurd new
new_at (first ∷ firsts) (x ∷ units) new zero free within = (first, new.0)
new_at (first ∷ firsts) (x ∷ units) new (suc u) free within = new_at firsts units new.1 u free (omega arith)

pub new_holds : (names : List (List ℕ)) (most : ℕ) (log : DeviceLogView) (limit : ℕ) (firsts : List ℕ) (units : List UnitView) → IsFresh (length names) limit log → LogHolds log → length names ≤ 8
    → AllZip IsNew (take (2 * length names) firsts) units → length units ≡ 2 * length names
    → BookHolds (record { names = names; most_requests = most; log = log; sessions = []; units = units })
unfolding history_after
new_holds names most log limit firsts units fresh holds short new count =
    record {
      log = holds;
      over = λ before stands.
          let P : List Entry → Type 0 = λ l. FollowsReports (record { names = names; most_requests = most; log = log; sessions = []; units = units }) (history_after before l) in
          subst P (sym fresh.log) (record {
            sessions = λ k d within. absurd (omega arith);
            units = λ u free within.
                let found = new_at (take (2 * length names) firsts) units new u free within in
                unit_new found.0 u (get_or units u free) found.1;
          });
      names = sym fresh.count;
      count = short;
      units = count;
      requests = λ k d within. absurd (omega arith);
    }

-- how many requests are answered is said before the first session
pub allowed_holds : (most : ℕ) (b : BookView) → BookHolds b → b.sessions ≡ [] → BookHolds (record b { most_requests = most })
allowed_holds most b held none =
    let N : List MemberView → Type 0 = λ l. All (λ (a : MemberView). a.session.most_requests ≡ most) l in
    record {
      log = held.log;
      over = λ before stands. record { sessions = (held.over before stands).sessions; units = (held.over before stands).units };
      names = held.names;
      count = held.count;
      units = held.units;
      requests = subst N (sym none) (λ k d within. absurd (omega arith));
    }
