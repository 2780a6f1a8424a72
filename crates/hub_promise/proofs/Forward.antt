-- What a book's call that adds entries does to its sessions and units.
use Rattle.std.proofs.Common.{◌≡◌, ◌<◌, ◌≤◌, ℕ, zero, suc, ◌+◌, Bool, true, false, List, [], ◌∷◌, ◌++◌, length, map, get_or, Option, Some, None, refl, sym, ap, ◌∙◌, subst, inl, inr, ◌⊎◌, append-nil, arith}
use Rattle.std.specs.List.{AllZip}
use Rattle.book_batch.specs.Lines.{line_for}
use Rattle.book_log.specs.Entries.{Entry}
use Rattle.book_log.specs.History.{history_after}
use Rattle.book_log.specs.Standing.{StandsFor}
use Rattle.book_sessions.specs.Answering.{MayAnswer}
use Rattle.book_sessions.specs.MemberView.{MemberView, renewed}
use Rattle.book_sessions.specs.Spreading.{Due, ReportsBy, Spreads, TakesDue}
use Rattle.book_units.specs.Changes.{EachUnit, UnitGains, turned as turned_unit}
use Rattle.book_units.specs.Samples.{samples_of}
use Rattle.book_units.specs.Units.{UnitView, all_of, segment_of}
use Rattle.gps_report.specs.declared.report.Report.{Report}
use Rattle.report_book.specs.BookView.{BookView, renewed_if, turned_if, units_turned_if}
use Rattle.report_book.specs.Moves.{AddsQuietly, Earns, Moves}
use Rattle.report_book.specs.Standing.{BookHolds}
use Rattle.session_core.specs.declared.mark.Close.{Close}
use Rattle.session_core.specs.declared.mark.Close.TheVariants.{Overrun}
use Rattle.session_core.specs.declared.outlet.Push.{Push}
use Rattle.session_core.specs.declared.outlet.Push.TheVariants.{Done, Full}
use Rattle.session_core.specs.Holding.{Selection}
use Rattle.session_core.specs.Pushing.{MatchPush}
use Rattle.session_core.specs.SessionView.{SessionView, closed_at, given, turned, turned_closing}
use Rattle.session_core.specs.Stretches.{Stretch}
use Rattle.session_runs.proofs.Accounting.{entries_carry, quiet_carry}
use Rattle.session_runs.proofs.Books.{moves_extend}
use Rattle.session_runs.proofs.Quiet.{quiet_entries}
use Rattle.session_runs.proofs.Zipping.{zip_same, zip_unmapped, zip_weaker}
use Rattle.hub_promise.specs.Steps.{Abides, ClosesBy, Onward}

-- what reports leave of a session that was closed or open so
record Kept (c : Option (ℕ × Close)) (old new : SessionView) : Type 0 where
  name : new.name ≡ old.name
  cap : new.cap ≡ old.cap
  requests : new.requests ≡ old.requests
  most_requests : new.most_requests ≡ old.most_requests
  closes : ClosesBy c old new

takes_close : (exact : Bool) (dues : List Due) (old new : SessionView) → old.closing ≡ None → TakesDue exact dues old new → ClosesBy None old new
takes_close exact [] old new open_is takes = inl (ap (λ (s : SessionView). s.closing) takes ∙ open_is)
takes_close exact (d ∷ more) old new open_is takes = by_push takes.0 takes.1 takes.2 (takes_close exact more (given d.line old) new open_is)
  where
    by_push : (push : Push) → MayAnswer exact old push → MatchPush push (TakesDue exact more (given d.line old) new) (new ≡ closed_at d.place Overrun old)
        → (TakesDue exact more (given d.line old) new → ClosesBy None (given d.line old) new) → ClosesBy None old new
    by_push Done may takes on = on takes
    by_push Full may is on =
        inr (d.place, ap (λ (s : SessionView). s.closing) is, subst (λ (s : SessionView). s.cap ≤ length s.kept) (sym is) (may.full refl))

reports_keep : (c : Option (ℕ × Close)) (exact : Bool) (lines : Selection) (first : ℕ) (reports : List Report) (old new : SessionView) → old.closing ≡ c → ReportsBy c exact lines first reports old new → Kept c old new
reports_keep None exact lines first reports old new is r =
    record { name = r.stays.name; cap = r.stays.cap; requests = r.stays.requests; most_requests = r.stays.most_requests; closes = takes_close exact _ old new is r.takes }
reports_keep (Some closing) exact lines first reports old new is r =
    record {
      name = ap (λ (s : SessionView). s.name) r.same;
      cap = ap (λ (s : SessionView). s.cap) r.same;
      requests = ap (λ (s : SessionView). s.requests) r.same;
      most_requests = ap (λ (s : SessionView). s.most_requests) r.same;
      closes = (closing.0, ap (λ (s : SessionView). s.closing) r.same ∙ is, ap (λ (s : SessionView). s.kept) r.same);
    }

spreads_abide : (exact : Bool) (lines : Selection) (first : ℕ) (reports : List Report) (a b : MemberView) → Spreads exact lines first reports a b → Abides a b
spreads_abide exact lines first reports a b spreads =
    let kept = reports_keep a.session.closing exact lines first reports a.session b.session refl spreads.session in
    record { name = kept.name; cap = kept.cap; requests = kept.requests; most_requests = kept.most_requests; watched = spreads.watched; closes = kept.closes }

turned_closes : (c : Option (ℕ × Close)) (old new : SessionView) → ClosesBy (turned_closing c) (turned old) new → ClosesBy c old new
turned_closes None old new closes = closes
turned_closes (Some closing) old new closes = closes

turned_abides : (a b : MemberView) → Abides (renewed a) b → Abides a b
turned_abides a b abides =
    record { name = abides.name; cap = abides.cap; requests = abides.requests; most_requests = abides.most_requests; watched = abides.watched; closes = turned_closes a.session.closing a.session b.session abides.closes }

closes_same : (c : Option (ℕ × Close)) (s : SessionView) → s.closing ≡ c → ClosesBy c s s
closes_same None s is = inl is
closes_same (Some closing) s is = (closing.0, is, refl)

pub abides_same : (a : MemberView) → Abides a a
abides_same a = record { name = refl; cap = refl; requests = refl; most_requests = refl; watched = refl; closes = closes_same a.session.closing a.session refl }

sessions_abide : (turns exact : Bool) (lines : Selection) (first : ℕ) (reports : List Report) (old new : List MemberView)
    → AllZip (Spreads exact lines first reports) (renewed_if turns old) new → AllZip Abides old new
sessions_abide false exact lines first reports old new spreads =
    zip_weaker (Spreads exact lines first reports) Abides (spreads_abide exact lines first reports) old new spreads
sessions_abide true exact lines first reports old new spreads =
    zip_weaker (λ (a b : MemberView). Spreads exact lines first reports (renewed a) b) Abides
    (λ a b s. turned_abides a b (spreads_abide exact lines first reports (renewed a) b s)) old new
    (zip_unmapped (Spreads exact lines first reports) renewed old new spreads)

same_map : {A B : Type 0} (f : A → B) (xs ys : List A) → length ys ≡ length xs → ((u : ℕ) (x : A) → u < length xs → f (get_or ys u x) ≡ f (get_or xs u x)) → map f ys ≡ map f xs
same_map f [] [] e h = refl
same_map f [] (y ∷ ys) e h = absurd (omega arith)
same_map f (x ∷ xs) [] e h = absurd (omega arith)
same_map f (x ∷ xs) (y ∷ ys) e h =
    let rest = same_map f xs ys (omega arith) (λ u z lt. h (suc u) z (omega arith)) in
    let first = h 0 x (omega arith) in
    λ i. first i ∷ rest i

turned_segments : (turns : Bool) (units : List UnitView) → map segment_of (units_turned_if turns units) ≡ map segment_of units
turned_segments false units = refl
turned_segments true [] = refl
turned_segments true (u ∷ units) = ap (λ l. segment_of u ∷ l) (turned_segments true units)

gains_segments : (reports : List Report) (old new : List UnitView) → EachUnit (λ u. UnitGains (samples_of u reports)) old new → map segment_of new ≡ map segment_of old
gains_segments reports old new each = same_map segment_of old new each.count (λ u x lt. ap segment_of (each.each u x lt).becomes)

turned_all : (units : List UnitView) (u : ℕ) (x : UnitView) → u < length units → all_of (get_or (map turned_unit units) u x) ≡ all_of (get_or units u x)
turned_all [] u x lt = absurd (omega arith)
turned_all (y ∷ units) zero x lt = refl
turned_all (y ∷ units) (suc u) x lt = turned_all units u x (omega arith)

turned_length : (units : List UnitView) → length (map turned_unit units) ≡ length units
turned_length [] = refl
turned_length (u ∷ units) = ap suc (turned_length units)

turned_count : (turns : Bool) (units : List UnitView) → length (units_turned_if turns units) ≡ length units
turned_count false units = refl
turned_count true units = turned_length units

units_on : (turns : Bool) (old new : BookView) (entries : List Entry) → BookHolds old → Earns (turned_if turns old) new entries
    → (before : List Entry) → StandsFor old.log.opening before → (u : ℕ) (x : UnitView) → u < length old.units
    → all_of (get_or new.units u x) ≡ all_of (get_or old.units u x) ++ samples_of u (history_after (before ++ old.log.log) entries)
units_on false old new entries held earns before stands u x lt = earns.units before stands u x lt
units_on true old new entries held earns before stands u x lt =
    earns.units (before ++ old.log.log) (held.log.over before stands).present u x (let n = turned_length old.units in omega arith)
    ∙ (λ i. turned_all old.units u x lt i ++ samples_of u (history_after (append-nil (before ++ old.log.log) i) entries))

turned_limit : (turns : Bool) (old : BookView) → (turned_if turns old).log.limit ≡ old.log.limit
turned_limit false old = refl
turned_limit true old = refl

-- entries came, after a turn if one was due
pub moves_onward : (exact turns : Bool) (old new : BookView) (entries : List Entry) → BookHolds old → Moves exact turns old new entries → Earns (turned_if turns old) new entries → Onward old new entries
moves_onward exact turns old new entries held moves earns =
    record {
      turns = turns;
      goes = λ before stands. moves_extend exact turns old new entries before held stands moves;
      carries = λ before stands. entries_carry exact turns old new entries before held stands moves;
      abides = sessions_abide turns exact (line_for (turned_if turns old).names) (turned_if turns old).log.length moves.0 old.sessions new.sessions moves.1.sessions;
      units = λ before stands. record {
        count = moves.1.units.count ∙ turned_count turns old.units;
        each = units_on turns old new entries held earns before stands;
      };
      segments = gains_segments moves.0 (units_turned_if turns old.units) new.units moves.1.units ∙ turned_segments turns old.units;
      limit = moves.1.log.limit ∙ turned_limit turns old;
      requests = moves.1.requests;
    }

-- entries came that give no report
pub quiet_onward : (old new : BookView) (entries : List Entry) → AddsQuietly old new entries → Earns old new entries → Onward old new entries
quiet_onward old new entries adds earns =
    record {
      turns = false;
      goes = λ before stands. quiet_entries old new entries before stands adds;
      carries = λ before stands. quiet_carry old new entries before stands adds;
      abides = subst (λ (l : List MemberView). AllZip Abides old.sessions l) (sym adds.sessions) (zip_same Abides abides_same old.sessions);
      units = λ before stands. record { count = ap length adds.units; each = earns.units before stands };
      segments = ap (map segment_of) adds.units;
      limit = adds.log.limit;
      requests = adds.requests;
    }
