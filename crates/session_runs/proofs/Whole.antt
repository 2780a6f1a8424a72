-- The whole history, and the items of a run by its generations.
use Rattle.std.proofs.Common.{◌≡◌, ◌≤◌, ℕ, ◌+◌, List, [], ◌∷◌, ◌++◌, length, map, Option, Some, None, refl, sym, ap, ◌∙◌, subst, append-nil, append_assoc, arith}
use Rattle.std.proofs.lemmas.List.{length-append}
use Rattle.gps_report.specs.declared.report.Report.{Report}
use Rattle.session_core.specs.declared.mark.Close.{Close}
use Rattle.session_core.specs.Holding.{SessionGains, Selection}
use Rattle.session_core.specs.SessionView.{SessionView}
use Rattle.session_core.specs.Stretches.{Stretch, AreInOrder, end_of, items_to, left_of, placed_from, session_items}
use Rattle.session_core.proofs.Growth.{items_stay}
use Rattle.session_core.proofs.Joining.{generations}
use Rattle.book_batch.specs.Lines.{line_for}
use Rattle.book_log.specs.Entries.{Entry}
use Rattle.book_log.specs.History.{history, history_after}
use Rattle.book_log.proofs.Histories.{history-append}
use Rattle.session_runs.specs.Runs.{SessionRun, IsHere, IsOver, closed_from, items_over}
use Rattle.session_runs.specs.Following.{Extends}

pub whole_history : (before log : List Entry) → history (before ++ log) ≡ history before ++ history_after before log
whole_history before log = history-append [] before log

pub whole_length : (before log : List Entry) → length (history (before ++ log)) ≡ length (history before) + length (history_after before log)
whole_length before log = ap length (whole_history before log) ∙ length-append (history before) (history_after before log)

pub nothing_after : (before : List Entry) → history_after before [] ≡ []
unfolding history_after
nothing_after before = refl

pub end_placed : (closing : Option (ℕ × Close)) (first rest : List Report) → end_of (closed_from (length first) closing) (first ++ rest) ≡ length first + end_of closing rest
end_placed None first rest = length-append first rest
end_placed (Some closing) first rest = refl

-- those before this generation, and those of this one
pub items_here : (names : List (List ℕ)) (before log : List Entry) (closing : Option (ℕ × Close)) (earlier later : List Stretch) → AreInOrder (length (history before)) earlier
    → items_over names (before ++ log) (record { stretches = earlier ++ map (placed_from (length (history before))) later; closing = closed_from (length (history before)) closing })
    ≡ items_to (line_for names) (length (history before)) earlier (history before)
    ++ session_items (line_for names) closing (left_of earlier ++ later) (history_after before log)
items_here names before log closing earlier later order =
    let lines : Selection = line_for names in
    let first : List Report = history before in
    let rest : List Report = history_after before log in
    let base : ℕ = length first in
    let run : List Stretch = earlier ++ map (placed_from base) later in
    ap (λ h. items_to lines (end_of (closed_from base closing) h) run h) (whole_history before log)
    ∙ ap (λ n. items_to lines n run (first ++ rest)) (end_placed closing first rest)
    ∙ generations lines (end_of closing rest) earlier later first rest order

pub items_so_far : (names : List (List ℕ)) (before log : List Entry) (s : SessionView) (r : SessionRun) (x : IsHere names before log s r)
    → items_over names (before ++ log) r
    ≡ items_to (line_for names) (length (history before)) x.earlier (history before)
    ++ session_items (line_for names) s.closing (left_of x.earlier ++ x.later) (history_after before log)
items_so_far names before log s r x =
    let base : ℕ = length (history before) in
    ap (λ l. items_over names (before ++ log) (record { stretches = l; closing = r.closing })) x.joined
    ∙ ap (λ c. items_over names (before ++ log) (record { stretches = x.earlier ++ map (placed_from base) x.later; closing = c })) x.closing
    ∙ items_here names before log s.closing x.earlier x.later x.order

-- one that was closed before has no further ones
pub items_over_then : (names : List (List ℕ)) (before log : List Entry) (s : SessionView) (r : SessionRun) (x : IsOver before s r)
    → items_over names (before ++ log) r ≡ items_to (line_for names) x.place r.stretches (history before)
items_over_then names before log s r x =
    ap (λ c. session_items (line_for names) c r.stretches (history (before ++ log))) x.closing
    ∙ ap (λ h. items_to (line_for names) x.place r.stretches h) (whole_history before log)
    ∙ items_stay (line_for names) x.place r.stretches (history before) (history_after before log) x.within x.order

-- what a session gains in its generation its run gains
pub goes_on_here : (names : List (List ℕ)) (before log longer : List Entry) (old new : SessionView) (later : List Stretch) (more : List (List ℕ)) (r : SessionRun) (x : IsHere names before log old r)
    → SessionGains (line_for names) (history_after before log) (history_after before longer) old new (left_of x.earlier ++ x.later) (left_of x.earlier ++ later) more
    → Extends names before log before longer old new more r
    (record { stretches = x.earlier ++ map (placed_from (length (history before))) later; closing = closed_from (length (history before)) new.closing })
goes_on_here names before log longer old new later more r x gains =
    let head : List (List ℕ) = items_to (line_for names) (length (history before)) x.earlier (history before) in
    record {
      run = Rattle.std.proofs.Common.inl (record { earlier = x.earlier; later = later; joined = refl; order = x.order; holding = gains.holding; closing = refl });
      kept = gains.kept;
      items =
          items_here names before longer new.closing x.earlier later x.order
          ∙ ap (λ l. head ++ l) gains.items
          ∙ sym (append_assoc head (session_items (line_for names) old.closing (left_of x.earlier ++ x.later) (history_after before log)) more)
          ∙ ap (λ l. l ++ more) (sym (items_so_far names before log old r x));
    }

-- with no further stretch
pub stays_here : (names : List (List ℕ)) (before log longer : List Entry) (old new : SessionView) (more : List (List ℕ)) (r : SessionRun) (x : IsHere names before log old r)
    → SessionGains (line_for names) (history_after before log) (history_after before longer) old new (left_of x.earlier ++ x.later) (left_of x.earlier ++ x.later) more
    → Extends names before log before longer old new more r (record { stretches = r.stretches; closing = closed_from (length (history before)) new.closing })
stays_here names before log longer old new more r x gains =
    let P : List Stretch → Type 0 = λ l. Extends names before log before longer old new more r (record { stretches = l; closing = closed_from (length (history before)) new.closing }) in
    subst P (sym x.joined) (goes_on_here names before log longer old new x.later more r x gains)
