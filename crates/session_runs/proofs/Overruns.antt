-- Where reports close a session.
use Rattle.std.proofs.Common.{◌≡◌, ◌≤◌, ◌<◌, ℕ, ◌+◌, Bool, List, [], ◌∷◌, ◌++◌, length, map, Option, Some, None, refl, sym, ap, ◌∙◌, subst, arith}
use Rattle.gps_report.specs.declared.policy.Policy.{Policy}
use Rattle.gps_report.specs.declared.report.Report.{Report}
use Rattle.session_core.specs.declared.mark.Close.{Close}
use Rattle.session_core.specs.declared.mark.Close.TheVariants.{Overrun}
use Rattle.session_core.specs.declared.outlet.Push.{Push}
use Rattle.session_core.specs.declared.outlet.Push.TheVariants.{Done, Full}
use Rattle.session_core.specs.Holding.{Selection}
use Rattle.session_core.specs.Pushing.{MatchPush}
use Rattle.session_core.specs.SessionView.{SessionView, closed_at, given}
use Rattle.book_batch.specs.Lines.{line_for}
use Rattle.book_sessions.specs.Spreading.{Due, ReportsBy, TakesDue, due, due_at}
use Rattle.session_runs.specs.Laws.{ReportsOverrun}

abbrev Within : ℕ → ℕ → List Due → Type 0
Within low high [] = Unit {0}
Within low high (d ∷ dues) = (low ≤ d.place) × (d.place < high) × Within low high dues

within_row : (low high place : ℕ) (lines : List (List ℕ)) (rest : List Due) → low ≤ place → place < high → Within low high rest → Within low high (map (due_at place) lines ++ rest)
within_row low high place [] rest above below inside = inside
within_row low high place (line ∷ lines) rest above below inside = (above, below, within_row low high place lines rest above below inside)

due_within : (lines : Selection) (policy : Policy) (low high place : ℕ) (reports : List Report) → low ≤ place → place + length reports ≤ high → Within low high (due lines policy place reports)
due_within lines policy low high place [] above below = tt
due_within lines policy low high place (report ∷ reports) above below =
    within_row low high place (lines policy report) (due lines policy (place + 1) reports) above (omega (arith, below))
    (due_within lines policy low high (place + 1) reports (omega (arith, above)) (omega (arith, below)))

-- by an overrun, at a place within these
abbrev IsOverrun : ℕ → ℕ → ℕ → Close → Type 0
IsOverrun low high place why = (why ≡ Overrun) × (low ≤ place) × (place < high)

abbrev IsOverrunAt : ℕ → ℕ → Option (ℕ × Close) → Type 0
IsOverrunAt low high None = Unit {0}
IsOverrunAt low high (Some closing) = IsOverrun low high closing.0 closing.1

takes_within : (exact : Bool) (low high : ℕ) (dues : List Due) (old new : SessionView) → Within low high dues → old.closing ≡ None → TakesDue exact dues old new → IsOverrunAt low high new.closing
takes_within exact low high [] old new inside is takes =
    let P : Option (ℕ × Close) → Type 0 = λ c. IsOverrunAt low high c in
    subst P (sym (ap (λ (s : SessionView). s.closing) takes ∙ is)) tt
takes_within exact low high (d ∷ dues) old new inside is takes =
    by takes.0 (takes_within exact low high dues (given d.line old) new inside.2 is) takes.2
  where
    by : (push : Push) → (TakesDue exact dues (given d.line old) new → IsOverrunAt low high new.closing)
        → MatchPush push (TakesDue exact dues (given d.line old) new) (new ≡ closed_at d.place Overrun old) → IsOverrunAt low high new.closing
    by Done then rest = then rest
    by Full then now =
        let P : Option (ℕ × Close) → Type 0 = λ c. IsOverrunAt low high c in
        subst P (sym (ap (λ (s : SessionView). s.closing) now)) (refl, inside.0, inside.1)

overrun_by : (c : Option (ℕ × Close)) (exact : Bool) (names : List (List ℕ)) (first : ℕ) (reports : List Report) (old new : SessionView) → c ≡ None → old.closing ≡ None
    → ReportsBy c exact (line_for names) first reports old new → IsOverrunAt first (first + length reports) new.closing
overrun_by None exact names first reports old new none is reported =
    takes_within exact first (first + length reports) (due (line_for names) old.policy first reports) old new
    (due_within (line_for names) old.policy first (first + length reports) first reports (omega arith) (omega arith)) is reported.takes
overrun_by (Some closing) exact names first reports old new none is reported = absurd (cc)

pub reports_overrun : ReportsOverrun
reports_overrun exact names first reports old new place why reported is closed =
    let P : Option (ℕ × Close) → Type 0 = λ c. IsOverrunAt first (first + length reports) c in
    subst P closed (overrun_by old.closing exact names first reports old new is is reported)
