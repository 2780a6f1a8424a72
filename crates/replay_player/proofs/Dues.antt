-- The lines that are due to a session: which of them find its outlet full, and where they are in a longer history.
use Rattle.std.proofs.Common.{◌≡◌, ◌≤◌, ℕ, zero, suc, ◌+◌, ◌-◌, true, List, [], ◌∷◌, ◌++◌, length, map, drop, None, refl, sym, ap, ◌∙◌, subst, inl, inr, length-append, arith}
use Rattle.std.proofs.lemmas.Bool.{cases_lt}
use Rattle.std.proofs.lemmas.List.{map-append}
use Rattle.gps_report.specs.declared.policy.Policy.{Policy}
use Rattle.gps_report.specs.declared.report.Report.{Report}
use Rattle.session_core.specs.declared.mark.Close.TheVariants.{Overrun}
use Rattle.session_core.specs.declared.outlet.Push.{Push}
use Rattle.session_core.specs.declared.outlet.Push.TheVariants.{Done, Full}
use Rattle.session_core.specs.Holding.{Selection}
use Rattle.session_core.specs.Pushing.{MatchPush}
use Rattle.session_core.specs.SessionView.{SessionView, closed_at, given}
use Rattle.book_sessions.specs.Answering.{MayAnswer}
use Rattle.book_sessions.specs.Spreading.{Due, TakesDue, due, due_at}
use Rattle.session_runs.specs.Runs.{closed_from}
use Rattle.replay_player.specs.Clients.{overrun_at}

pub none_left : {A : Type 0} (k : ℕ) → drop {A = A} k [] ≡ []
none_left zero = refl
none_left (suc k) = refl

-- what a session that takes these lines is closed by, and how many items its outlet keeps
abbrev TakesAsDue : List Due → SessionView → SessionView → Type 0
TakesAsDue lines old new = (new.closing ≡ overrun_at (drop (old.cap - length old.kept) lines)) × (length new.kept ≤ new.cap)

by_push : (line : Due) (more : List Due) (old new : SessionView) (push : Push) → length old.kept ≤ old.cap → old.closing ≡ None → MayAnswer true old push
    → MatchPush push (TakesDue true more (given line.line old) new) (new ≡ closed_at line.place Overrun old)
    → (length (old.kept ++ line.line ∷ []) ≤ old.cap → TakesDue true more (given line.line old) new → TakesAsDue more (given line.line old) new)
    → TakesAsDue (line ∷ more) old new
by_push line more old new Done room is_open may takes then =
    let not_full : old.cap ≤ length old.kept → Done ≡ Full = (may.exactly refl).1 in
    elim (cases_lt (length old.kept) old.cap) [
      | inl below ↦
          let long = length-append old.kept (line.line ∷ []) in
          let fits : length (old.kept ++ line.line ∷ []) ≤ old.cap = omega (arith, long, below) in
          let step : old.cap - length old.kept ≡ suc (old.cap - length (old.kept ++ line.line ∷ [])) = omega (arith, long, below) in
          let rest = then fits takes in
          (rest.0 ∙ ap (λ n. overrun_at (drop n (line ∷ more))) (sym step), rest.1)
      | inr above ↦ absurd (let e = not_full above in cc)
    ]
by_push line more old new Full room is_open may takes then =
    let full : old.cap ≤ length old.kept = may.full refl in
    let none : old.cap - length old.kept ≡ 0 = omega (arith, full) in
    let P : SessionView → Type 0 = λ s. length s.kept ≤ s.cap in
    (ap (λ s. s.closing) takes ∙ ap (λ n. overrun_at (drop n (line ∷ more))) (sym none), subst P (sym takes) room)

pub takes_as_due : (lines : List Due) (old new : SessionView) → length old.kept ≤ old.cap → old.closing ≡ None → TakesDue true lines old new → TakesAsDue lines old new
takes_as_due [] old new room is_open takes =
    let P : SessionView → Type 0 = λ s. length s.kept ≤ s.cap in
    (ap (λ s. s.closing) takes ∙ is_open ∙ ap overrun_at (sym (none_left (old.cap - length old.kept))), subst P (sym takes) room)
takes_as_due (line ∷ more) old new room is_open takes =
    by_push line more old new takes.0 room is_open takes.1 takes.2 (λ fits rest. takes_as_due more (given line.line old) new fits is_open rest)

-- after a longer history

abbrev pub behind : ℕ → Due → Due
behind base line = record { place = base + line.place; line = line.line }

lines_behind : (base place : ℕ) (lines : List (List ℕ)) → map (due_at (base + place)) lines ≡ map (behind base) (map (due_at place) lines)
lines_behind base place [] = refl
lines_behind base place (line ∷ lines) = ap (λ l. due_at (base + place) line ∷ l) (lines_behind base place lines)

pub due_behind : (lines : Selection) (policy : Policy) (base place : ℕ) (reports : List Report)
    → due lines policy (base + place) reports ≡ map (behind base) (due lines policy place reports)
due_behind lines policy base place [] = refl
due_behind lines policy base place (report ∷ reports) =
    let next : base + place + 1 ≡ base + (place + 1) = omega arith in
    ap (λ n. map (due_at (base + place)) (lines policy report) ++ due lines policy n reports) next
    ∙ ap (λ l. l ++ due lines policy (base + (place + 1)) reports) (lines_behind base place (lines policy report))
    ∙ ap (λ l. map (behind base) (map (due_at place) (lines policy report)) ++ l) (due_behind lines policy base (place + 1) reports)
    ∙ sym (map-append (behind base) (map (due_at place) (lines policy report)) (due lines policy (place + 1) reports))

drop_behind : (base k : ℕ) (lines : List Due) → drop k (map (behind base) lines) ≡ map (behind base) (drop k lines)
drop_behind base zero lines = refl
drop_behind base (suc k) [] = refl
drop_behind base (suc k) (line ∷ lines) = drop_behind base k lines

overrun_behind : (base : ℕ) (lines : List Due) → closed_from base (overrun_at lines) ≡ overrun_at (map (behind base) lines)
overrun_behind base [] = refl
overrun_behind base (line ∷ lines) = refl

pub closed_behind : (lines : Selection) (policy : Policy) (base place k : ℕ) (reports : List Report)
    → closed_from base (overrun_at (drop k (due lines policy place reports))) ≡ overrun_at (drop k (due lines policy (base + place) reports))
closed_behind lines policy base place k reports =
    overrun_behind base (drop k (due lines policy place reports))
    ∙ ap overrun_at (sym (drop_behind base k (due lines policy place reports)) ∙ ap (drop k) (sym (due_behind lines policy base place reports)))
