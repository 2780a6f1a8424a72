-- What the reports of a batch make of a session.
use Rattle.std.proofs.Common.{◌≡◌, ◌<◌, ◌≤◌, ℕ, ◌+◌, Bool, true, false, List, [], ◌∷◌, ◌++◌, length, map, not, Option, Some, None, is_some, refl, sym, ap, ◌∙◌, subst, length-append, append_assoc, append-nil, arith}
use Rattle.std.proofs.lemmas.Bool.{false≢true}
use Rattle.gps_report.specs.declared.policy.Form.{Form}
use Rattle.gps_report.specs.declared.policy.Policy.{Policy}
use Rattle.gps_report.specs.declared.report.Report.{Report}
use Rattle.session_core.specs.declared.mark.Close.{Close}
use Rattle.session_core.specs.declared.mark.Close.TheVariants.{Overrun}
use Rattle.session_core.specs.declared.outlet.Push.{Push}
use Rattle.session_core.specs.declared.outlet.Push.TheVariants.{Done, Full}
use Rattle.session_core.specs.Pushing.{MatchPush}
use Rattle.session_core.specs.SessionView.{SessionView, closed_at, given}
use Rattle.session_core.specs.Stretches.{Stretch, selected}
use Rattle.session_core.specs.Holding.{Selection, Holding, SessionGains}
use Rattle.session_core.proofs.Gaining as gaining
use Rattle.watch_policy.specs.Selection as selection
use Rattle.book_batch.specs.Lines.{line_in, line_for}
use Rattle.book_sessions.specs.MemberView.{MemberView, cutter_left, rested}
use Rattle.book_sessions.specs.Spreading.{Due, Gets, Reported, Reports, ReportsBy, Spreads, Stays, TakesDue, Unreported, cutter_by, due, due_at, is_live}

-- what is gained in two steps
pub gains_on : (lines : Selection) (h h' h'' : List Report) (old mid new : SessionView) (t t' t'' : List Stretch) (one other : List (List ℕ))
    → SessionGains lines h h' old mid t t' one → SessionGains lines h' h'' mid new t' t'' other → SessionGains lines h h'' old new t t'' (one ++ other)
gains_on lines h h' h'' old mid new t t' t'' one other first then = record {
  kept = then.kept ∙ ap (λ l. l ++ other) first.kept ∙ append_assoc old.kept one other;
  items = then.items ∙ ap (λ l. l ++ other) first.items ∙ append_assoc _ one other;
  holding = then.holding;
}

-- no line or one
line_is_optional : (names : List (List ℕ)) (report : Report) (form : Option Form) → length (line_in names report form) ≤ 1
line_is_optional names report None = omega arith
line_is_optional names report (Some form) = omega arith

pub lines_are_optional : (names : List (List ℕ)) (policy : Policy) (report : Report) → length (line_for names policy report) ≤ 1
lines_are_optional names policy report = line_is_optional names report (selection.selected policy names report)

-- one after another
stays_on : (old mid new : SessionView) → Stays old mid → Stays mid new → Stays old new
stays_on old mid new first then = record {
  name = then.name ∙ first.name;
  cap = then.cap ∙ first.cap;
  most_requests = then.most_requests ∙ first.most_requests;
  marks = then.marks ∙ first.marks;
  policy = then.policy ∙ first.policy;
  requests = then.requests ∙ first.requests;
}

pub takes_stay : (exact : Bool) (ds : List Due) (old new : SessionView) → TakesDue exact ds old new → Stays old new
takes_stay exact [] old new same = record {
  name = ap (λ s. s.name) same;
  cap = ap (λ s. s.cap) same;
  most_requests = ap (λ s. s.most_requests) same;
  marks = ap (λ s. s.marks) same;
  policy = ap (λ s. s.policy) same;
  requests = ap (λ s. s.requests) same;
}
takes_stay exact (d ∷ ds) old new takes = by_push takes.0 takes.2 (λ mid more. takes_stay exact ds mid new more)
  where
    by_push : (push : Push) → MatchPush push (TakesDue exact ds (given d.line old) new) (new ≡ closed_at d.place Overrun old)
        → ((mid : SessionView) → TakesDue exact ds mid new → Stays mid new) → Stays old new
    by_push Done more rest =
        stays_on old (given d.line old) new (record { name = refl; cap = refl; most_requests = refl; marks = refl; policy = refl; requests = refl }) (rest (given d.line old) more)
    by_push Full now rest = record {
      name = ap (λ s. s.name) now;
      cap = ap (λ s. s.cap) now;
      most_requests = ap (λ s. s.most_requests) now;
      marks = ap (λ s. s.marks) now;
      policy = ap (λ s. s.policy) now;
      requests = ap (λ s. s.requests) now;
    }

module _ (lines : Selection) (exact : Bool) where
  abbrev Got : ℕ → List Report → SessionView → SessionView → Type 0
  Got place reports old new = (more : List (List ℕ)) × Gets lines place reports old new more

  -- of the first report, and then of the others
  got_on : (place : ℕ) (report : Report) (reports : List Report) (old mid new : SessionView) (one more : List (List ℕ))
      → ((history : List Report) (stretches : List Stretch) → length history ≡ place → Holding lines history old stretches
      → SessionGains lines history (history ++ report ∷ []) old mid stretches stretches one)
      → Gets lines (place + 1) reports mid new more
      → (history : List Report) (stretches : List Stretch) → length history ≡ place → Holding lines history old stretches
      → SessionGains lines history (history ++ report ∷ reports) old new stretches stretches (one ++ more)
  got_on place report reports old mid new one more first then history stretches at holding =
      let longer = history ++ report ∷ [] in
      let here = first history stretches at holding in
      let after : length longer ≡ place + 1 = omega (arith, at, length-append history (report ∷ [])) in
      let rest = then.gains longer stretches after here.holding in
      let P : List Report → Type 0 = λ h. SessionGains lines history h old new stretches stretches (one ++ more) in
      subst P (append_assoc history (report ∷ []) reports)
      (gains_on lines history longer (longer ++ reports) old mid new stretches stretches stretches one more here rest)

  receive_step : (report : Report) (reports : List Report) (place : ℕ) (old new : SessionView) → old.closing ≡ None
      → ((next : SessionView) → next.closing ≡ None → TakesDue exact (due lines next.policy (place + 1) reports) next new → Got (place + 1) reports next new)
      → (line : List (List ℕ)) → length line ≤ 1 → lines old.policy report ≡ line
      → TakesDue exact (map (due_at place) line ++ due lines old.policy (place + 1) reports) old new → Got place (report ∷ reports) old new
  receive_step report reports place old new is_open rest [] optional is takes =
      let more = rest old is_open takes in
      let none : selected lines old.policy (report ∷ []) ≡ [] = append-nil (lines old.policy report) ∙ is in (
        more.0,
        record {
          kept = more.1.kept;
          items = more.1.items;
          gains = got_on place report reports old old new [] more.0 (λ history stretches at holding. gaining.unselected lines history (report ∷ []) old stretches is_open none holding) more.1;
        },
      )
  receive_step report reports place old new is_open rest (line ∷ []) optional is takes = by_push takes.0 takes.2
    where
      by_push : (push : Push) → MatchPush push (TakesDue exact (due lines old.policy (place + 1) reports) (given line old) new) (new ≡ closed_at place Overrun old) → Got place (report ∷ reports) old new
      by_push Done takes' =
          let more = rest (given line old) is_open takes' in
          let chosen : line ∷ [] ≡ selected lines old.policy (report ∷ []) = sym (append-nil (lines old.policy report) ∙ is) in (
            line ∷ more.0,
            record {
              kept = more.1.kept ∙ append_assoc old.kept (line ∷ []) more.0;
              items = more.1.items;
              gains = got_on place report reports old (given line old) new (line ∷ []) more.0
                  (λ history stretches at holding. gaining.grown lines history (report ∷ []) old (given line old).items (line ∷ []) stretches is_open chosen holding) more.1;
            },
          )
      by_push Full now =
          let P : SessionView → Type 0 = λ s. Got place (report ∷ reports) old s in
          subst P (sym now) (
            [],
            record {
              kept = sym (append-nil old.kept);
              items = refl;
              gains = λ history stretches at holding. gaining.ended lines place Overrun history (report ∷ reports) old stretches is_open at holding.agrees;
            },
          )
  receive_step report reports place old new is_open rest (line ∷ other ∷ more) optional is takes = absurd (omega arith)

  pub receives : ((policy : Policy) (report : Report) → length (lines policy report) ≤ 1) → (reports : List Report) (place : ℕ) (old new : SessionView) → old.closing ≡ None
      → TakesDue exact (due lines old.policy place reports) old new → Got place reports old new
  receives optional [] place old new is_open takes =
      let P : SessionView → Type 0 = λ s. Got place [] old s in
      subst P (sym takes) (
        [],
        record {
          kept = sym (append-nil old.kept);
          items = refl;
          gains = λ history stretches at holding. gaining.unselected lines history [] old stretches is_open refl holding;
        },
      )
  receives optional (report ∷ reports) place old new is_open takes =
      let short : length (lines old.policy report) ≤ 1 = optional old.policy report in
      receive_step report reports place old new is_open (λ next still takes'. receives optional reports (place + 1) next new still takes')
      (lines old.policy report) short refl takes

-- an open session after the reports
pub reported : (exact : Bool) (names : List (List ℕ)) (first : ℕ) (reports : List Report) (old new : SessionView) → old.closing ≡ None
    → TakesDue exact (due (line_for names) old.policy first reports) old new → Reports exact (line_for names) first reports old new
reported exact names first reports old new is_open takes =
    let got = receives (line_for names) exact (lines_are_optional names) reports first old new is_open takes in
    let whole : Reported exact (line_for names) first reports old new = record {
      takes = takes;
      more = got.0;
      gets = got.1;
      stays = takes_stay exact (due (line_for names) old.policy first reports) old new takes;
    } in
    let R : Option (ℕ × Close) → Type 0 = λ c. ReportsBy c exact (line_for names) first reports old new in
    subst R (sym is_open) whole

-- a closed one
pub unreported : (exact : Bool) (lines : Selection) (first : ℕ) (reports : List Report) (closing : ℕ × Close) (old new : SessionView) → old.closing ≡ Some closing
    → new ≡ old → Reports exact lines first reports old new
unreported exact lines first reports closing old new is_closed same =
    let whole : Unreported lines first reports old old = record {
      same = refl;
      holding = λ history stretches at holding. (gaining.over lines closing history reports old stretches is_closed holding.agrees).holding;
    } in
    let Q : SessionView → Type 0 = λ s. Reports exact lines first reports old s in
    let R : Option (ℕ × Close) → Type 0 = λ c. ReportsBy c exact lines first reports old old in
    subst Q (sym same) (subst R (sym is_closed) whole)

-- the same of a session of a roster
pub received : (exact : Bool) (names : List (List ℕ)) (first : ℕ) (reports : List Report) (old mid new : MemberView) → old.session.closing ≡ None
    → TakesDue exact (due (line_for names) old.session.policy first reports) old.session mid.session → mid ≡ record old { session = mid.session } → new ≡ rested mid
    → Spreads exact (line_for names) first reports old new
received exact names first reports old mid new is_open takes alike now =
    let P : MemberView → Type 0 = λ a. Spreads exact (line_for names) first reports old a in
    subst P (sym now) (record {
      session = reported exact names first reports old.session mid.session is_open takes;
      cutter = ap (λ (a : MemberView). cutter_left mid.session.closing a.cutter) alike ∙ sym (ap (λ c. cutter_by c mid.session.closing old.cutter) is_open);
      watched = ap (λ (a : MemberView). a.watched) alike;
    })

pub remained : (exact : Bool) (lines : Selection) (first : ℕ) (reports : List Report) (closing : ℕ × Close) (old new : MemberView) → old.session.closing ≡ Some closing
    → new ≡ old → Spreads exact lines first reports old new
remained exact lines first reports closing old new is_closed same =
    let P : MemberView → Type 0 = λ a. Spreads exact lines first reports old a in
    subst P (sym same) (record {
      session = unreported exact lines first reports closing old.session old.session is_closed refl;
      cutter = sym (ap (λ c. cutter_by c old.session.closing old.cutter) is_closed);
      watched = refl;
    })

-- an open session has its marks still
pub still_marked : (exact : Bool) (ds : List Due) (old new : SessionView) → TakesDue exact ds old new → 0 < length old.marks → 0 < length new.marks
still_marked exact ds old new takes some = omega (arith, some, ap length (takes_stay exact ds old new takes).marks)

pub live_means : (s : SessionView) → is_live s ≡ true → s.closing ≡ None
live_means s is = by s.closing is
  where
    by : (c : Option (ℕ × Close)) → not (is_some c) ≡ true → c ≡ None
    by None is_true = refl
    by (Some closing) never = absurd (false≢true never)

pub closed_means : (s : SessionView) → is_live s ≡ false → (closing : ℕ × Close) × (s.closing ≡ Some closing)
closed_means s is = by s.closing is
  where
    by : (c : Option (ℕ × Close)) → not (is_some c) ≡ false → (closing : ℕ × Close) × (c ≡ Some closing)
    by None never = absurd (false≢true (sym never))
    by (Some closing) is_true = (closing, refl)
