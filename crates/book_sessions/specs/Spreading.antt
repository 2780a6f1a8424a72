-- How reports come to a session: each line that its policy selects, until its outlet is full.
use Rattle.std.specs.Prelude.{◌≡◌, ◌≤◌, ◌↔◌, ℕ, ◌+◌, ◌-◌, Bool, List, [], ◌∷◌, ◌++◌, length, map, take, slice_get, not, Option, Some, None, is_some, option_map}
use Rattle.gps_command.specs.Kept.{CommandCutterView}
use Rattle.gps_report.specs.declared.policy.Policy.{Policy}
use Rattle.gps_report.specs.declared.report.Report.{Report}
use Rattle.session_core.specs.declared.mark.Close.{Close}
use Rattle.session_core.specs.declared.mark.Close.TheVariants.{Overrun}
use Rattle.session_core.specs.declared.outlet.Push.{Push}
use Rattle.session_core.specs.Pushing.{MatchPush}
use Rattle.session_core.specs.SessionView.{SessionView, closed_at, given}
use Rattle.session_core.specs.Stretches.{Stretch}
use Rattle.session_core.specs.Holding.{Selection, Holding, SessionGains}
use Rattle.book_sessions.specs.MemberView.{MemberView, cutter_left}
use Rattle.book_sessions.specs.Answering.{MayAnswer, raised}

-- a line that is due to a session, at the place of its report
pub record Due : Type 0 where
  pub place : ℕ
  pub line : List ℕ

abbrev pub due_at : ℕ → List ℕ → Due
due_at place line = record { place = place; line = line }

-- what a session that was open drops of its input when it closes
abbrev pub cutter_by : Option (ℕ × Close) → Option (ℕ × Close) → CommandCutterView → CommandCutterView
cutter_by None now cutter = cutter_left now cutter
cutter_by (Some closing) now cutter = cutter

-- what is due of these reports, which begin at this place
abbrev pub due : Selection → Policy → ℕ → List Report → List Due
due lines policy place [] = []
due lines policy place (report ∷ reports) = map (due_at place) (lines policy report) ++ due lines policy (place + 1) reports

-- each is pushed, in order, until the outlet is full, which closes the session
abbrev pub TakesDue : Bool → List Due → SessionView → SessionView → Type 0
TakesDue exact [] old new = new ≡ old
TakesDue exact (d ∷ more) old new = (push : Push) × MayAnswer exact old push
    × MatchPush push (TakesDue exact more (given d.line old) new) (new ≡ closed_at d.place Overrun old)

-- how many more items an outlet has room for that is full exactly if it keeps as many as it may hold
abbrev pub room_of : SessionView → ℕ
room_of s = s.cap - length s.kept

abbrev pub overrun_at : Due → ℕ × Close
overrun_at d = (d.place, Overrun)

-- What is due is pushed as far as there is room, and the first line beyond it closes the session. So the session is open still exactly if
-- what it kept and what was due are together at most its capacity.
pub record TakesByRoom (dues : List Due) (old new : SessionView) : Type 0 where
  pub kept : new.kept ≡ old.kept ++ map (λ d. d.line) (take (room_of old) dues)
  pub closing : new.closing ≡ option_map overrun_at (slice_get dues (room_of old))
  pub stays_open : length old.kept ≤ old.cap → (new.closing ≡ None) ↔ (length old.kept + length dues ≤ old.cap)

-- what reports leave as it is
pub record Stays (old new : SessionView) : Type 0 where
  pub name : new.name ≡ old.name
  pub cap : new.cap ≡ old.cap
  pub most_requests : new.most_requests ≡ old.most_requests
  pub marks : new.marks ≡ old.marks
  pub policy : new.policy ≡ old.policy
  pub requests : new.requests ≡ old.requests

-- these lines were pushed: over any history before the reports, what is kept gains what the items gain
pub record Gets (lines : Selection) (first : ℕ) (reports : List Report) (old new : SessionView) (more : List (List ℕ)) : Type 0 where
  pub kept : new.kept ≡ old.kept ++ more
  pub items : new.items ≡ raised old.items (length more)
  pub gains : (history : List Report) (stretches : List Stretch) → length history ≡ first → Holding lines history old stretches
      → SessionGains lines history (history ++ reports) old new stretches stretches more

-- an open session takes what is due
pub record Reported (exact : Bool) (lines : Selection) (first : ℕ) (reports : List Report) (old new : SessionView) : Type 0 where
  pub takes : TakesDue exact (due lines old.policy first reports) old new
  pub more : List (List ℕ)
  pub gets : Gets lines first reports old new more
  pub stays : Stays old new

-- a closed one stays as it is
pub record Unreported (lines : Selection) (first : ℕ) (reports : List Report) (old new : SessionView) : Type 0 where
  pub same : new ≡ old
  pub holding : (history : List Report) (stretches : List Stretch) → length history ≡ first → Holding lines history old stretches
      → Holding lines (history ++ reports) new stretches

abbrev pub ReportsBy : Option (ℕ × Close) → Bool → Selection → ℕ → List Report → SessionView → SessionView → Type 0
ReportsBy None exact lines first reports old new = Reported exact lines first reports old new
ReportsBy (Some closing) exact lines first reports old new = Unreported lines first reports old new

-- a session after these reports
abbrev pub Reports : Bool → Selection → ℕ → List Report → SessionView → SessionView → Type 0
Reports exact lines first reports old new = ReportsBy old.closing exact lines first reports old new

-- a session of a roster after these reports: one that is closed now keeps nothing of its input
pub record Spreads (exact : Bool) (lines : Selection) (first : ℕ) (reports : List Report) (old new : MemberView) : Type 0 where
  pub session : Reports exact lines first reports old.session new.session
  pub cutter : new.cutter ≡ cutter_by old.session.closing new.session.closing old.cutter
  pub watched : new.watched ≡ old.watched

abbrev pub is_live : SessionView → Bool
is_live s = not (is_some s.closing)
