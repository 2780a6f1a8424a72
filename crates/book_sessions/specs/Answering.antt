-- How a session's requests are answered: in order, until the session is closed.
use Rattle.std.specs.Prelude.{◌≡◌, ◌≤◌, ◌<◌, ◌↔◌, ℕ, zero, suc, ◌+◌, ◌-◌, ◌^◌, Bool, true, false, ◌||◌, nat_le, List, [], ◌∷◌, ◌++◌, length, take, map, Option, Some, None}
use Rattle.std.specs.List.{list_any}
use Rattle.gps_command.specs.declared.request.RawCommand.{RawCommand}
use Rattle.gps_command.specs.Kept as input
use Rattle.gps_command.specs.Kept.{CommandCutterView}
use Rattle.gps_report.specs.declared.report.Report.{Report}
use Rattle.book_replies.specs.declared.answering.Answer.{Answer}
use Rattle.book_replies.specs.ReplyDataView.{ReplyDataView}
use Rattle.book_replies.specs.Replies.{answered}
use Rattle.session_core.specs.declared.mark.Close.{Close}
use Rattle.session_core.specs.declared.mark.Close.TheVariants.{TooManyRequests, Overrun}
use Rattle.session_core.specs.declared.mark.Mark.{Mark}
use Rattle.session_core.specs.declared.outlet.Push.{Push}
use Rattle.session_core.specs.declared.outlet.Push.TheVariants.{Full}
use Rattle.session_core.specs.Pushing.{MatchPush}
use Rattle.session_core.specs.SessionView.{SessionView, closed_at, last_policy, one_more, replied}
use Rattle.session_core.specs.Stretches.{Stretch, answer_stretch}
use Rattle.session_core.specs.Holding.{Selection, Holding, SessionGains}
use Rattle.book_sessions.specs.MemberView.{MemberView}

-- what the outlet of a session may answer to a push
pub record MayAnswer (exact : Bool) (s : SessionView) (push : Push) : Type 0 where
  pub full : push ≡ Full → s.cap ≤ length s.kept
  pub exactly : exact ≡ true → (push ≡ Full) ↔ (s.cap ≤ length s.kept)

abbrev pub Either : Bool → Type 0 → Type 0 → Type 0
Either true one other = one
Either false one other = other

abbrev pub ended : ℕ → Close → MemberView → MemberView
ended place why a = record a { session = closed_at place why a.session }

abbrev pub put : ℕ → Answer → MemberView → MemberView
put place answer a = record a {
  session = replied place answer.policy answer.reply a.session;
  watched = a.watched || answer.policy.enable;
}

-- These answers are pushed in order. Once as many requests are answered as may be, the next one closes the session; so does an outlet that is full.
abbrev pub PutsAnswers : Bool → ℕ → MemberView → List Answer → MemberView → Type 0
PutsAnswers exact place old [] new = new ≡ old
PutsAnswers exact place old (answer ∷ more) new =
    Either (nat_le old.session.most_requests old.session.requests)
    (new ≡ ended place TooManyRequests old)
    ((push : Push) × MayAnswer exact old.session push
    × MatchPush push (PutsAnswers exact place (put place answer old) more new) (new ≡ ended place Overrun old))

-- the number of items after the given number of further ones; it stays at its greatest value
abbrev pub raised : ℕ → ℕ → ℕ
raised items zero = items
raised items (suc more) = raised (one_more (2 ^ 64 - 1) items) more

abbrev pub mark_at : ℕ → Answer → Mark
mark_at place answer = record { place = place; policy = answer.policy }

abbrev pub stretch_at : ℕ → Answer → Stretch
stretch_at place answer = answer_stretch place answer.policy answer.reply

abbrev pub enables : Answer → Bool
enables answer = answer.policy.enable

-- why not all was pushed
abbrev pub Causes : SessionView → Close → Type 0
Causes s TooManyRequests = s.most_requests ≤ s.requests
Causes s Overrun = (s.requests < s.most_requests) × (s.cap ≤ length s.kept)
Causes s _ = ⊥

-- if the session is closed now, some answers were not pushed, else all were
abbrev pub Stops : ℕ → ℕ → SessionView → Option (ℕ × Close) → Type 0
Stops place left s None = left ≡ 0
Stops place left s (Some closing) = (0 < left) × (closing.0 ≡ place) × Causes s closing.1

-- exactly these answers were pushed, at this place
pub record Puts (place : ℕ) (old new : MemberView) (answers : List Answer) : Type 0 where
  pub kept : new.session.kept ≡ old.session.kept ++ map (λ answer. answer.reply) answers
  pub marks : new.session.marks ≡ old.session.marks ++ map (mark_at place) answers
  pub policy : new.session.policy ≡ last_policy old.session.policy (map (mark_at place) answers)
  pub watched : new.watched ≡ (old.watched || list_any enables answers)
  pub requests : new.session.requests ≡ old.session.requests + length answers
  pub items : new.session.items ≡ raised old.session.items (length answers)
  pub name : new.session.name ≡ old.session.name
  pub cap : new.session.cap ≡ old.session.cap
  pub most_requests : new.session.most_requests ≡ old.session.most_requests
  pub gains : (lines : Selection) (history : List Report) (stretches : List Stretch) → length history ≡ place → Holding lines history old.session stretches
      → SessionGains lines history history old.session new.session stretches (stretches ++ map (stretch_at place) answers)
      (map (λ answer. answer.reply) answers)

-- the requests that a piece ends after all input of the session before it, and its cutter after that piece
abbrev pub IsCut : List ℕ → MemberView → List RawCommand → CommandCutterView → Type 0
IsCut piece a requests cutter = (bytes : List ℕ) → input.StandsFor a.cutter bytes → input.Gains bytes piece requests × input.StandsFor cutter (bytes ++ piece)

-- requests are answered at one place by what is known, until the session is closed; while it is open, this is its cutter
pub record AnswersCut (exact : Bool) (known : ReplyDataView) (names : List (List ℕ)) (place : ℕ) (requests : List RawCommand)
    (cutter : CommandCutterView) (old new : MemberView) : Type 0 where
  pub goes_on : new.session.closing ≡ None → new.cutter ≡ cutter
  -- how many are answered
  pub count : ℕ
  pub few : count ≤ length requests
  pub puts : Puts place old new (take count (answered known names old.session.policy requests))
  pub stops : Stops place (length requests - count) new.session new.session.closing
  pub room : 0 < count → (new.session.requests ≤ new.session.most_requests) × (exact ≡ true → length new.session.kept ≤ new.session.cap)

-- a piece of input at one place: its requests are answered by what is known, until the session is closed
pub record Inputs (exact : Bool) (known : ReplyDataView) (names : List (List ℕ)) (place : ℕ) (piece : List ℕ) (old new : MemberView) : Type 0 where
  pub requests : List RawCommand
  -- these are the requests that the piece ends, after all input before it
  pub gains : (bytes : List ℕ) → input.StandsFor old.cutter bytes → input.Gains bytes piece requests
  pub cutter : (bytes : List ℕ) → input.StandsFor old.cutter bytes → new.session.closing ≡ None → input.StandsFor new.cutter (bytes ++ piece)
  -- how many are answered
  pub count : ℕ
  pub few : count ≤ length requests
  pub puts : Puts place old new (take count (answered known names old.session.policy requests))
  pub stops : Stops place (length requests - count) new.session new.session.closing
  pub room : 0 < count → (new.session.requests ≤ new.session.most_requests) × (exact ≡ true → length new.session.kept ≤ new.session.cap)
