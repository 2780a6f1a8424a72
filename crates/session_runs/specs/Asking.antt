-- What the client of a session sent, and how it was answered: after the opening, stretch k of the run answers request k.
use Rattle.std.specs.Prelude.{◌≡◌, ◌≤◌, ◌+◌, ℕ, Bool, List, [], ◌∷◌, ◌++◌, length, take, Some, None}
use Rattle.std.specs.List.{list_any}
use Rattle.gps_command.specs.declared.request.RawCommand.{RawCommand}
use Rattle.gps_command.specs.Kept as input
use Rattle.gps_command.specs.Policies.{policy_at}
use Rattle.gps_command.specs.Requests.{requests}
use Rattle.gps_report.specs.declared.policy.Policy.{Policy}
use Rattle.session_core.specs.SessionView.{opening_policy}
use Rattle.session_core.specs.Stretches.{Stretch}
use Rattle.book_log.specs.Entries.{Entry}
use Rattle.book_log.specs.History.{history}
use Rattle.book_replies.specs.Replies.{opening_reply, reply}
use Rattle.book_sessions.specs.MemberView.{MemberView}
use Rattle.report_book.specs.Knowing.{known_in}

-- after all of these requests
abbrev pub policy_of : List RawCommand → Policy
policy_of asked = policy_at (length asked) asked

-- It began when this number of entries of the whole log had come, and no fewer than at the moment before.
pub record BeginsAt (log : List Entry) (from moment : ℕ) (stretch : Stretch) : Type 0 where
  pub after : from ≤ moment
  pub within : moment ≤ length log
  pub place : stretch.place ≡ length (history (take moment log))

-- After the requests that were done it answers this one, by what was known at that moment.
pub record IsAnswer (names : List (List ℕ)) (log : List Entry) (moment : ℕ) (done : List RawCommand) (request : RawCommand) (stretch : Stretch) : Type 0 where
  pub policy : stretch.policy ≡ policy_of (done ++ request ∷ [])
  pub reply : stretch.reply ≡ Some (reply (known_in (length names) (take moment log)) names stretch.policy request)

-- after those done, these stretches answer the first of these requests, in order; the others have no answer
abbrev pub AnswersFirst : List (List ℕ) → List Entry → List RawCommand → ℕ → List Stretch → List RawCommand → Type 0
AnswersFirst names log done from [] asked = Unit {0}
AnswersFirst names log done from (stretch ∷ stretches) [] = ⊥
AnswersFirst names log done from (stretch ∷ stretches) (request ∷ asked) =
    (moment : ℕ) × BeginsAt log from moment stretch × IsAnswer names log moment done request stretch
    × AnswersFirst names log (done ++ request ∷ []) moment stretches asked

abbrev pub IsOpening : Stretch → Type 0
IsOpening stretch = (stretch.policy ≡ opening_policy) × (stretch.reply ≡ Some opening_reply)

-- the first stretch is the opening
abbrev pub Asked : List (List ℕ) → List Entry → List Stretch → List RawCommand → Type 0
Asked names log [] asked = ⊥
Asked names log (opening ∷ stretches) asked = (moment : ℕ) × BeginsAt log 0 moment opening × IsOpening opening
    × AnswersFirst names log [] moment stretches asked

abbrev pub is_enabled : Stretch → Bool
is_enabled stretch = stretch.policy.enable

-- Its client has sent these bytes. It counts its answered requests, one for each stretch after the opening, and they are no more than may be
-- answered. While it is open each request of the bytes is answered, and it waits for what follows them.
pub record HasSent (names : List (List ℕ)) (log : List Entry) (a : MemberView) (stretches : List Stretch) (bytes : List ℕ) : Type 0 where
  pub asked : Asked names log stretches (requests bytes)
  pub count : length stretches ≡ 1 + a.session.requests
  pub few : a.session.requests ≤ a.session.most_requests
  pub whole : a.session.closing ≡ None → length stretches ≡ 1 + length (requests bytes)
  pub policy : a.session.closing ≡ None → a.session.policy ≡ policy_of (requests bytes)
  pub cutter : a.session.closing ≡ None → input.StandsFor a.cutter bytes
  pub watched : a.watched ≡ list_any is_enabled stretches

-- It heard nothing: while it is open, it waits as it did.
pub record HearsNothing (old new : MemberView) : Type 0 where
  pub policy : new.session.policy ≡ old.session.policy
  pub requests : new.session.requests ≡ old.session.requests
  pub most_requests : new.session.most_requests ≡ old.session.most_requests
  pub watched : new.watched ≡ old.watched
  pub still : new.session.closing ≡ None → (old.session.closing ≡ None) × (new.cutter ≡ old.cutter)
