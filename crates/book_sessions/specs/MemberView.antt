-- What a roster shows of a session, and what its calls make of it.
use Rattle.std.specs.Prelude.{ℕ, Bool, false, not, ◌&&◌, List, [], Option, Some, None, is_some}
use Rattle.gps_command.specs.Kept.{CommandCutterView, kept_open}
use Rattle.book_replies.specs.Replies.{opening_reply}
use Rattle.session_core.specs.declared.mark.Close.{Close}
use Rattle.session_core.specs.Naming.{OutletName}
use Rattle.session_core.specs.SessionView.{SessionView, allowing, closed_at, fresh, opening_policy, replied, turned}

pub record MemberView : Type 0 where
  pub session : SessionView
  pub cutter : CommandCutterView  -- of its input
  pub watched : Bool  -- one of its marks of the whole run had an enabled policy

abbrev pub is_open : MemberView → Bool
is_open a = not (is_some a.session.closing)

-- it is open and its policy is enabled: no other session is given a report
abbrev pub listens : MemberView → Bool
listens a = is_open a && a.session.policy.enable

-- a new session over an empty outlet, of whose requests this number is answered: it was sent its opening reply
abbrev pub opened : OutletName → ℕ → ℕ → ℕ → MemberView
opened name cap most place = record {
  session = replied place opening_policy opening_reply (allowing most (fresh name cap []));
  cutter = kept_open [];
  watched = false;
}

-- a closed session keeps nothing of its input
abbrev pub cutter_left : Option (ℕ × Close) → CommandCutterView → CommandCutterView
cutter_left None cutter = cutter
cutter_left (Some closing) cutter = kept_open []

abbrev pub rested : MemberView → MemberView
rested a = record a { cutter = cutter_left a.session.closing a.cutter }

abbrev pub closed : ℕ → Close → MemberView → MemberView
closed place why a = record a { session = closed_at place why a.session; cutter = kept_open [] }

-- after a turn
abbrev pub renewed : MemberView → MemberView
renewed a = record a { session = turned a.session }

-- no request was ended
abbrev pub with_cutter : CommandCutterView → MemberView → MemberView
with_cutter cutter a = record a { cutter = cutter }

-- its outlet keeps these items now
abbrev pub with_kept : List (List ℕ) → MemberView → MemberView
with_kept kept a = record a { session = record a.session { kept = kept } }
