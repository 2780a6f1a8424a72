-- What ties a session to a history of reports and to its stretches, and what a call gains.
use Rattle.std.specs.Prelude.{◌≡◌, ◌≤◌, ◌<◌, ◌⊎◌, ℕ, Bool, true, List, [], ◌∷◌, ◌++◌, length, map, Option, Some, None, is_some}
use Rattle.std.specs.List.{list_all}
use Rattle.gps_report.specs.declared.policy.Policy.{Policy}
use Rattle.gps_report.specs.declared.report.Report.{Report}
use Rattle.session_core.specs.declared.mark.Close.{Close}
use Rattle.session_core.specs.SessionView.{SessionView}
use Rattle.session_core.specs.Stretches.{Stretch, mark_of, end_of, session_items, AreInOrder, last_watched, plain_stretch}

-- the line that a policy selects of a report, or none
abbrev pub Selection : Type 0
Selection = Policy → Report → List (List ℕ)

abbrev pub IsSuffix : List (List ℕ) → List (List ℕ) → Type 0
IsSuffix part whole = (front : List (List ℕ)) × (whole ≡ front ++ part)

-- the first one has a reply or not, all others have one
abbrev pub AreReplied : Bool → List Stretch → Type 0
AreReplied first [] = Unit {0}
AreReplied first (stretch ∷ more) = (is_some stretch.reply ≡ first) × (list_all (λ other. is_some other.reply) more ≡ true)

-- the session has these stretches over this history
pub record Agrees (lines : Selection) (history : List Report) (s : SessionView) (stretches : List Stretch) : Type 0 where
  pub marks : map mark_of stretches ≡ s.marks
  pub replies : AreReplied s.answered stretches
  pub order : AreInOrder (end_of s.closing history) stretches
  pub within : end_of s.closing history ≤ length history
  pub policy : last_watched s.policy stretches ≡ s.policy
  pub kept : IsSuffix s.kept (session_items lines s.closing stretches history) ⊎ IsSuffix (session_items lines s.closing stretches history) s.kept

-- and an open one has a mark
pub record Holding (lines : Selection) (history : List Report) (s : SessionView) (stretches : List Stretch) : Type 0 where
  pub agrees : Agrees lines history s stretches
  pub opened : s.closing ≡ None → 0 < length s.marks

-- what the outlet keeps and the items of the session gained the same
pub record SessionGains (lines : Selection) (history longer : List Report) (old now : SessionView) (stretches later : List Stretch) (more : List (List ℕ)) : Type 0 where
  pub kept : now.kept ≡ old.kept ++ more
  pub items : session_items lines now.closing later longer ≡ session_items lines old.closing stretches history ++ more
  pub holding : Holding lines longer now later

-- the stretches that a turn leaves of a session
abbrev pub stretches_left : Option (ℕ × Close) → Policy → List Stretch
stretches_left None policy = plain_stretch 0 policy ∷ []
stretches_left (Some closing) policy = []
