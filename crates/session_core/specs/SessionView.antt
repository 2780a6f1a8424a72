-- A session, as contracts see it, and what its calls make of it. Numbers that count stay at their greatest value.
use Rattle.std.specs.Prelude.{ℕ, ◌+◌, ◌-◌, ◌^◌, ◌==◌, ◌||◌, Bool, false, List, [], ◌∷◌, ◌++◌, length, min, Option, Some, None, if◌then◌else◌}
use Rattle.gps_report.specs.declared.policy.Policy.{Policy}
use Rattle.session_core.specs.declared.mark.Close.{Close}
use Rattle.session_core.specs.declared.mark.Mark.{Mark}
use Rattle.session_core.specs.Naming.{OutletName}

pub record SessionView : Type 0 where
  -- of its outlet
  pub name : OutletName
  pub cap : ℕ
  pub kept : List (List ℕ)
  -- of this generation
  pub marks : List Mark
  pub answered : Bool  -- the first mark has a reply
  pub closing : Option (ℕ × Close)
  -- of the whole run
  pub policy : Policy
  pub requests : ℕ
  pub most_requests : ℕ  -- at most this number of them is answered
  pub items : ℕ
  pub spare : ℕ  -- for how many further marks it was made ready

-- nothing is watched
abbrev pub opening_policy : Policy
opening_policy = record { enable = false; json = false; nmea = false; raw = 0; pps = false; device = None }

abbrev pub last_policy : Policy → List Mark → Policy
last_policy policy [] = policy
last_policy policy (mark ∷ more) = last_policy mark.policy more

-- the place of the last mark, and this place if there is none
abbrev pub last_place : ℕ → List Mark → ℕ
last_place place [] = place
last_place place (mark ∷ more) = last_place mark.place more

abbrev pub one_more : ℕ → ℕ → ℕ
one_more greatest number = min (number + 1) greatest

-- how many requests of a session are answered, if no other number is allowed
abbrev pub usual_requests : ℕ
usual_requests = 65_536

-- a new session over an outlet, with room for its opening
abbrev pub fresh : OutletName → ℕ → List (List ℕ) → SessionView
fresh name cap kept = record {
  name = name;
  cap = cap;
  kept = kept;
  marks = [];
  answered = false;
  closing = None;
  policy = opening_policy;
  requests = 0;
  most_requests = usual_requests;
  items = 0;
  spare = 1;
}

-- of its requests, this number is answered
abbrev pub allowing : ℕ → SessionView → SessionView
allowing most s = record s { most_requests = most }

abbrev pub given : List ℕ → SessionView → SessionView
given item s = record s { kept = s.kept ++ item ∷ []; items = one_more (2 ^ 64 - 1) s.items }

-- with one more mark: the first one is the opening, each other one an answered request
abbrev pub marked : ℕ → Policy → SessionView → SessionView
marked place policy s = record s {
  marks = s.marks ++ record { place = place; policy = policy } ∷ [];
  answered = (length s.marks == 0) || s.answered;
  policy = policy;
  requests = if length s.marks == 0 then s.requests else one_more (2 ^ 32 - 1) s.requests;
  spare = s.spare - 1;
}

abbrev pub replied : ℕ → Policy → List ℕ → SessionView → SessionView
replied place policy item s = marked place policy (given item s)

abbrev pub closed_at : ℕ → Close → SessionView → SessionView
closed_at place why s = record s { closing = Some (place, why) }

abbrev pub turned_marks : Option (ℕ × Close) → Policy → List Mark
turned_marks None policy = record { place = 0; policy = policy } ∷ []
turned_marks (Some closing) policy = []

abbrev pub turned_closing : Option (ℕ × Close) → Option (ℕ × Close)
turned_closing None = None
turned_closing (Some closing) = Some (0, closing.1)

-- after a turn: an open session has the one mark that the turn leaves
abbrev pub turned : SessionView → SessionView
turned s = record s { marks = turned_marks s.closing s.policy; answered = false; closing = turned_closing s.closing }
