-- The two ends of a lane, as contracts see them.
use Rattle.std.specs.Prelude.{◌≡◌, ℕ, Bool, List, []}
use Rattle.atomic_table.specs.Seated.{TableId}
use Rattle.session_core.specs.declared.subject.Subject.{Subject}
use Rattle.gps_lane.specs.declared.ends.Pushed.{Pushed}
use Rattle.gps_lane.specs.declared.ends.Pushed.TheVariants.{Done, Full}

-- the end that puts: its lane, what the lane is about, how many items it may hold, all that was put, and whether the lane still takes items
pub record Putting (T : Type 0) : Type 0 where
  pub lane : TableId
  pub about : Subject
  pub cap : ℕ
  pub put : List T
  pub is_open : Bool

-- the end that gets: its lane, what the lane is about, and all that was received
pub record Taking (T : Type 0) : Type 0 where
  pub lane : TableId
  pub about : Subject
  pub got : List T

-- both ends are of one lane about this, through which nothing went
pub record IsFreshLane {T : Type 0} (about : Subject) (tx : Putting T) (rx : Taking T) : Type 0 where
  pub one : rx.lane ≡ tx.lane
  pub about_is : tx.about ≡ about
  pub same : rx.about ≡ about
  pub put : tx.put ≡ []
  pub got : rx.got ≡ []

-- a fact for each answer of a push
abbrev pub MatchPushed : {T : Type 0} → Pushed T → Type 0 → (T → Type 0) → Type 0
MatchPushed Done done full = done
MatchPushed (Full item) done full = full item
