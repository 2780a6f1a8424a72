-- A source that is read to its end, with a limit of bytes and a limit of quiets.
use Rattle.std.specs.Prelude.{◌≡◌, ℕ, ◌+◌, ◌-◌, ◌<◌, ◌≤◌, ◌⊎◌, List, [], ◌++◌, length, take, Option}
use Rattle.gps_outside.specs.declared.intake.IntakeStep.{IntakeStep}
use Rattle.gps_outside.specs.declared.intake.IntakeStep.TheVariants.{Piece, Quiet, Last, End, Failed, TooQuiet}
use Rattle.gps_outside.specs.declared.whole.ReadEnd.{ReadEnd}
use Rattle.gps_outside.specs.declared.whole.ReadEnd.TheVariants.{AtEnd, Full, Failed as EndsFailed, TooQuiet as EndsTooQuiet}
use Rattle.gps_outside.specs.Counts.{Rose, many_more, one_more}
use Rattle.gps_outside.specs.Told.{Stream, Goes, Stays, Passes, IsAtEnd, MayLose}

-- how many bytes may still be read, and how many quiets were counted; the thousandth quiet ends the reading
pub record Budget : Type 0 where
  pub room : ℕ
  pub quiets : ℕ

-- a bound on the steps to come
abbrev pub work_left : Budget → ℕ
work_left budget = budget.room + (1000 - budget.quiets)

-- what the budget allows one step, and what it is after it
abbrev pub Spends : IntakeStep → Budget → Budget → Type 0
Spends (Piece n) before after = (n ≤ before.room) × (after ≡ record before { room = before.room - n })
Spends Quiet before after = (before.quiets + 1 < 1000) × (after ≡ record before { quiets = before.quiets + 1 })
Spends (Last n) before after = (n ≡ before.room) × (after ≡ record before { room = 0 })
Spends End before after = after ≡ before
Spends Failed before after = after ≡ before
Spends TooQuiet before after = (before.quiets + 1 ≡ 1000) × (after ≡ before)

-- the bytes pass, and at least one more after them
abbrev pub PassesMore : List ℕ → Stream → Stream → Type 0
PassesMore bytes before after = (more : List ℕ) × ((0 < length more) × Passes (bytes ++ more) before after)

-- what one step says of the content, with the buffer after it
abbrev pub Hands : IntakeStep → List ℕ → Option Stream → Option Stream → Type 0
Hands (Piece n) buffer before after = Goes (Passes (take n buffer)) before after
Hands Quiet buffer before after = Goes Stays before after
Hands (Last n) buffer before after = Goes (PassesMore (take n buffer)) before after
Hands End buffer before after = Goes IsAtEnd before after
Hands Failed buffer before after = Goes MayLose before after
Hands TooQuiet buffer before after = Goes Stays before after

-- a piece to go on with has some bytes; the last one may have none
abbrev pub FitsRoom : IntakeStep → ℕ → Type 0
FitsRoom (Piece n) room = (1 ≤ n) × (n ≤ room)
FitsRoom Quiet room = Unit {0}
FitsRoom (Last n) room = n < room
FitsRoom End room = Unit {0}
FitsRoom Failed room = Unit {0}
FitsRoom TooQuiet room = Unit {0}

-- after these two answers the reading goes on, with less work left
abbrev pub IntakeGoesOn : IntakeStep → Budget → Budget → Type 0
IntakeGoesOn (Piece n) before after = work_left after < work_left before
IntakeGoesOn Quiet before after = work_left after < work_left before
IntakeGoesOn (Last n) before after = Unit {0}
IntakeGoesOn End before after = Unit {0}
IntakeGoesOn Failed before after = Unit {0}
IntakeGoesOn TooQuiet before after = Unit {0}

-- the source's faults rise only in the step that answers Failed
abbrev pub StepFailsOnly : IntakeStep → ℕ → ℕ → Type 0
StepFailsOnly (Piece n) before after = after ≡ before
StepFailsOnly Quiet before after = after ≡ before
StepFailsOnly (Last n) before after = after ≡ before
StepFailsOnly End before after = after ≡ before
StepFailsOnly Failed before after = Unit {0}
StepFailsOnly TooQuiet before after = after ≡ before

-- the source counts one quiet in each quiet step, and in no other
abbrev pub StepCountsQuiet : IntakeStep → ℕ → ℕ → Type 0
StepCountsQuiet (Piece n) before after = after ≡ before
StepCountsQuiet Quiet before after = after ≡ one_more before
StepCountsQuiet (Last n) before after = after ≡ before
StepCountsQuiet End before after = after ≡ before
StepCountsQuiet Failed before after = after ≡ before
StepCountsQuiet TooQuiet before after = after ≡ one_more before

-- So far these bytes were returned, no read failed, and as many reads were quiet as the budget says.
pub record HasTaken (limit : ℕ) (bytes : List ℕ) (budget : Budget) (before now : Option Stream)
    (faults_before faults_now quiets_before quiets_now : ℕ) : Type 0 where
  pub passed : Goes (Passes bytes) before now
  pub room : length bytes + budget.room ≡ limit
  pub no_fault : faults_now ≡ faults_before
  pub quiet : quiets_now ≡ many_more budget.quiets quiets_before

-- the bytes are all that was left
pub record TakesAll (bytes : List ℕ) (before after : Stream) : Type 0 where
  pub all : before.left ≡ bytes
  pub joins : after.taken ≡ before.taken ++ bytes
  pub none : after.left ≡ []

-- the bytes are the next of those that were left; what else was left stays, or is lost
pub record TakesSome (bytes : List ℕ) (before after : Stream) : Type 0 where
  pub rest : List ℕ
  pub next : before.left ≡ bytes ++ rest
  pub joins : after.taken ≡ before.taken ++ bytes
  pub kept : (after.left ≡ rest) ⊎ (after.left ≡ [])

-- what a reading's ending says of the content, for the bytes that it returned
abbrev pub ReadsToEnd : ReadEnd → ℕ → List ℕ → Option Stream → Option Stream → Type 0
ReadsToEnd AtEnd limit bytes before after = (length bytes ≤ limit) × Goes (TakesAll bytes) before after
ReadsToEnd Full limit bytes before after = (length bytes ≡ limit) × Goes (PassesMore bytes) before after
ReadsToEnd EndsFailed limit bytes before after = (length bytes ≤ limit) × Goes (TakesSome bytes) before after
ReadsToEnd EndsTooQuiet limit bytes before after = (length bytes ≤ limit) × Goes (Passes bytes) before after

-- fewer than a thousand reads were quiet
abbrev pub IsQuietSometimes : ℕ → ℕ → Type 0
IsQuietSometimes before now = (n : ℕ) × ((n < 1000) × (now ≡ many_more n before))

-- What the counts say if a reading ends so: the source's faults rose exactly if it failed, and the thousandth quiet ends it.
abbrev pub ReadHasCause : ReadEnd → ℕ → ℕ → ℕ → ℕ → Type 0
ReadHasCause AtEnd faults faults' quiets quiets' = (faults' ≡ faults) × IsQuietSometimes quiets quiets'
ReadHasCause Full faults faults' quiets quiets' = (faults' ≡ faults) × IsQuietSometimes quiets quiets'
ReadHasCause EndsFailed faults faults' quiets quiets' = Rose faults faults' × IsQuietSometimes quiets quiets'
ReadHasCause EndsTooQuiet faults faults' quiets quiets' = (faults' ≡ faults) × (quiets' ≡ many_more 1000 quiets)
