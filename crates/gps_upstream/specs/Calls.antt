-- What one read of another daemon does, and the causes of its answers.
use Rattle.std.specs.Prelude.{◌≡◌, ◌≢◌, ◌≤◌, ◌⊎◌, ℕ, List, [], ◌++◌, take, Option, Some}
use Rattle.gps_outside.specs.declared.source.ReadStep.{ReadStep}
use Rattle.gps_outside.specs.declared.source.ReadStep.TheVariants as answers
use Rattle.gps_outside.specs.Counts.{Rose}
use Rattle.gps_outside.specs.Reads.{CountsQuiet, FailsOnly, FitsBuffer, Reads}
use Rattle.gps_outside.specs.Told.{Stream, Goes, Appends, AppendsPart}
use Rattle.gps_fixed.specs.Lists.{IsPrefix}
use Rattle.upstream_laws.specs.Head.{taken, behind}
use Rattle.gps_upstream.specs.declared.head.Head.{Head}
use Rattle.gps_upstream.specs.declared.head.Head.TheVariants as heads
use Rattle.gps_upstream.specs.declared.reading.HeadStep.{HeadStep}
use Rattle.gps_upstream.specs.declared.reading.HeadStep.TheVariants as steps
use Rattle.upstream_laws.specs.Carried.{request}
use Rattle.gps_upstream.specs.Upward.{Upward, content_of, faults_of}

-- the whole request was written in this call
pub record IsAsked (old new : Upward) : Type 0 where
  pub whole : Goes (Appends (request old.device)) old.written new.written
  pub started : new.head ≢ heads.Start
  pub sent : new.head ≢ heads.Unsent

-- The sink failed in this call: a prefix of the request was written. Nothing was read.
pub record IsUnsent (old new : Upward) : Type 0 where
  pub part : Goes (AppendsPart (request old.device)) old.written new.written
  pub unsent : new.head ≡ heads.Unsent
  pub rose : Rose old.sink_faults new.sink_faults
  pub source : new.source ≡ old.source
  pub stand : new.stand ≡ old.stand

-- nothing was written in this call
pub record LeavesSink (old new : Upward) : Type 0 where
  pub written : new.written ≡ old.written
  pub sink_faults : new.sink_faults ≡ old.sink_faults
  pub started : new.head ≢ heads.Start
  pub sent : old.head ≢ heads.Unsent → new.head ≢ heads.Unsent

-- the request is written in the first read, and in no other
abbrev pub AsksBy : Head → Upward → Upward → Type 0
AsksBy heads.Start old new = IsAsked old new ⊎ IsUnsent old new
AsksBy heads.Reading old new = LeavesSink old new
AsksBy heads.Done old new = LeavesSink old new
AsksBy heads.Bad old new = LeavesSink old new
AsksBy heads.Unsent old new = LeavesSink old new

abbrev pub Asks : Upward → Upward → Type 0
Asks old new = AsksBy old.head old new

-- the contents of a sink that had these bytes before the first read
abbrev pub GivenBy : Head → List ℕ → List ℕ → Option (List ℕ) → Type 0
GivenBy heads.Start asked first written = written ≡ Some first
GivenBy heads.Reading asked first written = written ≡ Some (first ++ asked)
GivenBy heads.Done asked first written = written ≡ Some (first ++ asked)
GivenBy heads.Bad asked first written = written ≡ Some (first ++ asked)
GivenBy heads.Unsent asked first written = (part : List ℕ) × (IsPrefix part asked × (written ≡ Some (first ++ part)))

abbrev pub IsGiven : List ℕ → Upward → Type 0
IsGiven first u = GivenBy u.head (request u.device) first u.written

-- the bytes that an answer hands on
abbrev pub got_of : ReadStep → List ℕ → List ℕ
got_of (answers.Got n) buffer = take n buffer
got_of answers.End buffer = []
got_of answers.Quiet buffer = []
got_of answers.Failed buffer = []

-- these bytes were read from a source
abbrev pub Took : List ℕ → Stream → Stream → Type 0
Took raw before after = after.taken ≡ before.taken ++ raw

-- Some bytes were read from the source. Those after the head were handed on.
pub record HandsOn (result : ReadStep) (buffer : List ℕ) (old new : Upward) : Type 0 where
  pub raw : List ℕ
  pub took : Goes (Took raw) old.source new.source
  pub stand : new.stand ≡ taken old.stand raw
  pub handed : behind old.stand raw ≡ got_of result buffer

-- bytes are handed on only after the whole head, which is sent to one that asked
abbrev pub IfGot : ReadStep → Type 0 → Type 0
IfGot (answers.Got n) P = P
IfGot answers.End P = Unit {0}
IfGot answers.Quiet P = Unit {0}
IfGot answers.Failed P = Unit {0}

-- the request could not be written, since the sink failed
pub record SinkFailed (old new : Upward) : Type 0 where
  pub start : old.head ≡ heads.Start
  pub unsent : new.head ≡ heads.Unsent
  pub rose : Rose old.sink_faults new.sink_faults

-- the head was found bad
pub record IsFoundBad (old new : Upward) : Type 0 where
  pub before : old.head ≢ heads.Bad
  pub after : new.head ≡ heads.Bad

-- why a read fails: the sink, the source, or the head
abbrev pub HasFault : Upward → Upward → Type 0
HasFault old new = SinkFailed old new ⊎ (Rose old.source_faults new.source_faults ⊎ IsFoundBad old new)

-- nothing is left in a source
abbrev pub HasNothingLeft : Stream → Stream → Type 0
HasNothingLeft before after = after.left ≡ []

-- the source ended in this call
pub record SourceEnded (old new : Upward) : Type 0 where
  pub good : new.head ≢ heads.Bad
  pub sent : new.head ≢ heads.Unsent
  pub none : Goes HasNothingLeft old.source new.source

-- the head was bad, or the request could not be written, before this call
pub record WasOver (old new : Upward) : Type 0 where
  pub over : (old.head ≡ heads.Bad) ⊎ (old.head ≡ heads.Unsent)
  pub same : new ≡ old

-- why nothing is left
abbrev pub HasEnded : Upward → Upward → Type 0
HasEnded old new = SourceEnded old new ⊎ WasOver old new

-- one read: what a source says of it, and its causes
pub record DoesRead (result : ReadStep) (room : ℕ) (buffer : List ℕ) (old new : Upward) : Type 0 where
  pub fits : FitsBuffer result room
  pub bytes : Reads result buffer (content_of old) (content_of new)
  pub faults_stay : faults_of old ≤ faults_of new
  pub quiets_stay : old.quiets ≤ new.quiets
  pub failed : result ≡ answers.Failed → Rose (faults_of old) (faults_of new)
  pub quiet : result ≡ answers.Quiet → Rose old.quiets new.quiets
  pub fails_only : FailsOnly result (faults_of old) (faults_of new)
  pub counts_quiet : CountsQuiet result old.quiets new.quiets
  pub device : new.device ≡ old.device
  pub asked : Asks old new
  pub given : (first : List ℕ) → IsGiven first old → IsGiven first new
  pub got : IfGot result (new.head ≡ heads.Done)
  pub cause : result ≡ answers.Failed → HasFault old new
  pub ended : result ≡ answers.End → HasEnded old new
  pub handed : HandsOn result buffer old new

abbrev pub answer_of : HeadStep → ReadStep
answer_of (steps.Got n) = answers.Got n
answer_of steps.Bad = answers.Failed
answer_of steps.End = answers.End
answer_of steps.Quiet = answers.Quiet
answer_of steps.Failed = answers.Failed
