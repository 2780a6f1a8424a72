-- What a player's line does, and what the parts of a play say: how far it is, what is due, and what was written.
use Rattle.std.specs.Prelude.{◌≡◌, ◌⊎◌, ℕ, ◌+◌, false, List, ◌++◌, Option, Some, None, Result, Ok, Err}
use Rattle.gps_fixed.specs.declared.no_memory.NoMemory.{NoMemory}
use Rattle.gps_outside.specs.Counts.{Rose}
use Rattle.gps_outside.specs.Told.{Goes, Appends, AppendsPart}
use Rattle.line_cut.specs.Limits.{is_too_long}
use Rattle.line_cut.specs.Lines.{open_line}
use Rattle.line_cut.specs.Standing.{LineCutterView, StandsFor}
use Rattle.line_player.specs.declared.plays_lines.EndStep.{EndStep}
use Rattle.line_player.specs.declared.plays_lines.EndStep.TheVariants.{More, Last}
use Rattle.line_player.specs.declared.plays_lines.LineStep.{LineStep}
use Rattle.line_player.specs.declared.plays_lines.LineStep.TheVariants.{Made, Refused}
use Rattle.line_player.specs.declared.lines.Round.{Round}
use Rattle.line_player.specs.declared.lines.Round.TheVariants.{Run, RefusedAt}
use Rattle.line_player.specs.declared.fault.Fault.{Fault}
use Rattle.line_player.specs.declared.fault.Fault.TheVariants.{BadLine, Sink, NoMemory as NoMemoryFault}
use Rattle.line_player.specs.Rules.{Effect, Rules}
use Rattle.line_player.specs.Courses.{Course, course_of, course_so_far, ended_texts, whole_course}

-- The line did what it does, and what it writes follows what the buffer held; or it was refused, and nothing was done. Out of
-- memory, nothing is known.
abbrev pub StepDone : {X : Type 0} → Result LineStep NoMemory → Rules X → X → List ℕ → (X → Type 0) → List ℕ → List ℕ → Type 0
StepDone (Ok Made) rules state text stands out out' = (e : Effect _) × (rules.effect state text ≡ Some e) × stands e.state × (out' ≡ out ++ e.written)
StepDone (Ok Refused) rules state text stands out out' = (rules.effect state text ≡ None) × (out' ≡ out)
StepDone (Err _) rules state text stands out out' = Unit {0}

-- The next part of what the end writes follows what the buffer held, and the rest is left; or all of it is there. Out of memory,
-- nothing is known.
abbrev pub EndPart : Result EndStep NoMemory → List ℕ → (List ℕ → Type 0) → List ℕ → List ℕ → Type 0
EndPart (Ok More) left ends out out' = (part : List ℕ) × (rest : List ℕ) × (left ≡ part ++ rest) × ends rest × (out' ≡ out ++ part)
EndPart (Ok Last) left ends out out' = out' ≡ out ++ left
EndPart (Err _) left ends out out' = Unit {0}

-- the course of the lines that these bytes end
abbrev pub ended_course : {X : Type 0} → Rules X → List ℕ → Course X
ended_course rules bytes = course_of rules (ended_texts rules bytes)

-- A cutter, a number of lines and what a player stands for, after these bytes, none of whose lines is refused.
pub record IsAt {X : Type 0} (rules : Rules X) (bytes : List ℕ) (cutter : LineCutterView) (count : ℕ) (stands : X → Type 0) : Type 0 where
  pub limit : cutter.limit ≡ rules.limit
  pub cut : StandsFor cutter bytes
  pub short : is_too_long rules.limit (open_line bytes) ≡ false
  pub none : (ended_course rules bytes).refused ≡ None
  pub number : (ended_course rules bytes).count ≡ count
  pub made : stands (ended_course rules bytes).state

-- The lines that a piece makes known were run, and what they write follows what the buffer held; or one was refused, and what
-- those before it write is there.
abbrev pub RunsLines : {X : Type 0} → Result LineStep NoMemory → Rules X → List ℕ → List ℕ → LineCutterView → ℕ → (X → Type 0) → List ℕ → List ℕ → Type 0
RunsLines (Ok Made) rules bytes piece cutter count stands out out' =
    IsAt rules (bytes ++ piece) cutter count stands
    × ((more : List ℕ) × (out' ≡ out ++ more) × ((ended_course rules (bytes ++ piece)).written ≡ (ended_course rules bytes).written ++ more))
RunsLines (Ok Refused) rules bytes piece cutter count stands out out' =
    ((course_so_far rules (bytes ++ piece)).refused ≡ Some (count + 1))
    × ((more : List ℕ) × (out' ≡ out ++ more) × ((course_so_far rules (bytes ++ piece)).written ≡ (ended_course rules bytes).written ++ more))
RunsLines (Err _) rules bytes piece cutter count stands out out' = Unit {0}

-- The line that the end makes known was run, and what it writes follows what the buffer held; or it was refused; or there is none.
abbrev pub RunsLast : {X : Type 0} → Result LineStep NoMemory → Rules X → List ℕ → ℕ → (X → Type 0) → List ℕ → List ℕ → Type 0
RunsLast (Ok Made) rules bytes count stands out out' =
    ((whole_course rules bytes).refused ≡ None) × stands (whole_course rules bytes).state
    × ((more : List ℕ) × (out' ≡ out ++ more) × ((whole_course rules bytes).written ≡ (ended_course rules bytes).written ++ more))
RunsLast (Ok Refused) rules bytes count stands out out' =
    ((whole_course rules bytes).refused ≡ Some (count + 1)) × (out' ≡ out) × ((whole_course rules bytes).written ≡ (ended_course rules bytes).written)
RunsLast (Err _) rules bytes count stands out out' = Unit {0}

-- the buffer holds what is due after this, whether a line is refused or not
abbrev pub IsDue : Result Round NoMemory → Option ℕ → List ℕ → List ℕ → List ℕ → Type 0
IsDue (Ok Run) refused before due out = (refused ≡ None) × (due ≡ before ++ out)
IsDue (Ok (RefusedAt number)) refused before due out = (refused ≡ Some number) × (due ≡ before ++ out)
IsDue (Err _) refused before due out = Unit {0}

-- the same at the text's end; if no line is refused, what the end writes is still left
abbrev pub IsDueAtEnd : Result Round NoMemory → Option ℕ → List ℕ → List ℕ → (List ℕ → Type 0) → List ℕ → Type 0
IsDueAtEnd (Ok Run) refused before due ends out = (refused ≡ None) × ((left : List ℕ) × ends left × (due ≡ before ++ (out ++ left)))
IsDueAtEnd (Ok (RefusedAt number)) refused before due ends out = (refused ≡ Some number) × (due ≡ before ++ out)
IsDueAtEnd (Err _) refused before due ends out = Unit {0}

-- what is due after this, some bytes more
pub record Written (P : List ℕ → List ℕ → List ℕ → Type 0) (before due : List ℕ) (sink sink' : Option (List ℕ)) : Type 0 where
  pub more : List ℕ
  pub is : due ≡ before ++ more
  pub wrote : Goes (P more) sink sink'

-- what was due after this was written, or a prefix of it, or nothing
abbrev pub Writes : {X : Type 0} → Result X Fault → Option ℕ → List ℕ → List ℕ → Option (List ℕ) → Option (List ℕ) → Type 0
Writes (Ok _) refused before due sink sink' = (refused ≡ None) × Written Appends before due sink sink'
Writes (Err (BadLine number)) refused before due sink sink' = (refused ≡ Some number) × Written Appends before due sink sink'
Writes (Err Sink) refused before due sink sink' = Written AppendsPart before due sink sink'
Writes (Err NoMemoryFault) refused before due sink sink' = sink ≡ sink'

-- the same at the text's end: out of memory, a part of what was due may be written
abbrev pub WritesAtEnd : {X : Type 0} → Result X Fault → Option ℕ → List ℕ → List ℕ → Option (List ℕ) → Option (List ℕ) → Type 0
WritesAtEnd (Ok _) refused before due sink sink' = (refused ≡ None) × Written Appends before due sink sink'
WritesAtEnd (Err (BadLine number)) refused before due sink sink' = (refused ≡ Some number) × Written Appends before due sink sink'
WritesAtEnd (Err Sink) refused before due sink sink' = Written AppendsPart before due sink sink'
WritesAtEnd (Err NoMemoryFault) refused before due sink sink' = (sink ≡ sink') ⊎ Written AppendsPart before due sink sink'

-- the writing of an end breaks off: a part of it was written, and no line is refused there
abbrev pub EndBreaks : Fault → List ℕ → Option (List ℕ) → Option (List ℕ) → Type 0
EndBreaks (BadLine number) all sink sink' = ⊥
EndBreaks Sink all sink sink' = Goes (AppendsPart all) sink sink'
EndBreaks NoMemoryFault all sink sink' = Goes (AppendsPart all) sink sink'

-- A prefix of what is left at an end was written, and after it this is due and the rest is left; or all was written.
abbrev pub WritesPart : Result EndStep Fault → List ℕ → (List ℕ → Type 0) → List ℕ → Option (List ℕ) → Option (List ℕ) → Type 0
WritesPart (Ok More) all ends due sink sink' =
    (front : List ℕ) × (rest : List ℕ) × (all ≡ front ++ (due ++ rest)) × ends rest × Goes (Appends front) sink sink'
WritesPart (Ok Last) all ends due sink sink' = Goes (Appends all) sink sink'
WritesPart (Err fault) all ends due sink sink' = EndBreaks fault all sink sink'

-- all that is left at an end was written, or a part of it
abbrev pub WritesEnd : {X : Type 0} → Result X Fault → List ℕ → Option (List ℕ) → Option (List ℕ) → Type 0
WritesEnd (Ok _) all sink sink' = Goes (Appends all) sink sink'
WritesEnd (Err fault) all sink sink' = EndBreaks fault all sink sink'

-- the sink's faults rose exactly if the sink failed
abbrev pub WriteCause : {X : Type 0} → Result X Fault → ℕ → ℕ → Type 0
WriteCause (Ok _) before after = after ≡ before
WriteCause (Err (BadLine number)) before after = after ≡ before
WriteCause (Err Sink) before after = Rose before after
WriteCause (Err NoMemoryFault) before after = after ≡ before
