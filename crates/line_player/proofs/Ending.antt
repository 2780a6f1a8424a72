-- What the end of a text writes, part by part.
use Rattle.std.proofs.Common.{ℕ, List, [], ◌++◌, Option, Result, Ok, Err, inr, refl, sym, ◌∙◌, ap, append_assoc}
use Rattle.std.proofs.lemmas.List.{append-nil}
use Rattle.gps_fixed.specs.declared.no_memory.NoMemory.{NoMemory}
use Rattle.gps_outside.proofs.Writing.{appends_none, appends_on, part_on}
use Rattle.line_player.specs.declared.plays_lines.EndStep.{EndStep}
use Rattle.line_player.specs.declared.plays_lines.EndStep.TheVariants.{More, Last}
use Rattle.line_player.specs.declared.lines.Round.TheVariants.{Run}
use Rattle.line_player.specs.declared.fault.Fault.{Fault}
use Rattle.line_player.specs.declared.fault.Fault.TheVariants.{BadLine, Sink, NoMemory as NoMemoryFault}
use Rattle.line_player.specs.LineSteps.{EndPart, IsDueAtEnd, WritesAtEnd, WritesEnd, WritesPart}

-- parts follow one another in the buffer

pub no_part : (left : List ℕ) (ends : List ℕ → Type 0) (due : List ℕ) → ends left → EndPart (Ok More) left ends due due
no_part left ends due is = ([], left, refl, is, sym (append-nil due))

pub part_more : (result : Result EndStep NoMemory) (left : List ℕ) (ends ends' : List ℕ → Type 0) (due due' due'' : List ℕ)
    → EndPart (Ok More) left ends due due' → ((rest : List ℕ) → ends rest → EndPart result rest ends' due' due'') → EndPart result left ends' due due''
part_more (Ok More) left ends ends' due due' due'' so_far step =
    let next : EndPart (Ok More) so_far.1 ends' due' due'' = step so_far.1 so_far.3 in (
      so_far.0 ++ next.0,
      next.1,
      so_far.2 ∙ ap (λ r. so_far.0 ++ r) next.2 ∙ sym (append_assoc so_far.0 next.0 next.1),
      next.3,
      next.4 ∙ ap (λ d. d ++ next.0) so_far.4 ∙ append_assoc due so_far.0 next.0,
    )
part_more (Ok Last) left ends ends' due due' due'' so_far step =
    let next : EndPart (Ok Last) so_far.1 ends' due' due'' = step so_far.1 so_far.3 in
    next ∙ ap (λ d. d ++ so_far.1) so_far.4 ∙ append_assoc due so_far.0 so_far.1 ∙ ap (λ l. due ++ l) (sym so_far.2)
part_more (Err fault) left ends ends' due due' due'' so_far step = tt

-- parts are written one after the other

pub none_written : (left : List ℕ) (ends : List ℕ → Type 0) (due : List ℕ) (sink : Option (List ℕ)) → ends left → WritesPart (Ok More) (due ++ left) ends due sink sink
none_written left ends due sink is = ([], left, refl, is, appends_none sink)

pub writes_more : (result : Result EndStep Fault) (all : List ℕ) (ends ends' : List ℕ → Type 0) (due due' : List ℕ) (sink sink' sink'' : Option (List ℕ))
    → WritesPart (Ok More) all ends due sink sink' → ((left : List ℕ) → ends left → WritesPart result (due ++ left) ends' due' sink' sink'')
    → WritesPart result all ends' due' sink sink''
writes_more (Ok More) all ends ends' due due' sink sink' sink'' so_far step =
    let next : WritesPart (Ok More) (due ++ so_far.1) ends' due' sink' sink'' = step so_far.1 so_far.3 in (
      so_far.0 ++ next.0,
      next.1,
      rw (so_far.2, next.2, append_assoc),
      next.3,
      appends_on so_far.0 next.0 sink sink' sink'' so_far.4 next.4,
    )
writes_more (Ok Last) all ends ends' due due' sink sink' sink'' so_far step =
    rw so_far.2 (appends_on so_far.0 (due ++ so_far.1) sink sink' sink'' so_far.4 (step so_far.1 so_far.3))
writes_more (Err (BadLine number)) all ends ends' due due' sink sink' sink'' so_far step = step so_far.1 so_far.3
writes_more (Err Sink) all ends ends' due due' sink sink' sink'' so_far step =
    rw so_far.2 (part_on so_far.0 (due ++ so_far.1) sink sink' sink'' so_far.4 (step so_far.1 so_far.3))
writes_more (Err NoMemoryFault) all ends ends' due due' sink sink' sink'' so_far step =
    rw so_far.2 (part_on so_far.0 (due ++ so_far.1) sink sink' sink'' so_far.4 (step so_far.1 so_far.3))

-- the whole end

pub end_written : (result : Result (Unit {0}) Fault) (refused : Option ℕ) (before all due : List ℕ) (ends : List ℕ → Type 0) (sink sink' : Option (List ℕ))
    → IsDueAtEnd (Ok Run) refused before all ends due → ((left : List ℕ) → ends left → WritesEnd result (due ++ left) sink sink')
    → WritesAtEnd result refused before all sink sink'
end_written (Ok u) refused before all due ends sink sink' is wrote =
    (is.0, record { more = due ++ is.1.0; is = is.1.2; wrote = wrote is.1.0 is.1.1 })
end_written (Err (BadLine number)) refused before all due ends sink sink' is wrote = absurd (wrote is.1.0 is.1.1)
end_written (Err Sink) refused before all due ends sink sink' is wrote = record { more = due ++ is.1.0; is = is.1.2; wrote = wrote is.1.0 is.1.1 }
end_written (Err NoMemoryFault) refused before all due ends sink sink' is wrote =
    inr (record { more = due ++ is.1.0; is = is.1.2; wrote = wrote is.1.0 is.1.1 })
