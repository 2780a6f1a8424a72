-- The reading of a text, step by step, and how it ends.
use Rattle.std.proofs.Common.{◌≡◌, ℕ, ◌+◌, ◌≤◌, inl, inr, List, [], ◌∷◌, ◌++◌, length, take, fold, Option, Some, None, Result, Ok, Err, refl, sym, ◌∙◌, append_assoc, length-append, arith}
use Rattle.std.proofs.lemmas.List.{append-nil}
use Rattle.gps_outside.specs.Told.{Stream, Goes, Appends, AppendsPart}
use Rattle.gps_fixed.specs.Lists.{IsPrefix}
use Rattle.gps_outside.specs.Counts.{one_more}
use Rattle.gps_outside.specs.ReadSteps.{Budget, FitsRoom, Spends, Hands, HasTaken}
use Rattle.gps_outside.specs.declared.intake.IntakeStep.TheVariants.{Piece, Quiet, Last, End}
use Rattle.gps_outside.proofs.Writing.{appends_none, appends_on, part_of, part_on}
use Rattle.gps_outside.proofs.ReadSteps.{taken_none, taken_piece, taken_quiet, ends_at_end, ends_full}
use Rattle.line_cut.specs.Lines.{last_lines, lines, open_line}
use Rattle.line_cut.specs.Standing.{LineCutterView, StandsFor}
use Rattle.gps_outside.specs.declared.outcome.CommandOutcome.{CommandOutcome}
use Rattle.gps_outside.specs.declared.outcome.CommandOutcome.TheVariants.{Done, Full}
use Rattle.line_player.specs.declared.fault.Fault.{Fault}
use Rattle.line_player.specs.declared.fault.Fault.TheVariants.{BadLine, Sink, NoMemory as NoMemoryFault}
use Rattle.line_player.specs.Rules.{Effect, Rules, effect_within}
use Rattle.line_player.specs.Courses.{Course, bad_line, course_so_far, due_at_end, due_so_far, ended_texts, gone_on, long_texts, new_course, output_of, unless, whole_course, with_line, written_so_far}
use Rattle.line_player.specs.Outcomes.{outcome_of}
use Rattle.gps_outside.specs.Ends.{HasReadAll, HasReadSoFar}
use Rattle.line_player.specs.Played.{EndsPlay, HasPlayed}
use Rattle.line_player.specs.LineSteps.{IsAt, Writes, WritesAtEnd, Written, ended_course}
use Rattle.line_player.proofs.Courses.{course_on, so_far_on}
use Rattle.line_player.proofs.Running.{none_long}
use Rattle.line_player.proofs.Dues.{written_is}

-- So far these bytes were read, no line of theirs was refused, and what they write was written.
pub record UnderWay {X : Type 0} (rules : Rules X) (most : ℕ) (budget : Budget) (cutter : LineCutterView) (count : ℕ) (stands : X → Type 0)
    (source source' : Option Stream) (faults faults' quiets quiets' : ℕ) (sink sink' : Option (List ℕ)) : Type 0 where
  pub bytes : List ℕ
  pub taken : HasTaken most bytes budget source source' faults faults' quiets quiets'
  pub at : IsAt rules bytes cutter count stands
  pub few : count ≤ length bytes
  pub wrote : Goes (Appends (written_so_far rules bytes)) sink sink'

no_lines : {X : Type 0} (rules : Rules X) → ended_course rules [] ≡ new_course rules
unfolding lines
no_lines rules = refl

nothing_open : open_line [] ≡ []
unfolding open_line
nothing_open = refl

pub begun : {X : Type 0} (rules : Rules X) (most : ℕ) (budget : Budget) (cutter : LineCutterView) (count : ℕ) (stands : X → Type 0) (source : Option Stream) (faults quiets : ℕ) (sink : Option (List ℕ))
    → budget ≡ record { room = most; quiets = 0 } → cutter.limit ≡ rules.limit → StandsFor cutter [] → count ≡ 0 → stands rules.start
    → UnderWay rules most budget cutter count stands source source faults faults quiets quiets sink sink
begun rules most budget cutter count stands source faults quiets sink new limit cut first starts =
    let none = no_lines rules in
    let at : IsAt rules [] cutter count stands = record {
      limit = limit;
      cut = cut;
      short = rw nothing_open (none_long rules.limit);
      none = rw none;
      number = rw (none, first);
      made = rw none starts;
    } in
    record {
      bytes = [];
      taken = taken_none most budget source faults quiets new;
      at = at;
      few = omega (arith, first);
      wrote = rw (written_is rules [] cutter count stands at, none) (appends_none sink);
    }

pub after_quiet : {X : Type 0} (rules : Rules X) (most : ℕ) (buf : List ℕ) (budget budget' : Budget) (cutter : LineCutterView) (count : ℕ) (stands : X → Type 0)
    (source now after : Option Stream) (faults faults' faults'' quiets quiets' quiets'' : ℕ) (sink sink' : Option (List ℕ))
    → UnderWay rules most budget cutter count stands source now faults faults' quiets quiets' sink sink'
    → Spends Quiet budget budget' → Hands Quiet buf now after → faults'' ≡ faults' → quiets'' ≡ one_more quiets'
    → UnderWay rules most budget' cutter count stands source after faults faults'' quiets quiets'' sink sink'
after_quiet rules most buf budget budget' cutter count stands source now after faults faults' faults'' quiets quiets' quiets'' sink sink' u spent handed same next = record {
  bytes = u.bytes;
  taken = taken_quiet most u.bytes buf budget budget' source now after faults faults' faults'' quiets quiets' quiets'' u.taken spent handed same next;
  at = u.at;
  few = u.few;
  wrote = u.wrote;
}

-- what is due only grows

grows : {X : Type 0} (rules : Rules X) (course : Course X) (texts : List (List ℕ)) → IsPrefix course.written (fold (with_line rules) course texts).written
grows rules course [] = ([], sym (append-nil course.written))
grows {X} rules course (text ∷ texts) = go course.refused (effect_within rules course.state text) refl (λ c. grows rules c texts)
  where
    go : (refused : Option ℕ) (effect : Option (Effect X)) → (with_line rules course text ≡ unless refused (gone_on course effect) course)
        → ((c : Course X) → IsPrefix c.written (fold (with_line rules) c texts).written)
        → IsPrefix course.written (fold (with_line rules) (with_line rules course text) texts).written
    go (Some number) effect is behind = rw is (behind course)
    go None None is behind = rw is (behind (gone_on course None))
    go None (Some effect) is behind =
        let more = behind (gone_on course (Some effect)) in
        rw is (effect.written ++ more.0, more.1 ∙ append_assoc course.written effect.written more.0)

due_grows : {X : Type 0} (course : Course X) (refused : Option ℕ) → IsPrefix course.written (due_so_far course refused)
due_grows course None = ([], sym (append-nil course.written))
due_grows course (Some line) = (bad_line line, refl)

end_grows : {X : Type 0} (rules : Rules X) (course : Course X) (refused : Option ℕ) → IsPrefix course.written (due_at_end rules course refused)
end_grows rules course None = (rules.end_writes course.state, refl)
end_grows rules course (Some line) = (bad_line line, refl)

prefix_on : (a b c : List ℕ) → IsPrefix a b → IsPrefix b c → IsPrefix a c
prefix_on a b c p q = (p.0 ++ q.0, rw (q.1, p.1) (append_assoc a p.0 q.0))

-- what is due so far is a beginning of what is due of more bytes
so_far_grows : {X : Type 0} (rules : Rules X) (bytes more : List ℕ) (cutter : LineCutterView) (count : ℕ) (stands : X → Type 0) → IsAt rules bytes cutter count stands
    → IsPrefix (written_so_far rules bytes) (written_so_far rules (bytes ++ more))
so_far_grows rules bytes more cutter count stands at =
    let c : Course _ = course_so_far rules (bytes ++ more) in
    let grown : IsPrefix (ended_course rules bytes).written c.written = rw (so_far_on rules bytes more)
    (grows rules (ended_course rules bytes) (ended_texts rules (open_line bytes ++ more) ++ long_texts rules (open_line (bytes ++ more)))) in
    rw (written_is rules bytes cutter count stands at) (prefix_on _ c.written _ grown (due_grows c c.refused))

-- and of the whole output
output_grows : {X : Type 0} (rules : Rules X) (bytes : List ℕ) (cutter : LineCutterView) (count : ℕ) (stands : X → Type 0) → IsAt rules bytes cutter count stands
    → IsPrefix (written_so_far rules bytes) (output_of rules bytes)
output_grows rules bytes cutter count stands at =
    let c : Course _ = whole_course rules bytes in
    let last : List (List ℕ) = last_lines (open_line bytes) in
    let grown : IsPrefix (ended_course rules bytes).written c.written =
    rw (course_on rules (ended_texts rules bytes) last) (grows rules (ended_course rules bytes) last) in
    rw (written_is rules bytes cutter count stands at) (prefix_on _ c.written _ grown (end_grows rules c c.refused))

-- a part of what is due, if all before it was written
part_due : (before all : List ℕ) (sink sink' sink'' : Option (List ℕ)) → Goes (Appends before) sink sink' → Written AppendsPart before all sink' sink'' → Goes (AppendsPart all) sink sink''
part_due before all sink sink' sink'' wrote w = rw w.is (part_on before w.more sink sink' sink'' wrote w.wrote)

all_due : (before all : List ℕ) (sink sink' sink'' : Option (List ℕ)) → Goes (Appends before) sink sink' → Written Appends before all sink' sink'' → Goes (Appends all) sink sink''
all_due before all sink sink' sink'' wrote w = rw w.is (appends_on before w.more sink sink' sink'' wrote w.wrote)

none_due : (before all : List ℕ) (sink sink' sink'' : Option (List ℕ)) → Goes (Appends before) sink sink' → IsPrefix before all → sink' ≡ sink'' → Goes (AppendsPart all) sink sink''
none_due before all sink sink' sink'' wrote grown same = rw grown.1 (part_of before grown.0 sink sink'' (rw same at wrote))

-- a fault in mid-source
broken_off : {X : Type 0} (fault : Fault) (rules : Rules X) (most : ℕ) (bytes before : List ℕ) (source after : Option Stream) (sink sink' sink'' : Option (List ℕ))
    → HasReadSoFar most bytes source after → Goes (Appends before) sink sink' → IsPrefix before (written_so_far rules bytes)
    → Writes {X = Unit {0}} (Err fault) (course_so_far rules bytes).refused before (written_so_far rules bytes) sink' sink''
    → EndsPlay (outcome_of fault) rules most bytes source after sink sink''
broken_off (BadLine number) rules most bytes before source after sink sink' sink'' read wrote grown w =
    inl (read, (w.0, all_due before (written_so_far rules bytes) sink sink' sink'' wrote w.1))
broken_off Sink rules most bytes before source after sink sink' sink'' read wrote grown w =
    inl (read, (tt, part_due before (written_so_far rules bytes) sink sink' sink'' wrote w))
broken_off NoMemoryFault rules most bytes before source after sink sink' sink'' read wrote grown w =
    inl (read, (tt, none_due before (written_so_far rules bytes) sink sink' sink'' wrote grown w))

-- a fault at the source's end
end_broken : {X : Type 0} (fault : Fault) (rules : Rules X) (most : ℕ) (bytes before : List ℕ) (source after : Option Stream) (sink sink' sink'' : Option (List ℕ))
    → HasReadAll most bytes source after → Goes (Appends before) sink sink' → IsPrefix before (output_of rules bytes)
    → WritesAtEnd {X = Unit {0}} (Err fault) (whole_course rules bytes).refused before (output_of rules bytes) sink' sink''
    → EndsPlay (outcome_of fault) rules most bytes source after sink sink''
end_broken (BadLine number) rules most bytes before source after sink sink' sink'' read wrote grown w =
    inr (read, (w.0, all_due before (output_of rules bytes) sink sink' sink'' wrote w.1))
end_broken Sink rules most bytes before source after sink sink' sink'' read wrote grown w =
    inr (read, (tt, part_due before (output_of rules bytes) sink sink' sink'' wrote w))
end_broken NoMemoryFault rules most bytes before source after sink sink' sink'' read wrote grown (inl same) =
    inr (read, (tt, none_due before (output_of rules bytes) sink sink' sink'' wrote grown same))
end_broken NoMemoryFault rules most bytes before source after sink sink' sink'' read wrote grown (inr w) =
    inr (read, (tt, part_due before (output_of rules bytes) sink sink' sink'' wrote w))

-- one step more

module _ {X : Type 0} {rules : Rules X} {most : ℕ} {budget : Budget} {cutter : LineCutterView} {count : ℕ} {stands : X → Type 0} {source now : Option Stream}
    {faults faults' quiets quiets' : ℕ} {sink sink' : Option (List ℕ)} (buf : List ℕ) (after : Option Stream) (sink'' : Option (List ℕ))
    (u : UnderWay rules most budget cutter count stands source now faults faults' quiets quiets' sink sink') where
  -- what a piece of n bytes gives
  abbrev Given : {R : Type 0} → Result R Fault → ℕ → Type 0
  Given result n = (bytes : List ℕ) → IsAt rules bytes cutter count stands
      → Writes result (course_so_far rules (bytes ++ take n buf)).refused (written_so_far rules bytes) (written_so_far rules (bytes ++ take n buf)) sink' sink''

  abbrev GivenAtEnd : {R : Type 0} → Result R Fault → Type 0
  GivenAtEnd result = (bytes : List ℕ) → IsAt rules bytes cutter count stands
      → WritesAtEnd result (whole_course rules bytes).refused (written_so_far rules bytes) (output_of rules bytes) sink' sink''

  pub after_piece : (n : ℕ) (budget' : Budget) (faults'' quiets'' : ℕ) (cutter' : LineCutterView) (count' : ℕ) (stands' : X → Type 0)
      → FitsRoom (Piece n) (length buf) → Spends (Piece n) budget budget' → Hands (Piece n) buf now after → faults'' ≡ faults' → quiets'' ≡ quiets'
      → Given {R = Unit {0}} (Ok tt) n → ((bytes : List ℕ) → IsAt rules bytes cutter count stands → IsAt rules (bytes ++ take n buf) cutter' count' stands')
      → count' ≤ count + length (take n buf)
      → UnderWay rules most budget' cutter' count' stands' source after faults faults'' quiets quiets'' sink sink''
  after_piece n budget' faults'' quiets'' cutter' count' stands' fits spent handed same still writes at number = record {
    bytes = u.bytes ++ take n buf;
    taken = taken_piece n most u.bytes buf budget budget' source now after faults faults' faults'' quiets quiets' quiets'' u.taken fits spent handed same still;
    at = at u.bytes u.at;
    few = let few = u.few in omega (arith, number, length-append u.bytes (take n buf));
    wrote = all_due _ _ sink sink' sink'' u.wrote (writes u.bytes u.at).1;
  }

  pub broken_in_piece : (n : ℕ) (budget' : Budget) (faults'' quiets'' : ℕ) (fault : Fault)
      → FitsRoom (Piece n) (length buf) → Spends (Piece n) budget budget' → Hands (Piece n) buf now after → faults'' ≡ faults' → quiets'' ≡ quiets'
      → Given {R = Unit {0}} (Err fault) n → (outcome : CommandOutcome) → outcome ≡ outcome_of fault → HasPlayed outcome rules most source after sink sink''
  broken_in_piece n budget' faults'' quiets'' fault fits spent handed same still writes outcome is =
      let all = taken_piece n most u.bytes buf budget budget' source now after faults faults' faults'' quiets quiets' quiets'' u.taken fits spent handed same still in
      rw is (record {
        bytes = u.bytes ++ take n buf;
        ends = broken_off fault rules most (u.bytes ++ take n buf) (written_so_far rules u.bytes) source after sink sink' sink''
            (inl (let r = all.room in omega arith, all.passed)) u.wrote (so_far_grows rules u.bytes (take n buf) cutter count stands u.at) (writes u.bytes u.at);
      })

  pub broken_in_last : (n : ℕ) (budget' : Budget) (fault : Fault) → FitsRoom (Last n) (length buf) → Spends (Last n) budget budget' → Hands (Last n) buf now after
      → Given {R = Unit {0}} (Err fault) n → (outcome : CommandOutcome) → outcome ≡ outcome_of fault → HasPlayed outcome rules most source after sink sink''
  broken_in_last n budget' fault fits spent handed writes outcome is = rw is (record {
    bytes = u.bytes ++ take n buf;
    ends = broken_off fault rules most (u.bytes ++ take n buf) (written_so_far rules u.bytes) source after sink sink' sink''
        (inr (ends_full n most u.bytes buf budget budget' source now after faults faults' quiets quiets' u.taken fits spent handed)) u.wrote
        (so_far_grows rules u.bytes (take n buf) cutter count stands u.at) (writes u.bytes u.at);
  })

  pub filled : (n : ℕ) (budget' : Budget) → FitsRoom (Last n) (length buf) → Spends (Last n) budget budget' → Hands (Last n) buf now after → Given {R = Unit {0}} (Ok tt) n
      → HasPlayed Full rules most source after sink sink''
  filled n budget' fits spent handed writes =
      let read = ends_full n most u.bytes buf budget budget' source now after faults faults' quiets quiets' u.taken fits spent handed in
      let w = writes u.bytes u.at in
      record { bytes = u.bytes ++ take n buf; ends = (read.0, read.1, (w.0, all_due _ _ sink sink' sink'' u.wrote w.1)) }

  pub ended : Hands End buf now after → GivenAtEnd {R = Unit {0}} (Ok tt) → HasPlayed Done rules most source after sink sink''
  ended handed writes =
      let w = writes u.bytes u.at in
      record {
        bytes = u.bytes;
        ends = (ends_at_end most u.bytes buf budget source now after faults faults' quiets quiets' u.taken handed, (w.0, all_due _ _ sink sink' sink'' u.wrote w.1));
      }

  pub broken_at_end : (fault : Fault) → Hands End buf now after → GivenAtEnd {R = Unit {0}} (Err fault)
      → (outcome : CommandOutcome) → outcome ≡ outcome_of fault → HasPlayed outcome rules most source after sink sink''
  broken_at_end fault handed writes outcome is = rw is (record {
    bytes = u.bytes;
    ends = end_broken fault rules most u.bytes (written_so_far rules u.bytes) source after sink sink' sink''
        (ends_at_end most u.bytes buf budget source now after faults faults' quiets quiets' u.taken handed) u.wrote
        (output_grows rules u.bytes cutter count stands u.at) (writes u.bytes u.at);
  })

-- the rules stay what they were

pub on_rules : {X : Type 0} {rules other : Rules X} {most : ℕ} {budget : Budget} {cutter : LineCutterView} {count : ℕ} {stands : X → Type 0}
    {source source' : Option Stream} {faults faults' quiets quiets' : ℕ} {sink sink' : Option (List ℕ)} → other ≡ rules
    → UnderWay rules most budget cutter count stands source source' faults faults' quiets quiets' sink sink'
    → UnderWay other most budget cutter count stands source source' faults faults' quiets quiets' sink sink'
on_rules same u = rw same u

pub by_rules : {X : Type 0} {outcome : CommandOutcome} {rules other : Rules X} {most : ℕ} {source source' : Option Stream} {sink sink' : Option (List ℕ)}
    → rules ≡ other → HasPlayed outcome rules most source source' sink sink' → HasPlayed outcome other most source source' sink sink'
by_rules same played = rw same at played
