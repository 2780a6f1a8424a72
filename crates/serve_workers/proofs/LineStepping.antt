-- The steps of a reader of lines, one after another, and its end.
use Rattle.std.proofs.Common.{◌≡◌, ℕ, List, [], ◌++◌, Option, Some, None, IfSome, inl, inr, refl, sym, ◌∙◌, ap, subst, append_assoc, append-nil}
use Rattle.std.proofs.lemmas.List.{map-append}
use Rattle.std.proofs.lemmas.Option.{same_Some}
use Rattle.gps_outside.specs.Told.{Stream, Goes, Stays, Passes, IsAtEnd, MayLose}
use Rattle.gps_outside.specs.ReadSteps.{TakesAll, TakesSome}
use Rattle.gps_outside.proofs.Going.{goes_as, goes_on}
use Rattle.gps_lane.specs.declared.piece.Ending.{Ending}
use Rattle.gps_lane.specs.declared.piece.Ending.TheVariants.{End, Failed, NoMemory}
use Rattle.gps_lane.specs.declared.piece.Piece.{Piece}
use Rattle.gps_lane.specs.declared.piece.Piece.TheVariants as made
use Rattle.line_cut.specs.Lines.{lines}
use Rattle.line_cut.specs.Standing.{LineCutterView, StandsFor}
use Rattle.serve_workers.specs.declared.readers.ReaderStep.{ReaderStep}
use Rattle.serve_workers.specs.declared.readers.ReaderStep.TheVariants.{On, Over, Closed}
use Rattle.serve_workers.specs.declared.edges.Put.{Put}
use Rattle.serve_workers.specs.declared.edges.Put.TheVariants as was
use Rattle.serve_workers.specs.Readings.{last_piece}
use Rattle.gps_lane.specs.EdgeLines.{edge_lines, last_edge_line}
use Rattle.serve_workers.specs.EdgeLines.{line_pieces, AreFirst, AreLinesOf, TookLines, HandsLines, CutsLines, PutsLines, PutsLast, TookRound, LinesIn, StandsIn, EdgeLineSteps}
use Rattle.serve_workers.proofs.Stepping.{pass_on, all_on, some_on, all_closed, some_closed, stays}

passed_some : (bytes : List ℕ) (x y : Stream) → Passes bytes x y → TakesSome bytes x y
passed_some bytes x y p = record { rest = y.left; next = p.next; joins = p.joins; kept = inl refl }

all_some : (bytes : List ℕ) (x y : Stream) → TakesAll bytes x y → TakesSome bytes x y
all_some bytes x y p = record { rest = []; next = p.all ∙ sym (append-nil bytes); joins = p.joins; kept = inr p.none }

-- what came of a piece, as a step
abbrev pub round_of : Put → ReaderStep
round_of was.Done = On
round_of was.NoMemory = Over NoMemory
round_of was.Closed = Closed

-- the bytes of a read were cut
pub got_round : (result : Put) (bytes more : List ℕ) (kept : LineCutterView) (put put' : List Piece) (before after : Option Stream)
    → PutsLines result bytes more kept put put' → Goes (Passes more) before after
    → EdgeLineSteps (round_of result) bytes kept put put' before after
got_round was.Done bytes more kept put put' before after puts reads =
    record { more = more; lines = puts.lines; puts = puts.puts; are = puts.are; stands = puts.stands; took = reads }
got_round was.NoMemory bytes more kept put put' before after puts reads = record {
  more = more;
  lines = puts.lines;
  puts = puts.puts;
  are = puts.are;
  stands = tt;
  took = goes_as (Passes more) (TakesSome more) before after (passed_some more) reads;
}
got_round was.Closed bytes more kept put put' before after puts reads = record {
  more = more;
  lines = puts.lines;
  puts = puts.puts;
  are = puts.are;
  stands = tt;
  took = goes_as (Passes more) (TakesSome more) before after (passed_some more) reads;
}

no_lines_are : (round : ReaderStep) (bytes : List ℕ) → LinesIn round (edge_lines bytes ++ []) (edge_lines (bytes ++ []))
no_lines_are On bytes = ap edge_lines (append-nil bytes) ∙ sym (append-nil (edge_lines bytes))
no_lines_are (Over End) bytes = ap edge_lines (append-nil bytes) ∙ sym (append-nil (edge_lines bytes))
no_lines_are (Over Failed) bytes = ap edge_lines (append-nil bytes) ∙ sym (append-nil (edge_lines bytes))
no_lines_are (Over NoMemory) bytes = ([], ap edge_lines (append-nil bytes) ∙ sym (append-nil (edge_lines bytes)) ∙ sym (append-nil (edge_lines bytes ++ [])))
no_lines_are Closed bytes = ([], ap edge_lines (append-nil bytes) ∙ sym (append-nil (edge_lines bytes)) ∙ sym (append-nil (edge_lines bytes ++ [])))

stands_still : (round : ReaderStep) (kept : LineCutterView) (bytes : List ℕ) → StandsFor kept bytes → StandsIn round kept (bytes ++ [])
stands_still On kept bytes stands = rw (append-nil bytes) stands
stands_still (Over End) kept bytes stands = rw (append-nil bytes) stands
stands_still (Over Failed) kept bytes stands = tt
stands_still (Over NoMemory) kept bytes stands = tt
stands_still Closed kept bytes stands = tt

-- a read that gave nothing
pub no_lines : (round : ReaderStep) (bytes : List ℕ) (kept : LineCutterView) (put : List Piece) (before after : Option Stream)
    → StandsFor kept bytes → TookRound round [] before after → EdgeLineSteps round bytes kept put put before after
no_lines round bytes kept put before after stands took = record {
  more = [];
  lines = [];
  puts = sym (append-nil put);
  are = no_lines_are round bytes;
  stands = stands_still round kept bytes stands;
  took = took;
}

pub quiet_took : (before after : Option Stream) → Goes Stays before after → Goes (Passes []) before after
quiet_took before after stays =
    goes_as Stays (Passes []) before after
    (λ x y p. record { next = ap (λ (s : Stream). s.left) p; joins = ap (λ (s : Stream). s.taken) (sym p) ∙ sym (append-nil x.taken) }) stays

pub stop_took : (before after : Option Stream) → Goes Stays before after → Goes (TakesSome []) before after
stop_took before after stays = goes_as (Passes []) (TakesSome []) before after (passed_some []) (quiet_took before after stays)

pub end_took : (before after : Option Stream) → Goes IsAtEnd before after → Goes (TakesAll []) before after
end_took before after ends =
    goes_as IsAtEnd (TakesAll []) before after
    (λ x y p. record {
      all = p.none;
      joins = ap (λ (s : Stream). s.taken) (sym p.same) ∙ sym (append-nil x.taken);
      none = ap (λ (s : Stream). s.left) (sym p.same) ∙ p.none;
    })
    ends

pub fault_took : (before after : Option Stream) → Goes MayLose before after → Goes (TakesSome []) before after
fault_took before after fails =
    goes_as MayLose (TakesSome []) before after
    (λ x y p. record { rest = x.left; next = refl; joins = p.same ∙ sym (append-nil x.taken); kept = p.lost }) fails

lines_as : (round : ReaderStep) (got got' all all' : List (List ℕ)) → got ≡ got' → all ≡ all' → LinesIn round got all → LinesIn round got' all'
lines_as round got got' all all' e f are = subst (λ l. LinesIn round l all') e (subst (λ l. LinesIn round got l) f are)

took_more : (round : ReaderStep) (first second : List ℕ) (before now after : Option Stream)
    → Goes (Passes first) before now → TookRound round second now after → TookRound round (first ++ second) before after
took_more On first second before now after one two =
    goes_on (Passes first) (Passes second) (Passes (first ++ second)) before now after (pass_on first second) one two
took_more (Over End) first second before now after one two =
    goes_on (Passes first) (TakesAll second) (TakesAll (first ++ second)) before now after (all_on first second) one two
took_more (Over Failed) first second before now after one two =
    goes_on (Passes first) (TakesSome second) (TakesSome (first ++ second)) before now after (some_on first second) one two
took_more (Over NoMemory) first second before now after one two =
    goes_on (Passes first) (TakesSome second) (TakesSome (first ++ second)) before now after (some_on first second) one two
took_more Closed first second before now after one two =
    goes_on (Passes first) (TakesSome second) (TakesSome (first ++ second)) before now after (some_on first second) one two

pub line_rounds_on : (round : ReaderStep) (bytes : List ℕ) (kept kept' : LineCutterView) (put mid put' : List Piece) (before now after : Option Stream)
    → EdgeLineSteps On bytes kept put mid before now
    → ((b : List ℕ) → StandsFor kept b → EdgeLineSteps round b kept' mid put' now after)
    → EdgeLineSteps round bytes kept' put put' before after
line_rounds_on round bytes kept kept' put mid put' before now after one next =
    let two = next (bytes ++ one.more) one.stands in
    let joined : (bytes ++ one.more) ++ two.more ≡ bytes ++ (one.more ++ two.more) = append_assoc bytes one.more two.more in record {
      more = one.more ++ two.more;
      lines = one.lines ++ two.lines;
      puts =
          two.puts ∙ ap (λ l. l ++ line_pieces two.lines) one.puts ∙ append_assoc put (line_pieces one.lines) (line_pieces two.lines)
          ∙ ap (λ l. put ++ l) (sym (map-append made.Line one.lines two.lines));
      are = lines_as round (edge_lines (bytes ++ one.more) ++ two.lines) (edge_lines bytes ++ (one.lines ++ two.lines))
          (edge_lines ((bytes ++ one.more) ++ two.more)) (edge_lines (bytes ++ (one.more ++ two.more)))
          (ap (λ l. l ++ two.lines) one.are ∙ append_assoc (edge_lines bytes) one.lines two.lines) (ap edge_lines joined) two.are;
      stands = subst (λ l. StandsIn round kept' l) joined two.stands;
      took = took_more round one.more two.more before now after one.took two.took;
    }

pub no_lines_yet : edge_lines [] ≡ []
unfolding lines
no_lines_yet = refl

all_of : (more : List ℕ) (lines : List (List ℕ)) → edge_lines more ≡ edge_lines [] ++ lines → lines ≡ edge_lines more
all_of more lines is = sym (is ∙ ap (λ l. l ++ lines) no_lines_yet)

first_of : (more : List ℕ) (lines : List (List ℕ)) → AreFirst (edge_lines [] ++ lines) (edge_lines more) → AreFirst lines (edge_lines more ++ last_edge_line more)
first_of more lines first = (
  first.0 ++ last_edge_line more,
  ap (λ l. l ++ last_edge_line more) (first.1 ∙ ap (λ l. (l ++ lines) ++ first.0) no_lines_yet) ∙ append_assoc lines first.0 (last_edge_line more),
)

-- the whole file, with its last line
pub ended_lines : (kept : LineCutterView) (put mid put' : List Piece) (before after : Option Stream)
    → EdgeLineSteps (Over End) [] kept put mid before after
    → ((b : List ℕ) → StandsFor kept b → PutsLast was.Done b mid put')
    → CutsLines (Some End) put put' before after
ended_lines kept put mid put' before after rounds last = record {
  bytes = rounds.more;
  lines = rounds.lines ++ last_edge_line rounds.more;
  puts =
      last rounds.more rounds.stands ∙ ap (λ l. l ++ line_pieces (last_edge_line rounds.more)) rounds.puts
      ∙ append_assoc put (line_pieces rounds.lines) (line_pieces (last_edge_line rounds.more))
      ∙ ap (λ l. put ++ l) (sym (map-append made.Line rounds.lines (last_edge_line rounds.more)));
  are = ap (λ l. l ++ last_edge_line rounds.more) (all_of rounds.more rounds.lines rounds.are);
  took = rounds.took;
}

-- all but the last line, if that could not be put
unlasted : (kept : LineCutterView) (put mid : List Piece) (before after : Option Stream) → EdgeLineSteps (Over End) [] kept put mid before after → CutsLines None put mid before after
unlasted kept put mid before after rounds = record {
  bytes = rounds.more;
  lines = rounds.lines;
  puts = rounds.puts;
  are = (last_edge_line rounds.more, ap (λ l. l ++ last_edge_line rounds.more) (sym (all_of rounds.more rounds.lines rounds.are)));
  took = goes_as (TakesAll rounds.more) (TakesSome rounds.more) before after (all_some rounds.more) rounds.took;
}

pub no_last_memory : (kept : LineCutterView) (put mid put' : List Piece) (before after : Option Stream)
    → EdgeLineSteps (Over End) [] kept put mid before after
    → ((b : List ℕ) → StandsFor kept b → PutsLast was.NoMemory b mid put')
    → CutsLines (Some NoMemory) put put' before after
no_last_memory kept put mid put' before after rounds last =
    let same : put' ≡ mid = last rounds.more rounds.stands in
    let cuts = unlasted kept put mid before after rounds in
    record { bytes = cuts.bytes; lines = cuts.lines; puts = same ∙ cuts.puts; are = cuts.are; took = cuts.took }

pub no_last_closed : (kept : LineCutterView) (put mid put' : List Piece) (before after : Option Stream)
    → EdgeLineSteps (Over End) [] kept put mid before after
    → ((b : List ℕ) → StandsFor kept b → PutsLast was.Closed b mid put')
    → CutsLines None put put' before after
no_last_closed kept put mid put' before after rounds last =
    let same : put' ≡ mid = last rounds.more rounds.stands in
    let cuts = unlasted kept put mid before after rounds in
    record { bytes = cuts.bytes; lines = cuts.lines; puts = same ∙ cuts.puts; are = cuts.are; took = cuts.took }

pub failed_lines : (kept : LineCutterView) (put put' : List Piece) (before after : Option Stream)
    → EdgeLineSteps (Over Failed) [] kept put put' before after → CutsLines (Some Failed) put put' before after
failed_lines kept put put' before after rounds =
    record { bytes = rounds.more; lines = rounds.lines; puts = rounds.puts; are = all_of rounds.more rounds.lines rounds.are; took = rounds.took }

pub starved_lines : (kept : LineCutterView) (put put' : List Piece) (before after : Option Stream)
    → EdgeLineSteps (Over NoMemory) [] kept put put' before after → CutsLines (Some NoMemory) put put' before after
starved_lines kept put put' before after rounds =
    record { bytes = rounds.more; lines = rounds.lines; puts = rounds.puts; are = first_of rounds.more rounds.lines rounds.are; took = rounds.took }

pub closed_lines : (kept : LineCutterView) (put put' : List Piece) (before after : Option Stream)
    → EdgeLineSteps Closed [] kept put put' before after → CutsLines None put put' before after
closed_lines kept put put' before after rounds =
    record { bytes = rounds.more; lines = rounds.lines; puts = rounds.puts; are = first_of rounds.more rounds.lines rounds.are; took = rounds.took }

are_less : (last : Ending) (lines : List (List ℕ)) (bytes : List ℕ) → AreLinesOf (Some last) lines bytes → AreLinesOf None lines bytes
are_less End lines bytes are = ([], sym are ∙ sym (append-nil lines))
are_less Failed lines bytes are = (last_edge_line bytes, ap (λ l. l ++ last_edge_line bytes) (sym are))
are_less NoMemory lines bytes are = are

took_less : (last : Ending) (bytes : List ℕ) (before after : Option Stream) → TookLines (Some last) bytes before after → TookLines None bytes before after
took_less End bytes before after took = goes_as (TakesAll bytes) (TakesSome bytes) before after (all_some bytes) took
took_less Failed bytes before after took = took
took_less NoMemory bytes before after took = took

-- the last piece was put, or not
pub handed_lines : (result : Option Ending) (last : Ending) (put mid : List Piece) (before after : Option Stream)
    → IfSome result (λ said. said ≡ last)
    → CutsLines (Some last) put mid before after → HandsLines result put (mid ++ last_piece result) before after
handed_lines None last put mid before after same cuts = record {
  bytes = cuts.bytes;
  lines = cuts.lines;
  puts = ap (λ l. l ++ []) cuts.puts;
  are = are_less last cuts.lines cuts.bytes cuts.are;
  took = took_less last cuts.bytes before after cuts.took;
}
handed_lines (Some said) last put mid before after same cuts = record {
  bytes = cuts.bytes;
  lines = cuts.lines;
  puts = ap (λ l. l ++ last_piece (Some said)) cuts.puts;
  are = rw same cuts.are;
  took = rw same cuts.took;
}

-- the same if nothing may have been met, because the reader was told to end
pub handed_lines_by : (met told : Option Ending) (put mid : List Piece) (before after : Option Stream)
    → IfSome told (λ last. met ≡ Some last)
    → CutsLines met put mid before after → HandsLines told put (mid ++ last_piece told) before after
handed_lines_by None None put mid before after same cuts = record {
  bytes = cuts.bytes;
  lines = cuts.lines;
  puts = ap (λ l. l ++ []) cuts.puts;
  are = cuts.are;
  took = cuts.took;
}
handed_lines_by None (Some said) put mid before after same cuts = absurd cc
handed_lines_by (Some last) None put mid before after same cuts = handed_lines None last put mid before after tt cuts
handed_lines_by (Some last) (Some said) put mid before after same cuts = handed_lines (Some said) last put mid before after (sym (same_Some last said same)) cuts

pub ends_as : (ending ending' : Ending) (bytes : List ℕ) (kept : LineCutterView) (put put' : List Piece) (before after : Option Stream)
    → ending ≡ ending' → EdgeLineSteps (Over ending) bytes kept put put' before after → EdgeLineSteps (Over ending') bytes kept put put' before after
ends_as ending ending' bytes kept put put' before after is rounds = subst (λ (e : Ending). EdgeLineSteps (Over e) bytes kept put put' before after) is rounds

-- the reading was out of memory, and only that was put
pub lines_refused : (result : Option Ending) (put : List Piece) (now : Option Stream)
    → IfSome result (λ said. Some NoMemory ≡ Some said) → HandsLines result put (put ++ last_piece result) now now
lines_refused result put now same =
    handed_lines_by (Some NoMemory) result put put now now same
    (record { bytes = []; lines = []; puts = sym (append-nil put); are = (edge_lines [] ++ last_edge_line [], refl); took = stop_took now now (stays now) })

took_closed : (result : Option Ending) (bytes : List ℕ) (before now after : Option Stream)
    → TookLines result bytes before now → Goes MayLose now after → TookLines result bytes before after
took_closed (Some End) bytes before now after took closed =
    goes_on (TakesAll bytes) MayLose (TakesAll bytes) before now after (all_closed bytes) took closed
took_closed (Some Failed) bytes before now after took closed =
    goes_on (TakesSome bytes) MayLose (TakesSome bytes) before now after (some_closed bytes) took closed
took_closed (Some NoMemory) bytes before now after took closed =
    goes_on (TakesSome bytes) MayLose (TakesSome bytes) before now after (some_closed bytes) took closed
took_closed None bytes before now after took closed =
    goes_on (TakesSome bytes) MayLose (TakesSome bytes) before now after (some_closed bytes) took closed

-- behind the reading the source is closed
pub lines_closed : (result : Option Ending) (put put' : List Piece) (before now after : Option Stream)
    → HandsLines result put put' before now → Goes MayLose now after → HandsLines result put put' before after
lines_closed result put put' before now after hands closed = record {
  bytes = hands.bytes;
  lines = hands.lines;
  puts = hands.puts;
  are = hands.are;
  took = took_closed result hands.bytes before now after hands.took closed;
}
