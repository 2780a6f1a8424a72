-- The lines of an edges file, put as their ends come.
use Rattle.std.proofs.Common.{◌≡◌, ℕ, ◌-◌, List, [], ◌∷◌, ◌++◌, length, take, drop, map, refl, sym, ◌∙◌, ap, subst, append_assoc, append-nil}
use Rattle.std.proofs.lemmas.List.{map-append, take-append-drop, take_rest}
use Rattle.std.proofs.Math.Seq.{take-length}
use Rattle.gps_lane.specs.declared.piece.Piece.{Piece}
use Rattle.gps_lane.specs.declared.piece.Piece.TheVariants as made
use Rattle.line_cut.specs.declared.next.WholeLine.{WholeLine}
use Rattle.line_cut.specs.declared.next.Next.{Next}
use Rattle.line_cut.specs.declared.next.Next.TheVariants as next
use Rattle.line_cut.specs.Lines.{lines, open_line, text_of}
use Rattle.line_cut.specs.Limits.{fitting_lines}
use Rattle.line_cut.specs.Standing.{LineCutterView, StandsFor, Steps, spelling, used, gained}
use Rattle.line_cut.proofs.Splits.{fitting_goes_on}
use Rattle.gps_lane.specs.EdgeLines.{edge_limit, edge_lines}
use Rattle.serve_workers.specs.EdgeLines.{line_pieces, AreFirst, PutsLines}
use Rattle.serve_workers.specs.declared.edges.Put.TheVariants as put

-- The lines of a piece were put as far as `rest`, behind these bytes.
pub record Cuts (bytes piece rest : List ℕ) (kept : LineCutterView) (before now : List Piece) : Type 0 where
  pub done : List ℕ
  pub split : piece ≡ done ++ rest
  pub stands : StandsFor kept (bytes ++ done)
  pub lines : List (List ℕ)
  pub puts : now ≡ before ++ line_pieces lines
  pub are : edge_lines (bytes ++ done) ≡ edge_lines bytes ++ lines

pub begun : (bytes piece : List ℕ) (kept : LineCutterView) (now : List Piece) → StandsFor kept bytes → Cuts bytes piece piece kept now now
begun bytes piece kept now stands = record {
  done = [];
  split = refl;
  stands = rw (append-nil bytes) stands;
  lines = [];
  puts = sym (append-nil now);
  are = ap edge_lines (append-nil bytes) ∙ sym (append-nil (edge_lines bytes));
}

pieces_on : (first second : List (List ℕ)) → line_pieces (first ++ second) ≡ line_pieces first ++ line_pieces second
pieces_on first second = map-append made.Line first second

lines_more : (kept : LineCutterView) (bytes more : List ℕ) (next : Next)
    → kept.limit ≡ edge_limit
    → fitting_lines kept.limit (bytes ++ more) ≡ fitting_lines kept.limit bytes ++ gained next
    → edge_lines (bytes ++ more) ≡ edge_lines bytes ++ map text_of (gained next)
lines_more kept bytes more next limit is =
    ap (map text_of) (subst (λ l. fitting_lines l (bytes ++ more) ≡ fitting_lines l bytes ++ gained next) limit is)
    ∙ map-append text_of (fitting_lines edge_limit bytes) (gained next)

-- one step of the cutter, and its line put
pub step_on : (bytes piece rest later : List ℕ) (kept kept' : LineCutterView) (before now after : List Piece) (next : Next)
    → Cuts bytes piece rest kept before now
    → kept.limit ≡ edge_limit
    → Steps kept kept' rest next
    → rest ≡ take (used rest next) rest ++ later
    → after ≡ now ++ line_pieces (map text_of (gained next))
    → Cuts bytes piece later kept' before after
step_on bytes piece rest later kept kept' before now after next cuts limit steps split puts =
    let step = steps (bytes ++ cuts.done) cuts.stands in
    let more = take (used rest next) rest in
    let joined : (bytes ++ cuts.done) ++ more ≡ bytes ++ (cuts.done ++ more) = append_assoc bytes cuts.done more in record {
      done = cuts.done ++ more;
      split = cuts.split ∙ ap (λ l. cuts.done ++ l) split ∙ sym (append_assoc cuts.done more later);
      stands = subst (λ l. StandsFor kept' l) joined step.stands;
      lines = cuts.lines ++ map text_of (gained next);
      puts =
          puts ∙ ap (λ l. l ++ line_pieces (map text_of (gained next))) cuts.puts
          ∙ append_assoc before (line_pieces cuts.lines) (line_pieces (map text_of (gained next)))
          ∙ ap (λ l. before ++ l) (sym (pieces_on cuts.lines (map text_of (gained next))));
      are =
          ap edge_lines (sym joined) ∙ lines_more kept (bytes ++ cuts.done) more next limit step.fitting
          ∙ ap (λ l. l ++ map text_of (gained next)) cuts.are ∙ append_assoc (edge_lines bytes) cuts.lines (map text_of (gained next));
    }

rest_of : (n : ℕ) (rest : List ℕ) → rest ≡ take n rest ++ take (length rest - n) (drop n rest)
rest_of n rest = rw take_rest (sym (take-append-drop n rest))

-- a line of the piece
pub line_put : (bytes piece rest : List ℕ) (kept kept' : LineCutterView) (before now after : List Piece) (line : WholeLine) (n : ℕ) (text : List ℕ)
    → Cuts bytes piece rest kept before now
    → kept.limit ≡ edge_limit
    → Steps kept kept' rest (next.Line line n)
    → text ≡ text_of (spelling line)
    → after ≡ now ++ made.Line text ∷ []
    → Cuts bytes piece (take (length rest - n) (drop n rest)) kept' before after
line_put bytes piece rest kept kept' before now after line n text cuts limit steps is puts =
    step_on bytes piece rest (take (length rest - n) (drop n rest)) kept kept' before now after (next.Line line n) cuts limit steps (rest_of n rest)
    (puts ∙ ap (λ l. now ++ made.Line l ∷ []) is)

-- a part of a line that is too long
pub passed_over : (bytes piece rest : List ℕ) (kept kept' : LineCutterView) (before now : List Piece) (n : ℕ)
    → Cuts bytes piece rest kept before now
    → kept.limit ≡ edge_limit
    → Steps kept kept' rest (next.TooLong n)
    → Cuts bytes piece (take (length rest - n) (drop n rest)) kept' before now
passed_over bytes piece rest kept kept' before now n cuts limit steps =
    step_on bytes piece rest (take (length rest - n) (drop n rest)) kept kept' before now now (next.TooLong n) cuts limit steps (rest_of n rest) (sym (append-nil now))

whole : (bytes piece : List ℕ) (kept : LineCutterView) (before now : List Piece) → Cuts bytes piece [] kept before now → PutsLines put.Done bytes piece kept before now
whole bytes piece kept before now cuts =
    let all : piece ≡ cuts.done = cuts.split ∙ append-nil cuts.done in record {
      lines = cuts.lines;
      puts = cuts.puts;
      are = ap (λ l. edge_lines (bytes ++ l)) all ∙ cuts.are;
      stands = subst (λ l. StandsFor kept (bytes ++ l)) (sym all) cuts.stands;
    }

-- all of the piece
pub all_put : (bytes piece rest : List ℕ) (kept kept' : LineCutterView) (before now : List Piece)
    → Cuts bytes piece rest kept before now
    → kept.limit ≡ edge_limit
    → Steps kept kept' rest next.Used
    → PutsLines put.Done bytes piece kept' before now
all_put bytes piece rest kept kept' before now cuts limit steps =
    whole bytes piece kept' before now
    (step_on bytes piece rest [] kept kept' before now now next.Used cuts limit steps (sym (append-nil (take (length rest) rest) ∙ take-length rest)) (sym (append-nil now)))

lines_first : (bytes piece rest done : List ℕ) (lines : List (List ℕ))
    → piece ≡ done ++ rest → edge_lines (bytes ++ done) ≡ edge_lines bytes ++ lines
    → AreFirst (edge_lines bytes ++ lines) (edge_lines (bytes ++ piece))
lines_first bytes piece rest done lines split are =
    let later = fitting_lines edge_limit (open_line (bytes ++ done) ++ rest) in (
      map text_of later,
      ap (λ l. edge_lines (bytes ++ l)) split ∙ ap edge_lines (sym (append_assoc bytes done rest))
          ∙ ap (map text_of) (fitting_goes_on edge_limit (bytes ++ done) rest)
          ∙ map-append text_of (fitting_lines edge_limit (bytes ++ done)) later
          ∙ ap (λ l. l ++ map text_of later) are,
    )

-- the first lines of the piece, out of memory
pub first_put : (bytes piece rest : List ℕ) (kept kept' : LineCutterView) (before now : List Piece)
    → Cuts bytes piece rest kept before now → PutsLines put.NoMemory bytes piece kept' before now
first_put bytes piece rest kept kept' before now cuts = record {
  lines = cuts.lines;
  puts = cuts.puts;
  are = lines_first bytes piece rest cuts.done cuts.lines cuts.split cuts.are;
  stands = tt;
}

-- and if the reader was told to end
pub first_put_closed : (bytes piece rest : List ℕ) (kept kept' : LineCutterView) (before now : List Piece)
    → Cuts bytes piece rest kept before now → PutsLines put.Closed bytes piece kept' before now
first_put_closed bytes piece rest kept kept' before now cuts = record {
  lines = cuts.lines;
  puts = cuts.puts;
  are = lines_first bytes piece rest cuts.done cuts.lines cuts.split cuts.are;
  stands = tt;
}

pub steps_as : (kept kept' : LineCutterView) (rest : List ℕ) (next next' : Next) → next ≡ next' → Steps kept kept' rest next → Steps kept kept' rest next'
steps_as kept kept' rest next next' is steps = subst (λ (n : Next). Steps kept kept' rest n) is steps
