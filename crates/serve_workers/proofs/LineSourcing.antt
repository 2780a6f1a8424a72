-- The lines that a reader puts are those of what its source holds, in order.
use Rattle.std.proofs.Common.{◌≡◌, ◌<◌, ◌≤◌, ℕ, Bool, true, false, List, [], ◌∷◌, ◌++◌, length, take, drop, map, ◌-◌, Option, Some, None, IfSome, refl, sym, ap, ◌∙◌, subst, append_assoc, append-nil, arith, if◌then◌else◌}
use Rattle.std.specs.Prelude.{nat_le, nat_lt}
use Rattle.std.proofs.lemmas.Bool.Decides.{nat_tests}
use Rattle.std.proofs.lemmas.List.{map-append}
use Rattle.std.proofs.lemmas.List.Concat.{flat_map-append}
use Rattle.session_core.specs.declared.subject.Subject.{Subject}
use Rattle.gps_lane.specs.Ends.{Putting}
use Rattle.gps_lane.specs.Lane.{Begins}
use Rattle.gps_fixed.specs.Lists.{IsPrefix}
use Rattle.gps_outside.specs.Told.{Stream, Goes, Stays, Passes, IsAtEnd}
use Rattle.line_cut.specs.declared.limit.Limit.{Limit}
use Rattle.line_cut.specs.declared.next.WholeLine.{WholeLine}
use Rattle.line_cut.specs.declared.next.Next.TheVariants as next
use Rattle.line_cut.specs.declared.next.Last.TheVariants as last
use Rattle.line_cut.specs.Lines.{open_line, last_lines, text_of}
use Rattle.line_cut.specs.Limits.{fitting_lines, is_too_long, most}
use Rattle.line_cut.specs.Standing.{IsLast, LineCutterView, StandsFor, Steps, spelling}
use Rattle.line_cut.proofs.Splits.{fitting_goes_on}
use Rattle.gps_lane.specs.declared.piece.Ending.{Ending}
use Rattle.gps_lane.specs.declared.piece.Piece.{Piece}
use Rattle.gps_lane.specs.declared.piece.Piece.TheVariants as made
use Rattle.gps_lane.specs.Carried.{device_part, input_part, line_part, device_bytes, input_bytes, lines_of}
use Rattle.gps_lane.specs.EdgeLines.{all_edge_lines, edge_limit, edge_lines, last_edge_line}
use Rattle.gps_lane.specs.Held.{AreDue, AreHeld, CarryHeld}
use Rattle.gps_lane.proofs.Held.{held_begins}
use Rattle.serve_workers.specs.declared.readers.ReaderStep.TheVariants.{Over}
use Rattle.serve_workers.specs.declared.edges.Put.TheVariants as was
use Rattle.serve_workers.specs.EdgeLines.{line_pieces, PutsLines}
use Rattle.serve_workers.specs.Sourced.{CutterAtEnd, CutterBefore, CutterFrom, CutterFromOn, LinesBefore, LinesFrom, LinesOf}
use Rattle.serve_workers.proofs.Cutting.{Cuts, line_put}

no_device_in : (lines : List (List ℕ)) → device_bytes (line_pieces lines) ≡ []
no_device_in [] = refl
no_device_in (line ∷ lines) = no_device_in lines

no_input_in : (lines : List (List ℕ)) → input_bytes (line_pieces lines) ≡ []
no_input_in [] = refl
no_input_in (line ∷ lines) = no_input_in lines

lines_in : (lines : List (List ℕ)) → lines_of (line_pieces lines) ≡ lines
lines_in [] = refl
lines_in (line ∷ lines) = ap (λ l. line ∷ l) (lines_in lines)

begins_none : (held none : List ℕ) → none ≡ [] → IsPrefix none held
begins_none held none is = (held, ap (λ l. l ++ held) (sym is))

-- more bytes end no other line than those that came before
lines_go_on : (bytes left : List ℕ) → IsPrefix (edge_lines bytes) (all_edge_lines (bytes ++ left))
lines_go_on bytes left =
    let later : List (List ℕ) = map text_of (fitting_lines edge_limit (open_line bytes ++ left)) in
    let on : edge_lines (bytes ++ left) ≡ edge_lines bytes ++ later =
    ap (map text_of) (fitting_goes_on edge_limit bytes left) ∙ map-append text_of (fitting_lines edge_limit bytes) (fitting_lines edge_limit (open_line bytes ++ left)) in (
      later ++ last_edge_line (bytes ++ left),
      ap (λ l. l ++ last_edge_line (bytes ++ left)) on ∙ append_assoc (edge_lines bytes) later (last_edge_line (bytes ++ left)),
    )

module _ (held : List ℕ) (put : List Piece) (bytes : List ℕ) where
  lines_carry : (left : List ℕ) → LinesOf held put bytes left → CarryHeld held put
  lines_carry left of =
      let go = lines_go_on bytes left in record {
        device = begins_none held (device_bytes put) of.device;
        input = begins_none held (input_bytes put) of.input;
        lines = (go.0, ap all_edge_lines of.all ∙ go.1 ∙ ap (λ l. l ++ go.0) (sym of.lines));
      }

  -- the lines that more bytes end
  lines_more : (put' : List Piece) (more left : List ℕ) (lines : List (List ℕ)) → LinesOf held put bytes (more ++ left) → put' ≡ put ++ line_pieces lines
      → edge_lines (bytes ++ more) ≡ edge_lines bytes ++ lines → LinesOf held put' (bytes ++ more) left
  lines_more put' more left lines of puts are = record {
    device = ap device_bytes puts ∙ flat_map-append device_part put (line_pieces lines) ∙ (λ i. of.device i ++ no_device_in lines i);
    input = ap input_bytes puts ∙ flat_map-append input_part put (line_pieces lines) ∙ (λ i. of.input i ++ no_input_in lines i);
    lines = ap lines_of puts ∙ flat_map-append line_part put (line_pieces lines) ∙ (λ i. of.lines i ++ lines_in lines i) ∙ sym are;
    all = of.all ∙ sym (append_assoc bytes more left);
  }

  -- the last line
  last_carries : LinesOf held put bytes [] → CarryHeld held (put ++ line_pieces (last_edge_line bytes))
  last_carries of =
      let lines : List (List ℕ) = last_edge_line bytes in
      let whole : held ≡ bytes = of.all ∙ append-nil bytes in
      let now : List Piece = put ++ line_pieces lines in record {
        device = begins_none held (device_bytes now) (flat_map-append device_part put (line_pieces lines) ∙ (λ i. of.device i ++ no_device_in lines i));
        input = begins_none held (input_bytes now) (flat_map-append input_part put (line_pieces lines) ∙ (λ i. of.input i ++ no_input_in lines i));
        lines = (
          [],
          ap all_edge_lines whole ∙ sym (flat_map-append line_part put (line_pieces lines) ∙ (λ i. of.lines i ++ lines_in lines i)) ∙ sym (append-nil (lines_of now)),
        );
      }

-- the lines that were cut may be put
cut_held : (source : Option (List ℕ)) (bytes piece rest : List ℕ) (kept : LineCutterView) (before after : List Piece) → LinesBefore source before bytes piece
    → Cuts bytes piece rest kept before after → AreHeld source after
cut_held None bytes piece rest kept before after from cuts = tt
cut_held (Some held) bytes piece rest kept before after from cuts =
    let of : LinesOf held before bytes (cuts.done ++ (rest ++ from.0)) =
    subst (λ (l : List ℕ). LinesOf held before bytes l) (ap (λ l. l ++ from.0) cuts.split ∙ append_assoc cuts.done rest from.0) from.1 in
    lines_carry held after (bytes ++ cuts.done) (rest ++ from.0) (lines_more held before bytes after cuts.done (rest ++ from.0) cuts.lines of cuts.puts cuts.are)

pub cut_begins : (about : Subject) (bytes piece rest : List ℕ) (kept : LineCutterView) (before after : List Piece) → LinesBefore about.source before bytes piece
    → Cuts bytes piece rest kept before after → Begins AreDue about after
cut_begins about bytes piece rest kept before after from cuts = held_begins about after (cut_held about.source bytes piece rest kept before after from cuts)

-- of the same end
begins_at : (tx tx' : Putting Piece) (put : List Piece) → tx' ≡ record tx { put = tx'.put } → Begins AreDue tx.about put → Begins AreDue tx'.about put
begins_at tx tx' put lane begins = subst (λ (about : Subject). Begins AreDue about put) (sym (ap (λ (t : Putting Piece). t.about) lane)) begins

-- the next line of the piece may be put
pub line_begins : (tx tx' : Putting Piece) (bytes piece rest : List ℕ) (kept kept' : LineCutterView) (line : WholeLine) (n : ℕ) (text : List ℕ)
    → tx' ≡ record tx { put = tx'.put } → LinesBefore tx.about.source tx.put bytes piece → Cuts bytes piece rest kept tx.put tx'.put → kept.limit ≡ edge_limit
    → Steps kept kept' rest (next.Line line n) → text ≡ text_of (spelling line) → Begins AreDue tx'.about (tx'.put ++ made.Line text ∷ [])
line_begins tx tx' bytes piece rest kept kept' line n text lane from cuts limit steps is =
    let put : List Piece = tx'.put ++ made.Line text ∷ [] in
    begins_at tx tx' put lane
    (cut_begins tx.about bytes piece (take (length rest - n) (drop n rest)) kept' tx.put put from
    (line_put bytes piece rest kept kept' tx.put tx'.put put line n text cuts limit steps is refl))

-- and it is short
pub line_short : (bytes piece rest : List ℕ) (kept kept' : LineCutterView) (before now : List Piece) (line : WholeLine) (n : ℕ) (text : List ℕ)
    → Cuts bytes piece rest kept before now → kept.limit ≡ edge_limit → Steps kept kept' rest (next.Line line n) → text ≡ text_of (spelling line) → length text ≤ 64
line_short bytes piece rest kept kept' before now line n text cuts limit steps is =
    let gives = (steps (bytes ++ cuts.done) cuts.stands).gives in
    let fits : nat_lt 64 (length (text_of (spelling line))) ≡ false = subst (λ (l : Limit). is_too_long l (spelling line) ≡ false) limit gives.fits in
    let small : length (text_of (spelling line)) ≤ 64 = grind (arith, nat_tests, fits) in
    subst (λ (l : List ℕ). length l ≤ 64) (sym is) small

lines_before : (about : Option (List ℕ)) (put : List Piece) (bytes piece : List ℕ) (before after : Option Stream) → LinesFrom about put bytes before
    → Goes (Passes piece) before after → LinesBefore about put bytes piece
lines_before None put bytes piece before after from passes = tt
lines_before (Some held) put bytes piece None after from passes = absurd from
lines_before (Some held) put bytes piece (Some x) None from passes = absurd passes
lines_before (Some held) put bytes piece (Some x) (Some y) from passes = (y.left, subst (LinesOf held put bytes) passes.next from)

-- a read gave a piece
pub cutter_before : (about : Option (List ℕ)) (put : List Piece) (kept : LineCutterView) (piece : List ℕ) (before after : Option Stream)
    → CutterFrom about put kept before → Goes (Passes piece) before after → CutterBefore about put kept piece
cutter_before about put kept piece before after from passes = (from.0, from.1, lines_before about put from.0 piece before after from.2 passes)

lines_from : (about : Option (List ℕ)) (put put' : List Piece) (bytes piece : List ℕ) (kept : LineCutterView) (before after : Option Stream) → LinesFrom about put bytes before
    → Goes (Passes piece) before after → PutsLines was.Done bytes piece kept put put' → LinesFrom about put' (bytes ++ piece) after
lines_from None put put' bytes piece kept before after from passes puts = tt
lines_from (Some held) put put' bytes piece kept None after from passes puts = absurd from
lines_from (Some held) put put' bytes piece kept (Some x) None from passes puts = absurd passes
lines_from (Some held) put put' bytes piece kept (Some x) (Some y) from passes puts =
    lines_more held put bytes put' piece y.left puts.lines (subst (LinesOf held put bytes) passes.next from) puts.puts puts.are

-- and its lines were put
pub cutter_on : (tx tx' : Putting Piece) (kept kept' : LineCutterView) (piece : List ℕ) (before after : Option Stream) → tx' ≡ record tx { put = tx'.put }
    → CutterFrom tx.about.source tx.put kept before → Goes (Passes piece) before after
    → ((bytes : List ℕ) → StandsFor kept bytes → PutsLines was.Done bytes piece kept' tx.put tx'.put) → CutterFrom tx'.about.source tx'.put kept' after
cutter_on tx tx' kept kept' piece before after lane from passes puts =
    let done = puts from.0 from.1 in
    subst (λ (about : Subject). CutterFrom about.source tx'.put kept' after) (sym (ap (λ (t : Putting Piece). t.about) lane))
    (from.0 ++ piece, done.stands, lines_from tx.about.source tx.put tx'.put from.0 piece kept' before after from.2 passes done)

lines_stay : (about : Option (List ℕ)) (put : List Piece) (bytes : List ℕ) (before after : Option Stream) → LinesFrom about put bytes before → Goes Stays before after
    → LinesFrom about put bytes after
lines_stay None put bytes before after from stays = tt
lines_stay (Some held) put bytes None after from stays = absurd from
lines_stay (Some held) put bytes (Some x) None from stays = absurd stays
lines_stay (Some held) put bytes (Some x) (Some y) from stays = subst (λ (s : Stream). LinesOf held put bytes s.left) stays from

-- a read gave nothing
pub cutter_stays : (about : Option (List ℕ)) (put : List Piece) (kept : LineCutterView) (before after : Option Stream) → CutterFrom about put kept before
    → Goes Stays before after → CutterFrom about put kept after
cutter_stays about put kept before after from stays = (from.0, from.1, lines_stay about put from.0 before after from.2 stays)

lines_at_end : (about : Option (List ℕ)) (put : List Piece) (bytes : List ℕ) (before after : Option Stream) → LinesFrom about put bytes before → Goes IsAtEnd before after
    → IfSome about (λ (held : List ℕ). LinesOf held put bytes [])
lines_at_end None put bytes before after from ends = tt
lines_at_end (Some held) put bytes None after from ends = absurd from
lines_at_end (Some held) put bytes (Some x) None from ends = absurd ends
lines_at_end (Some held) put bytes (Some x) (Some y) from ends = subst (LinesOf held put bytes) ends.none from

-- nothing was left
pub cutter_ends : (about : Option (List ℕ)) (put : List Piece) (kept : LineCutterView) (before after : Option Stream) → CutterFrom about put kept before
    → Goes IsAtEnd before after → CutterAtEnd about put kept
cutter_ends about put kept before after from ends = (from.0, from.1, lines_at_end about put from.0 before after from.2 ends)

pub from_as : (ending ending' : Ending) (about : Option (List ℕ)) (put : List Piece) (kept : LineCutterView) (now : Option Stream) → ending ≡ ending'
    → CutterFromOn (Over ending) about put kept now → CutterFromOn (Over ending') about put kept now
from_as ending ending' about put kept now is from = subst (λ (e : Ending). CutterFromOn (Over e) about put kept now) is from

short_line : (fits : Bool) (line : List ℕ) → fits ≡ true → 0 < length line → (if fits then last_lines line else []) ≡ line ∷ []
short_line true [] e some = absurd (omega (arith, some))
short_line true (c ∷ line) e some = refl
short_line false line e some = absurd cc

last_is : (limit : Limit) (bytes line : List ℕ) → limit ≡ edge_limit → line ≡ open_line bytes → 0 < length line → length line ≤ most limit → last_edge_line bytes ≡ line ∷ []
last_is limit bytes line is same some few =
    let le : length (open_line bytes) ≤ 64 = subst (λ (l : List ℕ). length l ≤ 64) same (subst (λ (m : Limit). length line ≤ most m) is few) in
    let fits : nat_le (length (open_line bytes)) 64 ≡ true = grind (arith, nat_tests, le) in
    short_line (nat_le (length (open_line bytes)) 64) (open_line bytes) fits (subst (λ (l : List ℕ). 0 < length l) same some) ∙ ap (λ l. l ∷ []) (sym same)

last_held : (source : Option (List ℕ)) (put : List Piece) (bytes : List ℕ) → IfSome source (λ (held : List ℕ). LinesOf held put bytes [])
    → AreHeld source (put ++ line_pieces (last_edge_line bytes))
last_held None put bytes all = tt
last_held (Some held) put bytes all = last_carries held put bytes all

last_begins : (about : Subject) (put : List Piece) (bytes : List ℕ) → IfSome about.source (λ (held : List ℕ). LinesOf held put bytes [])
    → Begins AreDue about (put ++ line_pieces (last_edge_line bytes))
last_begins about put bytes all = held_begins about (put ++ line_pieces (last_edge_line bytes)) (last_held about.source put bytes all)

-- the last line that the cutter gives may be put
pub last_due : (about : Subject) (put : List Piece) (kept : LineCutterView) (line : _) → kept.limit ≡ edge_limit → CutterAtEnd about.source put kept
    → ((bytes : List ℕ) → StandsFor kept bytes → IsLast kept.limit bytes (last.Line line)) → Begins AreDue about (put ++ made.Line line.now ∷ [])
last_due about put kept line limit at is =
    let mine = is at.0 at.1 in
    subst (λ (l : List (List ℕ)). Begins AreDue about (put ++ line_pieces l)) (last_is kept.limit at.0 line.now limit mine.0 mine.1 mine.2) (last_begins about put at.0 at.2)

-- and it is short
pub last_short : (about : Option (List ℕ)) (put : List Piece) (kept : LineCutterView) (line : _) → kept.limit ≡ edge_limit → CutterAtEnd about put kept
    → ((bytes : List ℕ) → StandsFor kept bytes → IsLast kept.limit bytes (last.Line line)) → length line.now ≤ 64
last_short about put kept line limit at is =
    let mine = is at.0 at.1 in
    subst (λ (m : Limit). length line.now ≤ most m) limit mine.2
