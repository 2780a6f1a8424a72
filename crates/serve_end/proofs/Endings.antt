-- After the piece that tells how its source ended, a reader puts nothing, so nothing more is received.
use Rattle.std.proofs.Common.{◌≡◌, ℕ, List, [], ◌∷◌, ◌++◌, length, length-append, append_assoc, append-nil, Option, Some, None, IfNone, inl, inr, refl, sym, ◌∙◌, ap, subst, drop, arith}
use Rattle.std.specs.Prelude.{option_to_list}
use Rattle.std.specs.Option.{option_or}
use Rattle.gps_lane.specs.Ends.{Putting, Taking}
use Rattle.gps_fixed.specs.Lists.{IsPrefix}
use Rattle.hub_promise.specs.Given.{ending_in, ending_of}
use Rattle.gps_lane.specs.declared.piece.Ending.{Ending}
use Rattle.gps_lane.specs.declared.piece.Piece.{Piece}
use Rattle.gps_lane.specs.declared.piece.Piece.TheVariants.{Bytes, Line, Input, Last}
use Rattle.serve_workers.specs.EdgeLines.{line_pieces}
use Rattle.serve_workers.specs.Readings.{Each, IsDevicePiece, IsInputPiece, last_piece}
use Rattle.gps_fixed.specs.Moment.{Moment}
use Rattle.serve_workers.specs.declared.reading.ReaderDone.{ReaderDone}
use Rattle.serve_end.specs.declared.device.DeviceRun.{DeviceRun}
use Rattle.serve_end.specs.Lanes.{AreEnds, DevicesTellLast, EdgesTellLast, OneMoreAtMost, OneMoreOfEach, SessionsTellLast, Settles, SettlesSome, TellsLast, ZipOption, lanes, tx_of}
use Rattle.serve_end.specs.Runs.{EdgeStartsEmpty, EdgesRan, Ran, ReaderStart, ReaderStarts, SourceFacts, StartsEmpty}

untold_both : (later first : Option Ending) → option_or later first ≡ None → (later ≡ None) × (first ≡ None)
untold_both None first e = (refl, e)
untold_both (Some x) first e = absurd (cc)

told_later : (later first : Option Ending) (end : Ending) → option_or later first ≡ Some end → first ≡ None → later ≡ Some end
told_later None first end e none = absurd (cc)
told_later (Some x) first end e none = e

rest_none : (xs ys : List Piece) → xs ++ ys ≡ [] → ys ≡ []
rest_none [] ys e = e
rest_none (x ∷ xs) ys e = absurd (cc)

abbrev first_or : Piece → List Piece → Piece
first_or free [] = free
first_or free (x ∷ xs) = x

nothing_behind : (got rest pieces : List Piece) (ending : Option Ending) (end : Ending)
    → got ++ rest ≡ pieces ++ last_piece ending → ending_of pieces ≡ None → ending_of got ≡ Some end → rest ≡ []
nothing_behind [] rest pieces ending end is untold told = absurd (cc)
nothing_behind (g ∷ got) rest [] None end is untold told = absurd (cc)
nothing_behind (g ∷ got) rest [] (Some last) end is untold told = rest_none got rest (ap (drop 1) is)
nothing_behind (g ∷ got) rest (p ∷ pieces) ending end is untold told =
    let both = untold_both (ending_of pieces) (ending_in p) untold in
    let same : ending_in g ≡ None = ap (λ l. ending_in (first_or g l)) is ∙ both.1 in
    nothing_behind got rest pieces ending end (ap (drop 1) is) both.0 (told_later (ending_of got) (ending_in g) end told same)

untold_before : (put got : List Piece) (piece : Piece) (told : Option Ending) → ending_of got ≡ told → TellsLast put → IsPrefix (got ++ piece ∷ []) put → told ≡ None
untold_before put got piece None is last begins = refl
untold_before put got piece (Some end) is last begins =
    let parts : got ++ (piece ∷ begins.0) ≡ last.pieces ++ last_piece last.ending = sym (append_assoc got (piece ∷ []) begins.0) ∙ sym begins.1 ∙ last.puts in
    let none : piece ∷ begins.0 ≡ [] = nothing_behind got (piece ∷ begins.0) last.pieces last.ending end parts last.untold is in
    absurd (cc)

longer : (xs : List Piece) (x : Piece) → xs ++ x ∷ [] ≡ xs → ⊥
longer xs x e =
    let long = ap length e in
    let parts = length-append xs (x ∷ []) in
    omega arith

all_got : (tx : Putting Piece) (rx rx' : Taking Piece) (piece : Option Piece) → rx'.got ≡ rx.got ++ option_to_list piece → IfNone piece (rx'.got ≡ tx.put)
    → rx'.got ≡ rx.got → rx'.got ≡ tx.put
all_got tx rx rx' None is all same = all
all_got tx rx rx' (Some piece) is all same = absurd (longer rx.got piece (sym is ∙ same))

one_at_most : (put : List Piece) (rx rx' : Taking Piece) (piece : Option Piece) → rx'.got ≡ rx.got ++ option_to_list piece → IsPrefix rx'.got put → TellsLast put
    → OneMoreAtMost rx rx'
one_at_most put rx rx' None is begins last = inl (is ∙ append-nil rx.got)
one_at_most put rx rx' (Some piece) is begins last =
    let first : IsPrefix (rx.got ++ piece ∷ []) put = (begins.0, begins.1 ∙ ap (λ l. l ++ begins.0) is) in
    inr (piece, is, untold_before put rx.got piece (ending_of rx.got) refl last first)

-- a lane whose two ends are at hand
pub settled : (tx tx' : Putting Piece) (rx rx' : Taking Piece) (piece : Option Piece)
    → tx' ≡ tx → rx' ≡ record rx { got = rx.got ++ option_to_list piece } → rx.lane ≡ tx.lane → IsPrefix rx'.got tx'.put → IfNone piece (rx'.got ≡ tx'.put)
    → Settles tx rx rx'
settled tx tx' rx rx' piece same is one begins all =
    let got : rx'.got ≡ rx.got ++ option_to_list piece = ap (λ (x : Taking Piece). x.got) is in
    let lane : rx'.lane ≡ rx.lane = ap (λ (x : Taking Piece). x.lane) is in
    let begins_put : IsPrefix rx'.got tx.put = subst (λ (x : Putting Piece). IsPrefix rx'.got x.put) same begins in
    record {
      lane = lane;
      one = lane ∙ one;
      more = (piece, got);
      begins = begins_put;
      all = all_got tx rx rx' piece got (subst (λ (x : Putting Piece). IfNone piece (rx'.got ≡ x.put)) same all);
      behind = one_at_most tx.put rx rx' piece got begins_put;
    }

untold_first : (P : Piece → Type 0) (piece : Piece) (later : Option Ending) → ((ending : Ending) → P (Last ending) → ⊥) → P piece → later ≡ None
    → option_or later (ending_in piece) ≡ None
untold_first P (Bytes at bytes) later never p e = ap (λ o. option_or o None) e
untold_first P (Line line) later never p e = ap (λ o. option_or o None) e
untold_first P (Input bytes) later never p e = ap (λ o. option_or o None) e
untold_first P (Last ending) later never p e = absurd (never ending p)

each_untold : (P : Piece → Type 0) (pieces : List Piece) → ((ending : Ending) → P (Last ending) → ⊥) → Each P pieces → ending_of pieces ≡ None
each_untold P [] never each = refl
each_untold P (piece ∷ pieces) never each = untold_first P piece (ending_of pieces) never each.0 (each_untold P pieces never each.1)

lines_untold : (lines : List (List ℕ)) → ending_of (line_pieces lines) ≡ None
lines_untold [] = refl
lines_untold (line ∷ lines) = ap (λ o. option_or o None) (lines_untold lines)

tells_last : (pieces put put' : List Piece) (ending : Option Ending) → put' ≡ (put ++ pieces) ++ last_piece ending → put ≡ [] → ending_of pieces ≡ None → TellsLast put'
tells_last pieces put put' ending puts none untold = record {
  pieces = pieces;
  ending = ending;
  puts = puts ∙ ap (λ l. (l ++ pieces) ++ last_piece ending) none;
  untold = untold;
}

pub devices_tell_last : DevicesTellLast
devices_tell_last may ending put put' before after hands none =
    tells_last hands.pieces put put' ending hands.puts none (each_untold (IsDevicePiece may) hands.pieces (λ end p. p) hands.good)

pub sessions_tell_last : SessionsTellLast
sessions_tell_last ending put put' before after hands none =
    tells_last hands.pieces put put' ending hands.puts none (each_untold IsInputPiece hands.pieces (λ end p. p) hands.good)

pub edges_tell_last : EdgesTellLast
edges_tell_last ending put put' before after hands none =
    tells_last (line_pieces hands.lines) put put' ending hands.puts none (lines_untold hands.lines)

edges_one_more : {S R : Type 0} (facts : SourceFacts S) (start : Option (ReaderStart S)) (run : Option (ReaderDone S R)) (rx rx' : Option (Taking Piece))
    → AreEnds (tx_of run) rx → SettlesSome (tx_of run) rx rx' → EdgesRan facts start run → EdgeStartsEmpty start → ZipOption OneMoreAtMost rx rx'
edges_one_more facts None None None None ends settles ran none = tt
edges_one_more facts None None None (Some rx') ends settles ran none = absurd (cc)
edges_one_more facts None None (Some rx) rx' ends settles ran none = absurd ends
edges_one_more facts None (Some run) rx rx' ends settles ran none = absurd ran
edges_one_more facts (Some start) None rx rx' ends settles ran none = absurd ran
edges_one_more facts (Some start) (Some run) None rx' ends settles ran none = absurd ends
edges_one_more facts (Some start) (Some run) (Some rx) None ends settles ran none = absurd settles
edges_one_more facts (Some start) (Some run) (Some rx) (Some rx') ends settles ran none =
    settles.behind
    (edges_tell_last run.ending start.pieces.put run.pieces.put (facts.content start.source) (facts.content run.source) ran.hands none)

-- the lanes of a device whose readers began with empty lanes
pub each_one_more : {S R : Type 0} (facts : SourceFacts S) (run : DeviceRun S R) (bytes bytes' : Taking Piece) (edges edges' : Option (Taking Piece))
    → AreEnds (tx_of run.edges) edges → Settles run.bytes.pieces bytes bytes' → SettlesSome (tx_of run.edges) edges edges'
    → (may : Option (List Moment)) (start : ReaderStarts S) → Ran may facts start run → StartsEmpty start → OneMoreOfEach (lanes bytes edges) (lanes bytes' edges')
each_one_more facts run bytes bytes' edges edges' ends settles settles_edges may start ran none = record {
  bytes = settles.behind
      (devices_tell_last may run.bytes.ending start.bytes.pieces.put run.bytes.pieces.put (facts.content start.bytes.source) (facts.content run.bytes.source) ran.bytes.hands none.bytes);
  edges = edges_one_more facts start.edges run.edges edges edges' ends settles_edges ran.edges none.edges;
}
