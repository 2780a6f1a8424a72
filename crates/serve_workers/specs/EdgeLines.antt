-- The lines of an edges file, put into a lane one after another.
use Rattle.std.specs.Prelude.{◌≡◌, ℕ, List, [], ◌∷◌, ◌++◌, map, Option, Some, None}
use Rattle.gps_outside.specs.Told.{Stream, Goes, Passes}
use Rattle.gps_outside.specs.ReadSteps.{TakesAll, TakesSome}
use Rattle.gps_lane.specs.EdgeLines.{edge_lines, last_edge_line}
use Rattle.gps_lane.specs.declared.piece.Ending.{Ending}
use Rattle.gps_lane.specs.declared.piece.Ending.TheVariants.{End, Failed, NoMemory}
use Rattle.gps_lane.specs.declared.piece.Piece.{Piece}
use Rattle.gps_lane.specs.declared.piece.Piece.TheVariants.{Line}
use Rattle.line_cut.specs.Standing.{LineCutterView, StandsFor}
use Rattle.serve_workers.specs.declared.readers.ReaderStep.{ReaderStep}
use Rattle.serve_workers.specs.declared.readers.ReaderStep.TheVariants.{On, Over, Closed}
use Rattle.serve_workers.specs.declared.edges.Put.{Put}
use Rattle.serve_workers.specs.declared.edges.Put.TheVariants as put
use Rattle.serve_workers.specs.Readings.{last_piece}

abbrev pub line_pieces : List (List ℕ) → List Piece
line_pieces lines = map Line lines

-- these are the first of those
abbrev pub AreFirst : List (List ℕ) → List (List ℕ) → Type 0
AreFirst first all = (rest : List (List ℕ)) × (all ≡ first ++ rest)

-- Which lines of the bytes were put. At the source's end the last line may lack its end; if the reader was out of memory or was told
-- to end, they are the first ones.
abbrev pub AreLinesOf : Option Ending → List (List ℕ) → List ℕ → Type 0
AreLinesOf (Some End) lines bytes = lines ≡ edge_lines bytes ++ last_edge_line bytes
AreLinesOf (Some Failed) lines bytes = lines ≡ edge_lines bytes
AreLinesOf (Some NoMemory) lines bytes = AreFirst lines (edge_lines bytes ++ last_edge_line bytes)
AreLinesOf None lines bytes = AreFirst lines (edge_lines bytes ++ last_edge_line bytes)

-- the bytes that were taken
abbrev pub TookLines : Option Ending → List ℕ → Option Stream → Option Stream → Type 0
TookLines (Some End) bytes before after = Goes (TakesAll bytes) before after
TookLines (Some Failed) bytes before after = Goes (TakesSome bytes) before after
TookLines (Some NoMemory) bytes before after = Goes (TakesSome bytes) before after
TookLines None bytes before after = Goes (TakesSome bytes) before after

-- The lines of the bytes that were taken were put, in order, and after them the last piece, unless the reader was told to end.
pub record HandsLines (ending : Option Ending) (put put' : List Piece) (before after : Option Stream) : Type 0 where
  pub bytes : List ℕ
  pub lines : List (List ℕ)
  pub puts : put' ≡ (put ++ line_pieces lines) ++ last_piece ending
  pub are : AreLinesOf ending lines bytes
  pub took : TookLines ending bytes before after

-- a line that was put, or dropped
abbrev pub PutsLine : Put → List ℕ → List Piece → List Piece → Type 0
PutsLine put.Done line before after = after ≡ before ++ Line line ∷ []
PutsLine put.NoMemory line before after = after ≡ before
PutsLine put.Closed line before after = after ≡ before

-- all of these lines, or the first of them
abbrev pub Lines : Put → List (List ℕ) → List (List ℕ) → Type 0
Lines put.Done got all = all ≡ got
Lines put.NoMemory got all = AreFirst got all
Lines put.Closed got all = AreFirst got all

-- what is kept stands for the bytes, if the reading goes on
abbrev pub StandsOn : Put → LineCutterView → List ℕ → Type 0
StandsOn put.Done kept bytes = StandsFor kept bytes
StandsOn put.NoMemory kept bytes = Unit {0}
StandsOn put.Closed kept bytes = Unit {0}

-- after these bytes, the lines that a piece completes were put
pub record PutsLines (result : Put) (bytes piece : List ℕ) (kept : LineCutterView) (before after : List Piece) : Type 0 where
  pub lines : List (List ℕ)
  pub puts : after ≡ before ++ line_pieces lines
  pub are : Lines result (edge_lines bytes ++ lines) (edge_lines (bytes ++ piece))
  pub stands : StandsOn result kept (bytes ++ piece)

-- the line that lacks its end was put, if it is not too long
abbrev pub PutsLast : Put → List ℕ → List Piece → List Piece → Type 0
PutsLast put.Done bytes before after = after ≡ before ++ line_pieces (last_edge_line bytes)
PutsLast put.NoMemory bytes before after = after ≡ before
PutsLast put.Closed bytes before after = after ≡ before

-- what a step of the reader took
abbrev pub TookRound : ReaderStep → List ℕ → Option Stream → Option Stream → Type 0
TookRound On more before after = Goes (Passes more) before after
TookRound (Over ending) more before after = TookLines (Some ending) more before after
TookRound Closed more before after = TookLines None more before after

-- which lines a step put, of those that its bytes complete
abbrev pub LinesIn : ReaderStep → List (List ℕ) → List (List ℕ) → Type 0
LinesIn On got all = all ≡ got
LinesIn (Over End) got all = all ≡ got
LinesIn (Over Failed) got all = all ≡ got
LinesIn (Over NoMemory) got all = AreFirst got all
LinesIn Closed got all = AreFirst got all

-- what is kept stands for the bytes, until they are lost
abbrev pub StandsIn : ReaderStep → LineCutterView → List ℕ → Type 0
StandsIn On kept bytes = StandsFor kept bytes
StandsIn (Over End) kept bytes = StandsFor kept bytes
StandsIn (Over Failed) kept bytes = Unit {0}
StandsIn (Over NoMemory) kept bytes = Unit {0}
StandsIn Closed kept bytes = Unit {0}

-- steps of the reader after these bytes
pub record EdgeLineSteps (round : ReaderStep) (bytes : List ℕ) (kept : LineCutterView) (put put' : List Piece) (before after : Option Stream) : Type 0 where
  pub more : List ℕ
  pub lines : List (List ℕ)
  pub puts : put' ≡ put ++ line_pieces lines
  pub are : LinesIn round (edge_lines bytes ++ lines) (edge_lines (bytes ++ more))
  pub stands : StandsIn round kept (bytes ++ more)
  pub took : TookRound round more before after

-- the lines that were put, before the last piece
pub record CutsLines (ending : Option Ending) (put put' : List Piece) (before after : Option Stream) : Type 0 where
  pub bytes : List ℕ
  pub lines : List (List ℕ)
  pub puts : put' ≡ put ++ line_pieces lines
  pub are : AreLinesOf ending lines bytes
  pub took : TookLines ending bytes before after
