-- How a cutter stands for all bytes that it was given, and what a step through a piece says of them.
use Rattle.std.specs.Prelude.{ℕ, ◌≡◌, ◌<◌, ◌≤◌, ◌⊎◌, Bool, true, false, List, [], ◌∷◌, ◌++◌, length, take, if◌then◌else◌}
use Rattle.line_cut.specs.declared.limit.Limit.{Limit}
use Rattle.line_cut.specs.declared.next.WholeLine.{WholeLine}
use Rattle.line_cut.specs.declared.next.WholeLine.TheVariants.{InPiece, Joined}
use Rattle.line_cut.specs.declared.next.Next.{Next}
use Rattle.line_cut.specs.declared.next.Next.TheVariants as next
use Rattle.line_cut.specs.declared.next.Last.{Last}
use Rattle.line_cut.specs.declared.next.Last.TheVariants as last
use Rattle.line_cut.specs.Lines.{lines, open_line}
use Rattle.line_cut.specs.Limits.{fitting_lines, is_too_long, most}

-- what is kept: the open line, or that it is too long
pub record LineCutterView : Type 0 where
  pub limit : Limit
  pub skipping : Bool
  pub held : List ℕ

abbrev pub kept_of : Limit → List ℕ → LineCutterView
kept_of limit bytes =
    if is_too_long limit (open_line bytes)
    then record { limit = limit; skipping = true; held = [] }
    else record { limit = limit; skipping = false; held = open_line bytes }

-- what is kept is what these bytes leave
abbrev pub StandsFor : LineCutterView → List ℕ → Type 0
StandsFor kept bytes = kept ≡ kept_of kept.limit bytes

-- the bytes of a line
abbrev pub spelling : WholeLine → List ℕ
spelling (InPiece bytes) = bytes.now
spelling (Joined bytes) = bytes

-- how many bytes of a piece a step uses
abbrev pub used : List ℕ → Next → ℕ
used piece (next.Line line n) = n
used piece (next.TooLong n) = n
used piece next.Used = length piece

-- a step that gives a line, or a part of one, uses bytes of the piece
abbrev pub IsWithin : List ℕ → Next → Type 0
IsWithin piece (next.Line line n) = (0 < n) × (n ≤ length piece)
IsWithin piece (next.TooLong n) = (0 < n) × (n ≤ length piece)
IsWithin piece next.Used = Unit {0}

-- the line that a step returns
abbrev pub gained : Next → List (List ℕ)
gained (next.Line line n) = spelling line ∷ []
gained (next.TooLong n) = []
gained next.Used = []

-- after these bytes, the first n of the piece end this line, and it is not too long
pub record GivesLine (limit : Limit) (bytes piece line : List ℕ) (n : ℕ) : Type 0 where
  pub some : 0 < n
  pub inside : n ≤ length piece
  pub is : line ≡ open_line bytes ++ take n piece
  pub lines : lines (bytes ++ take n piece) ≡ lines bytes ++ line ∷ []
  pub opens : open_line (bytes ++ take n piece) ≡ []
  pub fits : is_too_long limit line ≡ false

-- After these bytes, the first n of the piece belong to a line that is too long: it ends with them, or they are
-- the whole piece and it is still open.
pub record GivesTooLong (limit : Limit) (bytes piece : List ℕ) (n : ℕ) : Type 0 where
  pub some : 0 < n
  pub inside : n ≤ length piece
  pub long : is_too_long limit (open_line bytes ++ take n piece) ≡ true
  pub lines :
      ((lines (bytes ++ take n piece) ≡ lines bytes ++ (open_line bytes ++ take n piece) ∷ []) × (open_line (bytes ++ take n piece) ≡ []))
      ⊎ ((n ≡ length piece) × (lines (bytes ++ take n piece) ≡ lines bytes) × (open_line (bytes ++ take n piece) ≡ open_line bytes ++ take n piece))

-- after these bytes, the piece ends no line, and the open line is not too long
pub record GivesNone (limit : Limit) (bytes piece : List ℕ) : Type 0 where
  pub lines : lines (bytes ++ piece) ≡ lines bytes
  pub opens : open_line (bytes ++ piece) ≡ open_line bytes ++ piece
  pub fits : 0 < length piece → is_too_long limit (open_line (bytes ++ piece)) ≡ false

abbrev pub IsNext : Limit → List ℕ → List ℕ → Next → Type 0
IsNext limit bytes piece (next.Line line n) = GivesLine limit bytes piece (spelling line) n
IsNext limit bytes piece (next.TooLong n) = GivesTooLong limit bytes piece n
IsNext limit bytes piece next.Used = GivesNone limit bytes piece

-- one step of a cutter after these bytes
pub record IsStep (old new : LineCutterView) (bytes piece : List ℕ) (next : Next) : Type 0 where
  pub gives : IsNext old.limit bytes piece next
  pub stands : StandsFor new (bytes ++ take (used piece next) piece)
  pub fitting : fitting_lines old.limit (bytes ++ take (used piece next) piece) ≡ fitting_lines old.limit bytes ++ gained next

-- the same for whatever bytes the cutter stands for
abbrev pub Steps : LineCutterView → LineCutterView → List ℕ → Next → Type 0
Steps old new piece next = (bytes : List ℕ) → StandsFor old bytes → IsStep old new bytes piece next

-- what the end of these bytes ends, if a last line may lack its end
abbrev pub IsLast : Limit → List ℕ → Last → Type 0
IsLast limit bytes last.None = open_line bytes ≡ []
IsLast limit bytes (last.Line line) = (line.now ≡ open_line bytes) × (0 < length line.now) × (length line.now ≤ most limit)
IsLast limit bytes last.TooLong = most limit < length (open_line bytes)
