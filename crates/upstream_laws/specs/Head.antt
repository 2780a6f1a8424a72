-- The head of what another daemon sends, byte by byte: lines ended by LF, and each begins as an object of gpsd_json(5) does with its
-- class, up to and including the first of class WATCH. At most 1,048,576 bytes. What follows the head is handed on.
use Rattle.std.specs.Prelude.{ℕ, ◌+◌, ◌==◌, Bool, true, false, ◌||◌, List, [], ◌∷◌, ◌++◌, length, take, fold, nat_lt, Option, Some, None, if◌then◌else◌}
use Rattle.std.specs.Str.{bytes_eq}
use Rattle.std.specs.List.{list_any}
use Rattle.json_line.specs.declared.names.Class.{Class}
use Rattle.json_line.specs.declared.names.Class.TheVariants as class
use Rattle.json_line.specs.Names.{head_of}
use Rattle.gps_client.specs.Objects.{begins, class_in}
use Rattle.upstream_laws.specs.declared.stage.Stage.{Stage}
use Rattle.upstream_laws.specs.declared.stage.Stage.TheVariants.{Inside, Behind, Nowhere}

-- the most bytes that a head may have
abbrev pub most : ℕ
most = 1_048_576

-- the ten classes
abbrev pub classes : List Class
classes =
    class.Tpv ∷ class.Sky ∷ class.Toff ∷ class.Pps ∷ class.Device ∷ class.Devices ∷ class.Watch ∷ class.Poll ∷ class.Version ∷ class.Error ∷ []

-- an object of this class may begin with these bytes: they begin with its first bytes, or are a part of those
abbrev pub can_be : List ℕ → Class → Bool
can_be begin c = begins c begin || bytes_eq (take (length begin) (head_of c)) begin

unfoldable pub can_begin : List ℕ → Bool
can_begin begin = list_any (can_be begin) classes

-- How much of the head was read: whether it has ended, the first bytes of the open line (18 show its class), and the number of bytes read.
pub record Stand : Type 0 where
  pub stage : Stage
  pub begin : List ℕ
  pub count : ℕ

abbrev pub fresh : Stand
fresh = record { stage = Inside; begin = []; count = 0 }

-- the beginning of a line, with one more byte
abbrev pub longer : List ℕ → ℕ → List ℕ
longer begin byte = take 18 (begin ++ byte ∷ [])

-- after a line of this class
abbrev pub behind_line : Option Class → Stage
behind_line None = Nowhere
behind_line (Some class.Watch) = Behind
behind_line (Some _) = Inside

-- within a line that begins so
abbrev pub within_line : Bool → Stage
within_line true = Inside
within_line false = Nowhere

-- a head that has not ended within the most bytes is none
abbrev pub bounded : ℕ → Stage → Stage
bounded count Inside = if nat_lt count most then Inside else Nowhere
bounded count Behind = Behind
bounded count Nowhere = Nowhere

-- one more byte of the head; LF ends a line
unfoldable pub more_head : Stand → ℕ → Stand
more_head stand byte =
    if byte == 10
    then record { stage = bounded (stand.count + 1) (behind_line (class_in stand.begin)); begin = []; count = stand.count + 1 }
    else record {
      stage = bounded (stand.count + 1) (within_line (can_begin (longer stand.begin byte)));
      begin = longer stand.begin byte;
      count = stand.count + 1;
    }

abbrev pub step_by : Stage → Stand → ℕ → Stand
step_by Inside stand byte = more_head stand byte
step_by Behind stand byte = stand
step_by Nowhere stand byte = stand

-- one more byte
abbrev pub step : Stand → ℕ → Stand
step stand byte = step_by stand.stage stand byte

-- how much of the head these bytes are
abbrev pub taken : Stand → List ℕ → Stand
taken stand bytes = fold step stand bytes

abbrev pub handed_by : Stage → List ℕ → List ℕ → List ℕ
handed_by Inside whole more = more
handed_by Behind whole more = whole
handed_by Nowhere whole more = []

-- what is handed on of these bytes
abbrev pub behind : Stand → List ℕ → List ℕ
behind stand [] = []
behind stand (byte ∷ bytes) = handed_by stand.stage (byte ∷ bytes) (behind (step stand byte) bytes)
