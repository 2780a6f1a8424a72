-- A lane that is settled once no thread works on it: one more piece is received, if it holds one.
use Rattle.std.specs.Prelude.{◌≡◌, ◌⊎◌, List, [], ◌∷◌, ◌++◌, Option, Some, None, option_map, option_to_list}
use Rattle.gps_fixed.specs.Moment.{Moment}
use Rattle.gps_lane.specs.Ends.{Putting, Taking}
use Rattle.gps_fixed.specs.Lists.{IsPrefix}
use Rattle.gps_outside.specs.Told.{Stream}
use Rattle.hub_promise.specs.Given.{ending_of}
use Rattle.hub_promise.specs.Parts.{InletsView}
use Rattle.gps_lane.specs.Carried.{device_part, input_part}
use Rattle.gps_lane.specs.declared.piece.Ending.{Ending}
use Rattle.gps_lane.specs.declared.piece.Piece.{Piece}
use Rattle.serve_workers.specs.declared.reading.ReaderDone.{ReaderDone}
use Rattle.serve_workers.specs.EdgeLines.{HandsLines}
use Rattle.serve_workers.specs.Readings.{HandsOn, IsDevicePiece, IsInputPiece, last_piece}

-- both are there and P holds of them, or neither is there
abbrev pub ZipOption : {A B : Type 0} → (A → B → Type 0) → Option A → Option B → Type 0
ZipOption P None None = Unit {0}
ZipOption P None (Some b) = ⊥
ZipOption P (Some a) None = ⊥
ZipOption P (Some a) (Some b) = P a b

-- how the source ended is told by the last piece alone
pub record TellsLast (put : List Piece) : Type 0 where
  pub pieces : List Piece
  pub ending : Option Ending
  pub puts : put ≡ pieces ++ last_piece ending
  pub untold : ending_of pieces ≡ None

-- nothing more was received; or one more piece, if the lane had not told how its source ended
abbrev pub OneMoreAtMost : Taking Piece → Taking Piece → Type 0
OneMoreAtMost x y = (y.got ≡ x.got) ⊎ ((piece : Piece) × (y.got ≡ x.got ++ piece ∷ []) × (ending_of x.got ≡ None))

-- the same of each lane of a device
pub record OneMoreOfEach (x y : InletsView) : Type 0 where
  pub bytes : OneMoreAtMost x.bytes y.bytes
  pub edges : ZipOption OneMoreAtMost x.edges y.edges

abbrev pub lanes : Taking Piece → Option (Taking Piece) → InletsView
lanes bytes edges = record { bytes = bytes; edges = edges }

-- At most one more piece was received. What was received is a prefix of what was put, and is all of it if no more piece came. If the last
-- piece alone tells how the source ended, none is received after it.
pub record Settles (tx : Putting Piece) (rx rx' : Taking Piece) : Type 0 where
  pub lane : rx'.lane ≡ rx.lane
  pub one : rx'.lane ≡ tx.lane
  pub more : (piece : Option Piece) × (rx'.got ≡ rx.got ++ option_to_list piece)
  pub begins : IsPrefix rx'.got tx.put
  pub all : rx'.got ≡ rx.got → rx'.got ≡ tx.put
  pub behind : TellsLast tx.put → OneMoreAtMost rx rx'

-- the end that a reader puts into, if there is a reader
abbrev pub tx_of : {S R : Type 0} → Option (ReaderDone S R) → Option (Putting Piece)
tx_of {S} {R} reader = option_map (λ (r : ReaderDone S R). r.pieces) reader

-- both ends of one lane are there, or neither
abbrev pub AreEnds : Option (Putting Piece) → Option (Taking Piece) → Type 0
AreEnds = ZipOption (λ (tx : Putting Piece) (rx : Taking Piece). rx.lane ≡ tx.lane)

-- the lane is settled, if there is one
abbrev pub SettlesSome : Option (Putting Piece) → Option (Taking Piece) → Option (Taking Piece) → Type 0
SettlesSome None rx rx' = rx' ≡ rx
SettlesSome (Some tx) None rx' = ⊥
SettlesSome (Some tx) (Some rx) None = ⊥
SettlesSome (Some tx) (Some rx) (Some rx') = Settles tx rx rx'

-- a device's reader that began with an empty lane tells last how its source ended
abbrev pub DevicesTellLast : Type 0
DevicesTellLast =
    (may : Option (List Moment)) (ending : Option Ending) (put put' : List Piece) (before after : Option Stream)
    → HandsOn device_part (IsDevicePiece may) ending put put' before after → put ≡ [] → TellsLast put'

-- and so does a session's reader
abbrev pub SessionsTellLast : Type 0
SessionsTellLast =
    (ending : Option Ending) (put put' : List Piece) (before after : Option Stream)
    → HandsOn input_part IsInputPiece ending put put' before after → put ≡ [] → TellsLast put'

-- and a reader of edges
abbrev pub EdgesTellLast : Type 0
EdgesTellLast =
    (ending : Option Ending) (put put' : List Piece) (before after : Option Stream) → HandsLines ending put put' before after → put ≡ [] → TellsLast put'
