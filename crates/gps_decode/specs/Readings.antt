-- What a command read in a call: the bytes of each read, with the stamp that the clock gave after it.
use Rattle.std.specs.Prelude.{◌≡◌, ℕ, ◌<◌, ◌≤◌, List, [], ◌∷◌, ◌++◌, length, map}
use Rattle.std.specs.List.{flat_map}
use Rattle.gps_fixed.specs.Limits.{longest_piece}
use Rattle.gps_fixed.specs.Moment.{Moment}
use Rattle.gps_report.specs.declared.edge.Symbol.{Symbol}
use Rattle.device_core.specs.Stream.{piece}

pub record Reading : Type 0 where
  pub at : Moment
  pub bytes : List ℕ

abbrev pub bytes_of : List Reading → List ℕ
bytes_of readings = flat_map (λ reading. reading.bytes) readings

abbrev pub stamps_of : List Reading → List Moment
stamps_of readings = map (λ reading. reading.at) readings

-- the stream of the device that was given all of them
abbrev pub stream_of : List Reading → List Symbol
stream_of readings = flat_map (λ reading. piece reading.at reading.bytes) readings

-- what one read returned
abbrev pub IsPiece : Reading → Type 0
IsPiece reading = (1 ≤ length reading.bytes) × (length reading.bytes ≤ longest_piece)

-- each reading has the bytes of one read, 1 to 512
abbrev pub ArePieces : List Reading → Type 0
ArePieces [] = Unit {0}
ArePieces (reading ∷ readings) = IsPiece reading × ArePieces readings

-- the last reading has what lay within the history of the read that passed it: 0 to 511 bytes
pub record PassHistory (readings : List Reading) : Type 0 where
  pub front : List Reading
  pub last : Reading
  pub all : readings ≡ front ++ last ∷ []
  pub pieces : ArePieces front
  pub part : length last.bytes < longest_piece
