-- What the pieces of a lane give to a device or a session, and how a device ends by them.
use Rattle.std.specs.Prelude.{◌≡◌, ℕ, Bool, true, false, List, [], ◌∷◌, ◌++◌, map, Option, Some, None, is_some, option_to_list}
use Rattle.std.specs.List.{flat_map}
use Rattle.book_log.specs.Readings.{last_of}
use Rattle.gps_lane.specs.Ends.{Taking}
use Rattle.gps_report.specs.declared.edge.Edge.{Edge}
use Rattle.packet_cut.specs.Packets.{Stamped}
use Rattle.pps_edges.specs.Scan.{edge_in}
use Rattle.gps_lane.specs.declared.piece.Ending.{Ending}
use Rattle.gps_lane.specs.declared.piece.Ending.TheVariants.{End, Failed, NoMemory}
use Rattle.gps_lane.specs.declared.piece.Piece.{Piece}
use Rattle.gps_lane.specs.declared.piece.Piece.TheVariants.{Bytes, Line, Input, Last}
use Rattle.session_core.specs.declared.mark.Close.{Close}
use Rattle.session_core.specs.declared.mark.Close.TheVariants.{HungUp, ReadFault as CloseReadFault, NoMemory as CloseNoMemory}
use Rattle.hub_promise.specs.declared.ends.DeviceEnd.{DeviceEnd}
use Rattle.hub_promise.specs.declared.ends.DeviceEnd.TheVariants.{Ended, ReadFault, NoMemory as LostNoMemory}

-- the bytes of a piece, each with the piece's stamp
abbrev pub stamped_in : Piece → List Stamped
stamped_in (Bytes at bytes) = map (λ byte. (at, byte)) bytes
stamped_in (Line line) = []
stamped_in (Input bytes) = []
stamped_in (Last ending) = []

-- the edge of a readable line
abbrev pub edges_by : Piece → List Edge
edges_by (Bytes at bytes) = []
edges_by (Line line) = option_to_list (edge_in line)
edges_by (Input bytes) = []
edges_by (Last ending) = []

-- the edges of the readable ones of these lines
abbrev pub edges_said : List (List ℕ) → List Edge
edges_said lines = flat_map (λ line. option_to_list (edge_in line)) lines

abbrev pub ending_in : Piece → Option Ending
ending_in (Bytes at bytes) = None
ending_in (Line line) = None
ending_in (Input bytes) = None
ending_in (Last ending) = Some ending

abbrev pub stamped_of : List Piece → List Stamped
stamped_of pieces = flat_map stamped_in pieces

abbrev pub edges_of : List Piece → List Edge
edges_of pieces = flat_map edges_by pieces

-- how the source of a lane ended, if the lane has told that
abbrev pub ending_of : List Piece → Option Ending
ending_of pieces = last_of ending_in pieces

-- nothing was put after the piece that tells how the source ended
abbrev pub TellsOnce : List Piece → Type 0
TellsOnce put = (first rest : List Piece) → put ≡ first ++ rest → is_some (ending_of first) ≡ true → rest ≡ []

-- what was received from an edge lane, if there is one
abbrev pub got_of : Option (Taking Piece) → List Piece
got_of None = []
got_of (Some x) = x.got

-- a device without an edge lane counts as one whose edge lane has ended
abbrev pub edge_ending : Option (Taking Piece) → List Piece → Option Ending
edge_ending None pieces = Some End
edge_ending (Some x) pieces = ending_of pieces

-- how a device ends, if its two sources ended so
abbrev pub end_of : Ending → Ending → DeviceEnd
end_of NoMemory other = LostNoMemory
end_of End End = Ended
end_of End Failed = ReadFault
end_of End NoMemory = LostNoMemory
end_of Failed End = ReadFault
end_of Failed Failed = ReadFault
end_of Failed NoMemory = LostNoMemory

-- a device stops if both of its lanes have told how their source ended, and before that if the book refuses a piece of it
abbrev pub end_by : List Piece → Option Ending → Option Ending → Option DeviceEnd
end_by (piece ∷ refused) bytes edges = Some LostNoMemory
end_by [] None edges = None
end_by [] (Some bytes) None = None
end_by [] (Some bytes) (Some edges) = Some (end_of bytes edges)

abbrev pub is_end : Option DeviceEnd → Bool
is_end None = false
is_end (Some Ended) = true
is_end (Some ReadFault) = false
is_end (Some LostNoMemory) = false

abbrev pub is_loss : Option DeviceEnd → Bool
is_loss None = false
is_loss (Some Ended) = false
is_loss (Some ReadFault) = true
is_loss (Some LostNoMemory) = true

-- why a session is hung up, if its source ended so
abbrev pub why_of : Ending → Close
why_of End = HungUp
why_of Failed = CloseReadFault
why_of NoMemory = CloseNoMemory
