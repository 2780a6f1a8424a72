-- What a hub must know before it gives the next piece of a lane to its book: the items that the book then puts are due to their clients.
use Rattle.std.specs.Prelude.{◌≡◌, ℕ, List, ◌++◌, ◌∷◌, [], Some}
use Rattle.book_log.specs.Entries.{edged, ended, fed}
use Rattle.gps_fixed.specs.declared.stamp.Stamp.{Stamp}
use Rattle.gps_lane.specs.Ends.{Taking}
use Rattle.gps_lane.specs.Lane.{MayKeep}
use Rattle.gps_report.specs.declared.edge.Edge.{Edge}
use Rattle.pps_edges.specs.Scan.{edge_in}
use Rattle.report_book.specs.Allowing.{MayAdd, MayInput}
use Rattle.report_book.specs.BookView.{BookView}
use Rattle.gps_lane.specs.Held.{AreDue}
use Rattle.gps_lane.specs.declared.piece.Piece.{Piece}
use Rattle.gps_lane.specs.declared.piece.Piece.TheVariants.{Bytes, Line, Input}
use Rattle.hub_promise.specs.Keeping.{LaneIsRead}
use Rattle.hub_promise.specs.Parts.{InletsView}
use Rattle.hub_promise.specs.Steps.{with_bytes, with_edge, with_got}
use Rattle.atomic_table.specs.Seated.{TableId}
use Rattle.book_replies.specs.Replies.{opening_reply}
use Rattle.session_core.specs.declared.subject.Subject.{Subject}
use Rattle.session_core.specs.Naming.{of_table}

-- a piece of the lane of device d
pub record MayGiveBytes (d : ℕ) (piece : Piece) (b : BookView) : Type 0 where
  pub bytes : (at : Stamp) (bytes : List ℕ) → piece ≡ Bytes at bytes → MayAdd MayKeep d (fed d at bytes) b
  pub end : MayAdd MayKeep d (ended d) b

-- a piece of its edge lane
pub record MayGiveEdge (d : ℕ) (piece : Piece) (b : BookView) : Type 0 where
  pub edge : (line : List ℕ) (edge : Edge) → piece ≡ Line line → Some edge ≡ edge_in line → MayAdd MayKeep d (edged d edge) b
  pub end : MayAdd MayKeep d (ended d) b

-- whatever piece comes next from one of its lanes, if it is of what the lane's source holds
pub record MayGiveNext (d : ℕ) (x : InletsView) (b : BookView) : Type 0 where
  pub bytes : (piece : Piece) → LaneIsRead (with_bytes piece x) → MayGiveBytes d piece b
  pub edge : (piece : Piece) (lane : Taking Piece) → x.edges ≡ Some lane → LaneIsRead (with_edge piece x) → MayGiveEdge d piece b

-- whatever bytes come next from the input lane of session s, if they are of what its client sends
abbrev pub MayHearNext : ℕ → Taking Piece → BookView → Type 0
MayHearNext s x b = (bytes : List ℕ) → AreDue x.about (with_got (Input bytes) x).got → MayInput MayKeep s bytes b

-- the greeting, to a new session whose outlet is of this table
abbrev pub MayOpen : TableId → Subject → Type 0
MayOpen table about = MayKeep (of_table table about) (opening_reply ∷ [])
