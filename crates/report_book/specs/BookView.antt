-- What contracts see of a book: the names of its devices, how many requests of a session it answers, what came of its devices, its sessions by
-- number, and its units.
use Rattle.std.specs.Prelude.{ℕ, Bool, List, cond, map}
use Rattle.book_log.specs.DeviceLogView.{DeviceLogView, turned_if as log_turned_if}
use Rattle.book_sessions.specs.MemberView.{MemberView, renewed}
use Rattle.book_units.specs.Changes.{turned as turned_unit}
use Rattle.book_units.specs.Units.{UnitView}

pub record BookView : Type 0 where
  pub names : List (List ℕ)
  pub most_requests : ℕ  -- at most this number of each session is answered
  pub log : DeviceLogView
  pub sessions : List MemberView
  pub units : List UnitView

abbrev pub renewed_if : Bool → List MemberView → List MemberView
renewed_if turns sessions = cond turns (map renewed sessions) sessions

abbrev pub units_turned_if : Bool → List UnitView → List UnitView
units_turned_if turns units = cond turns (map turned_unit units) units

-- if a new generation begins, the old log is forgotten, each session goes on from place 0, and each unit carries what it has not published
abbrev pub turned_if : Bool → BookView → BookView
turned_if turns b = record {
  names = b.names;
  most_requests = b.most_requests;
  log = log_turned_if turns b.log;
  sessions = renewed_if turns b.sessions;
  units = units_turned_if turns b.units;
}
