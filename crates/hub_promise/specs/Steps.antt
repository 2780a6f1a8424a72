-- What one call of a hub does to its book and to a lane.
use Rattle.std.specs.Prelude.{◌≡◌, ◌<◌, ◌≤◌, ◌⊎◌, ℕ, Bool, true, false, List, [], ◌∷◌, ◌++◌, length, map, slice_get, slice_set, nat_eq, Option, Some, None, is_some, option_map}
use Rattle.std.specs.List.{AllZip}
use Rattle.book_log.specs.Entries.{Entry, ended, lost}
use Rattle.book_log.specs.History.{history_after}
use Rattle.book_log.specs.Standing.{StandsFor}
use Rattle.book_log.proofs.Histories.{IsQuiet}
use Rattle.book_sessions.specs.MemberView.{MemberView}
use Rattle.book_units.specs.Changes.{EachUnit}
use Rattle.book_units.specs.Samples.{samples_of}
use Rattle.book_units.specs.Units.{UnitView, all_of, segment_of}
use Rattle.gps_lane.specs.Ends.{Taking}
use Rattle.report_book.specs.BookView.{BookView}
use Rattle.report_book.specs.Moves.{SameButSessions}
use Rattle.gps_lane.specs.declared.piece.Piece.{Piece}
use Rattle.session_core.specs.declared.mark.Close.{Close}
use Rattle.session_core.specs.declared.mark.Close.TheVariants.{Overrun}
use Rattle.session_core.specs.SessionView.{SessionView}
use Rattle.session_runs.specs.Accounts.{CarriesOn}
use Rattle.session_runs.specs.Following.{BookGoesOn, forgotten_if}
use Rattle.shm_segment.specs.declared.sample.Sample.{Sample}
use Rattle.hub_promise.specs.declared.ends.DeviceEnd.{DeviceEnd}
use Rattle.hub_promise.specs.declared.ends.DeviceEnd.TheVariants.{Ended, ReadFault, NoMemory as LostNoMemory}
use Rattle.hub_promise.specs.DaemonHub.{DeviceFits, SessionFits}
use Rattle.hub_promise.specs.Given.{ending_of}
use Rattle.hub_promise.specs.Keeping.{Lasts, told_of}
use Rattle.hub_promise.specs.Parts.{InletsView, device_of}

-- one more piece is received from a lane
abbrev pub with_got : Piece → Taking Piece → Taking Piece
with_got piece x = record x { got = x.got ++ piece ∷ [] }

-- of a device's lane
abbrev pub with_bytes : Piece → InletsView → InletsView
with_bytes piece x = record x { bytes = with_got piece x.bytes }

-- of its edge lane
abbrev pub with_edge : Piece → InletsView → InletsView
with_edge piece x = record x { edges = option_map (with_got piece) x.edges }

-- more pieces are received from a lane, or none; none if it had told how its source ended
pub record GetsMore (x y : Taking Piece) : Type 0 where
  pub more : List Piece
  pub gets : y ≡ record x { got = x.got ++ more }
  pub untold : is_some (ending_of x.got) ≡ true → more ≡ []

-- a closed session stays as it was; an open one is closed by an overrun, if at all
abbrev pub ClosesBy : Option (ℕ × Close) → SessionView → SessionView → Type 0
ClosesBy None old new = (new.closing ≡ None) ⊎ ((place : ℕ) × (new.closing ≡ Some (place, Overrun)) × (new.cap ≤ length new.kept))
ClosesBy (Some closing) old new = (place : ℕ) × (new.closing ≡ Some (place, closing.1)) × (new.kept ≡ old.kept)

-- what the entries of devices leave unchanged in a session
pub record Abides (old new : MemberView) : Type 0 where
  pub name : new.session.name ≡ old.session.name
  pub cap : new.session.cap ≡ old.session.cap
  pub requests : new.session.requests ≡ old.session.requests
  pub most_requests : new.session.most_requests ≡ old.session.most_requests
  pub watched : new.watched ≡ old.watched
  pub closes : ClosesBy old.session.closing old.session new.session

-- a unit has these samples more
abbrev pub UnitHasMore : List Sample → UnitView → UnitView → Type 0
UnitHasMore samples old new = all_of new ≡ all_of old ++ samples

-- entries were added to a book, after a turn or without one
pub record Onward (old new : BookView) (entries : List Entry) : Type 0 where
  pub turns : Bool
  pub goes : (before : List Entry) → StandsFor old.log.opening before → BookGoesOn turns old new entries before
  pub carries : (before : List Entry) → StandsFor old.log.opening before
      → AllZip (CarriesOn old before new (forgotten_if turns before old.log.log)) old.sessions new.sessions
  pub abides : AllZip Abides old.sessions new.sessions
  pub units : (before : List Entry) → StandsFor old.log.opening before
      → EachUnit (λ u. UnitHasMore (samples_of u (history_after (before ++ old.log.log) entries))) old.units new.units
  pub segments : map segment_of new.units ≡ map segment_of old.units
  pub limit : new.log.limit ≡ old.log.limit
  pub requests : new.most_requests ≡ old.most_requests

-- or nothing was added
abbrev pub MovesOn : BookView → BookView → List Entry → Type 0
MovesOn old new entries = ((new ≡ old) × (entries ≡ [])) ⊎ Onward old new entries

-- what became of one device: it still fits the log, and what is kept of its lanes' endings is what they have told
pub record DeviceStep (d : ℕ) (old new : BookView) (x y : InletsView) (end end' : Option DeviceEnd) (lasts lasts' : Lasts) : Type 0 where
  pub entries : List Entry
  pub adds : MovesOn old new entries
  pub quiet : (e : ℕ) → nat_eq d e ≡ false → IsQuiet e entries
  pub fits : (log : List Entry) → lasts ≡ told_of x → DeviceFits log d (device_of x end) → DeviceFits (log ++ entries) d (device_of y end')
  pub told : lasts ≡ told_of x → lasts' ≡ told_of y

-- what became of one session: it and its input lane still fit the log
pub record SessionStep (s : ℕ) (old new : BookView) (x y : Taking Piece) : Type 0 where
  pub same : SameButSessions old new
  pub was : MemberView
  pub there : slice_get old.sessions s ≡ Some was
  pub next : MemberView
  pub sets : new.sessions ≡ slice_set old.sessions s next
  pub name : next.session.name ≡ was.session.name
  pub cap : next.session.cap ≡ was.session.cap
  pub watched : was.watched ≡ true → next.watched ≡ true
  pub stays_closed : is_some was.session.closing ≡ true → is_some next.session.closing ≡ true
  pub lane : y.lane ≡ x.lane
  pub fits : (before : List Entry) → StandsFor old.log.opening before
      → SessionFits old.names before old.log.log was x → SessionFits old.names before old.log.log next y

-- what is added to the log if a device ends so, or goes on
abbrev pub stop_entries : ℕ → Option DeviceEnd → List Entry
stop_entries d None = []
stop_entries d (Some Ended) = ended d
stop_entries d (Some ReadFault) = lost d
stop_entries d (Some LostNoMemory) = lost d
