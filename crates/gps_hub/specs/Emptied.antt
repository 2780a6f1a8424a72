-- What holds once a closed session's outlet holds nothing more.
use Rattle.std.specs.Prelude.{◌≡◌, ◌⊎◌, ℕ, List, slice_index_or}
use Rattle.book_sessions.specs.MemberView.{MemberView}
use Rattle.gps_lane.specs.Ends.{Taking}
use Rattle.report_book.specs.BookView.{BookView}
use Rattle.hub_promise.specs.Parts.{HubView}
use Rattle.gps_hub.specs.Pumping.{IsOpenIn}

-- all that a session's outlet was given was received
abbrev pub GotAll : ℕ → BookView → Taking (List ℕ) → Type 0
GotAll s book items = (free : MemberView) → items.got ≡ (slice_index_or book.sessions s free).session.kept

-- or the session is open
abbrev pub GotAllOrOpen : ℕ → HubView → Taking (List ℕ) → Type 0
GotAllOrOpen s h items = IsOpenIn h s ⊎ GotAll s h.book items
