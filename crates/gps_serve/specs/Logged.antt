-- The main sentence of `serve`: what the log has of a device that has ended is what its source held.
use Rattle.std.specs.Prelude.{◌≡◌, ℕ, List, ◌++◌, length, Option, Some, IsSome}
use Rattle.std.specs.List.{AllZip, range_with_len, zip}
use Rattle.book_log.specs.Entries.{Entry, stream}
use Rattle.book_log.specs.Standing.{StandsFor}
use Rattle.device_core.specs.Stream.{bytes_in}
use Rattle.gps_outside.specs.ReadSteps.{TakesAll}
use Rattle.gps_outside.specs.Told.{Goes}
use Rattle.gps_world.specs.declared.place.Place.{Place}
use Rattle.hub_promise.specs.declared.ends.DeviceEnd.TheVariants.{Ended}
use Rattle.packet_cut.specs.Packets.{bytes_of}
use Rattle.report_book.specs.BookView.{BookView}
use Rattle.serve_end.specs.declared.done.DeviceDone.{DeviceDone}
use Rattle.serve_end.specs.Runs.{SourceFacts}
use Rattle.gps_serve.specs.AtEnd.{AtEnd, DaemonStart, HandedBack}
use Rattle.gps_serve.specs.Facts.{WorldFacts}
use Rattle.gps_serve.specs.Served.{BytesHeld}
use Rattle.gps_serve.specs.Starts.{IsUnreadBy}

-- the log of a whole run, whose last part the book keeps
abbrev pub IsLogOf : BookView → List Entry → Type 0
IsLogOf book log = (forgotten : List Entry) × (StandsFor book.log.opening forgotten × (log ≡ forgotten ++ book.log.log))

-- the bytes of a device in a log
abbrev pub logged_bytes : ℕ → List Entry → List ℕ
logged_bytes d log = bytes_of (bytes_in (stream d log))

-- The bytes in the log are all that the device's source gave, from which nothing was taken before, and nothing is left in it.
pub record IsLogged {S R : Type 0} (facts : SourceFacts S) (bytes : List ℕ) (done : DeviceDone S R) : Type 0 where
  pub first : S
  pub unread : IsUnreadBy facts first
  pub source : S
  pub source_is : done.source ≡ Some source
  pub takes : Goes (TakesAll bytes) (facts.content first) (facts.content source)

-- each source has modelled contents
abbrev pub AreModelled : {S : Type 0} → SourceFacts S → Type 0
AreModelled {S} facts = (source : S) → IsSome (facts.content source)

-- What the log has of device d, by its place and what is left of it. If it has ended, its bytes in the log are all that its source gave; and if contents
-- are modelled, they are what is known to be at its place.
pub record IsLoggedAt {S R : Type 0} (facts : SourceFacts S) (behind : Place → Option (List ℕ)) (log : List Entry) (d : ℕ)
    (left : Place × DeviceDone S R) : Type 0 where
  pub given : left.1.end ≡ Some Ended → IsLogged facts (logged_bytes d log) left.1
  pub held : (held : List ℕ) → left.1.end ≡ Some Ended → AreModelled facts → behind left.0 ≡ Some held → logged_bytes d log ≡ held

-- device by device
abbrev pub AreLogged : {S R : Type 0} → SourceFacts S → (Place → Option (List ℕ)) → List Entry → List Place → List (DeviceDone S R) → Type 0
AreLogged facts behind log places devices = AllZip (IsLoggedAt facts behind log) (range_with_len 0 (length devices)) (zip places devices)

-- of all that a daemon hands back
abbrev pub EndedAreLogged : {G S K : Type 0} → Type 0 → WorldFacts G S K → Type 0
EndedAreLogged {G} {S} {K} R facts =
    (start : DaemonStart S K) (back : HandedBack G S K R) (book : BookView) (behind : Place → Option (List ℕ)) (places : List Place)
    → AtEnd start facts back book → AllZip (BytesHeld behind facts.sources) places back.devices
    → (log : List Entry) × (IsLogOf book log × AreLogged facts.sources behind log places back.devices)
