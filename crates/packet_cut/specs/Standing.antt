-- How a cutter stands for all the bytes that it was given: it keeps their rest. (This project's own.)
use Rattle.std.specs.Prelude.{◌≡◌, ℕ, ◌<◌, ◌≤◌, Bool, false, List, ◌++◌, length, drop, slice_get, if◌then◌else◌}
use Rattle.gps_fixed.specs.Moment.{Moment}
use Rattle.gps_report.specs.declared.packet.Packet.{Packet}
use Rattle.packet_cut.specs.Packets.{Stamped, stamped, stamp_or, packets_of, rest_of, most_pending}

-- what is kept is the rest of the stream
abbrev pub StandsFor : List Stamped → List Stamped → Type 0
StandsFor kept stream = kept ≡ rest_of stream

-- these are the packets that a stream gains by more of it
abbrev pub Gains : List Stamped → List Stamped → List Packet → Type 0
Gains stream more packets = packets_of (stream ++ more) ≡ packets_of stream ++ packets

-- how what is kept changes: the given number of bytes is removed at its front, and more are added at its end; or only the new ones stay
pub record Shift : Type 0 where
  pub anew : Bool
  pub gone : ℕ
  pub more : List Stamped

abbrev pub applied : Shift → List Stamped → List Stamped
applied shift kept = if shift.anew then shift.more else drop shift.gone kept ++ shift.more

-- what is kept has room for the change, so that it takes no memory
pub record Fits (shift : Shift) (kept : List Stamped) : Type 0 where
  pub short : length (applied shift kept) ≤ most_pending
  pub room : shift.anew ≡ false → 0 < length kept

-- the packets that a piece completes after what was kept, and the change that leaves the new rest
pub record IsCut (kept : List Stamped) (at : Moment) (piece : List ℕ) (packets : List Packet) (shift : Shift) : Type 0 where
  pub packets_are : packets ≡ packets_of (kept ++ stamped at piece)
  pub rest_is : applied shift kept ≡ rest_of (kept ++ stamped at piece)
  pub fits : Fits shift kept

-- the stamp of the byte at a place, if the kept bytes have their own and all further ones that of their piece
abbrev pub stamp_in : List Stamped → Moment → ℕ → Moment
stamp_in kept at place = stamp_or (slice_get kept place) at

-- the stamped bytes that a list of bytes stands for, if its first ones were kept with their stamps
abbrev pub stream_of : List Stamped → Moment → List ℕ → List Stamped
stream_of kept at bytes = kept ++ stamped at (drop (length kept) bytes)

-- these are the packets of a stream, and its rest begins at this place
pub record IsFound (stream : List Stamped) (packets : List Packet) (rest : ℕ) : Type 0 where
  pub packets_are : packets ≡ packets_of stream
  pub rest_is : rest_of stream ≡ drop rest stream
  pub inside : rest ≤ length stream
