-- Which pulse edges mark a second, and which second: the edge pairs with the serial time before it. This project's own; the edges and
-- their sequence numbers are those of RFC 2783.
use Rattle.std.specs.Prelude.{ℕ, pos, ◌+◌, ◌*◌, ◌%◌, ◌^◌, ◌+ℤ◌, ◌≡◌, Bool, true, false, ◌&&◌, cond, List, Option, Some, None, nat_eq, nat_le, nat_lt, unsigned_abs}
use Rattle.std.specs.List.{filter, last_or}
use Rattle.gps_fixed.specs.Moment.{Moment}
use Rattle.gps_report.specs.declared.edge.Edge.{Edge}
use Rattle.gps_report.specs.declared.edge.EdgeKind.{EdgeKind}
use Rattle.gps_report.specs.declared.edge.EdgeKind.TheVariants.{Assert, Clear}
use Rattle.gps_report.specs.declared.fix.Pair.{Pair}

-- nanoseconds since 1970-01-01T00:00:00Z
abbrev pub nanoseconds : Moment → ℕ
nanoseconds at = 1_000_000_000 * unsigned_abs at.sec + at.nsec

abbrev pub is_assert : EdgeKind → Bool
is_assert Assert = true
is_assert Clear = false

-- the last assert edge of a past; clear edges do not count
unfoldable pub last_assert : List Edge → Option Edge
last_assert past = last_or None (filter (λ edge. is_assert edge.kind) past)

-- no assert edge was lost between the two: sequence numbers go up by one, and from 2^32 - 1 to 0
abbrev pub is_next : Edge → Edge → Bool
is_next last edge = nat_eq ((last.seq + 1) % 2 ^ 32) edge.seq

-- a second lies between the two, to a hundredth of a second
abbrev pub is_second_after : Edge → Edge → Bool
is_second_after last edge =
    nat_le (nanoseconds last.at + 990_000_000) (nanoseconds edge.at) && nat_le (nanoseconds edge.at) (nanoseconds last.at + 1_010_000_000)

-- the serial time came before the edge, by less than a second
abbrev pub is_fresh : Pair → Edge → Bool
is_fresh toff edge = nat_lt (nanoseconds toff.host) (nanoseconds edge.at) && nat_lt (nanoseconds edge.at) (nanoseconds toff.host + 1_000_000_000)

-- the edge marks the whole second after the serial time
abbrev pub pulse : Pair → Edge → Pair
pulse toff edge = record { reference = record { sec = toff.reference.sec +ℤ pos 1; nsec = 0 }; host = edge.at }

-- the pulse of an assert edge, after the last assert edge and the last serial time before it
unfoldable pub paired : Edge → Option Edge → Option Pair → Option Pair
paired edge (Some last) (Some toff) =
    cond (is_next last edge && is_second_after last edge && is_fresh toff edge) (Some (pulse toff edge)) None
paired edge _ _ = None

-- the pulse of an edge: `past` is the device's edges before it, in order, and `toff` the device's last serial time before it
unfoldable pub pps_of : List Edge → Option Pair → Edge → Option Pair
pps_of past toff edge = cond (is_assert edge.kind) (paired edge (last_assert past) toff) None

-- what is kept of a past
abbrev pub StandsFor : Option Edge → List Edge → Type 0
StandsFor kept past = kept ≡ last_assert past
