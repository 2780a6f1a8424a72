-- What a device keeps, and for which streams it stands: those of which it keeps what later reports need.
use Rattle.std.specs.Prelude.{◌≡◌, List, Option}
use Rattle.gps_report.specs.declared.edge.Edge.{Edge}
use Rattle.gps_report.specs.declared.edge.Symbol.{Symbol}
use Rattle.gps_report.specs.declared.fix.Pair.{Pair}
use Rattle.packet_cut.specs.Packets.{Stamped}
use Rattle.packet_cut.specs.Standing.{StandsFor as BytesStand}
use Rattle.epoch_core.specs.Kept.{EpochsKept, StandsFor as NotesStand}
use Rattle.epoch_core.specs.Epochs.{reports}
use Rattle.epoch_core.specs.Steps.{nothing_ran}
use Rattle.pps_edges.specs.Pulse.{StandsFor as EdgesStand}
use Rattle.device_core.specs.Stream.{bytes_in, edges_in, notes_in}
use Rattle.device_core.specs.Reports.{last_toff}

-- the bytes that are pending, the running epoch, the last assert edge and the last serial time
pub record DeviceKept : Type 0 where
  pub bytes : List Stamped
  pub epochs : EpochsKept
  pub edge : Option Edge
  pub toff : Option Pair

-- what is kept now, and what was kept before an open draft, if there is one
pub record DeviceView : Type 0 where
  pub now : DeviceKept
  pub back : Option DeviceKept

-- the same, but that no epoch is running
abbrev pub with_nothing_running : DeviceKept → DeviceKept
with_nothing_running kept = record kept { epochs = record kept.epochs { ran = nothing_ran } }

pub record StandsFor (kept : DeviceKept) (stream : List Symbol) : Type 0 where
  pub bytes : BytesStand kept.bytes (bytes_in stream)
  pub notes : NotesStand kept.epochs (notes_in stream)
  pub edges : EdgesStand kept.edge (edges_in stream)
  pub toff : kept.toff ≡ last_toff (reports (notes_in stream))
