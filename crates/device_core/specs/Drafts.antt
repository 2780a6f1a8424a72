-- A device with an open draft: a call was made, and can still be undone.
use Rattle.std.specs.Prelude.{◌≡◌, Bool, true, List, Option, Some, None, is_some, option_map, unwrap_or}
use Rattle.gps_report.specs.declared.edge.Edge.{Edge}
use Rattle.gps_report.specs.declared.fix.Pair.{Pair}
use Rattle.packet_cut.specs.Packets.{Stamped}
use Rattle.packet_cut.specs.Standing.{Shift, Fits, applied}
use Rattle.epoch_core.specs.Kept.{EpochsKept}
use Rattle.epoch_core.specs.Epochs.{is_before_the_last}
use Rattle.device_core.specs.declared.draft.Draft.{Draft}
use Rattle.device_core.specs.Standing.{DeviceView, DeviceKept}

-- the whole second after a serial time is a stamp as well
abbrev pub is_low : Option Pair → Bool
is_low None = true
is_low (Some pair) = is_before_the_last pair.reference.sec

abbrev pub changed : Option Shift → List Stamped → List Stamped
changed None bytes = bytes
changed (Some shift) bytes = applied shift bytes

abbrev pub FitsBytes : Option Shift → List Stamped → Type 0
FitsBytes None bytes = Unit {0}
FitsBytes (Some shift) bytes = Fits shift bytes

-- what is kept, with the draft
abbrev pub now_of : Option Draft → List Stamped → EpochsKept → Option Edge → Option Pair → DeviceKept
now_of None bytes epochs edge toff = record { bytes = bytes; epochs = epochs; edge = edge; toff = toff }
now_of (Some draft) bytes epochs edge toff = record { bytes = changed draft.change bytes; epochs = epochs; edge = draft.pulses; toff = draft.toff }

-- what is kept without the draft, if there is one
abbrev pub back_of : Option Draft → List Stamped → Option EpochsKept → Option Edge → Option Pair → Option DeviceKept
back_of None bytes back edge toff = None
back_of (Some draft) bytes back edge toff = option_map (λ epochs. record { bytes = bytes; epochs = epochs; edge = edge; toff = toff }) back

abbrev pub IsDraft : Option Draft → List Stamped → Option EpochsKept → Type 0
IsDraft None bytes back = back ≡ None
IsDraft (Some draft) bytes back = (is_some back ≡ true) × FitsBytes draft.change bytes × (is_low draft.toff ≡ true)

abbrev pub IsSound : Option Draft → List Stamped → Option EpochsKept → Option Pair → Type 0
IsSound draft bytes back toff = IsDraft draft bytes back × (is_low toff ≡ true)

-- what is kept if an open draft is taken back
abbrev pub back_or : DeviceView → DeviceKept
back_or held = unwrap_or held.back held.now

-- what an open draft makes of each of these, and that it fits the bytes
abbrev pub bytes_now : Option Draft → List Stamped → List Stamped
bytes_now None bytes = bytes
bytes_now (Some draft) bytes = changed draft.change bytes

abbrev pub edge_now : Option Draft → Option Edge → Option Edge
edge_now None edge = edge
edge_now (Some draft) edge = draft.pulses

abbrev pub toff_now : Option Draft → Option Pair → Option Pair
toff_now None toff = toff
toff_now (Some draft) toff = draft.toff

abbrev pub FitsDraft : Option Draft → List Stamped → Type 0
FitsDraft None bytes = Unit {0}
FitsDraft (Some draft) bytes = FitsBytes draft.change bytes
