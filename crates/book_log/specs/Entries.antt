-- The entries of a book's log: what came of each device, its end and its loss, in one order; and what a log has of one device.
use Rattle.std.specs.Prelude.{◌≡◌, ◌<◌, ℕ, Bool, true, false, ◌||◌, List, [], ◌∷◌, ◌++◌, cond, length, map, nat_eq}
use Rattle.std.specs.List.{filter, flat_map, list_any}
use Rattle.gps_fixed.specs.Moment.{Moment}
use Rattle.gps_report.specs.declared.edge.Edge.{Edge}
use Rattle.gps_report.specs.declared.edge.Symbol.{Symbol}
use Rattle.gps_report.specs.declared.edge.Symbol.TheVariants.{Edge as EdgeSymbol}
use Rattle.device_core.specs.Stream.{piece}

-- a symbol of a device; or the device has ended, or was lost
pub data Entry : Type 0 where
  Got : (device : ℕ) → (symbol : Symbol) → Entry
  Ended : (device : ℕ) → Entry
  Lost : (device : ℕ) → Entry

abbrev pub device_of : Entry → ℕ
device_of (Got d symbol) = d
device_of (Ended d) = d
device_of (Lost d) = d

abbrev pub symbol_of : ℕ → Entry → List Symbol
symbol_of d (Got e symbol) = cond (nat_eq e d) (symbol ∷ []) []
symbol_of d (Ended e) = []
symbol_of d (Lost e) = []

-- the symbols of device d, in order
abbrev pub stream : ℕ → List Entry → List Symbol
stream d log = flat_map (symbol_of d) log

abbrev pub is_end_of : ℕ → Entry → Bool
is_end_of d (Got e symbol) = false
is_end_of d (Ended e) = nat_eq e d
is_end_of d (Lost e) = false

abbrev pub is_loss_of : ℕ → Entry → Bool
is_loss_of d (Got e symbol) = false
is_loss_of d (Ended e) = false
is_loss_of d (Lost e) = nat_eq e d

abbrev pub has_end : ℕ → List Entry → Bool
has_end d log = list_any (is_end_of d) log

abbrev pub has_lost : ℕ → List Entry → Bool
has_lost d log = list_any (is_loss_of d) log

-- device d has ended or was lost
abbrev pub stops_in : ℕ → List Entry → Bool
stops_in d log = has_end d log || has_lost d log

abbrev pub is_symbol : Entry → Bool
is_symbol (Got d symbol) = true
is_symbol (Ended d) = false
is_symbol (Lost d) = false

-- how many symbols a log holds
abbrev pub symbols_in : List Entry → ℕ
symbols_in log = length (filter is_symbol log)

-- a log is followed by entries of the devices numbered below `count`, none of a device that has stopped before it
unfoldable pub GoesOn : ℕ → List Entry → List Entry → Type 0
GoesOn count before [] = Unit {0}
GoesOn count before (entry ∷ log) = (device_of entry < count) × (stops_in (device_of entry) before ≡ false) × GoesOn count (before ++ entry ∷ []) log

abbrev pub IsLog : ℕ → List Entry → Type 0
IsLog count log = GoesOn count [] log

-- these symbols came of device d
abbrev pub got : ℕ → List Symbol → List Entry
got d symbols = map (λ symbol. Got d symbol) symbols

-- a piece of bytes came of device d at one stamp
abbrev pub fed : ℕ → Moment → List ℕ → List Entry
fed d at bytes = got d (piece at bytes)

abbrev pub edged : ℕ → Edge → List Entry
edged d edge = got d (EdgeSymbol edge ∷ [])

abbrev pub ended : ℕ → List Entry
ended d = Ended d ∷ []

abbrev pub lost : ℕ → List Entry
lost d = Lost d ∷ []
