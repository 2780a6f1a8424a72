-- What each cause of a device word means of the word that it names.
use Rattle.std.specs.Prelude.{◌≡◌, ℕ, ◌≤◌, ◌==◌, Bool, true, false, not, ◌&&◌, ◌||◌, List, Option, Some, None, codes, length, option_and_then, slice_get, if◌then◌else◌}
use Rattle.std.specs.Str.{bytes_eq}
use Rattle.clap.specs.Walk.{Text}
use Rattle.gps_report.specs.Name.{is_name}
use Rattle.gps_words.specs.Devices.{halves, is_address}
use Rattle.gps_help.specs.Places.{any_below, count_below, is_alone}
use Rattle.gps_help.specs.declared.cause.DeviceCause.{DeviceCause}
use Rattle.gps_help.specs.declared.cause.DeviceCause.TheVariants.{NoName, BadName, NoSuchKind, NoPath, BadAddress, NameTwice, EdgesTwice, EdgesFirst, EdgesAlone, TooMany}
use Rattle.gps_help.specs.declared.command_name.CommandName.TheVariants as command

-- the kinds of a place: `KIND:PATH` or `KIND:HOST:PORT`
abbrev pub has_path : Text → Bool
has_path kind = bytes_eq kind (codes "file") || bytes_eq kind (codes "edges")

abbrev pub has_address : Text → Bool
has_address kind = bytes_eq kind (codes "tcp") || bytes_eq kind (codes "gpsd")

-- a text has two parts, and they pass
abbrev pub pass : (Text → Text → Bool) → Option (Text × Text) → Bool
pass test None = false
pass test (Some parts) = test parts.0 parts.1

-- the place is one of edges; it is one of bytes
unfoldable pub is_edges : Text → Bool
is_edges place = pass (λ kind text. bytes_eq kind (codes "edges")) (halves 58 place)

unfoldable pub is_source : Text → Bool
is_source place = pass (λ kind text. bytes_eq kind (codes "file") || has_address kind) (halves 58 place)

-- the name and the place of the device word here, if one is
abbrev pub parts_if : Bool → Text → Option (Text × Text)
parts_if alone word = if alone then halves 61 word else None

unfoldable pub device_at : List Text → Option ℕ → ℕ → Option (Text × Text)
device_at words stop at = option_and_then (λ word. parts_if (is_alone command.Serve words stop at word) word) (slice_get words at)

-- the word here says where bytes come from; where those of this name do; where the edges of this name do
unfoldable pub gives_bytes : List Text → Option ℕ → ℕ → Bool
gives_bytes words stop at = pass (λ name place. is_source place) (device_at words stop at)

unfoldable pub gives_bytes_of : List Text → Option ℕ → Text → ℕ → Bool
gives_bytes_of words stop name at = pass (λ other place. bytes_eq other name && is_source place) (device_at words stop at)

unfoldable pub gives_edges_of : List Text → Option ℕ → Text → ℕ → Bool
gives_edges_of words stop name at = pass (λ other place. bytes_eq other name && is_edges place) (device_at words stop at)

-- the cause of a device word with this name and this place
unfoldable pub IsCauseOfParts : List Text → Option ℕ → ℕ → Text → Text → DeviceCause → Type 0
IsCauseOfParts words stop at name place NoName = ⊥
IsCauseOfParts words stop at name place BadName = is_name name ≡ false
IsCauseOfParts words stop at name place NoSuchKind = pass (λ kind text. has_path kind || has_address kind) (halves 58 place) ≡ false
IsCauseOfParts words stop at name place NoPath = pass (λ kind text. has_path kind && (length text == 0)) (halves 58 place) ≡ true
IsCauseOfParts words stop at name place BadAddress = pass (λ kind text. has_address kind && not (is_address text)) (halves 58 place) ≡ true
IsCauseOfParts words stop at name place NameTwice = (is_source place ≡ true) × (any_below (gives_bytes_of words stop name) at ≡ true)
IsCauseOfParts words stop at name place EdgesTwice = (is_edges place ≡ true) × (any_below (gives_edges_of words stop name) at ≡ true)
IsCauseOfParts words stop at name place EdgesFirst = (is_edges place ≡ true)
    × (any_below (gives_bytes_of words stop name) at ≡ false) × (any_below (gives_bytes_of words stop name) (length words) ≡ true)
IsCauseOfParts words stop at name place EdgesAlone = (is_edges place ≡ true) × (any_below (gives_bytes_of words stop name) (length words) ≡ false)
IsCauseOfParts words stop at name place TooMany = (is_source place ≡ true) × (8 ≤ count_below (gives_bytes words stop) at)

unfoldable pub IsCauseOfDevice : List Text → Option ℕ → ℕ → Option (Text × Text) → DeviceCause → Type 0
IsCauseOfDevice words stop at None cause = cause ≡ NoName
IsCauseOfDevice words stop at (Some parts) cause = IsCauseOfParts words stop at parts.0 parts.1 cause
