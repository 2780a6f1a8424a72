-- What a request asks for, or its fault. The words are gpsd_json(5)'s; the order of the faults is this
-- project's own.
use Rattle.std.specs.Prelude.{◌≡◌, ◌<◌, ℕ, Bool, ◌||◌, length, List, [], ◌∷◌, take, drop, nat_eq, Option, Some, None, Result, Ok, Err, codes, if◌then◌else◌}
use Rattle.std.specs.List.{list_all}
use Rattle.std.specs.Str.{bytes_eq, is_utf8}
use Rattle.gps_report.specs.declared.policy.CommandFault.{CommandFault}
use Rattle.gps_report.specs.declared.policy.CommandFault.TheVariants.{Unknown, BadJson, BadWatch, TooLong}
use Rattle.serde_json.specs.Data.{Data}
use Rattle.serde_json.specs.Read.{read}
use Rattle.watch_policy.specs.Change.{change_in}
use Rattle.watch_policy.specs.declared.change.Change.{Change}
use Rattle.gps_command.specs.declared.command.Command.{Command}
use Rattle.gps_command.specs.declared.command.Command.TheVariants.{Version, Devices, Poll, Watch}
use Rattle.gps_command.specs.declared.request.RawCommand.{RawCommand}
use Rattle.gps_command.specs.declared.request.RawCommand.TheVariants.{Words, Long}

-- space, tab and CR
abbrev pub is_trailing : ℕ → Bool
is_trailing c = nat_eq c 32 || nat_eq c 9 || nat_eq c 13

-- without the trailing bytes at its end
unfoldable pub trimmed : List ℕ → List ℕ
trimmed [] = []
trimmed (c ∷ text) = if list_all is_trailing (c ∷ text) then [] else c ∷ trimmed text

-- one JSON text, nested at most 127 deep, as serde_json reads it
abbrev pub json_of : List ℕ → Option Data
json_of text = if is_utf8 text then read text else None

abbrev pub watch_by : Option Change → Result Command CommandFault
watch_by None = Err BadWatch
watch_by (Some change) = Ok (Watch (Some change))

abbrev pub watch_in : Option Data → Result Command CommandFault
watch_in None = Err BadJson
watch_in (Some value) = watch_by (change_in value)

-- what follows `?WATCH=`
abbrev pub object_text : List ℕ → Option (List ℕ)
object_text text = if bytes_eq (take 7 text) (codes "?WATCH=") then Some (drop 7 text) else None

-- something follows `?WATCH=` in the request
abbrev pub HasObject : RawCommand → Type 0
HasObject (Words text) = (object : List ℕ) × (object_text (trimmed text) ≡ Some object) × (0 < length object)
HasObject Long = ⊥

abbrev pub object_command : Option (List ℕ) → Result Command CommandFault
object_command None = Err Unknown
object_command (Some object) = watch_in (json_of object)

abbrev pub words_command : List ℕ → Result Command CommandFault
words_command text =
    if bytes_eq text (codes "?VERSION") then Ok Version
    else (if bytes_eq text (codes "?DEVICES") then Ok Devices
    else (if bytes_eq text (codes "?POLL") then Ok Poll
    else (if bytes_eq text (codes "?WATCH") then Ok (Watch None)
    else object_command (object_text text))))

abbrev pub command_in : RawCommand → Result Command CommandFault
command_in Long = Err TooLong
command_in (Words text) = words_command (trimmed text)
