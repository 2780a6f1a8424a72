-- What the object of a WATCH request changes: its members after gpsd_json(5), the rules on absent members
-- and on refusals this project's own.
use Rattle.std.specs.Prelude.{◌≡◌, ◌<◌, ℕ, Bool, length, true, List, [], ◌∷◌, Option, Some, None, option_map, option_and_then, if◌then◌else◌, nat_le, codes}
use Rattle.std.specs.Option.{unwrap_or}
use Rattle.serde_json.specs.Data.{Data}
use Rattle.serde_json.specs.Find.{get, as_bool, as_number, as_u64, as_str, as_object}
use Rattle.gps_report.specs.Name.{is_name}
use Rattle.gps_report.specs.declared.name.NameFault.{NameFault}
use Rattle.gps_report.specs.declared.name.NameFault.TheVariants.{BadName}
use Rattle.watch_policy.specs.declared.change.Change.{Change}
use Rattle.watch_policy.specs.declared.change.ChangeFault.{ChangeFault}
use Rattle.watch_policy.specs.declared.change.ChangeFault.TheVariants as fault

-- a value that is absent, or is there and reads so; no answer if it is there and cannot be read
abbrev pub read_if : {X : Type 0} → (Data → Option X) → Option Data → Option (Option X)
read_if read None = Some None
read_if read (Some value) = option_map (λ x. Some x) (read value)

-- the member of this key
abbrev pub member : {X : Type 0} → List ℕ → (Data → Option X) → Data → Option (Option X)
member key read value = read_if read (get key value)

-- a whole number from 0 to 2; `2.0` is no whole number
abbrev pub raw_of : Data → Option ℕ
raw_of value = option_and_then (λ n. if nat_le n 2 then Some n else None) (option_and_then as_u64 (as_number value))

-- a name, or the empty text, which sets no device
abbrev pub device_text : List ℕ → Option (Option (List ℕ))
device_text [] = Some None
device_text (c ∷ text) = if is_name (c ∷ text) then Some (Some (c ∷ text)) else None

abbrev pub device_of : Data → Option (Option (List ℕ))
device_of value = option_and_then device_text (as_str value)

-- what six members change, if each can be read
abbrev pub change_by : (enable json nmea : Option (Option Bool)) (raw : Option (Option ℕ)) (pps : Option (Option Bool)) (device : Option (Option (Option (List ℕ)))) → Option Change
change_by (Some enable) (Some json) (Some nmea) (Some raw) (Some pps) (Some device) =
    Some (record { enable = unwrap_or enable true; json = json; nmea = nmea; raw = raw; pps = pps; device = device })
change_by enable json nmea raw pps device = None

abbrev pub change_in : Data → Option Change
change_in value =
    option_and_then (λ _. change_by
    (member (codes "enable") as_bool value)
    (member (codes "json") as_bool value)
    (member (codes "nmea") as_bool value)
    (member (codes "raw") raw_of value)
    (member (codes "pps") as_bool value)
    (member (codes "device") device_of value))
    (as_object value)

-- the object has a text for a device, and it is not empty
abbrev pub NamesDevice : Data → Type 0
NamesDevice value = (text : List ℕ) × (option_and_then as_str (get (codes "device") value) ≡ Some text) × (0 < length text)

-- the refusal of a text as a name, as a refusal of the object
abbrev pub fault_of_name : NameFault → ChangeFault
fault_of_name BadName = fault.BadWatch
fault_of_name NameFault.NoMemory = fault.NoMemory
