-- The device words of `serve`, and what they say together.
use Rattle.std.specs.Prelude.{ℕ, ◌+◌, Bool, true, false, not, ◌&&◌, ◌==◌, List, [], ◌∷◌, length, map, take, drop, nat_eq, nat_lt, nat_le, position, codes, Option, Some, None, option_and_then, option_map, if◌then◌else◌}
use Rattle.std.specs.List.{flat_map, list_all, list_any}
use Rattle.std.specs.Cmp.Lexicographic.{pointwise}
use Rattle.std.specs.Str.{bytes_eq}
use Rattle.gps_fixed.specs.Scaled.{whole_of}
use Rattle.gps_report.specs.Name.{are_names, is_name}
use Rattle.gps_words.specs.declared.device.Input.{Input}
use Rattle.gps_words.specs.declared.device.Input.TheVariants.{File, Tcp, Gpsd}
use Rattle.gps_words.specs.declared.device.Target.{Target}
use Rattle.gps_words.specs.declared.device.Target.TheVariants.{Device, Edges}
use Rattle.gps_words.specs.declared.device.DeviceWord.{DeviceWord}
use Rattle.gps_words.specs.declared.devices.Devices.{Devices}

-- what comes before the first such byte, and what follows it
unfoldable pub halves : ℕ → List ℕ → Option (List ℕ × List ℕ)
halves mark text = option_map (λ k. (take k text, drop (k + 1) text)) (position (λ c. c == mark) text)

-- where the last `:` of a text is
abbrev pub later : Option ℕ → Option ℕ
later None = None
later (Some place) = Some (place + 1)

unfoldable pub last_colon : List ℕ → Option ℕ
last_colon [] = None
last_colon (c ∷ text) = if list_any (λ b. b == 58) text then later (last_colon text) else (if c == 58 then Some 0 else None)

abbrev pub is_at_most : ℕ → Option ℕ → Bool
is_at_most most None = false
is_at_most most (Some n) = nat_le n most

-- 1 to 5 digits with a value up to 65,535
unfoldable pub is_port : List ℕ → Bool
is_port text = nat_lt 0 (length text) && nat_le (length text) 5 && is_at_most 65_535 (whole_of (length text) text)

abbrev pub has_port_behind : List ℕ → Option ℕ → Bool
has_port_behind text None = false
has_port_behind text (Some place) = nat_lt 0 place && is_port (drop (place + 1) text)

-- HOST:PORT, split at the last `:`; the host is not empty and has no `/`, which no name or address of a host has
abbrev pub has_slash : List ℕ → Bool
has_slash text = list_any (λ c. c == 47) text

unfoldable pub is_address : List ℕ → Bool
is_address text = not (has_slash text) && has_port_behind text (last_colon text)

abbrev pub address_in : List ℕ → Option (List ℕ)
address_in text = if is_address text then Some text else None

-- a path is not empty
abbrev pub path_in : List ℕ → Option (List ℕ)
path_in text = if nat_lt 0 (length text) then Some text else None

-- what the kind says of the text after its `:`
unfoldable pub target_of : List ℕ → List ℕ → Option Target
target_of kind text =
    if bytes_eq kind (codes "file") then option_map (λ path. Device (File path)) (path_in text)
    else (if bytes_eq kind (codes "tcp") then option_map (λ address. Device (Tcp address)) (address_in text)
    else (if bytes_eq kind (codes "gpsd") then option_map (λ address. Device (Gpsd address)) (address_in text)
    else (if bytes_eq kind (codes "edges") then option_map (λ path. Edges path) (path_in text)
    else None)))

-- `file:PATH`, `tcp:HOST:PORT`, `gpsd:HOST:PORT` or `edges:PATH`
unfoldable pub target_in : List ℕ → Option Target
target_in text = option_and_then (λ p. target_of p.0 p.1) (halves 58 text)

abbrev pub word_of : List ℕ → Option Target → Option DeviceWord
word_of name target = if is_name name then option_map (λ t. record { name = name; target = t }) target else None

-- a name, `=`, and what it is given from
unfoldable pub word_in : List ℕ → Option DeviceWord
word_in text = option_and_then (λ p. word_of p.0 (target_in p.1)) (halves 61 text)

-- the words of such texts, if each of them is one
unfoldable pub words_in : List (List ℕ) → Option (List DeviceWord)
words_in [] = Some []
words_in (text ∷ texts) = option_and_then (λ word. option_map (λ words. word ∷ words) (words_in texts)) (word_in text)

abbrev pub is_same : List ℕ → List ℕ → Bool
is_same a b = pointwise nat_eq a b

-- the devices: the words that say where their bytes come from, in order
abbrev pub name_of : DeviceWord → Target → List (List ℕ)
name_of word (Device input) = word.name ∷ []
name_of word (Edges path) = []

abbrev pub input_of : Target → List Input
input_of (Device input) = input ∷ []
input_of (Edges path) = []

abbrev pub names_of : List DeviceWord → List (List ℕ)
names_of words = flat_map (λ word. name_of word word.target) words

abbrev pub inputs_of : List DeviceWord → List Input
inputs_of words = flat_map (λ word. input_of word.target) words

-- no further word has this name
abbrev pub is_unnamed : List ℕ → List DeviceWord → Bool
is_unnamed name words = not (list_any (λ word. is_same word.name name) words)

abbrev pub ends_name : List ℕ → Target → List DeviceWord → Bool
ends_name name (Device input) words = true
ends_name name (Edges path) words = is_unnamed name words

-- a word of edges is the last word of its name
unfoldable pub edges_end_names : List DeviceWord → Bool
edges_end_names [] = true
edges_end_names (word ∷ words) = ends_name word.name word.target words && edges_end_names words

-- each name is that of a device
abbrev pub is_input : Target → Bool
is_input (Device input) = true
is_input (Edges path) = false

abbrev pub is_device : List DeviceWord → List ℕ → Bool
is_device words name = list_any (λ word. is_input word.target && is_same word.name name) words

abbrev pub all_devices : List DeviceWord → Bool
all_devices words = list_all (λ word. is_device words word.name) words

-- where a device's edges come from, or nowhere
abbrev pub edges_or : List ℕ → List ℕ → Target → Option (List ℕ) → Option (List ℕ)
edges_or name other (Device input) rest = rest
edges_or name other (Edges path) rest = if is_same other name then Some path else rest

unfoldable pub edges_for : List ℕ → List DeviceWord → Option (List ℕ)
edges_for name [] = None
edges_for name (word ∷ words) = edges_or name word.name word.target (edges_for name words)

abbrev pub edges_of : List DeviceWord → List (List ℕ) → List (Option (List ℕ))
edges_of words names = map (λ name. edges_for name words) names

-- The words name devices: no two words say where the bytes of one come from, one says where those of each named device do, and its edges come
-- after that, once.
abbrev pub are_devices : List DeviceWord → Bool
are_devices words = are_names (names_of words) && all_devices words && edges_end_names words

-- the devices in the order of their numbers, in three lists of one length
pub record Lists : Type 0 where
  pub names : List (List ℕ)
  pub inputs : List Input
  pub edges : List (Option (List ℕ))

abbrev pub shown_devices : Devices → Lists
shown_devices devices = record { names = devices.names; inputs = devices.inputs.items; edges = devices.edges.items }

abbrev pub lists_of : List DeviceWord → Lists
lists_of words = record { names = names_of words; inputs = inputs_of words; edges = edges_of words (names_of words) }

unfoldable pub devices_of : List DeviceWord → Option Lists
devices_of words = if are_devices words then Some (lists_of words) else None

-- 1 to 16 device words, which name devices
abbrev pub is_count : ℕ → Bool
is_count n = nat_le 1 n && nat_le n 16

unfoldable pub devices_in : List (List ℕ) → Option Lists
devices_in texts = if is_count (length texts) then option_and_then devices_of (words_in texts) else None
