-- The lines of a script, and the event that each of them is. What earlier lines decide, as which devices there are, is not said here.
use Rattle.std.specs.Prelude.{ℕ, ◌≤◌, length, ◌==◌, List, [], ◌∷◌, Option, Some, None, option_and_then, unwrap_or, codes, if◌then◌else◌}
use Rattle.std.specs.Option.{option_map}
use Rattle.std.specs.Str.{bytes_eq}
use Rattle.gps_fixed.specs.Limits.{longest_piece, most_queue}
use Rattle.gps_report.specs.Name.{is_name}
use Rattle.pps_edges.specs.Scan.{edge_in, number_in}
use Rattle.replay_script.specs.declared.event.ScriptEvent.{ScriptEvent}
use Rattle.replay_script.specs.declared.event.ScriptEvent.TheVariants.{Nothing, Device, Segment, Feed, Edge, End, Lose, Open, Input, Hang, Take, Monitor, Store, Load}
use Rattle.replay_script.specs.declared.payload.Payload.{Payload}
use Rattle.replay_script.specs.declared.payload.Payload.TheVariants.{Hex, Sentence, Part, Request}
use Rattle.replay_script.specs.Words.{halves, number_and_count, numbered, stamped, bytes_in}

-- a name
unfoldable pub device_in : List ℕ → Option ScriptEvent
device_in text = if is_name text then Some (Device text) else None

-- a device, a stamp, and what is fed
unfoldable pub feed_in : Payload → List ℕ → Option ScriptEvent
feed_in payload text =
    option_and_then (λ d. option_and_then (λ s. option_map (λ bytes. Feed d.0 s.0 bytes) (bytes_in payload s.1)) (stamped d.1)) (numbered text)

-- a session, and what is sent
unfoldable pub input_in : Payload → List ℕ → Option ScriptEvent
input_in payload text = option_and_then (λ s. option_map (λ bytes. Input s.0 bytes) (bytes_in payload s.1)) (numbered text)

-- a device, and the line of an edge
unfoldable pub edge_at : List ℕ → Option ScriptEvent
edge_at text = option_and_then (λ d. option_map (λ edge. Edge d.0 edge) (edge_in d.1)) (numbered text)

-- a session alone, or with the capacity of its outlet
abbrev pub open_alone : List ℕ → Option ℕ → Option ScriptEvent
open_alone text (Some session) = Some (Open session None)
open_alone text None = option_map (λ p. Open p.0 (Some p.1)) (number_and_count 1 most_queue text)

unfoldable pub open_in : List ℕ → Option ScriptEvent
open_in text = open_alone text (number_in text)

-- a monitor, and its unit
unfoldable pub monitor_in : List ℕ → Option ScriptEvent
monitor_in text = option_and_then (λ m. option_map (λ u. Monitor m.0 u) (number_in m.1)) (numbered text)

-- the words that are followed by a name or bytes
unfoldable pub bytes_event : List ℕ → List ℕ → Option (Option ScriptEvent)
bytes_event word rest =
    if bytes_eq word (codes "device") then Some (device_in rest)
    else (if bytes_eq word (codes "bytes") then Some (feed_in Hex rest)
    else (if bytes_eq word (codes "text") then Some (feed_in Sentence rest)
    else (if bytes_eq word (codes "part") then Some (input_in Part rest)
    else (if bytes_eq word (codes "say") then Some (input_in Request rest)
    else (if bytes_eq word (codes "input") then Some (input_in Hex rest)
    else None)))))

-- the words that are followed by numbers or an edge
unfoldable pub number_event : List ℕ → List ℕ → Option ScriptEvent
number_event word rest =
    if bytes_eq word (codes "segment") then option_map (λ p. Segment p.0 p.1) (number_and_count 0 1_073_741_823 rest)
    else (if bytes_eq word (codes "edge") then edge_at rest
    else (if bytes_eq word (codes "end") then option_map (λ d. End d) (number_in rest)
    else (if bytes_eq word (codes "lose") then option_map (λ d. Lose d) (number_in rest)
    else (if bytes_eq word (codes "open") then open_in rest
    else (if bytes_eq word (codes "hang") then option_map (λ s. Hang s) (number_in rest)
    else (if bytes_eq word (codes "take") then option_map (λ p. Take p.0 p.1) (number_and_count 1 most_queue rest)
    else (if bytes_eq word (codes "monitor") then monitor_in rest
    else (if bytes_eq word (codes "store") then option_map (λ p. Store p.0 p.1) (number_and_count 1 1_000 rest)
    else (if bytes_eq word (codes "load") then option_map (λ p. Load p.0 p.1) (number_and_count 1 1_000 rest)
    else None)))))))))

abbrev pub word_event : List ℕ → List ℕ → Option ScriptEvent
word_event word rest = unwrap_or (bytes_event word rest) (number_event word rest)

-- an empty line and a line that begins with `#` are nothing; each other is a word, a space, and the word's arguments
unfoldable pub event_in : List ℕ → Option ScriptEvent
event_in [] = Some Nothing
event_in (c ∷ line) =
    if c == 35 then Some Nothing else option_and_then (λ p. word_event p.0 p.1) (halves 32 (c ∷ line))

-- 1 to 512 bytes
abbrev pub IsPiece : List ℕ → Type 0
IsPiece bytes = (1 ≤ length bytes) × (length bytes ≤ longest_piece)

-- 1 to 65,536 items, if a number is given
abbrev pub IsCap : Option ℕ → Type 0
IsCap None = Unit {0}
IsCap (Some cap) = (1 ≤ cap) × (cap ≤ most_queue)

-- the ranges of an event's bytes and numbers
abbrev pub Fits : ScriptEvent → Type 0
Fits (Segment unit first) = first ≤ 1_073_741_823
Fits (Feed device at bytes) = IsPiece bytes
Fits (Open session cap) = IsCap cap
Fits (Input session bytes) = IsPiece bytes
Fits event = Unit {0}
