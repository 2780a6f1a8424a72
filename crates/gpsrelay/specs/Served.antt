-- What the words of `serve` ask of the world and of the daemon.
use Rattle.std.specs.Prelude.{◌≡◌, ℕ, List, ◌++◌, map, is_some, Option, Some, None}
use Rattle.std.specs.List.{AllZip}
use Rattle.gps_words.specs.declared.command.WordsFault.{WordsFault}
use Rattle.gps_words.specs.declared.command.WordsFault.TheVariants.{Refused, NoMemory}
use Rattle.gps_words.specs.declared.device.Input.{Input}
use Rattle.gps_words.specs.declared.device.Input.TheVariants as input
use Rattle.gps_words.specs.Serve.{Serve}
use Rattle.gps_world.specs.Asking.{Asking, asked_nothing}
use Rattle.gps_world.specs.declared.place.Place.{Place}
use Rattle.gps_world.specs.declared.place.Place.TheVariants as place
use Rattle.serve_end.specs.declared.done.DeviceDone.{DeviceDone}
use Rattle.serve_end.specs.Runs.{SourceFacts}
use Rattle.gps_serve.specs.AtEnd.{DaemonSettings}
use Rattle.gps_serve.specs.Served.{BytesHeld, EdgesHeld}
use Rattle.gps_world.specs.OpenInOrder.{AsksAll, AsksPrefix, behind_once, places_in}
use Rattle.gps_serve.specs.Told.{devices_told}
use Rattle.session_core.specs.declared.subject.DeviceHeld.{DeviceHeld}

-- the status if nothing was served: the words are invalid, or it was out of memory
abbrev pub fault_status : WordsFault → ℕ
fault_status Refused = 2
fault_status NoMemory = 7

abbrev pub place_of : Input → Place
place_of (input.File path) = place.File path
place_of (input.Tcp address) = place.Tcp address
place_of (input.Gpsd address) = place.Gpsd address

abbrev pub edge_place_of : Option (List ℕ) → Option Place
edge_place_of None = None
edge_place_of (Some path) = Some (place.File path)

-- the places of the words: the inputs in the order of the devices, and then those of their edges
abbrev pub places_of : Serve → List Place
places_of s = map place_of s.devices.inputs ++ places_in (map edge_place_of s.devices.edges)

-- what the daemon is told
abbrev pub told_by : Serve → DaemonSettings
told_by s =
    record {
      names = s.devices.names;
      limit = s.numbers.history;
      wait = s.numbers.wait;
      queue = s.numbers.queue;
      requests = s.numbers.requests;
      tries = s.numbers.monitor;
    }

-- The world is asked for the first of the places of the words, in order, and for their address. If the words ask for no daemon, it is asked for nothing.
abbrev pub AsksFor : Option Serve → Asking → Type 0
AsksFor None asked = asked ≡ asked_nothing
AsksFor (Some s) asked = AsksPrefix asked (places_of s) s.listen

-- it is asked for all places of the words, and for their address
abbrev pub AsksWhole : Asking → Serve → Type 0
AsksWhole asked s = AsksAll asked (places_of s) s.listen

-- Each device has a source of edges exactly if the words have a place for them.
abbrev pub HaveEdges : {S R : Type 0} → List (DeviceDone S R) → Serve → Type 0
HaveEdges {S} {R} devices s = map (λ (d : DeviceDone S R). is_some d.edges) devices ≡ map is_some s.devices.edges

-- Of each place that the words give once: the bytes taken from its source are the first of those that the world held at it, and all of them if the
-- device has ended.
abbrev pub HeldBehind : {S R : Type 0} → (Place → Option (List ℕ)) → SourceFacts S → List (DeviceDone S R) → Serve → Type 0
HeldBehind behind facts devices s =
    AllZip (BytesHeld (behind_once (places_of s) behind) facts) (map place_of s.devices.inputs) devices
    × AllZip (EdgesHeld (behind_once (places_of s) behind) facts) (map edge_place_of s.devices.edges) devices

-- What is told of the devices that the words ask for, if the places hold this. Nothing is told of a place that is given twice.
abbrev pub devices_asked : (Place → Option (List ℕ)) → Serve → List DeviceHeld
devices_asked behind s =
    devices_told (behind_once (places_of s) behind) s.devices.names (map place_of s.devices.inputs) (map edge_place_of s.devices.edges)
