-- What is told of the devices of a plan: what their places hold.
use Rattle.std.specs.Prelude.{ℕ, List, [], ◌∷◌, ◌++◌, Option, option_map}
use Rattle.gps_world.specs.declared.place.Place.{Place}
use Rattle.hub_promise.specs.Parts.{edges_in_source}
use Rattle.serve_end.specs.declared.plan.Plan.{Plan}
use Rattle.session_core.specs.declared.subject.DeviceHeld.{DeviceHeld}
use Rattle.gps_world.specs.OpenInOrder.{behind_once, places_in}

abbrev pub device_told : (Place → Option (List ℕ)) → List ℕ → Place → Option Place → DeviceHeld
device_told behind name input edges = record { name = name; bytes = behind input; edges = edges_in_source (option_map behind edges) }

-- of three lists of the same length: the name of each device, and where its bytes and its edges come from
abbrev pub devices_told : (Place → Option (List ℕ)) → List (List ℕ) → List Place → List (Option Place) → List DeviceHeld
devices_told behind [] inputs edges = []
devices_told behind (name ∷ names) [] edges = []
devices_told behind (name ∷ names) (input ∷ inputs) [] = []
devices_told behind (name ∷ names) (input ∷ inputs) (edge ∷ edges) = device_told behind name input edge ∷ devices_told behind names inputs edges

-- The devices of a plan, if the places hold this. Nothing is told of a place that is given twice.
abbrev pub devices_in : Plan → (Place → Option (List ℕ)) → List DeviceHeld
devices_in plan behind = devices_told (behind_once (plan.inputs.items ++ places_in plan.edges.items) behind) plan.names plan.inputs.items plan.edges.items
