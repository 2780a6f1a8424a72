-- What a world was asked.
use Rattle.std.specs.Prelude.{ℕ, List, [], ◌∷◌, ◌++◌, Option, Some, None}
use Rattle.gps_world.specs.declared.place.Place.{Place}

-- the places of the inputs, in order, and the address that was listened to
pub record Asking : Type 0 where
  pub places : List Place
  pub address : Option (List ℕ)

abbrev pub asked_nothing : Asking
asked_nothing = record { places = []; address = None }

-- for one place more
abbrev pub asked_for : Place → Asking → Asking
asked_for place asking = record asking { places = asking.places ++ place ∷ [] }

abbrev pub listened_to : List ℕ → Asking → Asking
listened_to address asking = record asking { address = Some address }
