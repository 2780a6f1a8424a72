-- What a world gives, and what was known of it before.
use Rattle.std.specs.Prelude.{◌≡◌, ℕ, List, [], Option, Some, None}
use Rattle.gps_outside.specs.Told.{Stream}
use Rattle.gps_world.specs.declared.world.Opened.{Opened}
use Rattle.gps_world.specs.declared.world.Opened.TheVariants.{Ready, Failed}

-- what holds of the object that an opening gave
abbrev pub IfReady : {T : Type 0} → Opened T → (T → Type 0) → Type 0
IfReady (Ready object) P = P object
IfReady Failed P = Unit {0}

-- if something was known before, the object shows the same
abbrev pub Tells : {X : Type 0} → Option X → Option X → Type 0
Tells None shown = Unit {0}
Tells (Some x) shown = shown ≡ Some x

-- if the bytes of a place are known, they are all left in the source
abbrev pub IsAllLeft : Option (List ℕ) → Option Stream → Type 0
IsAllLeft None content = Unit {0}
IsAllLeft (Some bytes) content = content ≡ Some (record { taken = []; left = bytes })
