-- The stamps of a clock that several readers share.
use Rattle.std.specs.Prelude.{◌≡◌, List, Option, Some, None}
use Rattle.std.specs.List.{IsAmong}
use Rattle.gps_fixed.specs.Moment.{Moment}
use Rattle.gps_outside.specs.Ticks.{Dial, GivesAll}

-- these are the stamps that the clock may give, if that is told
abbrev pub MayGive : Option (List Moment) → Option Dial → Type 0
MayGive None stamps = Unit {0}
MayGive (Some may) None = ⊥
MayGive (Some may) (Some dial) = dial.may ≡ may

-- the stamp is one of those, if they are told
abbrev pub IsAllowed : Option (List Moment) → Moment → Type 0
IsAllowed None at = Unit {0}
IsAllowed (Some may) at = IsAmong may at

-- the clock gave these stamps one after another, if it tells its stamps
abbrev pub Gave : Option Dial → List Moment → Type 0
Gave None stamps = Unit {0}
Gave (Some first) stamps = (now : Dial) × GivesAll stamps first now
