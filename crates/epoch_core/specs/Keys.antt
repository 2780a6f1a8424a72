-- Numbers that distinguish satellites, and used ids: equal numbers for equal ones.
use Rattle.std.specs.Prelude.{ℕ, ◌+◌, ◌-◌, ◌*◌, ◌<◌, Bool, false, ◌&&◌, cond, List, Option, None, Some, nat_eq, nat_le, map, length, ◌≡◌}
use Rattle.std.specs.List.{slice_get, IsDistinct}
use Rattle.std.specs.Ordering.{nat_cmp}
use Rattle.std.specs.BTreeMap.{BTreeMap, get}
use Rattle.gps_report.specs.Systems.{gps, galileo, beidou, glonass}
use Rattle.gps_report.specs.declared.satellite.Satellite.{Satellite}
use Rattle.epoch_core.specs.declared.used_id.UsedId.{UsedId}
use Rattle.epoch_core.specs.Satellites.{system_of}

-- the place of a system that sentences name, with 5 for all others
abbrev pub system_place : Option ℕ → ℕ
system_place None = 0
system_place (Some g) = cond (nat_eq g gps) 1 (cond (nat_eq g galileo) 2 (cond (nat_eq g beidou) 3 (cond (nat_eq g glonass) 4 5)))

abbrev pub signal_place : Option ℕ → ℕ
signal_place None = 0
signal_place (Some n) = n + 1

abbrev pub system_number : Option ℕ → ℕ
system_number None = 0
system_number (Some g) = g

-- 84,915 numbers for the satellites that sentences can name, and 65,536 for the others, of frames
unfoldable pub satellite_key : Satellite → ℕ
satellite_key s =
    cond (nat_le 1 s.prn && nat_le s.prn 999 && nat_le (system_place (system_of s)) 4)
    ((system_place (system_of s) * 999 + (s.prn - 1)) * 17 + signal_place s.signal)
    (84_915 + (system_number (system_of s) * 256 + (s.prn - 100 * system_number (system_of s))))

-- 4,995 numbers
unfoldable pub used_id_key : UsedId → ℕ
used_id_key a = system_place a.system * 999 + (a.id - 1)

-- a list of up to this length is searched one by one
abbrev pub few : ℕ
few = 64

-- the map knows the place of each element of a longer list; what else it holds does no harm
pub record IsPlaced {X : Type 0} (key : X → ℕ) (items : List X) (places : BTreeMap ℕ ℕ) : Type 0 where
  pub found : (i : ℕ) (x : X) → slice_get items i ≡ Some x → get nat_cmp places (key x) ≡ Some i

pub record IsOnce {X : Type 0} (key : X → ℕ) (items : List X) (places : BTreeMap ℕ ℕ) : Type 0 where
  pub distinct : IsDistinct nat_eq (map key items)
  pub placed : few < length items → IsPlaced key items places

abbrev pub has_it : {X : Type 0} → (X → ℕ) → ℕ → Option X → Bool
has_it key k None = false
has_it key k (Some x) = nat_eq (key x) k

-- the element at the place, if there is one, has the key
abbrev pub at_place : {X : Type 0} → (X → ℕ) → List X → ℕ → Option ℕ → Bool
at_place key items k None = false
at_place key items k (Some i) = has_it key k (slice_get items i)

-- two elements are the same by their keys
abbrev pub by_key : {X : Type 0} → (X → ℕ) → X → X → Bool
by_key key x y = nat_eq (key x) (key y)
