-- The last serial time among reports.
use Rattle.std.proofs.Common.{◌≡◌, refl, sym, ap, ◌∙◌, Bool, true, false, ◌&&◌, List, [], ◌∷◌, Option, Some, None}
use Rattle.std.specs.List.{fold, list_all}
use Rattle.std.specs.Option.{option_or}
use Rattle.gps_report.specs.declared.fix.Pair.{Pair}
use Rattle.gps_report.specs.declared.report.Body.{Body}
use Rattle.gps_report.specs.declared.report.Body.TheVariants.{Packet as PacketBody, Tpv, Sky, Toff, Pps, Device}
use Rattle.epoch_core.specs.Epochs.{leaves_a_second}
use Rattle.device_core.specs.Reports.{last_toff, newer, toff_in}
use Rattle.device_core.specs.Drafts.{is_low}

or_assoc : {X : Type 0} (a b c : Option X) → option_or (option_or a b) c ≡ option_or a (option_or b c)
or_assoc None b c = refl
or_assoc (Some x) b c = refl

pub folded : (bodies : List Body) (before : Option Pair) → fold newer before bodies ≡ option_or (last_toff bodies) before
folded [] before = refl
folded (body ∷ bodies) before = folded bodies (newer before body) ∙ sym (or_assoc (last_toff bodies) (toff_in body) before)

pub fold_is : (bodies : List Body) (before result : Option Pair) → result ≡ fold newer before bodies → result ≡ option_or (last_toff bodies) before
fold_is bodies before result e = e ∙ folded bodies before

or_low : (a b : Option Pair) → is_low a ≡ true → is_low b ≡ true → is_low (option_or a b) ≡ true
or_low None b low_a low_b = low_b
or_low (Some pair) b low_a low_b = low_a

first_part : (a b : Bool) → (a && b) ≡ true → a ≡ true
first_part true b e = refl
first_part false b e = e

second_part : (a b : Bool) → (a && b) ≡ true → b ≡ true
second_part true b e = e
second_part false b e = absurd (cc)

body_low : (body : Body) → leaves_a_second body ≡ true → is_low (toff_in body) ≡ true
body_low (PacketBody packet) low = refl
body_low (Tpv fix) low = refl
body_low (Sky sky) low = refl
body_low (Toff pair) low = low
body_low (Pps pair) low = refl
body_low (Device first) low = refl

pub last_low : (bodies : List Body) → list_all leaves_a_second bodies ≡ true → is_low (last_toff bodies) ≡ true
last_low [] low = refl
last_low (body ∷ bodies) low =
    or_low (last_toff bodies) (toff_in body) (last_low bodies (second_part _ _ low)) (body_low body (first_part _ _ low))

pub newer_low : (bodies : List Body) (before result : Option Pair) → result ≡ option_or (last_toff bodies) before
    → list_all leaves_a_second bodies ≡ true → is_low before ≡ true → is_low result ≡ true
newer_low bodies before result e low before_low = ap is_low e ∙ or_low (last_toff bodies) before (last_low bodies low) before_low
