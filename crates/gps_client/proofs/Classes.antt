-- The class of a text is the one whose head begins it.
use Rattle.std.proofs.Common.{◌≡◌, ℕ, Bool, true, false, cond, List, ◌++◌, Option, Some, None, refl, sym, ap, ◌∙◌, subst, ◌↔◌, length, take, drop, take-append-drop}
use Rattle.std.specs.Cmp.Lexicographic.{bytes_decides}
use Rattle.json_line.specs.declared.names.Class.{Class}
use Rattle.json_line.specs.declared.names.Class.TheVariants as class
use Rattle.json_line.specs.Names.{head_of}
use Rattle.gps_client.specs.Objects.{begins, class_in}
use Rattle.gps_client.specs.Texts.{Begins}

-- no head is found after another
pub class_back : (c : Class) (rest : List ℕ) → class_in (head_of c ++ rest) ≡ Some c
unfolding class_in head_of
class_back class.Version rest = refl
class_back class.Devices rest = refl
class_back class.Device rest = refl
class_back class.Watch rest = refl
class_back class.Poll rest = refl
class_back class.Tpv rest = refl
class_back class.Sky rest = refl
class_back class.Toff rest = refl
class_back class.Pps rest = refl
class_back class.Error rest = refl

choose : (P : Class → Type 0) (b : Bool) (x : Class) (other : Option Class) → (b ≡ true → P x) → ((c : Class) → other ≡ Some c → P c) → (c : Class) → cond b (Some x) other ≡ Some c → P c
choose P true x other here there c e = subst P (same x c e) (here refl)
  where
    same : (x c : Class) → Path (Option Class) (Some x) (Some c) → x ≡ c
    same x c e = cc
choose P false x other here there c e = there c e

class_begins : (text : List ℕ) (c : Class) → class_in text ≡ Some c → begins c text ≡ true
unfolding class_in
class_begins text =
    let P : Class → Type 0 = λ c. begins c text ≡ true in
    choose P (begins class.Tpv text) class.Tpv _ (λ h. h)
    (choose P (begins class.Sky text) class.Sky _ (λ h. h)
    (choose P (begins class.Toff text) class.Toff _ (λ h. h)
    (choose P (begins class.Pps text) class.Pps _ (λ h. h)
    (choose P (begins class.Device text) class.Device _ (λ h. h)
    (choose P (begins class.Devices text) class.Devices _ (λ h. h)
    (choose P (begins class.Watch text) class.Watch _ (λ h. h)
    (choose P (begins class.Poll text) class.Poll _ (λ h. h)
    (choose P (begins class.Version text) class.Version _ (λ h. h)
    (choose P (begins class.Error text) class.Error _ (λ h. h) (λ c e. cc))))))))))

class_sound : (text : List ℕ) (c : Class) → class_in text ≡ Some c → Begins c text
class_sound text c e =
    let head : take (length (head_of c)) text ≡ head_of c = (bytes_decides (take (length (head_of c)) text) (head_of c)).0 (class_begins text c e) in
    (drop (length (head_of c)) text, sym (take-append-drop (length (head_of c)) text) ∙ ap (λ t. t ++ drop (length (head_of c)) text) head)

class_full : (text : List ℕ) (c : Class) → Begins c text → class_in text ≡ Some c
class_full text c h = ap class_in h.1 ∙ class_back c h.0

pub class_exact : (r : Option Class) (text : List ℕ) → r ≡ class_in text → (c : Class) → (r ≡ Some c) ↔ Begins c text
class_exact r text e c = (λ h. class_sound text c (sym e ∙ h), λ h. e ∙ class_full text c h)

pub class_none : (r : Option Class) (text : List ℕ) → r ≡ class_in text → (r ≡ None) ↔ ((c : Class) → ¬ Begins c text)
class_none r text e = (λ h c b. let f = class_full text c b in cc, λ never. e ∙ nothing (class_in text) refl never)
  where
    nothing : (o : Option Class) → class_in text ≡ o → ((c : Class) → ¬ Begins c text) → class_in text ≡ None
    nothing None f never = f
    nothing (Some c) f never = absurd (never c (class_sound text c f))
