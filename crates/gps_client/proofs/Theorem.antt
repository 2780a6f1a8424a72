-- A line is read exactly if it is the text of a value in range.
use Rattle.std.proofs.Common.{◌≡◌, ℕ, Bool, true, false, cond, List, ◌++◌, Option, Some, None, Result, Ok, Err, refl, sym, ap, ◌∙◌, subst, inl, inr, ◌⊎◌}
use Rattle.std.specs.Prelude.{if◌then◌else◌}
use Rattle.std.specs.Str.{bytes_eq}
use Rattle.std.specs.Cmp.Lexicographic.{bytes_decides}
use Rattle.json_line.specs.declared.names.Class.{Class}
use Rattle.json_line.specs.declared.names.Class.TheVariants as class
use Rattle.json_line.specs.Json.{line_end}
use Rattle.json_line.specs.Lines.{device, devices, error, pps, sky, toff, tpv, version, watch}
use Rattle.json_line.specs.Names.{head_of}
use Rattle.gps_client.specs.declared.fault.LineFault.{LineFault}
use Rattle.gps_client.specs.declared.fault.LineFault.TheVariants as fault
use Rattle.gps_client.specs.declared.line.Line.{Line}
use Rattle.gps_client.specs.declared.line.Line.TheVariants as line
use Rattle.gps_client.specs.Answers.{Reads}
use Rattle.gps_client.specs.Objects.{class_in, object_of, line_in}
use Rattle.gps_client.specs.Ranges.{InRange}
use Rattle.gps_client.specs.Reading.{Reading, ◌>>=◌, made}
use Rattle.gps_client.specs.Texts.{IsLineOf, object, polled}
use Rattle.gps_client.proofs.InView.{sky_whole}
use Rattle.gps_client.proofs.Objects.{toff_whole, pps_whole, device_whole, devices_whole, watch_whole, poll_whole, error_whole}
use Rattle.gps_client.proofs.Quoted.{word_full, word_sound}
use Rattle.gps_client.proofs.Rowed.{tpv_whole}
use Rattle.gps_client.proofs.Rows.{IsWhole, bind_some, pair_same}

made_sound : {X : Type 0} {R : X → Type 0} {t : X → List ℕ} {r : Reading X} → IsWhole R t r → (f : X → Line) → ((x : X) → R x → InRange (f x)) → ((x : X) → t x ≡ object (f x))
    → (b : List ℕ) (v : Line) (rest : List ℕ) → made f r b ≡ Some (v, rest) → InRange v × (b ≡ object v ++ rest)
made_sound {X} {R} {t} {r} is f to same b v rest e =
    let a = bind_some (r b) (λ x. Some (f x.0, x.1)) (v, rest) e in
    let p = pair_same (f a.0.0) v a.0.1 rest a.2 in
    let g = is.sound b a.0.0 a.0.1 a.1 in
    (subst InRange p.0 (to a.0.0 g.0), g.1 ∙ (ap (λ z. z ++ a.0.1) (same a.0.0 ∙ ap object p.0) ∙ ap (λ z. object v ++ z) p.1))

object_sound : (c : Class) (b : List ℕ) (v : Line) (rest : List ℕ) → object_of c b ≡ Some (v, rest) → InRange v × (b ≡ object v ++ rest)
unfolding object
object_sound class.Version b v rest e =
    let g = word_sound version line.Version v b rest e in
    (subst InRange g.0 tt, g.1 ∙ ap (λ z. object z ++ rest) g.0)
object_sound class.Devices b v rest e = made_sound devices_whole (λ d. line.Devices d) (λ x r. r) (λ x. refl) b v rest e
object_sound class.Device b v rest e = made_sound device_whole (λ d. line.Device d.0 d.1) (λ x r. r) (λ x. refl) b v rest e
object_sound class.Watch b v rest e = made_sound watch_whole (λ p. line.Watch p) (λ x r. r) (λ x. refl) b v rest e
object_sound class.Poll b v rest e = made_sound poll_whole (λ p. line.Poll p) (λ x r. r) (λ x. refl) b v rest e
object_sound class.Tpv b v rest e = made_sound tpv_whole (λ t. line.Tpv t.0 t.1) (λ x r. r) (λ x. refl) b v rest e
object_sound class.Sky b v rest e = made_sound sky_whole (λ s. line.Sky s.0 s.1) (λ x r. r) (λ x. refl) b v rest e
object_sound class.Toff b v rest e = made_sound toff_whole (λ t. line.Toff t.0 t.1) (λ x r. r) (λ x. refl) b v rest e
object_sound class.Pps b v rest e = made_sound pps_whole (λ t. line.Pps t.0 t.1) (λ x r. r) (λ x. refl) b v rest e
object_sound class.Error b v rest e = made_sound error_whole (λ f. line.Error f) (λ x r. r) (λ x. refl) b v rest e

-- the class of a value's line
abbrev class_for : Line → Class
class_for line.Version = class.Version
class_for (line.Devices listed) = class.Devices
class_for (line.Device path activated) = class.Device
class_for (line.Watch policy) = class.Watch
class_for (line.Poll p) = class.Poll
class_for (line.Tpv name fix) = class.Tpv
class_for (line.Sky name s) = class.Sky
class_for (line.Toff name pair) = class.Toff
class_for (line.Pps name pair) = class.Pps
class_for (line.Error f) = class.Error

class_found : (v : Line) (rest : List ℕ) → class_in (object v ++ rest) ≡ Some (class_for v)
unfolding object class_in head_of version devices device watch polled tpv sky toff pps error
class_found line.Version rest = refl
class_found (line.Devices listed) rest = refl
class_found (line.Device path activated) rest = refl
class_found (line.Watch policy) rest = refl
class_found (line.Poll p) rest = refl
class_found (line.Tpv name fix) rest = refl
class_found (line.Sky name s) rest = refl
class_found (line.Toff name pair) rest = refl
class_found (line.Pps name pair) rest = refl
class_found (line.Error f) rest = refl

made_full : {X : Type 0} {R : X → Type 0} {t : X → List ℕ} {r : Reading X} → IsWhole R t r → (f : X → Line) (x : X) (rest : List ℕ) → R x → made f r (t x ++ rest) ≡ Some (f x, rest)
made_full {X} is f x rest r = ap (λ (o : Option (X × List ℕ)). o >>= λ y. Some (f y.0, y.1)) (is.full x rest r)

object_full : (v : Line) (rest : List ℕ) → InRange v → object_of (class_for v) (object v ++ rest) ≡ Some (v, rest)
unfolding object
object_full line.Version rest r = word_full version line.Version rest
object_full (line.Devices listed) rest r = made_full devices_whole (λ d. line.Devices d) listed rest r
object_full (line.Device path activated) rest r = made_full device_whole (λ d. line.Device d.0 d.1) (path, activated) rest r
object_full (line.Watch policy) rest r = made_full watch_whole (λ p. line.Watch p) policy rest r
object_full (line.Poll p) rest r = made_full poll_whole (λ p. line.Poll p) p rest r
object_full (line.Tpv name fix) rest r = made_full tpv_whole (λ t. line.Tpv t.0 t.1) (name, fix) rest r
object_full (line.Sky name s) rest r = made_full sky_whole (λ s. line.Sky s.0 s.1) (name, s) rest r
object_full (line.Toff name pair) rest r = made_full toff_whole (λ t. line.Toff t.0 t.1) (name, pair) rest r
object_full (line.Pps name pair) rest r = made_full pps_whole (λ t. line.Pps t.0 t.1) (name, pair) rest r
object_full (line.Error f) rest r = made_full error_whole (λ f. line.Error f) f rest r

-- the whole line
abbrev closed : Option (Line × List ℕ) → Option Line
closed o = o >>= λ v. if bytes_eq v.1 line_end then Some v.0 else None

ended : (b : Bool) (x v : Line) → cond b (Some x) None ≡ Some v → (b ≡ true) × (x ≡ v)
ended true x v e = (refl, cc)
ended false x v e = absurd cc

pub line_sound : (b : List ℕ) (v : Line) → line_in b ≡ Some v → IsLineOf v b
unfolding line_in
line_sound b v e =
    let a = bind_some (class_in b) (λ c. closed (object_of c b)) v e in
    let o = bind_some (object_of a.0 b) (λ x. if bytes_eq x.1 line_end then Some x.0 else None) v a.2 in
    let t = ended (bytes_eq o.0.1 line_end) o.0.0 v o.2 in
    let g = object_sound a.0 b o.0.0 o.0.1 o.1 in
    let rest : o.0.1 ≡ line_end = (bytes_decides o.0.1 line_end).0 t.0 in
    record { in_range = subst InRange t.1 g.0; written = g.1 ∙ (ap (λ z. z ++ o.0.1) (ap object t.1) ∙ ap (λ z. object v ++ z) rest) }

pub line_full : (b : List ℕ) (v : Line) → IsLineOf v b → line_in b ≡ Some v
unfolding line_in
line_full b v is =
    ap line_in is.written
    ∙ (ap (λ (o : Option Class). o >>= λ c. closed (object_of c (object v ++ line_end))) (class_found v line_end)
    ∙ ap closed (object_full v line_end is.in_range))

-- what the call answers
pub says_ok : (r : Result Line LineFault) (b : List ℕ) → Reads r (line_in b) → (v : Line) → r ≡ Ok v → IsLineOf v b
says_ok (Ok x) b h v e = line_sound b v (h ∙ ap (λ y. Some y) (same e))
  where
    same : Path (Result Line LineFault) (Ok x) (Ok v) → x ≡ v
    same e = cc
says_ok (Err f) b h v e = absurd cc

pub finds : (r : Result Line LineFault) (b : List ℕ) → Reads r (line_in b) → (v : Line) → IsLineOf v b → (r ≡ Ok v) ⊎ (r ≡ Err fault.NoMemory)
finds (Ok x) b h v is = inl (same (sym h ∙ line_full b v is))
  where
    same : Path (Option Line) (Some x) (Some v) → Path (Result Line LineFault) (Ok x) (Ok v)
    same e = let s : x ≡ v = cc in ap (λ y. Ok y) s
finds (Err fault.NotALine) b h v is = absurd (let found = line_full b v is in cc)
finds (Err fault.NoMemory) b h v is = inr refl

pub says_no : (r : Result Line LineFault) (b : List ℕ) → Reads r (line_in b) → r ≡ Err fault.NotALine → (v : Line) → ¬ IsLineOf v b
says_no (Ok x) b h e v is = absurd cc
says_no (Err fault.NotALine) b h e v is = let found = line_full b v is in cc
says_no (Err fault.NoMemory) b h e v is = absurd cc

pub refuses : (r : Result Line LineFault) (b : List ℕ) → Reads r (line_in b) → ((v : Line) → ¬ IsLineOf v b) → (r ≡ Err fault.NotALine) ⊎ (r ≡ Err fault.NoMemory)
refuses (Ok x) b h never = absurd (never x (line_sound b x h))
refuses (Err fault.NotALine) b h never = inl refl
refuses (Err fault.NoMemory) b h never = inr refl
