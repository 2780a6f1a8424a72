-- What is handed on of joined bytes, and one step of the head.
use Rattle.std.proofs.Common.{◌≡◌, ◌≢◌, ◌≤◌, ◌<◌, ◌+◌, ◌==◌, ℕ, false, List, [], ◌∷◌, ◌++◌, Some, take, refl, sym, ap, ◌∙◌}
use Rattle.std.proofs.lemmas.Bool.{lt-ltb, le-ltb}
use Rattle.std.proofs.lemmas.List.Sums.{fold-append}
use Rattle.json_line.specs.declared.names.Class.{Class}
use Rattle.json_line.specs.declared.names.Class.TheVariants as class
use Rattle.gps_client.specs.Objects.{class_in}
use Rattle.upstream_laws.specs.declared.stage.Stage.{Stage}
use Rattle.upstream_laws.specs.declared.stage.Stage.TheVariants.{Inside, Behind, Nowhere}
use Rattle.upstream_laws.specs.Head.{Stand, behind, behind_line, bounded, can_begin, more_head, most, step, taken, within_line}
use Rattle.upstream_laws.proofs.Beginnings.{take_again}

-- a stand by its parts
abbrev pub stand_at : Stage → List ℕ → ℕ → Stand
stand_at stage begin count = record { stage = stage; begin = begin; count = count }

pub taken-append : (stand : Stand) (a b : List ℕ) → taken stand (a ++ b) ≡ taken (taken stand a) b
taken-append stand a b = fold-append step stand a b

pub stays_behind : (bytes begin : List ℕ) (count : ℕ) → taken (stand_at Behind begin count) bytes ≡ stand_at Behind begin count
stays_behind [] begin count = refl
stays_behind (byte ∷ bytes) begin count = stays_behind bytes begin count

pub stays_nowhere : (bytes begin : List ℕ) (count : ℕ) → taken (stand_at Nowhere begin count) bytes ≡ stand_at Nowhere begin count
stays_nowhere [] begin count = refl
stays_nowhere (byte ∷ bytes) begin count = stays_nowhere bytes begin count

pub all_handed : (bytes begin : List ℕ) (count : ℕ) → behind (stand_at Behind begin count) bytes ≡ bytes
all_handed [] begin count = refl
all_handed (byte ∷ bytes) begin count = refl

pub none_handed : (bytes begin : List ℕ) (count : ℕ) → behind (stand_at Nowhere begin count) bytes ≡ []
none_handed [] begin count = refl
none_handed (byte ∷ bytes) begin count = refl

-- cut anywhere
both : (stage : Stage) (begin : List ℕ) (count : ℕ) (a b : List ℕ)
    → behind (stand_at stage begin count) (a ++ b) ≡ behind (stand_at stage begin count) a ++ behind (taken (stand_at stage begin count) a) b
both stage begin count [] b = refl
both Inside begin count (byte ∷ a) b =
    let next : Stand = more_head (stand_at Inside begin count) byte in both next.stage next.begin next.count a b
both Behind begin count (byte ∷ a) b =
    sym (ap (λ t. (byte ∷ a) ++ t) (ap (λ s. behind s b) (stays_behind (byte ∷ a) begin count) ∙ all_handed b begin count))
both Nowhere begin count (byte ∷ a) b =
    sym (ap (λ s. behind s b) (stays_nowhere (byte ∷ a) begin count) ∙ none_handed b begin count)

pub behind-append : (stand : Stand) (a b : List ℕ) → behind stand (a ++ b) ≡ behind stand a ++ behind (taken stand a) b
behind-append stand a b = both stand.stage stand.begin stand.count a b

-- nothing is handed on before the head's end
unless_ended : (stage : Stage) (begin : List ℕ) (count : ℕ) (bytes : List ℕ)
    → ((taken (stand_at stage begin count) bytes).stage ≡ Behind → ⊥) → behind (stand_at stage begin count) bytes ≡ []
unless_ended stage begin count [] never = refl
unless_ended Inside begin count (byte ∷ bytes) never =
    let next : Stand = more_head (stand_at Inside begin count) byte in unless_ended next.stage next.begin next.count bytes never
unless_ended Behind begin count (byte ∷ bytes) never = absurd (never (ap (λ s. s.stage) (stays_behind (byte ∷ bytes) begin count)))
unless_ended Nowhere begin count (byte ∷ bytes) never = refl

pub nothing_handed : (stand : Stand) (bytes : List ℕ) → ((taken stand bytes).stage ≡ Behind → ⊥) → behind stand bytes ≡ []
nothing_handed stand bytes never = unless_ended stand.stage stand.begin stand.count bytes never

-- the stages after a line and within one
pub behind_other : (c : Class) → c ≢ class.Watch → behind_line (Some c) ≡ Inside
behind_other class.Version other = refl
behind_other class.Devices other = refl
behind_other class.Device other = refl
behind_other class.Watch other = absurd (other refl)
behind_other class.Poll other = refl
behind_other class.Tpv other = refl
behind_other class.Sky other = refl
behind_other class.Toff other = refl
behind_other class.Pps other = refl
behind_other class.Error other = refl

pub bounded_few : (count : ℕ) (stage : Stage) → count < most → bounded count stage ≡ stage
bounded_few count Inside few = rw (lt-ltb count most few) refl
bounded_few count Behind few = refl
bounded_few count Nowhere few = refl

pub bounded_many : (count : ℕ) → most ≤ count → bounded count Inside ≡ Nowhere
bounded_many count many = rw (le-ltb count most many) refl

-- one byte
pub step_end : (text : List ℕ) (count : ℕ)
    → more_head (stand_at Inside (take 18 text) count) 10 ≡ stand_at (bounded (count + 1) (behind_line (class_in (take 18 text)))) [] (count + 1)
unfolding more_head
step_end text count = refl

pub step_on : (text : List ℕ) (count byte : ℕ) → (byte == 10) ≡ false → more_head (stand_at Inside (take 18 text) count) byte
    ≡ stand_at (bounded (count + 1) (within_line (can_begin (take 18 (text ++ byte ∷ []))))) (take 18 (text ++ byte ∷ [])) (count + 1)
unfolding more_head
step_on text count byte on = rw (on, take_again 18 text (byte ∷ [])) refl
