-- What the words of `serve` ask for.
use Rattle.std.proofs.Common.{◌≡◌, ◌≢◌, ℕ, Bool, true, false, List, [], ◌∷◌, ◌++◌, map, is_some, Option, Some, None, IfSome, refl, sym, ◌∙◌, ap, subst, ◌⊎◌, inl, inr, arith}
use Rattle.std.specs.List.{AllZip}
use Rattle.gps_words.specs.declared.command.WordsFault.{WordsFault}
use Rattle.gps_words.specs.declared.command.WordsFault.TheVariants.{Refused, NoMemory}
use Rattle.gps_words.specs.Serve.{Serve}
use Rattle.gps_world.specs.Asking.{Asking, asked_nothing}
use Rattle.gps_world.specs.declared.place.Place.{Place}
use Rattle.serve_end.specs.declared.done.DeviceDone.{DeviceDone}
use Rattle.serve_end.specs.declared.served.Served.{Served}
use Rattle.serve_end.specs.Runs.{SourceFacts}
use Rattle.gps_serve.specs.AtEnd.{DaemonSettings, settings_in}
use Rattle.gps_serve.specs.Outcome.{OutcomeHasCause}
use Rattle.gps_serve.specs.Served.{BytesHeld, EdgesHeld}
use Rattle.gps_serve.proofs.Outcome.{nothing_served}
use Rattle.gps_world.specs.OpenInOrder.{AsksAll, AsksPrefix, behind_once, places_in}
use Rattle.gpsrelay.specs.Served.{AsksFor, AsksWhole, HaveEdges, HeldBehind, edge_place_of, fault_status, place_of, places_of, told_by, devices_asked}
use Rattle.gps_serve.specs.Told.{devices_in, devices_told}
use Rattle.serve_end.specs.declared.plan.Plan.{Plan}
use Rattle.serve_workers.specs.Writing.{AllowsClients}
use Rattle.session_core.specs.declared.subject.DeviceHeld.{DeviceHeld}

-- a world that was not asked was asked for the first of any places
asks_none : (asked : Asking) (places : List Place) (listen : List ℕ) → asked ≡ asked_nothing → AsksPrefix asked places listen
asks_none asked places listen none =
    ((places, ap (λ (a : Asking). a.places ++ places) (sym none)), inl (ap (λ (a : Asking). a.address) none))

pub asks_nothing : (o : Option Serve) (asked : Asking) → asked ≡ asked_nothing → AsksFor o asked
asks_nothing None asked none = none
asks_nothing (Some s) asked none = asks_none asked (places_of s) s.listen none

pub asks_for : (o : Option Serve) (s : Serve) (asked : Asking) (places : List Place) (listen : List ℕ) → o ≡ Some s → places ≡ places_of s → listen ≡ s.listen
    → AsksPrefix asked places listen → AsksFor o asked
asks_for o s asked places listen is places_are listen_is asks =
    subst (λ (x : Option Serve). AsksFor x asked) (sym is)
    (subst (λ (l : List ℕ). AsksPrefix asked (places_of s) l) listen_is (subst (λ (p : List Place). AsksPrefix asked p listen) places_are asks))

-- a status of the daemon is one of the command
pub one_of_command : (status : ℕ) → (status ≡ 0) ⊎ (status ≡ 3) ⊎ (status ≡ 7) ⊎ (status ≡ 8)
    → (status ≡ 0) ⊎ (status ≡ 2) ⊎ (status ≡ 3) ⊎ (status ≡ 7) ⊎ (status ≡ 8)
one_of_command status range = elim range [ inl zero ↦ inl zero | inr rest ↦ inr (inr rest) ]

-- and not that of an invalid command line
pub not_two : {P : Type 0} (status : ℕ) → (status ≡ 0) ⊎ (status ≡ 3) ⊎ (status ≡ 7) ⊎ (status ≡ 8) → status ≡ 2 → P
not_two status range two = elim range [
  | inl zero ↦ absurd (omega (arith, zero, two))
  | inr (inl three) ↦ absurd (omega (arith, three, two))
  | inr (inr (inl seven)) ↦ absurd (omega (arith, seven, two))
  | inr (inr (inr eight)) ↦ absurd (omega (arith, eight, two))
]

-- what holds of a book for what was told holds for the words
pub told_for : {B : Type 0} (P : DaemonSettings → B → Type 0) (o : Option Serve) (s : Serve) (told : DaemonSettings) (book : Option B) → o ≡ Some s → told ≡ told_by s
    → IfSome book (λ b. P told b) → IfSome book (λ b. IfSome o (λ t. P (told_by t) b))
told_for P o s told None is same so = tt
told_for P o s told (Some b) is same so =
    subst (λ (x : Option Serve). IfSome x (λ t. P (told_by t) b)) (sym is) (subst (λ (t : DaemonSettings). P t b) same so)

-- what holds for the words that were read
pub for_words : (P : Serve → Type 0) (o : Option Serve) (s : Serve) → o ≡ Some s → P s → IfSome o P
for_words P o s is so = subst (λ (x : Option Serve). IfSome x P) (sym is) so

pub asks_whole : (s : Serve) (asked : Asking) (places : List Place) (listen : List ℕ) → places ≡ places_of s → listen ≡ s.listen → AsksAll asked places listen
    → AsksWhole asked s
asks_whole s asked places listen places_are listen_is asks =
    subst (λ (l : List ℕ). AsksAll asked (places_of s) l) listen_is (subst (λ (p : List Place). AsksAll asked p listen) places_are asks)

presence : (edges : List (Option (List ℕ))) → map is_some (map edge_place_of edges) ≡ map is_some edges
presence [] = refl
presence (None ∷ edges) = ap (λ l. false ∷ l) (presence edges)
presence (Some path ∷ edges) = ap (λ l. true ∷ l) (presence edges)

pub have_edges : {S R : Type 0} (devices : List (DeviceDone S R)) (s : Serve) (places : List (Option Place)) → places ≡ map edge_place_of s.devices.edges
    → map (λ (d : DeviceDone S R). is_some d.edges) devices ≡ map is_some places → HaveEdges devices s
have_edges devices s places are so = so ∙ ap (map is_some) are ∙ presence s.devices.edges

pub held_behind : {S R : Type 0} (behind : Place → Option (List ℕ)) (facts : SourceFacts S) (devices : List (DeviceDone S R)) (s : Serve) (inputs : List Place)
    (edges : List (Option Place)) → inputs ≡ map place_of s.devices.inputs → edges ≡ map edge_place_of s.devices.edges
    → AllZip (BytesHeld (behind_once (inputs ++ places_in edges) behind) facts) inputs devices
    → AllZip (EdgesHeld (behind_once (inputs ++ places_in edges) behind) facts) edges devices
    → HeldBehind behind facts devices s
held_behind {S} {R} behind facts devices s inputs edges inputs_are edges_are bytes_so edges_so =
    let Held : List Place × List (Option Place) → Type 0 = λ p.
    AllZip (BytesHeld (behind_once (p.0 ++ places_in p.1) behind) facts) p.0 devices × AllZip (EdgesHeld (behind_once (p.0 ++ places_in p.1) behind) facts) p.1 devices in
    subst Held (λ i. (inputs_are i, edges_are i)) (bytes_so, edges_so)

-- the status of a daemon that served nothing, and whether it was out of memory
abbrev pub refused_with : WordsFault → ℕ × Bool
refused_with Refused = (2, false)
refused_with NoMemory = (7, true)

pub refused_status : (fault : WordsFault) (pair : ℕ × Bool) → pair ≡ refused_with fault → pair.0 ≡ fault_status fault
refused_status Refused pair is = ap (λ (p : ℕ × Bool). p.0) is
refused_status NoMemory pair is = ap (λ (p : ℕ × Bool). p.0) is

refused_seven : (fault : WordsFault) (pair : ℕ × Bool) → pair ≡ refused_with fault → pair.0 ≡ 7 → pair.1 ≡ true
refused_seven Refused pair is e = let two : pair.0 ≡ 2 = ap (λ (p : ℕ × Bool). p.0) is in absurd (omega (arith, two, e))
refused_seven NoMemory pair is e = ap (λ (p : ℕ × Bool). p.1) is

no_other : (fault : WordsFault) (status other : ℕ) → status ≡ fault_status fault → (other ≡ 2 → ⊥) → (other ≡ 7 → ⊥) → status ≡ other → ⊥
no_other Refused status other is two seven e = two (sym e ∙ is)
no_other NoMemory status other is two seven e = seven (sym e ∙ is)

-- Nothing was served, since the command line is invalid or it was out of memory.
pub refused_has_cause : {W R S K C G : Type 0} (faults : S → ℕ) (gate_faults : G → ℕ) (fault : WordsFault) (pair : ℕ × Bool) (served : Served W R S K C G)
    → served.book ≡ None → served.devices.items ≡ [] → served.sessions.items ≡ [] → served.gate ≡ None → served.status ≡ pair.0 → served.no_memory ≡ pair.1
    → pair ≡ refused_with fault → OutcomeHasCause faults gate_faults ⊥ ⊥ served
refused_has_cause faults gate_faults fault pair served book devices sessions gate status_is no_memory_is is =
    let status : served.status ≡ fault_status fault = status_is ∙ refused_status fault pair is in
    nothing_served faults gate_faults ⊥ ⊥ served book devices sessions gate
    (no_other fault served.status 3 status (λ e. omega (arith, e)) (λ e. omega (arith, e)))
    (no_other fault served.status 8 status (λ e. omega (arith, e)) (λ e. omega (arith, e)))
    (λ e. no_memory_is ∙ refused_seven fault pair is (sym status_is ∙ e))
    (no_other fault served.status 0 status (λ e. omega (arith, e)) (λ e. omega (arith, e)))

-- the status of a daemon that served nothing is one of the command
pub refused_range : (fault : WordsFault) (status : ℕ) → status ≡ fault_status fault → (status ≡ 0) ⊎ (status ≡ 2) ⊎ (status ≡ 3) ⊎ (status ≡ 7) ⊎ (status ≡ 8)
refused_range Refused status is = inr (inl is)
refused_range NoMemory status is = inr (inr (inr (inl is)))

pub two_or_seven : (fault : WordsFault) (status : ℕ) → status ≡ fault_status fault → (status ≡ 2) ⊎ (status ≡ 7)
two_or_seven Refused status is = inl is
two_or_seven NoMemory status is = inr is

pub refused_or : {A B : Type 0} (fault : WordsFault) (status : ℕ) → status ≡ fault_status fault → (status ≡ 2) ⊎ A ⊎ B ⊎ (status ≡ 7)
refused_or Refused status is = inl is
refused_or NoMemory status is = inr (inr (inr is))

-- it is 2 only if the command line is invalid
pub two_refused : {P : Type 0} (fault : WordsFault) (status : ℕ) → status ≡ fault_status fault → (fault ≡ Refused → P) → status ≡ 2 → P
two_refused Refused status is so two = so refl
two_refused NoMemory status is so two = let seven : status ≡ 7 = is in absurd (omega (arith, seven, two))

-- what the words ask for, as the plan says it
pub allowed_for : {K : Type 0} (asks written : K → Option (List ℕ)) (allows : K → List ℕ → Type 0) (behind : Place → Option (List ℕ)) (s : Serve) (asked : Option Serve) (plan : Plan)
    → asked ≡ Some s → settings_in plan ≡ told_by s → plan.inputs.items ≡ map place_of s.devices.inputs → plan.edges.items ≡ map edge_place_of s.devices.edges
    → IfSome asked (λ (s : Serve). AllowsClients asks written allows (devices_asked behind s)) → AllowsClients asks written allows (devices_in plan behind)
allowed_for asks written allows behind s asked plan is told inputs edges all =
    subst (AllowsClients asks written allows)
    (λ i. devices_told (behind_once (sym inputs i ++ places_in (sym edges i)) behind) (sym (ap (λ (d : DaemonSettings). d.names) told) i) (sym inputs i) (sym edges i))
    (subst (λ (o : Option Serve). IfSome o (λ (s : Serve). AllowsClients asks written allows (devices_asked behind s))) is all)

-- if the sinks allow anything
pub anything_allowed : {A K : Type 0} (asks written : K → Option (List ℕ)) (devices : A → List DeviceHeld) (asked : Option A)
    → IfSome asked (λ (s : A). AllowsClients asks written (λ _ _. Unit {0}) (devices s))
anything_allowed asks written devices None = tt
anything_allowed asks written devices (Some s) = λ sink piece may. tt

-- no door is handed back
pub no_door : {G : Type 0} (P : G → Type 0) (given : Option G) → given ≡ None → IfSome given P
no_door P None none = tt
no_door P (Some gate) none = absurd (cc none)

-- a world that was asked nothing was not asked for an address
pub unlistened : {P W : Type 0} (asked : W → Asking) (w w' : W) → w' ≡ w → asked w ≡ asked_nothing → (asked w').address ≢ None → P
unlistened {P} {W} asked w w' is none some =
    absurd (some (ap (λ (x : W). (asked x).address) is ∙ ap (λ (a : Asking). a.address) none))
