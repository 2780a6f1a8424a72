-- Places that are asked for one after another.
use Rattle.std.proofs.Common.{◌≡◌, ℕ, ◌≤◌, ◌<◌, ◌+◌, ◌⊎◌, inl, List, [], ◌∷◌, ◌++◌, length, Option, Some, None, refl, sym, ◌∙◌, ap, subst, append-nil, append_assoc, arith}
use Rattle.std.specs.Option.{option_to_list}
use Rattle.std.proofs.lemmas.List.{length-append}
use Rattle.gps_world.specs.Asking.{Asking}
use Rattle.gps_world.specs.declared.place.Place.{Place}
use Rattle.gps_world.specs.declared.opening.Stop.{Stop}
use Rattle.gps_world.specs.declared.opening.Stop.TheVariants.{Input, Listen, NoMemory}
use Rattle.gps_world.specs.OpenInOrder.{WorldFaults, FaultsStay, StopsFor, IsAsking, places_in}

pub stays : (f : WorldFaults) → FaultsStay f f
stays f = record { input = omega arith; listen = omega arith }

pub stay_on : (f g h : WorldFaults) → FaultsStay f g → FaultsStay g h → FaultsStay f h
stay_on f g h a b = record {
  input = let p = a.input in let q = b.input in omega arith;
  listen = let p = a.listen in let q = b.listen in omega arith;
}

-- what rose after counts that do not fall
pub stops_after : (stop : Stop) (f g h : WorldFaults) → FaultsStay f g → StopsFor stop g h → StopsFor stop f h
stops_after Input f g h a s = let p = a.input in omega (arith, s)
stops_after Listen f g h a s = let p = a.listen in omega (arith, s)
stops_after NoMemory f g h a s = tt

pub begins : (places : List Place) (old : Asking) (f : WorldFaults) → IsAsking places places old old f f
begins places old f = record { asked = refl; address = refl; faults_stay = stays f }

-- a place more
pub asks_more : (places left : List Place) (place : Place) (old mid new : Asking) (f g h : WorldFaults)
    → IsAsking places (place ∷ left) old mid f g → new.places ≡ mid.places ++ place ∷ [] → new.address ≡ mid.address → FaultsStay g h
    → IsAsking places left old new f h
asks_more places left place old mid new f g h so asked address stay = record {
  asked = ap (λ front. front ++ left) asked ∙ append_assoc mid.places (place ∷ []) left ∙ so.asked;
  address = address ∙ so.address;
  faults_stay = stay_on f g h so.faults_stay stay;
}

-- there is room for a place that is left
pub has_room : (places left : List Place) (place : Place) (old mid : Asking) (f g : WorldFaults)
    → IsAsking places (place ∷ left) old mid f g → length old.places + length places ≤ 16 → length mid.places < 16
has_room places left place old mid f g so few =
    let same : length (mid.places ++ place ∷ left) ≡ length (old.places ++ places) = ap length so.asked in
    omega (arith, length-append mid.places (place ∷ left), length-append old.places places)

pub places_in_step : (place : Option Place) (left : List (Option Place)) → places_in (place ∷ left) ≡ option_to_list place ++ places_in left
places_in_step None left = refl
places_in_step (Some place) left = refl

-- the same, if the places that are left are known by a step
pub room_at : {places now left : List Place} {place : Place} {old mid : Asking} {f g : WorldFaults}
    → now ≡ place ∷ left → IsAsking places now old mid f g → length old.places + length places ≤ 16 → length mid.places < 16
room_at {places} {now} {left} {place} {old} {mid} {f} {g} is so few =
    has_room places left place old mid f g (subst (λ l. IsAsking places l old mid f g) is so) few

-- so far it asks for one place more
pub asks_at : {places now left : List Place} {place : Place} {old mid new : Asking} {f g h : WorldFaults}
    → now ≡ place ∷ left → IsAsking places now old mid f g → new.places ≡ mid.places ++ place ∷ [] → new.address ≡ mid.address → FaultsStay g h
    → IsAsking places left old new f h
asks_at {places} {now} {left} {place} {old} {mid} {new} {f} {g} {h} is so asked address stay =
    asks_more places left place old mid new f g h (subst (λ l. IsAsking places l old mid f g) is so) asked address stay

-- it stopped at a place
pub stopped_at : {places now left : List Place} {place : Place} {old mid new : Asking} {f g : WorldFaults}
    → now ≡ place ∷ left → IsAsking places now old mid f g → new.places ≡ mid.places ++ place ∷ [] → new.address ≡ mid.address
    → ((rest : List Place) × (old.places ++ places ≡ new.places ++ rest)) × (new.address ≡ old.address)
stopped_at {places} {now} {left} {place} {old} {mid} {new} {f} {g} is so asked address =
    let all : mid.places ++ place ∷ left ≡ old.places ++ places = ap (λ l. mid.places ++ l) (sym is) ∙ so.asked in
    let front : new.places ++ left ≡ mid.places ++ place ∷ left = ap (λ l. l ++ left) asked ∙ append_assoc mid.places (place ∷ []) left in
    ((left, sym all ∙ sym front), address ∙ so.address)

-- of edges: there is room for the place of the next device, if it has one
pub edge_room_at : {places : List Place} {now left : List (Option Place)} {place : Option Place} {old mid : Asking} {f g : WorldFaults}
    → now ≡ place ∷ left → IsAsking places (places_in now) old mid f g → length old.places + length places ≤ 16
    → length mid.places + length (option_to_list place) ≤ 16
edge_room_at {places} {now} {left} {place} {old} {mid} {f} {g} is so few =
    let same : length (mid.places ++ (option_to_list place ++ places_in left)) ≡ length (old.places ++ places) =
    ap (λ l. length (mid.places ++ l)) (sym (places_in_step place left) ∙ ap places_in (sym is)) ∙ ap length so.asked in
    omega (arith, length-append mid.places (option_to_list place ++ places_in left), length-append (option_to_list place) (places_in left), length-append old.places places)

pub edge_asks_at : {places : List Place} {now left : List (Option Place)} {place : Option Place} {old mid new : Asking} {f g h : WorldFaults}
    → now ≡ place ∷ left → IsAsking places (places_in now) old mid f g → new.places ≡ mid.places ++ option_to_list place → new.address ≡ mid.address → FaultsStay g h
    → IsAsking places (places_in left) old new f h
edge_asks_at {places} {now} {left} {place} {old} {mid} {new} {f} {g} {h} is so asked address stay = record {
  asked =
      ap (λ front. front ++ places_in left) asked ∙ append_assoc mid.places (option_to_list place) (places_in left)
      ∙ ap (λ l. mid.places ++ l) (sym (places_in_step place left) ∙ ap places_in (sym is)) ∙ so.asked;
  address = address ∙ so.address;
  faults_stay = stay_on f g h so.faults_stay stay;
}

pub edge_stopped_at : {places : List Place} {now left : List (Option Place)} {place : Option Place} {old mid new : Asking} {f g : WorldFaults}
    → now ≡ place ∷ left → IsAsking places (places_in now) old mid f g → new.places ≡ mid.places ++ option_to_list place → new.address ≡ mid.address
    → ((rest : List Place) × (old.places ++ places ≡ new.places ++ rest)) × (new.address ≡ old.address)
edge_stopped_at {places} {now} {left} {place} {old} {mid} {new} {f} {g} is so asked address =
    let all : mid.places ++ (option_to_list place ++ places_in left) ≡ old.places ++ places =
    ap (λ l. mid.places ++ l) (sym (places_in_step place left) ∙ ap places_in (sym is)) ∙ so.asked in
    let front : new.places ++ places_in left ≡ mid.places ++ (option_to_list place ++ places_in left) =
    ap (λ l. l ++ places_in left) asked ∙ append_assoc mid.places (option_to_list place) (places_in left) in
    ((places_in left, sym all ∙ sym front), address ∙ so.address)

-- it stopped at the inputs
pub stopped_early : {Heard : Type 0} (inputs edges : List Place) (old new : Asking) → old.address ≡ None
    → ((rest : List Place) × (old.places ++ inputs ≡ new.places ++ rest)) × (new.address ≡ old.address)
    → ((rest : List Place) × (old.places ++ (inputs ++ edges) ≡ new.places ++ rest)) × ((new.address ≡ None) ⊎ Heard)
stopped_early inputs edges old new none stopped = (
  (
    stopped.0.0 ++ edges,
    sym (append_assoc old.places inputs edges) ∙ ap (λ l. l ++ edges) stopped.0.1 ∙ append_assoc new.places stopped.0.0 edges,
  ),
  inl (stopped.1 ∙ none),
)

-- Places asked for in two parts: all of both, or the first part and some of the second.
pub asked_both : (old mid new last first second : List Place) → mid ≡ old ++ first → new ≡ mid ++ second → last ≡ new → last ≡ old ++ (first ++ second)
asked_both old mid new last first second one two same = same ∙ two ∙ ap (λ l. l ++ second) one ∙ append_assoc old first second

pub asked_some : (old mid new first second rest : List Place) → mid ≡ old ++ first → mid ++ second ≡ new ++ rest → old ++ (first ++ second) ≡ new ++ rest
asked_some old mid new first second rest one two = sym (append_assoc old first second) ∙ ap (λ l. l ++ second) (sym one) ∙ two

pub no_more : {A : Type 0} (xs : List A) → length xs ≡ 0 → xs ≡ []
no_more [] none = refl
no_more (x ∷ xs) none = absurd (omega arith)

-- at the start nothing was asked for, and at the end nothing is left
pub begins_at : {places left : List Place} {old : Asking} {f : WorldFaults} → left ≡ places → IsAsking places left old old f f
begins_at {places} {left} {old} {f} all =
    let P : List Place → Type 0 = λ l. IsAsking places l old old f f in
    subst P (sym all) (begins places old f)

pub asked_all : {places left : List Place} {old new : Asking} {f g : WorldFaults} → IsAsking places left old new f g → length left ≡ 0
    → (new.places ≡ old.places ++ places) × (new.address ≡ old.address)
asked_all {places} {left} {old} {new} so none = (sym (append-nil new.places) ∙ ap (λ l. new.places ++ l) (sym (no_more left none)) ∙ so.asked, so.address)
