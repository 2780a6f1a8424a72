-- At a script's end each unit is published as far as its numbers go, and its line is written.
use Rattle.std.proofs.Common.{◌≡◌, ◌≢◌, ◌<◌, ◌*◌, ℕ, zero, suc, ◌+◌, ◌-◌, Bool, true, false, List, [], ◌∷◌, ◌++◌, length, set, get_or, slice_get, slice_index, if◌then◌else◌, Option, Some, None, Result, Ok, Err, OnOk, option_map, refl, sym, ap, ◌∙◌, subst, inl, inr, append-nil, append_assoc, arith}
use Rattle.std.specs.List.{flat_map, range_with_len}
use Rattle.std.proofs.lemmas.Bool.{cases_lt, le-ltb, lt-ltb}
use Rattle.gps_fixed.specs.declared.no_memory.NoMemory.{NoMemory}
use Rattle.shm_segment.specs.declared.publisher.Phase.{Phase}
use Rattle.shm_segment.specs.declared.publisher.Phase.TheVariants.{Idle, ToInvalid, ToOdd, ToBody, ToEven, ToValid}
use Rattle.shm_segment.specs.declared.sample.Sample.{Sample}
use Rattle.shm_segment.specs.Publishing.{Publishing, next_of}
use Rattle.book_log.specs.Entries.{Entry}
use Rattle.book_log.specs.History.{history}
use Rattle.book_units.specs.declared.unit.UnitState.{UnitState}
use Rattle.book_units.specs.declared.unit.UnitStep.{UnitStep}
use Rattle.book_units.specs.declared.unit.UnitStep.TheVariants as unit
use Rattle.book_units.specs.Samples.{samples_of}
use Rattle.book_units.specs.Steps.{IsReady, Steps, state_of as unit_state}
use Rattle.book_units.specs.Units.{UnitView}
use Rattle.report_book.specs.BookView.{BookView}
use Rattle.report_book.specs.Moves.{PublishesAt}
use Rattle.report_book.specs.Standing.{BookHolds}
use Rattle.output_lines.specs.Closings.{unit_text}
use Rattle.replay_player.specs.Stored.{is_store, makes_store, shown_state, stores_at_end, stores_next}
use Rattle.replay_player.specs.Books.{IsStoredAt}
use Rattle.replay_player.proofs.Books as books
use Rattle.replay_player.proofs.Stored as stored
use Rattle.replay_player.specs.Effects.{with_stores}
use Rattle.replay_player.specs.Ending.{Alike, IsUnitPublished, PublishesOne, Shows, StandsAlike, phase_left, stores_left, unit_left}
use Rattle.replay_player.specs.Ends.{published, published_text}
use Rattle.replay_player.specs.Playing.{BookStandsFor, ReplayBookView}
use Rattle.replay_player.specs.States.{State, samples_at, units_in}
use Rattle.replay_player.proofs.EndsDevices.{names_so}
use Rattle.replay_player.proofs.Storing.{stored_one}

-- a store leaves less to store

phase_less : (p : Phase) → p ≢ Idle → phase_left (next_of p) < phase_left p
phase_less Idle other = absurd (other refl)
phase_less ToInvalid other = omega arith
phase_less ToOdd other = omega arith
phase_less (ToBody place) other = elim (cases_lt place 8) [
  | inl below ↦ subst (λ b. phase_left (if b then ToBody (place + 1) else ToEven) < 3 + (8 - place)) (sym (lt-ltb place 8 below)) (omega (arith, below))
  | inr above ↦ subst (λ b. phase_left (if b then ToBody (place + 1) else ToEven) < 3 + (8 - place)) (sym (le-ltb place 8 above)) (omega arith)
]
phase_less ToEven other = omega arith
phase_less ToValid other = omega arith

steps_less : (step : UnitStep) (x y : UnitView) → Steps step x y → is_store step ≡ true → unit_left (Some y) < unit_left (Some x)
steps_less unit.Empty x y steps made = absurd (cc)
steps_less unit.Spent x y steps made = absurd (cc)
steps_less (unit.Stored word value) x y steps made =
    let ready : UnitView = steps.does.0 in
    let phase : y.publisher.phase ≡ next_of ready.publisher.phase = ap (λ (p : Publishing). p.phase) steps.does.2.0.becomes in
    let waiting : length y.waiting ≡ length ready.waiting = ap (λ (u : UnitView). length u.waiting) steps.does.2.1 in
    by ready phase waiting steps.does.1
  where
    by : (ready : UnitView) → y.publisher.phase ≡ next_of ready.publisher.phase → length y.waiting ≡ length ready.waiting → IsReady x ready → unit_left (Some y) < unit_left (Some x)
    by ready phase waiting (inl on) =
        let same : length ready.waiting ≡ length x.waiting = ap (λ (u : UnitView). length u.waiting) on.1 in
        let e : phase_left y.publisher.phase ≡ phase_left (next_of x.publisher.phase) = ap phase_left (phase ∙ ap (λ (u : UnitView). next_of u.publisher.phase) on.1) in
        let less = phase_less x.publisher.phase on.0 in
        omega (arith, waiting, same, e, less)
    by ready phase waiting (inr begins) =
        let p : ready.publisher.phase ≡ ToInvalid = ap (λ (u : UnitView). u.publisher.phase) begins.2.2 in
        let e : phase_left y.publisher.phase ≡ 12 = ap phase_left (phase ∙ ap next_of p) in
        let one : length x.waiting ≡ suc (length ready.waiting) = ap length begins.2.1 in
        omega (arith, waiting, e, one)

found : {A : Type 0} (xs : List A) (n : ℕ) → n < length xs → (x : A) × (slice_get xs n ≡ Some x) × ((free : A) → get_or xs n free ≡ x)
found [] n below = absurd (omega (arith, below))
found (x ∷ xs) zero below = (x, refl, λ free. refl)
found (x ∷ xs) (suc n) below = found xs n (omega (arith, below))

got_set : {A : Type 0} (xs : List A) (n : ℕ) (x : A) → n < length xs → slice_get (set xs n x) n ≡ Some x
got_set [] n x below = absurd (omega (arith, below))
got_set (y ∷ xs) zero x below = refl
got_set (y ∷ xs) (suc n) x below = got_set xs n x (omega (arith, below))

pub stores_less : (s : ReplayBookView) (b : BookView) (u : ℕ) (step : UnitStep) (more : Bool) → u < 2 * length s.book.names → BookHolds s.book → PublishesAt u step s.book b → more ≡ is_store step → more ≡ true
    → stores_left u b.units < stores_left u s.book.units
stores_less s b u step more below held publishes is made =
    let within : u < length s.book.units = let count = held.units in omega (arith, below, count) in
    let next = publishes.units.next in
    let was = found s.book.units u within in
    let there : slice_get b.units u ≡ Some next = ap (λ (l : List UnitView). slice_get l u) publishes.units.units ∙ got_set s.book.units u next within in
    let S : UnitView → Type 0 = λ x. Steps step x next in
    let steps = subst S (was.2 next) (publishes.units.steps next) in
    let less = steps_less step was.0 next steps (sym is ∙ made) in
    let now : stores_left u b.units ≡ unit_left (Some next) = ap unit_left there in
    let before : stores_left u s.book.units ≡ unit_left (Some was.0) = ap unit_left was.1 in
    omega (arith, less, now, before)

-- one step

stays_at : (first : ℕ) (samples : List Sample) (stores : ℕ) → makes_store first samples stores ≡ false → stores_next first samples stores ≡ stores
unfolding stores_next
stays_at first samples stores none = ap (λ b. if b then stores + 1 else stores) none

last_shown : (s : ReplayBookView) (b : BookView) (u : ℕ) (step : UnitStep) (first : ℕ) (samples : List Sample) (stores : ℕ) → u < length s.book.units → PublishesAt u step s.book b
    → IsStoredAt u first samples stores s.book → is_store step ≡ false → (free : UnitView) → unit_state (get_or b.units u free) ≡ shown_state first samples (stores_at_end first samples)
last_shown s b u step first samples stores within publishes is last = λ free.
    let known = books.published u step s.book b publishes first stores samples within is in
    let none : makes_store first samples stores ≡ false = sym known.0 ∙ last in
    let end : stores ≡ stores_at_end first samples = stored.at_end first stores samples (get_or s.book.units u free) (is free) none in
    stored.state_is first (stores_next first samples stores) samples (get_or b.units u free) (known.1 free) ∙ ap (shown_state first samples) (stays_at first samples stores none ∙ end)

pub one_published : (s : ReplayBookView) (b : BookView) (u : ℕ) (step : UnitStep) (more : Bool) → u < 2 * length s.book.names → BookHolds s.book → PublishesAt u step s.book b → more ≡ is_store step
    → (state : State) → BookStandsFor s state → PublishesOne u more (record s { book = b }) state
one_published s b u step more below held publishes is state plays =
    let within : u < length s.book.units = let count = held.units in omega (arith, below, count) in
    let whole = plays.before ++ s.book.log.log in
    let P : State → Type 0 = λ st. more ≡ false → IsUnitPublished u (record s { book = b }) st in
    record {
      stands = record {
        now = with_stores u (stores_next (slice_index state.firsts u) (samples_at u state) (slice_index state.stores u)) state;
        plays = stored_one s b u step below held publishes state plays;
        alike = record { names = refl; firsts = refl; log = refl };
      };
      last = subst P plays.is
          (λ last. last_shown s b u step (slice_index plays.firsts u) (samples_of u (history whole)) (slice_index plays.stores u) within publishes (plays.standing.units_are u within) (sym is ∙ last));
    }

-- one unit

both_alike : (a b c : State) → Alike a b → Alike b c → Alike a c
both_alike a b c one other = record { names = other.names ∙ one.names; firsts = other.firsts ∙ one.firsts; log = other.log ∙ one.log }

abbrev pub StandsOn : ReplayBookView → ReplayBookView → Type 0
StandsOn s now = (state : State) → BookStandsFor s state → StandsAlike now state

pub stands_first : (s : ReplayBookView) → StandsOn s s
stands_first s = λ state plays. record { now = state; plays = plays; alike = record { names = refl; firsts = refl; log = refl } }

pub stands_next : (s now next : ReplayBookView) (u : ℕ) (more : Bool) → StandsOn s now → ((state : State) → BookStandsFor now state → PublishesOne u more next state) → StandsOn s next
stands_next s now next u more so_far step = λ state plays.
    let was = so_far state plays in
    let did = step was.now was.plays in
    record { now = did.stands.now; plays = did.stands.plays; alike = both_alike state was.now did.stands.now was.alike did.stands.alike }

-- by its first numbers and its log alone
abbrev pub shown_by : List ℕ → List Entry → ℕ → List ℕ
shown_by firsts log u = published_text u (slice_index firsts u) (samples_of u (history log))

pub alike_shown : (a b : State) (u : ℕ) → Alike a b → published b u ≡ published a u
alike_shown a b u alike = ap (λ l. shown_by l b.log u) alike.firsts ∙ ap (λ l. shown_by a.firsts l u) alike.log

got_there : (units : List UnitView) (n : ℕ) (x free : UnitView) → slice_get units n ≡ Some x → get_or units n free ≡ x
got_there [] n x free is = absurd (cc)
got_there (y ∷ units) zero x free is = cc
got_there (y ∷ units) (suc n) x free is = got_there units n x free is

pub no_unit : (s : ReplayBookView) (u : ℕ) (X : Type 0) → u < 2 * length s.book.names → BookHolds s.book → option_map unit_state (slice_get s.book.units u) ≡ None → X
no_unit s u X below held none =
    let within : u < length s.book.units = let count = held.units in omega (arith, below, count) in
    let was = found s.book.units u within in
    absurd (let e : Some (unit_state was.0) ≡ None = ap (option_map unit_state) (sym was.1) ∙ none in cc)

pub unit_shown : (s now next : ReplayBookView) (u : ℕ) (more : Bool) (out out' : List ℕ) (shown : UnitState) (done : Result (Unit {0}) NoMemory) → StandsOn s now
    → ((state : State) → BookStandsFor now state → PublishesOne u more next state) → more ≡ false → option_map unit_state (slice_get next.book.units u) ≡ Some shown
    → OnOk done (out' ≡ out ++ unit_text u shown) → (state : State) → BookStandsFor s state → OnOk done (Shows u next out out' state)
unit_shown s now next u more out out' shown (Err fault) so_far step last is written state plays = tt
unit_shown s now next u more out out' shown (Ok v) so_far step last is written state plays =
    let was = so_far state plays in
    let mid = was.now in
    let did = step mid was.plays in
    record {
      stands = stands_next s now next u more so_far step state plays;
      written = written ∙ ap (λ t. out ++ unit_text u t) (by next.book.units is (did.last last)) ∙ ap (λ l. out ++ l) (alike_shown state mid u was.alike);
    }
  where
    by : {t : UnitState} (units : List UnitView) → option_map unit_state (slice_get units u) ≡ Some shown → ((free : UnitView) → unit_state (get_or units u free) ≡ t) → shown ≡ t
    by {t} units is each = at (slice_get units u) refl is
      where
        at : (o : Option UnitView) → slice_get units u ≡ o → option_map unit_state o ≡ Some shown → shown ≡ t
        at None there none = absurd (cc)
        at (Some x) there some =
            let e : unit_state x ≡ shown = cc in
            sym e ∙ ap unit_state (sym (got_there units u x x there)) ∙ each x

-- all units

pub record ShownTo (now : ReplayBookView) (u count : ℕ) (out out' : List ℕ) (state : State) : Type 0 where
  pub stands : StandsAlike now state
  pub written : out' ++ flat_map (published state) (range_with_len u (count - u)) ≡ out ++ flat_map (published state) (range_with_len 0 count)

abbrev pub ShownSoFar : ReplayBookView → ReplayBookView → ℕ → ℕ → List ℕ → List ℕ → Type 0
ShownSoFar s now u count out out' = (state : State) → BookStandsFor s state → ShownTo now u count out out' state

pub none_shown : (s : ReplayBookView) (count : ℕ) (out : List ℕ) → ShownSoFar s s 0 count out out
none_shown s count out = λ state plays.
    let e : count - 0 ≡ count = omega arith in
    record { stands = stands_first s state plays; written = ap (λ k. out ++ flat_map (published state) (range_with_len 0 k)) e }

pub one_more_shown : (s now next : ReplayBookView) (u count : ℕ) (out out' out'' : List ℕ) → u < count → ShownSoFar s now u count out out'
    → ((state : State) → BookStandsFor now state → Shows u next out' out'' state) → ShownSoFar s next (u + 1) count out out''
one_more_shown s now next u count out out' out'' below so_far step = λ state plays.
    let was = so_far state plays in
    let mid = was.stands.now in
    let did = step mid was.stands.plays in
    let text : out'' ≡ out' ++ published state u = did.written ∙ ap (λ l. out' ++ l) (alike_shown state mid u was.stands.alike) in
    let rest = flat_map (published state) (range_with_len (u + 1) (count - (u + 1))) in
    let e : suc (count - (u + 1)) ≡ count - u = omega (arith, below) in
    record {
      stands = record { now = did.stands.now; plays = did.stands.plays; alike = both_alike state mid did.stands.now was.stands.alike did.stands.alike };
      written = ap (λ l. l ++ rest) text ∙ append_assoc out' (published state u) rest
          ∙ ap (λ k. out' ++ flat_map (published state) (range_with_len u k)) e ∙ was.written;
    }

pub every_one_shown : (s now : ReplayBookView) (u count : ℕ) (out out' : List ℕ) → u ≡ count → count ≡ 2 * length s.book.names → ShownSoFar s now u count out out'
    → (state : State) → BookStandsFor s state → out' ≡ out ++ flat_map (published state) (range_with_len 0 (units_in state))
every_one_shown s now u count out out' all is so_far state plays =
    let was = so_far state plays in
    let none : 0 ≡ count - u = omega (arith, all) in
    let names : length s.book.names ≡ length state.names = ap length (names_so s state plays) in
    let many : count ≡ units_in state = omega (arith, is, names) in
    sym (append-nil out') ∙ ap (λ k. out' ++ flat_map (published state) (range_with_len u k)) none ∙ was.written
    ∙ ap (λ k. out ++ flat_map (published state) (range_with_len 0 k)) many
