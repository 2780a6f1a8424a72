-- What each step of a monitor leaves as it was, and a whole reading by steps.
use Rattle.std.proofs.Common.{◌≡◌, ◌≢◌, ℕ, ◌+◌, ◌*◌, ◌<◌, ◌≤◌, List, [], ◌∷◌, ◌++◌, length, refl, sym, ap, ◌∙◌, subst, arith, append_assoc, append-nil, length-append}
use Rattle.std.specs.Prelude.{slice_index}
use Rattle.shm_segment.specs.declared.view.Load.{Load}
use Rattle.shm_segment.specs.Words.{published_after}
use Rattle.shm_segment.specs.Rule.{last_from}
use Rattle.shm_monitor.specs.declared.reading.MonStep.{MonStep}
use Rattle.shm_monitor.specs.declared.reading.MonStep.TheVariants.{Loaded, Done}
use Rattle.shm_monitor.specs.declared.reading.Reading.{Reading}
use Rattle.shm_monitor.specs.declared.reading.Reading.TheVariants.{Taken, NotReady, Clash}
use Rattle.shm_monitor.specs.Loads.{load}
use Rattle.shm_monitor.specs.Readings.{reading_words, loads_of, EndsAs, taken_with}
use Rattle.shm_monitor.specs.MonitorView.{MonitorView, LoadsAs, HasRead, IsNotOld, HasLoaded, reading_after}

pub load_segment : (old : MonitorView) (step : MonStep) (new : MonitorView) → LoadsAs old step new → new.segment ≡ old.segment
load_segment old (Loaded word value) new loads = ap (λ (w : MonitorView). w.segment) loads.2
load_segment old (Done reading) new loads = ap (λ (w : MonitorView). w.segment) loads.2

pub load_one : (old : MonitorView) (step : MonStep) (new : MonitorView) → LoadsAs old step new → length new.kept ≡ length old.kept + 1
load_one old (Loaded word value) new loads = ap (λ (w : MonitorView). length w.kept) loads.2 ∙ length-append old.kept (load old.known.stores (slice_index reading_words (length old.reading)) value ∷ [])
load_one old (Done reading) new loads = ap (λ (w : MonitorView). length w.kept) loads.2 ∙ length-append old.kept (load old.known.stores (slice_index reading_words (length old.reading)) loads.0 ∷ [])

-- one load more
pub loads_snoc : (told : ℕ) (words values : List ℕ) (value : ℕ) → length values < length words
    → loads_of told words (values ++ value ∷ []) ≡ loads_of told words values ++ load told (slice_index words (length values)) value ∷ []
loads_snoc told [] values value h = absurd (omega arith)
loads_snoc told (word ∷ words) [] value h = refl
loads_snoc told (word ∷ words) (x ∷ values) value h = ap (λ (l : List Load). load told word x ∷ l) (loads_snoc told words values value (omega arith))

length_loads : (told : ℕ) (words values : List ℕ) → length values ≤ length words → length (loads_of told words values) ≡ length values
length_loads told words [] h = refl
length_loads told [] (x ∷ values) h = absurd (omega arith)
length_loads told (word ∷ words) (x ∷ values) h = let e = length_loads told words values (omega arith) in omega arith

twelve_long : (values : List ℕ) (before after valid : ℕ) (body : List ℕ) → length body ≡ 9 → values ≡ before ∷ valid ∷ (body ++ after ∷ []) → length values ≡ 12
twelve_long values before after valid body nine e = let l = ap length e in omega (arith, length-append body (after ∷ []))

ends_long : (reading : Reading) (values : List ℕ) → EndsAs reading values → (2 ≤ length values) × (length values ≤ 12)
ends_long (Taken pair) values e = let t = e.2 in let l = twelve_long values e.0 e.0 t.0 e.1 t.2 t.3 in (omega arith, omega arith)
ends_long (NotReady count valid) values e = let l = ap length e.1 in (omega arith, omega arith)
ends_long (Clash before after) values e = let t = e.1 in let l = twelve_long values before after t.0 e.0 t.2 t.3 in (omega arith, omega arith)

-- before the first load
pub starts : (view old : MonitorView) → view ≡ old → HasLoaded old (record { segment = view.segment; known = view.known; taken = view.taken; kept = view.kept; reading = [] }) 0
starts view old is =
    record {
      same = (λ i. record { segment = (is i).segment; known = (is i).known; taken = (is i).taken; kept = (is i).kept; reading = [] }) ∙ (λ i. record { segment = old.segment; known = old.known; taken = old.taken; kept = sym (append-nil old.kept) i; reading = [] });
      long = refl;
      more = omega arith;
      first = λ none. absurd (omega arith);
    }

-- twice two numbers are not above it
abbrev Low : ℕ → ℕ → ℕ → Type 0
Low last told count = (2 * last ≤ count) × (2 * told ≤ count)

heads : (last told n : ℕ) (r : List ℕ) (value : ℕ) → length r ≡ n → (length r ≡ 0 → Low last told value) → (1 ≤ n → Low last told (slice_index r 0)) → Low last told (slice_index (r ++ value ∷ []) 0)
heads last told n [] value long begin some = begin refl
heads last told n (x ∷ r) value long begin some = some (omega arith)

-- a load that goes on
pub goes : (old now : MonitorView) (n word value : ℕ) (new : MonitorView) → HasLoaded old now n → LoadsAs now (Loaded word value) new → HasLoaded old new (n + 1)
goes old now n word value new has loads =
    let r : List ℕ = now.reading in
    let told : ℕ = old.known.stores in
    let on = subst (λ (w : MonitorView). LoadsAs w (Loaded word value) new) has.same loads in
    let more = on.1.more in
    let long = has.long in
    let snoc = loads_snoc told reading_words r value (omega arith) in
    let kept = append_assoc old.kept (loads_of told reading_words r) (load told (slice_index reading_words (length r)) value ∷ []) ∙ ap (λ (l : List Load). old.kept ++ l) (sym snoc) in
    let next = r ++ value ∷ [] in
    let is : new ≡ reading_after old next = on.2 ∙ (λ i. record { segment = old.segment; known = old.known; taken = old.taken; kept = kept i; reading = next }) in
    subst (λ (w : MonitorView). HasLoaded old w (n + 1)) (sym is)
    (record {
      same = refl;
      long = omega (arith, length-append r (value ∷ []));
      more = omega arith;
      first = λ some. heads (last_from 0 old.taken) (old.segment.first + published_after old.known.stores) n r value long on.1.first has.first;
    })

-- the head of a reading's values
head_is : (r : List ℕ) (value count : ℕ) (rest : List ℕ) → 2 ≤ length (count ∷ rest) → r ++ value ∷ [] ≡ count ∷ rest → (1 ≤ length r) × (slice_index r 0 ≡ count)
head_is [] value count rest long e = let l = ap length e in absurd (omega arith)
head_is (x ∷ r) value count rest long e = (omega arith, ap (λ (l : List ℕ). slice_index l 0) e)

not_old : (old : MonitorView) (r : List ℕ) (value : ℕ) (reading : Reading) → (1 ≤ length r → Low (last_from 0 old.taken) (old.segment.first + published_after old.known.stores) (slice_index r 0))
    → EndsAs reading (r ++ value ∷ []) → IsNotOld old reading
not_old old r value (Taken pair) low ends =
    let t = ends.2 in
    let head = head_is r value ends.0 (t.0 ∷ (ends.1 ++ ends.0 ∷ [])) (omega arith) t.3 in
    let bounds = low head.0 in
    let count = head.1 in
    let half = ends.3 in
    (omega arith, omega arith)
not_old old r value (NotReady count valid) low ends = tt
not_old old r value (Clash before after) low ends = tt

-- the load that ends the reading
pub ends : (old now : MonitorView) (n : ℕ) (reading : Reading) (new : MonitorView) → HasLoaded old now n → LoadsAs now (Done reading) new
    → HasRead old reading new × IsNotOld old reading × ((length old.kept + 2 ≤ length new.kept) × (length new.kept ≤ length old.kept + 12)) × (new.segment ≡ old.segment)
ends old now n reading new has loads =
    let r : List ℕ = now.reading in
    let told : ℕ = old.known.stores in
    let on = subst (λ (w : MonitorView). LoadsAs w (Done reading) new) has.same loads in
    let value : ℕ = on.0 in
    let values : List ℕ = r ++ value ∷ [] in
    let long = has.long in
    let more = has.more in
    let snoc = loads_snoc told reading_words r value (omega arith) in
    let kept = append_assoc old.kept (loads_of told reading_words r) (load told (slice_index reading_words (length r)) value ∷ []) ∙ ap (λ (l : List Load). old.kept ++ l) (sym snoc) in
    let is : new ≡ record { segment = old.segment; known = old.known; taken = taken_with reading old.taken; kept = old.kept ++ loads_of told reading_words values; reading = [] } =
    on.2 ∙ (λ i. record { segment = old.segment; known = old.known; taken = taken_with reading old.taken; kept = kept i; reading = [] }) in
    let size = ends_long reading values on.1 in
    let count = length_loads told reading_words values size.1 in
    let all : length new.kept ≡ length old.kept + length values = ap (λ (w : MonitorView). length w.kept) is ∙ (let e : length (old.kept ++ loads_of told reading_words values) ≡ length old.kept + length values = omega (arith, length-append old.kept (loads_of told reading_words values)) in e) in (
      (values, on.1, is),
      not_old old r value reading (λ some. has.first (omega arith)) on.1,
      (omega arith, omega arith),
      ap (λ (w : MonitorView). w.segment) is,
    )

-- a load that cannot end the reading, by the number of its values
pub goes_by : (old now : MonitorView) (n : ℕ) (step : MonStep) (new : MonitorView) → HasLoaded old now n → n < 11 → n ≢ 1 → LoadsAs now step new → HasLoaded old new (n + 1)
goes_by old now n (Loaded word value) new has low other loads = goes old now n word value new has loads
goes_by old now n (Done reading) new has low other loads = absurd (ends_not reading loads.1)
  where
    long : length (now.reading ++ loads.0 ∷ []) ≡ n + 1
    long = let l = has.long in omega (arith, length-append now.reading (loads.0 ∷ []))

    ends_not : (r : Reading) → EndsAs r (now.reading ++ loads.0 ∷ []) → ⊥
    ends_not (Taken pair) e = let t = e.2 in let l = twelve_long (now.reading ++ loads.0 ∷ []) e.0 e.0 t.0 e.1 t.2 t.3 in let k = long in omega arith
    ends_not (NotReady count valid) e = let l = ap length e.1 in let k = long in other (omega arith)
    ends_not (Clash before after) e = let t = e.1 in let l = twelve_long (now.reading ++ loads.0 ∷ []) before after t.0 e.0 t.2 t.3 in let k = long in omega arith
