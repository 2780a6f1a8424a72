-- The units of a book, through the book's calls.
use Rattle.std.proofs.Common.{◌≡◌, ◌≢◌, ℕ, zero, suc, ◌*◌, ◌<◌, ◌≤◌, Bool, true, false, eqb, List, [], ◌∷◌, ◌++◌, length, take, get_or, refl, sym, ap, ◌∙◌, subst, ⊎_elim, arith}
use Rattle.std.specs.Prelude.{slice_index}
use Rattle.std.specs.List.{All, AllZip}
use Rattle.std.proofs.lemmas.Bool.{eqb-true, eqb-false}
use Rattle.std.proofs.lemmas.List.{length-map, length-set, length-take, get_or-map, get_or-take, get_or-set_same, get_or-set_other}
use Rattle.shm_segment.specs.declared.sample.Sample.{Sample}
use Rattle.shm_segment.specs.Publishing.{Publishing}
use Rattle.shm_segment.specs.Words.{words_of}
use Rattle.book_log.specs.Entries.{Entry}
use Rattle.book_log.specs.History.{history_after}
use Rattle.book_log.specs.Standing.{StandsFor}
use Rattle.book_units.specs.declared.unit.UnitStep.{UnitStep}
use Rattle.book_units.specs.declared.unit.UnitStep.TheVariants.{Stored, Empty, Spent}
use Rattle.book_units.specs.Changes.{UnitGains, turned}
use Rattle.book_units.specs.Samples.{samples_of}
use Rattle.book_units.specs.Steps.{IsReady, Steps}
use Rattle.book_units.specs.Units.{UnitView, IsNew, segment_of}
use Rattle.report_book.specs.BookView.{BookView, turned_if, units_turned_if}
use Rattle.report_book.specs.Moves.{Earns, IsNewBook, Moves, PublishesAt}
use Rattle.replay_player.specs.Books.{IsStoredAt, KeepSegments}
use Rattle.replay_player.specs.Stored.{IsStored, is_store, makes_store, stores_next}
use Rattle.replay_player.specs.UnitMonitorView.{IsOf, UnitMonitorView, words_beside}
use Rattle.replay_player.proofs.Stored as stored

-- a new book
new_at : (firsts : List ℕ) (units : List UnitView) → AllZip IsNew firsts units → (u : ℕ) (free : UnitView) → u < length units → IsNew (slice_index firsts u) (get_or units u free)
new_at firsts [] zip u free within = absurd (omega arith)
new_at [] (x ∷ units) zip u free within = absurd zip
new_at (first ∷ firsts) (x ∷ units) zip zero free within = zip.0
new_at (first ∷ firsts) (x ∷ units) zip (suc u) free within = new_at firsts units zip.1 u free (omega arith)

new_long : (firsts : List ℕ) (units : List UnitView) → AllZip IsNew firsts units → length units ≡ length firsts
new_long [] [] zip = refl
new_long [] (x ∷ units) zip = absurd zip
new_long (first ∷ firsts) [] zip = absurd zip
new_long (first ∷ firsts) (x ∷ units) zip = let rest = new_long firsts units zip.1 in omega arith

pub new_book : (names : List (List ℕ)) (limit : ℕ) (firsts : List ℕ) (b : BookView) → All (λ first. first ≤ 1_073_741_823) firsts → IsNewBook names limit firsts b
    → (u : ℕ) → u < length b.units → IsStoredAt u (slice_index firsts u) [] 0 b
new_book names limit firsts b low new u within = λ free.
    let given : List ℕ = take (2 * length names) firsts in
    let long = new_long given b.units new.units in
    let short = length-take (2 * length names) firsts in
    let few : u < 2 * length names = omega arith in
    let some : u < length firsts = omega arith in
    let at = get_or-take (2 * length names) firsts u 0 few in
    let is_new : IsNew (slice_index firsts u) (get_or b.units u free) =
    subst (λ (first : ℕ). IsNew first (get_or b.units u free)) at (new_at given b.units new.units u free within) in
    stored.is_new (slice_index firsts u) (get_or b.units u free) (low u 0 some) is_new

-- a turn, if one is due
turned_at : (turns : Bool) (units : List UnitView) (u first stores : ℕ) (samples : List Sample) → u < length units → ((free : UnitView) → IsStored first samples stores (get_or units u free))
    → (free : UnitView) → IsStored first samples stores (get_or (units_turned_if turns units) u free)
turned_at true units u first stores samples within is free =
    subst (IsStored first samples stores) (sym (get_or-map turned units u free free within)) (stored.turned_unit first stores samples (get_or units u free) (is free))
turned_at false units u first stores samples within is free = is free

turned_long : (turns : Bool) (units : List UnitView) → length (units_turned_if turns units) ≡ length units
turned_long true units = length-map units turned
turned_long false units = refl

-- entries came
pub fed : (exact turns : Bool) (old new : BookView) (entries before : List Entry) → Moves exact turns old new entries → Earns (turned_if turns old) new entries → StandsFor (turned_if turns old).log.opening before
    → (u first stores : ℕ) (samples : List Sample) → u < length old.units → IsStoredAt u first samples stores old
    → IsStoredAt u first (samples ++ samples_of u (history_after (before ++ (turned_if turns old).log.log) entries)) stores new
fed exact turns old new entries before moves earns stands u first stores samples within is = λ free.
    let units : List UnitView = units_turned_if turns old.units in
    let within' : u < length units = (let long = turned_long turns old.units in omega arith) in
    let was : IsStored first samples stores (get_or units u free) = turned_at turns old.units u first stores samples within is free in
    let gains : UnitGains (samples_of u moves.0) (get_or units u free) (get_or new.units u free) = moves.1.units.each u free within' in
    let more : List Sample = samples_of u (history_after (before ++ (turned_if turns old).log.log) entries) in
    let all = earns.units before stands u free within' in
    stored.moved first stores samples (get_or units u free) (get_or new.units u free) (samples ++ more)
    (ap (λ (x : UnitView). x.publisher) gains.becomes) (all ∙ ap (λ (l : List Sample). l ++ more) was.samples_are) was

-- nothing came for the units
pub same_units : (old new : BookView) → new.units ≡ old.units → (u first stores : ℕ) (samples : List Sample) → IsStoredAt u first samples stores old → IsStoredAt u first samples stores new
same_units old new same u first stores samples is = λ free. subst (λ (l : List UnitView). IsStored first samples stores (get_or l u free)) (sym same) (is free)

-- a unit takes a step
module _ (u : ℕ) (step : UnitStep) (old new : BookView) (publishes : PublishesAt u step old new) where
  abbrev next : UnitView
  next = publishes.units.next

  here : u < length old.units → (free : UnitView) → get_or new.units u free ≡ next
  here within free = ap (λ (l : List UnitView). get_or l u free) publishes.units.units ∙ get_or-set_same old.units u next free within

  pub beside : (v : ℕ) → v ≢ u → (free : UnitView) → get_or new.units v free ≡ get_or old.units v free
  beside v other free = ap (λ (l : List UnitView). get_or l v free) publishes.units.units ∙ get_or-set_other old.units u v next free other

  pub published : (first stores : ℕ) (samples : List Sample) → u < length old.units → IsStoredAt u first samples stores old
      → (is_store step ≡ makes_store first samples stores) × IsStoredAt u first samples (stores_next first samples stores) new
  published first stores samples within is =
      let free : UnitView = next in
      let steps : Steps step (get_or old.units u free) next = publishes.units.steps free in
      let known = stored.steps_as first stores samples (get_or old.units u free) (is free) step next steps in
      (known.0, λ free. subst (IsStored first samples (stores_next first samples stores)) (sym (here within free)) known.1)

  pub published_beside : (v : ℕ) → v ≢ u → (first stores : ℕ) (samples : List Sample) → IsStoredAt v first samples stores old → IsStoredAt v first samples stores new
  published_beside v other first stores samples is = λ free. subst (IsStored first samples stores) (sym (beside v other free)) (is free)

  -- the segments stay
  step_keeps : (answer : UnitStep) (x y : UnitView) → Steps answer x y → segment_of y ≡ segment_of x
  step_keeps (Stored word value) x y steps = ap (λ (p : Publishing). p.segment) steps.does.2.0.becomes ∙ ready_keeps steps.does.0 steps.does.1
    where
      ready_keeps : (ready : UnitView) → IsReady x ready → segment_of ready ≡ segment_of x
      ready_keeps ready is = ⊎_elim (λ on. ap segment_of on.1) (λ begins. ap segment_of begins.2.2) is
  step_keeps Empty x y steps = ap segment_of steps.does.2
  step_keeps Spent x y steps = ap segment_of steps.does.3

  pub keeps_publishes : KeepSegments old new
  keeps_publishes = record {
    count = ap (λ (l : List UnitView). length l) publishes.units.units ∙ length-set old.units u next;
    each = λ v free there. by_case v free there (eqb v u) refl;
  }
    where
      by_case : (v : ℕ) (free : UnitView) → v < length old.units → (b : Bool) → eqb v u ≡ b → segment_of (get_or new.units v free) ≡ segment_of (get_or old.units v free)
      by_case v free there true same =
          let e = eqb-true v u same in
          let within : u < length old.units = omega arith in
          subst (λ (w : ℕ). segment_of (get_or new.units w free) ≡ segment_of (get_or old.units w free)) (sym e)
          (ap segment_of (here within free) ∙ step_keeps step (get_or old.units u free) next (publishes.units.steps free))
      by_case v free there false other = ap segment_of (beside v (eqb-false v u other) free)

pub keeps_same : (old new : BookView) → new.units ≡ old.units → KeepSegments old new
keeps_same old new same = record { count = ap (λ (l : List UnitView). length l) same; each = λ u free within. ap (λ (l : List UnitView). segment_of (get_or l u free)) same }

turn_keeps : (turns : Bool) (units : List UnitView) (u : ℕ) (free : UnitView) → u < length units → segment_of (get_or (units_turned_if turns units) u free) ≡ segment_of (get_or units u free)
turn_keeps true units u free within = ap segment_of (get_or-map turned units u free free within)
turn_keeps false units u free within = refl

pub keeps_moves : (exact turns : Bool) (old new : BookView) (entries : List Entry) → Moves exact turns old new entries → KeepSegments old new
keeps_moves exact turns old new entries moves =
    let long = turned_long turns old.units in
    let gains = moves.1.units in
    record {
      count = gains.count ∙ long;
      each = λ u free within. ap segment_of (gains.each u free (omega arith)).becomes ∙ turn_keeps turns old.units u free within;
    }

pub still_of : (w : UnitMonitorView) (old new : BookView) → IsOf w old → KeepSegments old new → IsOf w new
still_of w old new is keeps = record {
  unit = (let count = keeps.count in let within = is.unit in omega arith);
  part = λ free. keeps.each w.unit free is.unit ∙ is.part free;
}

-- the words that a monitor loads
pub loads_as : (w : UnitMonitorView) (b : BookView) (first stores : ℕ) (samples : List Sample) → IsStoredAt w.unit first samples stores b → (free : UnitView) → words_beside w b free ≡ words_of first samples stores
loads_as w b first stores samples is free = stored.words_are first stores samples (get_or b.units w.unit free) (is free)
