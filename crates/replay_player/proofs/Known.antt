-- A load between a notice that was met and an account that is heard, with no store between, is of the word that the publisher has stored.
use Rattle.std.proofs.Common.{◌≡◌, ℕ, ◌<◌, ◌≤◌, ◌*◌, Bool, true, false, List, [], ◌∷◌, ◌++◌, length, sym, ap, ◌∙◌, subst, arith, get_or, length-append}
use Rattle.std.specs.Prelude.{slice_index, nat_lt, Result, IsOk, None, if◌then◌else◌}
use Rattle.std.proofs.lemmas.Bool.Decides.{nat_tests}
use Rattle.std.specs.List.{All}
use Rattle.std.proofs.Math.Seq.{get_or-append_seam}
use Rattle.shm_segment.specs.declared.sample.Sample.{Sample}
use Rattle.shm_segment.specs.declared.view.Load.{Load}
use Rattle.shm_segment.specs.Publishing.{Publishing, noticed, words_now}
use Rattle.shm_segment.specs.Rule.{WasShown}
use Rattle.shm_segment.specs.Seats.{Accounted, Noticed, SegmentId}
use Rattle.shm_segment.specs.Words.{words_of}
use Rattle.shm_monitor.specs.declared.reading.MonStep.{MonStep}
use Rattle.shm_monitor.specs.declared.reading.MonStep.TheVariants.{Loaded, Done}
use Rattle.shm_monitor.specs.Loads.{load}
use Rattle.shm_monitor.specs.Readings.{taken_with}
use Rattle.shm_monitor.specs.MonitorView.{LoadsAs, MonitorView, accounted, after_load, informed}
use Rattle.book_units.specs.Steps.{BearsOut}
use Rattle.book_units.specs.Units.{UnitView, new_unit, segment_of}
use Rattle.report_book.specs.declared.fault.BookFault.{BookFault}
use Rattle.report_book.specs.BookView.{BookView}
use Rattle.report_book.specs.Refusals.{RefusesOnly, missing, missing_unit}
use Rattle.report_book.specs.Standing.{BookHolds}
use Rattle.replay_player.specs.Loads.{end_of, is_whole, next_value, next_word, reading_after, step_of, with_next}
use Rattle.replay_player.proofs.Readings.{ends_as, goes_on}

-- each of a book's units is there
pub not_missing : (b : BookView) (u : ℕ) → BookHolds b → u < length b.units → missing_unit b u ≡ None
not_missing b u holds within =
    let count = holds.units in
    let there : nat_lt u (2 * length b.names) ≡ true = grind (arith, nat_tests) in
    ap missing there

pub not_refused : {X : Type 0} → (b : BookView) (u : ℕ) (result : Result X BookFault) → BookHolds b → u < length b.units → RefusesOnly (missing_unit b u) result → IsOk result
not_refused b u result holds within refuses = subst (λ fault. RefusesOnly fault result) (not_missing b u holds within) refuses

-- the last load that an account tells
shown_last : (first : ℕ) (samples : List Sample) (stores : ℕ) (kept : List Load) (told word value : ℕ) → All (WasShown first samples stores) (kept ++ load told word value ∷ []) → stores ≤ told
    → slice_index (words_of first samples stores) word ≡ value
shown_last first samples stores kept told word value all late =
    let made : Load = load told word value in
    let long = length-append kept (made ∷ []) in
    let shown : WasShown first samples stores made =
    subst (WasShown first samples stores) (get_or-append_seam kept made [] made) (all (length kept) made (omega arith)) in
    let from : told ≤ shown.0 = shown.1 in
    let to : shown.0 ≤ stores = shown.2 in
    let now : shown.0 ≡ stores = omega arith in
    subst (λ (n : ℕ). slice_index (words_of first samples n) word ≡ value) now shown.3

-- a load of a known word
answered : (words : List ℕ) (old new : MonitorView) (step : MonStep) → LoadsAs old step new
    → ((value : ℕ) → new.kept ≡ old.kept ++ load old.known.stores (next_word old.reading) value ∷ [] → next_value words old.reading ≡ value)
    → (step ≡ step_of words old.reading) × (new.reading ≡ reading_after words old.reading)
unfolding step_of reading_after
answered words old new (Loaded word value) loads known =
    let becomes : new ≡ after_load old value old.taken (old.reading ++ value ∷ []) = loads.2 in
    let same = known value (ap (λ (w : MonitorView). w.kept) becomes) in
    let on : is_whole (with_next words old.reading) ≡ false =
    ap (λ (v : ℕ). is_whole (old.reading ++ v ∷ [])) same ∙ goes_on old.reading value loads.1.more loads.1.ready in
    let given : Loaded word value ≡ Loaded (next_word old.reading) (next_value words old.reading) = λ i. Loaded (loads.0 i) (sym same i) in (
      given ∙ ap (λ (b : Bool). if b then Done (end_of (with_next words old.reading)) else Loaded (next_word old.reading) (next_value words old.reading)) (sym on),
      ap (λ (w : MonitorView). w.reading) becomes ∙ ap (λ (v : ℕ). old.reading ++ v ∷ []) (sym same) ∙ ap (λ (b : Bool). if b then [] else with_next words old.reading) (sym on),
    )
answered words old new (Done reading) loads known =
    let becomes : new ≡ after_load old loads.0 (taken_with reading old.taken) [] = loads.2 in
    let same = known loads.0 (ap (λ (w : MonitorView). w.kept) becomes) in
    let ended = ends_as reading (old.reading ++ loads.0 ∷ []) loads.1 in
    let whole : is_whole (with_next words old.reading) ≡ true = ap (λ (v : ℕ). is_whole (old.reading ++ v ∷ [])) same ∙ ended.0 in
    let given : Done reading ≡ Done (end_of (with_next words old.reading)) =
    ap Done (sym ended.1) ∙ ap (λ (v : ℕ). Done (end_of (old.reading ++ v ∷ []))) (sym same) in (
      given ∙ ap (λ (b : Bool). if b then Done (end_of (with_next words old.reading)) else Loaded (next_word old.reading) (next_value words old.reading)) (sym whole),
      ap (λ (w : MonitorView). w.reading) becomes ∙ ap (λ (b : Bool). if b then [] else with_next words old.reading) (sym whole),
    )

-- the notice was met before the load, and its account heard after it
exact : (u : UnitView) (notice : Noticed) (before met after : MonitorView) (step : MonStep) (account : Accounted)
    → notice ≡ noticed u.publisher → notice.known.stores ≤ met.known.stores → met ≡ informed before notice.known → LoadsAs met step after → account ≡ accounted after
    → BearsOut u account.taken account.kept → (step ≡ step_of (words_now u.publisher) before.reading) × (after.reading ≡ reading_after (words_now u.publisher) before.reading)
exact u notice before met after step account is told informs loads is_account heard =
    let p : Publishing = u.publisher in
    let Shown : Load → Type 0 = WasShown p.segment.first p.samples p.stores in
    let stores_are = ap (λ (n : Noticed). n.known.stores) is in
    let late : p.stores ≤ met.known.stores = omega arith in
    let shown : All Shown after.kept = subst (λ (a : Accounted). All Shown a.kept) is_account heard.shown in
    let same : met.reading ≡ before.reading = ap (λ (w : MonitorView). w.reading) informs in
    let answers = answered (words_now p) met after step loads
    (λ value grown. shown_last p.segment.first p.samples p.stores met.kept met.known.stores (next_word met.reading) value (subst (All Shown) grown shown) late) in
    subst (λ (r : List ℕ). (step ≡ step_of (words_now p) r) × (after.reading ≡ reading_after (words_now p) r)) same answers

-- the same of a unit of a book
module _ (units : List UnitView) (unit : ℕ) where
  pub exact_step : (notice : Noticed) (before met after : MonitorView) (step : MonStep) (account : Accounted)
      → ((free : UnitView) → notice ≡ noticed (get_or units unit free).publisher) → notice.known.stores ≤ met.known.stores → met ≡ informed before notice.known → LoadsAs met step after → account ≡ accounted after
      → ((free : UnitView) → BearsOut (get_or units unit free) account.taken account.kept) → (free : UnitView) → step ≡ step_of (words_now (get_or units unit free).publisher) before.reading
  exact_step notice before met after step account is told informs loads is_account heard free =
      (exact (get_or units unit free) notice before met after step account (is free) told informs loads is_account (heard free)).0

  pub exact_reading : (notice : Noticed) (before met after : MonitorView) (step : MonStep) (account : Accounted)
      → ((free : UnitView) → notice ≡ noticed (get_or units unit free).publisher) → notice.known.stores ≤ met.known.stores → met ≡ informed before notice.known → LoadsAs met step after → account ≡ accounted after
      → ((free : UnitView) → BearsOut (get_or units unit free) account.taken account.kept) → (free : UnitView) → after.reading ≡ reading_after (words_now (get_or units unit free).publisher) before.reading
  exact_reading notice before met after step account is told informs loads is_account heard free =
      (exact (get_or units unit free) notice before met after step account (is free) told informs loads is_account (heard free)).1

  -- a notice is of the unit's segment, and so are a shared segment and a seat
  pub notice_part : (segment : SegmentId) (notice : Noticed) → ((free : UnitView) → segment_of (get_or units unit free) ≡ segment) → ((free : UnitView) → notice ≡ noticed (get_or units unit free).publisher)
      → notice.segment ≡ segment
  notice_part segment notice part is = ap (λ (n : Noticed). n.segment) (is (new_unit segment)) ∙ part (new_unit segment)

  pub seat_part : (segment seat : SegmentId) → ((free : UnitView) → (segment ≡ segment_of (get_or units unit free)) × (seat ≡ segment_of (get_or units unit free))) → seat ≡ segment
  seat_part segment seat parts = (parts (new_unit segment)).1 ∙ sym (parts (new_unit segment)).0
