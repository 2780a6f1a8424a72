-- Monitors for the units of a book, one after another.
use Rattle.std.proofs.Common.{◌≡◌, ℕ, ◌<◌, ◌≤◌, ◌+◌, zero, suc, List, [], ◌∷◌, ◌++◌, length, map, take, get_or, slice_get, Option, Some, None, option_map, is_some, Bool, true, false, refl, sym, ◌∙◌, ap, subst, arith}
use Rattle.std.proofs.lemmas.List.{map-append}
use Rattle.std.specs.Arc.{arc_value}
use Rattle.book_units.specs.Units.{UnitView, segment_of}
use Rattle.shm_segment.specs.Seats.{SegmentId}
use Rattle.serve_workers.specs.declared.monitors.MonitorStart.{MonitorStart}
use Rattle.serve_workers.specs.Segments.{segments_of}

pub no_segment : (units : List UnitView) → segments_of [] ≡ take 0 (map segment_of units)
no_segment units = refl

next : (units : List UnitView) (u : ℕ) (s : SegmentId) → u < length units → ((free : UnitView) → s ≡ segment_of (get_or units u free))
    → take u (map segment_of units) ++ s ∷ [] ≡ take (suc u) (map segment_of units)
next [] u s there is = absurd (omega arith)
next (x ∷ units) zero s there is = ap (λ t. t ∷ []) (is x)
next (x ∷ units) (suc u) s there is = ap (λ l. segment_of x ∷ l) (next units u s (omega arith) is)

one_more : (u : ℕ) → suc u ≡ u + 1
one_more u = omega arith

pub there_if : {X : Type 0} (view : UnitView → X) (units : List UnitView) (u : ℕ) (o : Option X) → o ≡ option_map view (slice_get units u) → is_some o ≡ true → u < length units
there_if view [] u o is some = let no : false ≡ true = subst (λ (p : Option _). is_some p ≡ true) is some in absurd cc
there_if view (unit ∷ units) zero o is some = omega arith
there_if view (unit ∷ units) (suc u) o is some = let h = there_if view units u o is some in omega arith

pub one_segment : (monitor_starts : List MonitorStart) (monitor_start : MonitorStart) (units : List UnitView) (u : ℕ) → segments_of monitor_starts ≡ take u (map segment_of units) → u < length units
    → ((free : UnitView) → arc_value monitor_start.segment ≡ segment_of (get_or units u free))
    → segments_of (monitor_starts ++ monitor_start ∷ []) ≡ take (u + 1) (map segment_of units)
one_segment monitor_starts monitor_start units u so there is =
    map-append (λ (w : MonitorStart). arc_value w.segment) monitor_starts (monitor_start ∷ []) ∙ ap (λ l. l ++ arc_value monitor_start.segment ∷ []) so
    ∙ next units u (arc_value monitor_start.segment) there is ∙ ap (λ k. take k (map segment_of units)) (one_more u)

all_taken : (units : List UnitView) (u : ℕ) → length units ≤ u → take u (map segment_of units) ≡ map segment_of units
all_taken [] zero few = refl
all_taken [] (suc u) few = refl
all_taken (x ∷ units) zero few = absurd (omega arith)
all_taken (x ∷ units) (suc u) few = ap (λ l. segment_of x ∷ l) (all_taken units u (omega arith))

none_there : {X : Type 0} (view : UnitView → X) (units : List UnitView) (u : ℕ) → option_map view (slice_get units u) ≡ None → length units ≤ u
none_there view [] u is = omega arith
none_there view (unit ∷ units) zero is = absurd cc
none_there view (unit ∷ units) (suc u) is = let h = none_there view units u is in omega arith

-- after the last unit
pub no_unit : {X : Type 0} (view : UnitView → X) (monitor_starts : List MonitorStart) (units : List UnitView) (u : ℕ) → segments_of monitor_starts ≡ take u (map segment_of units)
    → option_map view (slice_get units u) ≡ None → segments_of monitor_starts ≡ map segment_of units
no_unit view monitor_starts units u so none = so ∙ all_taken units u (none_there view units u none)

pub last_unit : (monitor_starts : List MonitorStart) (units : List UnitView) (u : ℕ) → segments_of monitor_starts ≡ take u (map segment_of units) → length units ≤ u
    → segments_of monitor_starts ≡ map segment_of units
last_unit monitor_starts units u so few = so ∙ all_taken units u few
