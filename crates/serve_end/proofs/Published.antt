-- A monitor's pairs and loads are those of its own unit.
use Rattle.std.proofs.Common.{◌≡◌, ℕ, ◌<◌, ◌*◌, ◌==◌, Bool, true, not, List, [], ◌∷◌, ◌++◌, length, sym, ap, ◌∙◌, subst, get_or, arith}
use Rattle.std.specs.Prelude.{nat_lt, Result, IsOk, None}
use Rattle.std.specs.List.{All, AllByRecursion, filter}
use Rattle.std.proofs.lemmas.Bool.Decides.{nat_tests}
use Rattle.std.proofs.lemmas.List.Elements.{All-cons, All-filter, All-from_recursion, All-head, All-tail, recursion_from_All}
use Rattle.shm_segment.specs.declared.view.Numbered.{Numbered}
use Rattle.shm_segment.specs.Publishing.{noticed}
use Rattle.shm_segment.specs.Rule.{IsPublished}
use Rattle.shm_segment.specs.Seats.{Accounted, Noticed, SegmentId}
use Rattle.shm_monitor.specs.MonitorView.{MonitorView, accounted, informed}
use Rattle.book_units.specs.Steps.{BearsOut}
use Rattle.book_units.specs.Units.{UnitView, new_unit}
use Rattle.report_book.specs.declared.fault.BookFault.{BookFault}
use Rattle.report_book.specs.BookView.{BookView}
use Rattle.report_book.specs.Refusals.{RefusesOnly, missing, missing_unit}
use Rattle.report_book.specs.Standing.{BookHolds}
use Rattle.serve_workers.specs.Watching.{IsBeginning, each_once}
use Rattle.serve_end.specs.Units.{Confirms, IsSegmentOf, published_of}

not_missing : (b : BookView) (u : ℕ) → BookHolds b → u < length b.units → missing_unit b u ≡ None
not_missing b u holds within =
    let count = holds.units in
    let there : nat_lt u (2 * length b.names) ≡ true = grind (arith, nat_tests) in
    ap missing there

-- each of a book's units is there
pub not_refused : {X : Type 0} → (b : BookView) (u : ℕ) (result : Result X BookFault) → BookHolds b → u < length b.units → RefusesOnly (missing_unit b u) result → IsOk result
not_refused b u result holds within refuses = subst (λ fault. RefusesOnly fault result) (not_missing b u holds within) refuses

-- a notice is of the unit's segment
pub notice_part : (b : BookView) (unit : ℕ) (segment : SegmentId) (notice : Noticed) → IsSegmentOf unit segment b
    → ((free : UnitView) → notice ≡ noticed (get_or b.units unit free).publisher) → notice.segment ≡ segment
notice_part b unit segment notice part is = ap (λ (n : Noticed). n.segment) (is (new_unit segment)) ∙ sym (part (new_unit segment))

all_once : (P : Numbered → Type 0) (pairs : List Numbered) → All P pairs → All P (each_once pairs)
unfolding each_once
all_once P [] all = all
all_once P (pair ∷ pairs) all =
    let other : Numbered → Bool = λ next. not (pair.number == next.number) in
    All-cons P pair (filter other (each_once pairs)) (All-head P pair pairs all)
    (All-filter other P (each_once pairs) (all_once P pairs (All-tail P pair pairs all)))

first_of : (P : Numbered → Type 0) (first rest : List Numbered) → AllByRecursion P (first ++ rest) → AllByRecursion P first
first_of P [] rest all = tt
first_of P (pair ∷ first) rest all = (all.0, first_of P first rest all.1)

beginning : (P : Numbered → Type 0) (first pairs : List Numbered) → IsBeginning first pairs → All P pairs → All P first
beginning P first pairs begins all =
    All-from_recursion P first (first_of P first begins.0 (recursion_from_All P (first ++ begins.0) (subst (All P) begins.1 all)))

-- what was heard of an account is so of its monitor
pub heard_of : (b : BookView) (unit : ℕ) (w : MonitorView) (account : Accounted) → account ≡ accounted w
    → ((free : UnitView) → BearsOut (get_or b.units unit free) account.taken account.kept) → (free : UnitView) → BearsOut (get_or b.units unit free) w.taken w.kept
heard_of b unit w account is heard free = subst (λ (a : Accounted). BearsOut (get_or b.units unit free) a.taken a.kept) is (heard free)

confirms : (u : UnitView) (old met new : MonitorView) (taken : List Numbered) → met ≡ informed old (published_of u) → new ≡ met → BearsOut u met.taken met.kept
    → Confirms u old new taken
confirms u old met new taken told same bears_out =
    let P : Numbered → Type 0 = IsPublished u.publisher.segment.first u.publisher.samples u.publisher.stores in
    let bears : BearsOut u old.taken old.kept = subst (λ (w : MonitorView). BearsOut u w.taken w.kept) told bears_out in
    record {
      told = same ∙ told;
      bears_out = bears;
      published = λ first. beginning P taken (each_once old.taken) first (all_once P old.taken bears.pairs);
    }

-- a monitor that was told of all that its unit has published, and that the unit bears out
pub compared : (b b' : BookView) (unit : ℕ) (old met new : MonitorView) (taken : List Numbered)
    → b' ≡ b → ((free : UnitView) → met ≡ informed old (published_of (get_or b.units unit free))) → new ≡ met
    → ((free : UnitView) → BearsOut (get_or b'.units unit free) met.taken met.kept)
    → (free : UnitView) → Confirms (get_or b.units unit free) old new taken
compared b b' unit old met new taken same told stays heard free =
    confirms (get_or b.units unit free) old met new taken (told free) stays
    (subst (λ (c : BookView). BearsOut (get_or c.units unit free) met.taken met.kept) same (heard free))
