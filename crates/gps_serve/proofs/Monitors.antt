-- What is left of the monitors, put together one after another.
use Rattle.std.proofs.Common.{◌≡◌, ℕ, ◌<◌, ◌≤◌, ◌+◌, ◌*◌, inl, inr, Bool, true, false, ◌&&◌, List, [], ◌∷◌, ◌++◌, map, length, get_or, ◌==◌, if◌then◌else◌, refl, sym, ◌∙◌, ap, subst, append_assoc, arith}
use Rattle.std.proofs.lemmas.List.{append-nil, length-append, map-append}
use Rattle.std.specs.Arc.{arc_value}
use Rattle.std.specs.Global.{Vec}
use Rattle.std.specs.List.{AllZip, list_all, range_with_len}
use Rattle.book_units.specs.Units.{UnitView, new_unit, segment_of}
use Rattle.report_book.specs.BookView.{BookView}
use Rattle.serve_end.specs.declared.done.MonitorDone.{MonitorDone}
use Rattle.serve_end.specs.Failing.{AnyOf}
use Rattle.serve_end.specs.Units.{Confirms}
use Rattle.serve_workers.specs.declared.monitors.ReadingsDone.{ReadingsDone}
use Rattle.serve_workers.specs.declared.monitors.MonitorStart.{MonitorStart}
use Rattle.serve_workers.specs.Monitors.{MonitorRan}
use Rattle.serve_workers.specs.Segments.{segments_of}
use Rattle.serve_workers.specs.Watching.{Climbs, IsBeginning, each_once}
use Rattle.shm_monitor.specs.MonitorView.{MonitorView}
use Rattle.shm_segment.specs.declared.view.Load.{Load}
use Rattle.shm_segment.specs.declared.view.Numbered.{Numbered}
use Rattle.shm_segment.specs.Seats.{SegmentId}
use Rattle.gps_serve.specs.Lost.{MissesSample}
use Rattle.gps_serve.specs.Served.{MonitorServed, monitored}
use Rattle.gps_serve.specs.Readies.{IsLeftOfWatch, MonitorReady, MonitorsSoFar}
use Rattle.gps_serve.specs.Statuses.{EachWhole}
use Rattle.gps_serve.specs.Works.{WatchedBy}
use Rattle.gps_serve.proofs.Devices.{zip_length}
use Rattle.gps_serve.proofs.Lost.{one_false}
use Rattle.gps_serve.proofs.Sessions.{range_more}
use Rattle.serve_workers.proofs.Zips.{zip_more}

at : {X : Type 0} (gone rest : List X) (x free : X) → get_or (gone ++ x ∷ rest) (length gone) free ≡ x
at [] rest x free = refl
at (g ∷ gone) rest x free = at gone rest x free

first_true : (a b : Bool) → (a && b) ≡ true → a ≡ true
first_true true b e = refl
first_true false b e = absurd cc

second_true : (a b : Bool) → (a && b) ≡ true → b ≡ true
second_true true b e = e
second_true false b e = absurd cc

front_whole : (w : ReadingsDone) (watched : List ReadingsDone) → EachWhole (w ∷ watched) → w.whole ≡ true
front_whole w watched e = first_true w.whole (list_all (λ (d : ReadingsDone). d.whole) watched) e

rest_whole : (w : ReadingsDone) (watched : List ReadingsDone) → EachWhole (w ∷ watched) → EachWhole watched
rest_whole w watched e = second_true w.whole (list_all (λ (d : ReadingsDone). d.whole) watched) e

ready_of : (tries : ℕ) (no_memory : Bool) (units : List UnitView) (monitor_starts : List MonitorStart) (watched : List ReadingsDone)
    → segments_of monitor_starts ≡ map segment_of units → AllZip (WatchedBy tries) monitor_starts watched → (no_memory ≡ false → EachWhole watched)
    → AllZip (MonitorReady tries no_memory) units watched
ready_of tries no_memory [] [] [] segments by whole = tt
ready_of tries no_memory [] [] (w ∷ watched) segments by whole = absurd by
ready_of tries no_memory [] (v ∷ monitor_starts) watched segments by whole = absurd cc
ready_of tries no_memory (u ∷ units) [] watched segments by whole = absurd cc
ready_of tries no_memory (u ∷ units) (v ∷ monitor_starts) [] segments by whole = absurd by
ready_of tries no_memory (u ∷ units) (v ∷ monitor_starts) (w ∷ watched) segments by whole =
    let here : arc_value v.segment ≡ segment_of u = cc segments in
    let same : arc_value w.segment ≡ segment_of u = ap arc_value by.0.segment ∙ here in (
      record {
        segment = same;
        watched = subst (λ (s : SegmentId). MonitorRan s tries w.whole w.monitor w.taken.items) same by.0.watched;
        whole = λ (e : no_memory ≡ false). front_whole w watched (whole e);
      },
      ready_of tries no_memory units monitor_starts watched (cc segments) by.1 (λ (e : no_memory ≡ false). rest_whole w watched (whole e)),
    )

segments_if : (none : Bool) (units : List UnitView) → (if none then [] else map segment_of units) ≡ map segment_of (if none then [] else units)
segments_if true units = refl
segments_if false units = refl

units_if : (tries : ℕ) (units : List UnitView) → monitored tries (map segment_of units) ≡ map segment_of (monitored tries units)
units_if tries units = segments_if (tries == 0) units

pub monitors_ready : (tries : ℕ) (no_memory : Bool) (units : List UnitView) (monitor_starts : List MonitorStart) (watched : List ReadingsDone)
    → segments_of monitor_starts ≡ monitored tries (map segment_of units) → AllZip (WatchedBy tries) monitor_starts watched → (no_memory ≡ false → EachWhole watched)
    → AllZip (MonitorReady tries no_memory) (monitored tries units) watched
monitors_ready tries no_memory units monitor_starts watched segments by whole =
    ready_of tries no_memory (monitored tries units) monitor_starts watched (segments ∙ units_if tries units) by whole

pub monitor_served : (tries : ℕ) (no_memory : Bool) (u : UnitView) (watch : ReadingsDone) (done : MonitorDone) → MonitorReady tries no_memory u watch
    → done.taken ≡ watch.taken → Confirms u watch.monitor done.monitor done.taken.items → MonitorServed tries no_memory u done
monitor_served tries no_memory u watch done ready same confirms =
    let taken : done.taken.items ≡ watch.taken.items = ap (λ (v : Vec Numbered). v.items) same in
    record {
      segment = ap (λ (m : MonitorView). m.segment) confirms.told ∙ ready.watched.segment_is;
      published = confirms.published (subst (λ l. IsBeginning l (each_once watch.monitor.taken)) (sym taken) ready.watched.first);
      climbs = subst Climbs (sym taken) ready.watched.climbs;
      all = λ (e : no_memory ≡ false). taken ∙ ready.watched.all (ready.whole e) ∙ ap each_once (sym (ap (λ (m : MonitorView). m.taken) confirms.told));
      loads = λ (e : no_memory ≡ false).
          subst (λ (l : List Load). 2 * tries ≤ length l) (sym (ap (λ (m : MonitorView). m.kept) confirms.told)) (ready.watched.loads (ready.whole e));
    }

pub monitors_begin : (tries : ℕ) (no_memory : Bool) (units : List UnitView) (watched watched' : List ReadingsDone) (done : List MonitorDone)
    → AllZip (MonitorReady tries no_memory) units watched → watched' ≡ watched → done ≡ [] → MonitorsSoFar tries no_memory units watched' 0 done
monitors_begin tries no_memory units watched watched' done ready same none = record {
  gone = [];
  rest = units;
  split = refl;
  count = refl;
  served = subst (AllZip (MonitorServed tries no_memory) []) (sym none) tt;
  ready = subst (AllZip (MonitorReady tries no_memory) units) (sym same) ready;
}

-- the next of the monitors that are left
pub record IsNextMonitor (tries : ℕ) (no_memory : Bool) (units : List UnitView) (unit : ℕ) (watch : ReadingsDone) : Type 0 where
  pub there : unit < length units
  pub ready : (free : UnitView) → MonitorReady tries no_memory (get_or units unit free) watch

next_of : (tries : ℕ) (no_memory : Bool) (gone rest : List UnitView) (units : List UnitView) (watch : ReadingsDone) (watched : List ReadingsDone) (unit : ℕ)
    → units ≡ gone ++ rest → length gone ≡ unit → AllZip (MonitorReady tries no_memory) rest (watch ∷ watched) → IsNextMonitor tries no_memory units unit watch
next_of tries no_memory gone [] units watch watched unit split count ready = absurd ready
next_of tries no_memory gone (u ∷ rest) units watch watched unit split count ready =
    let l : length units ≡ length (gone ++ u ∷ rest) = ap length split in
    let at_here : (free : UnitView) → get_or units unit free ≡ u =
    λ free. ap (λ (l : List UnitView). get_or l unit free) split ∙ ap (λ n. get_or (gone ++ u ∷ rest) n free) (sym count) ∙ at gone rest u free in
    record {
      there = omega (arith, l, count, length-append gone (u ∷ rest));
      ready = λ free. subst (λ v. MonitorReady tries no_memory v watch) (sym (at_here free)) ready.0;
    }

-- the monitor of the unit at this place is ready
pub is_next : (tries : ℕ) (no_memory : Bool) (units : List UnitView) (watch : ReadingsDone) (watched : List ReadingsDone) (unit : ℕ) (done : List MonitorDone)
    → MonitorsSoFar tries no_memory units (watch ∷ watched) unit done → IsNextMonitor tries no_memory units unit watch
is_next tries no_memory units watch watched unit done so = next_of tries no_memory so.gone so.rest units watch watched unit so.split so.count so.ready

more_of : (tries : ℕ) (no_memory : Bool) (gone rest : List UnitView) (units : List UnitView) (watch : ReadingsDone) (watched : List ReadingsDone) (unit : ℕ) (done : List MonitorDone)
    (monitor : MonitorDone) → units ≡ gone ++ rest → length gone ≡ unit → AllZip (MonitorServed tries no_memory) gone done
    → AllZip (MonitorReady tries no_memory) rest (watch ∷ watched) → ((free : UnitView) → MonitorServed tries no_memory (get_or units unit free) monitor)
    → MonitorsSoFar tries no_memory units watched (unit + 1) (done ++ monitor ∷ [])
more_of tries no_memory gone [] units watch watched unit done monitor split count served ready is = absurd ready
more_of tries no_memory gone (u ∷ rest) units watch watched unit done monitor split count served ready is =
    let at_here : get_or units unit u ≡ u =
    ap (λ (l : List UnitView). get_or l unit u) split ∙ ap (λ n. get_or (gone ++ u ∷ rest) n u) (sym count) ∙ at gone rest u u in
    record {
      gone = gone ++ u ∷ [];
      rest = rest;
      split = split ∙ sym (append_assoc gone (u ∷ []) rest);
      count = omega (arith, count, length-append gone (u ∷ []));
      served = zip_more (MonitorServed tries no_memory) gone done u monitor served (subst (λ v. MonitorServed tries no_memory v monitor) at_here (is u));
      ready = ready.1;
    }

-- a monitor more
pub monitors_more : (tries : ℕ) (no_memory : Bool) (units : List UnitView) (watch : ReadingsDone) (watched : List ReadingsDone) (unit : ℕ) (done : List MonitorDone) (monitor : MonitorDone)
    → MonitorsSoFar tries no_memory units (watch ∷ watched) unit done → ((free : UnitView) → MonitorServed tries no_memory (get_or units unit free) monitor)
    → MonitorsSoFar tries no_memory units watched (unit + 1) (done ++ monitor ∷ [])
monitors_more tries no_memory units watch watched unit done monitor so is =
    more_of tries no_memory so.gone so.rest units watch watched unit done monitor so.split so.count so.served so.ready is

all_of : (tries : ℕ) (no_memory : Bool) (gone rest units : List UnitView) (watched : List ReadingsDone) (unit : ℕ) (done : List MonitorDone)
    → units ≡ gone ++ rest → length gone ≡ unit → AllZip (MonitorServed tries no_memory) gone done → AllZip (MonitorReady tries no_memory) rest watched
    → length units ≤ unit → AllZip (MonitorServed tries no_memory) units done
all_of tries no_memory gone [] units watched unit done split count served ready few =
    subst (λ l. AllZip (MonitorServed tries no_memory) l done) (sym (split ∙ append-nil gone)) served
all_of tries no_memory gone (u ∷ rest) units watched unit done split count served ready few =
    let l : length units ≡ length (gone ++ u ∷ rest) = ap length split in
    absurd (omega (arith, l, count, few, length-append gone (u ∷ rest)))

pub monitors_all : (tries : ℕ) (no_memory : Bool) (units : List UnitView) (watched : List ReadingsDone) (unit : ℕ) (done : List MonitorDone)
    → MonitorsSoFar tries no_memory units watched unit done → length units ≤ unit → AllZip (MonitorServed tries no_memory) units done
monitors_all tries no_memory units watched unit done so few =
    all_of tries no_memory so.gone so.rest units watched unit done so.split so.count so.served so.ready few

-- what is left of it has its pairs
pub left_of_watch : (u : UnitView) (watch : ReadingsDone) (done : MonitorDone) → done.taken ≡ watch.taken → Confirms u watch.monitor done.monitor done.taken.items
    → IsLeftOfWatch watch done
left_of_watch u watch done same confirms = record { kept = same; taken = ap (λ (m : MonitorView). m.taken) confirms.told }

misses_sample : (segment : SegmentId) (tries : ℕ) (watch : ReadingsDone) (done : MonitorDone) → MonitorRan segment tries watch.whole watch.monitor watch.taken.items
    → IsLeftOfWatch watch done → watch.whole ≡ false → MissesSample done
misses_sample segment tries watch done ran left none =
    subst (λ (v : Vec Numbered). length v.items < length (each_once done.monitor.taken)) (sym left.kept)
    (subst (λ (l : List Numbered). length watch.taken.items < length (each_once l)) (sym left.taken) (ran.missing none))

-- if a monitor did not make all its readings, one lacks a sample
pub some_misses : (tries : ℕ) (monitor_starts : List MonitorStart) (watched : List ReadingsDone) (done : List MonitorDone) → AllZip (WatchedBy tries) monitor_starts watched
    → AllZip IsLeftOfWatch watched done → list_all (λ (watch : ReadingsDone). watch.whole) watched ≡ false → AnyOf MissesSample done
some_misses tries monitor_starts [] done by left none = absurd (cc)
some_misses tries [] (watch ∷ watched) done by left none = absurd by
some_misses tries (start ∷ monitor_starts) (watch ∷ watched) [] by left none = absurd left
some_misses tries (start ∷ monitor_starts) (watch ∷ watched) (monitor ∷ done) by left none =
    elim (one_false watch.whole (list_all (λ (w : ReadingsDone). w.whole) watched) none) [
      | inl this ↦ inl (misses_sample (arc_value watch.segment) tries watch monitor by.0.watched left.0 this)
      | inr later ↦ inr (some_misses tries monitor_starts watched done by.1 left.1 later)
    ]

-- the unit's monitor reads its segment
pub segment_there : (tries : ℕ) (no_memory : Bool) (units : List UnitView) (unit : ℕ) (watch : ReadingsDone)
    → ((free : UnitView) → MonitorReady tries no_memory (get_or units unit free) watch) → (free : UnitView) → arc_value watch.segment ≡ segment_of (get_or units unit free)
segment_there tries no_memory units unit watch ready free = (ready free).segment

pub own_segment : (tries : ℕ) (no_memory : Bool) (units : List UnitView) (unit : ℕ) (watch : ReadingsDone)
    → ((free : UnitView) → MonitorReady tries no_memory (get_or units unit free) watch) → watch.monitor.segment ≡ arc_value watch.segment
own_segment tries no_memory units unit watch ready =
    let here = ready (new_unit (arc_value watch.segment)) in
    here.watched.segment_is ∙ sym here.segment

-- a monitor for each unit, or none
some_units : (none : Bool) (units : List UnitView) → length (if none then [] else units) ≤ length units
some_units true units = omega arith
some_units false units = omega arith

pub monitors_count : (tries : ℕ) (no_memory : Bool) (units : List UnitView) (watched : List ReadingsDone) → AllZip (MonitorReady tries no_memory) (monitored tries units) watched
    → length watched ≡ length (monitored tries units)
monitors_count tries no_memory units watched ready = sym (zip_length (MonitorReady tries no_memory) (monitored tries units) watched ready)

pub few_monitors : (tries : ℕ) (no_memory : Bool) (units : List UnitView) (watched : List ReadingsDone) → AllZip (MonitorReady tries no_memory) (monitored tries units) watched
    → length watched ≤ length units
few_monitors tries no_memory units watched ready =
    let same = monitors_count tries no_memory units watched ready in
    let few = some_units (tries == 0) units in
    omega (arith, same, few)

-- one more is left if one more unit is
pub some_left : (tries : ℕ) (no_memory : Bool) (units : List UnitView) (watched : List ReadingsDone) (unit : ℕ) (done : List MonitorDone)
    → MonitorsSoFar tries no_memory units watched unit done → unit < length units → 0 < length watched
some_left tries no_memory units watched unit done so there =
    let same = zip_length (MonitorReady tries no_memory) so.rest watched so.ready in
    let size : length units ≡ length so.gone + length so.rest = ap length so.split ∙ length-append so.gone so.rest in
    omega (arith, same, size, so.count, there)

-- if no unit is left, no monitor is
pub none_left : (tries : ℕ) (no_memory : Bool) (units : List UnitView) (watched : List ReadingsDone) (unit : ℕ) (done : List MonitorDone)
    → MonitorsSoFar tries no_memory units watched unit done → length units ≤ unit → length watched ≡ 0
none_left tries no_memory units watched unit done so few =
    let same = zip_length (MonitorReady tries no_memory) so.rest watched so.ready in
    let size : length units ≡ length so.gone + length so.rest = ap length so.split ∙ length-append so.gone so.rest in
    omega (arith, same, size, so.count, few)

next_if : (none : Bool) (tries : ℕ) (no_memory : Bool) (units : List UnitView) (unit : ℕ) (watch : ReadingsDone)
    → IsNextMonitor tries no_memory (if none then [] else units) unit watch → IsNextMonitor tries no_memory units unit watch
next_if true tries no_memory units unit watch next = let there = next.there in absurd (omega (arith, there))
next_if false tries no_memory units unit watch next = next

-- the monitor of the next unit, which was taken
pub next_monitor : (tries : ℕ) (no_memory : Bool) (units : List UnitView) (watched watched' : List ReadingsDone) (watch : ReadingsDone) (unit : ℕ) (done : List MonitorDone)
    → MonitorsSoFar tries no_memory (monitored tries units) watched unit done → watched ≡ watch ∷ watched' → IsNextMonitor tries no_memory units unit watch
next_monitor tries no_memory units watched watched' watch unit done so are =
    next_if (tries == 0) tries no_memory units unit watch
    (is_next tries no_memory (monitored tries units) watch watched' unit done (subst (λ l. MonitorsSoFar tries no_memory (monitored tries units) l unit done) are so))

at_if : (none : Bool) (units : List UnitView) (unit : ℕ) (free : UnitView) → unit < length (if none then [] else units)
    → get_or units unit free ≡ get_or (if none then [] else units) unit free
at_if true units unit free there = absurd (omega (arith, there))
at_if false units unit free there = refl

-- and what is left of it
pub next_served : (tries : ℕ) (no_memory : Bool) (units : List UnitView) (watched watched' : List ReadingsDone) (watch : ReadingsDone) (unit : ℕ) (done done' : List MonitorDone) (monitor : MonitorDone)
    → MonitorsSoFar tries no_memory (monitored tries units) watched unit done → watched ≡ watch ∷ watched'
    → ((free : UnitView) → MonitorServed tries no_memory (get_or units unit free) monitor) → done' ≡ done ++ monitor ∷ []
    → MonitorsSoFar tries no_memory (monitored tries units) watched' (unit + 1) done'
next_served tries no_memory units watched watched' watch unit done done' monitor so are served more =
    let here : MonitorsSoFar tries no_memory (monitored tries units) (watch ∷ watched') unit done =
    subst (λ l. MonitorsSoFar tries no_memory (monitored tries units) l unit done) are so in
    let next = is_next tries no_memory (monitored tries units) watch watched' unit done here in
    subst (MonitorsSoFar tries no_memory (monitored tries units) watched' (unit + 1)) (sym more)
    (monitors_more tries no_memory (monitored tries units) watch watched' unit done monitor here
    (λ free. subst (λ v. MonitorServed tries no_memory v monitor) (at_if (tries == 0) units unit free next.there) (served free)))

-- the same of a book that did not change
pub same_book : (tries : ℕ) (no_memory : Bool) (b b' : BookView) (watched : List ReadingsDone) (unit : ℕ) (done : List MonitorDone) → b' ≡ b
    → MonitorsSoFar tries no_memory (monitored tries b.units) watched unit done → MonitorsSoFar tries no_memory (monitored tries b'.units) watched unit done
same_book tries no_memory b b' watched unit done same so =
    subst (λ (c : BookView). MonitorsSoFar tries no_memory (monitored tries c.units) watched unit done) (sym same) so

-- the monitors have the numbers of their units
pub numbers_more : (done done' : List MonitorDone) (monitor : MonitorDone) (unit : ℕ) → map (λ (m : MonitorDone). m.unit) done ≡ range_with_len 0 unit → monitor.unit ≡ unit
    → done' ≡ done ++ monitor ∷ [] → map (λ (m : MonitorDone). m.unit) done' ≡ range_with_len 0 (unit + 1)
numbers_more done done' monitor unit so is more =
    ap (map (λ (m : MonitorDone). m.unit)) more ∙ map-append (λ (m : MonitorDone). m.unit) done (monitor ∷ []) ∙ ap (λ l. l ++ monitor.unit ∷ []) so
    ∙ ap (λ n. range_with_len 0 unit ++ n ∷ []) is ∙ sym (range_more unit)

pub numbers_all : (tries : ℕ) (no_memory : Bool) (units : List UnitView) (watched : List ReadingsDone) (unit : ℕ) (done : List MonitorDone)
    → MonitorsSoFar tries no_memory units watched unit done → map (λ (m : MonitorDone). m.unit) done ≡ range_with_len 0 unit
    → map (λ (m : MonitorDone). m.unit) done ≡ range_with_len 0 (length done)
numbers_all tries no_memory units watched unit done so numbers =
    numbers ∙ ap (range_with_len 0) (sym so.count ∙ zip_length (MonitorServed tries no_memory) so.gone done so.served)
