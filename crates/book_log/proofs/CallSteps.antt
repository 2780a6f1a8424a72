-- What each call owes, over plain fields.
use Rattle.std.proofs.Common.{◌≡◌, ◌≤◌, ◌<◌, ◌+◌, ◌++◌, ◌*◌, ◌&&◌, ℕ, zero, suc, Bool, true, false, refl, sym, ap, ◌∙◌, subst, List, [], ◌∷◌, length, get_or, Option, Some, None, is_some, cond, map, max, nat_lt, arith}
use Rattle.std.specs.List.{filter}
use Rattle.std.proofs.Math.ListN.{set}
use Rattle.std.proofs.Math.Seq.{map-set_same}
use Rattle.std.proofs.lemmas.Bool.Decides.{nat_tests}
use Rattle.std.proofs.lemmas.List.{map-set}
use Rattle.gps_fixed.specs.Moment.{Moment}
use Rattle.gps_report.specs.declared.edge.Edge.{Edge}
use Rattle.gps_report.specs.declared.edge.Symbol.{Symbol}
use Rattle.gps_report.specs.declared.edge.Symbol.TheVariants.{Edge as EdgeSymbol}
use Rattle.gps_report.specs.declared.report.Report.{Report}
use Rattle.device_core.specs.Stream.{piece}
use Rattle.book_log.specs.declared.generation.Generation.{Generation}
use Rattle.book_log.specs.declared.device_stage.DeviceStage.{DeviceStage}
use Rattle.book_log.specs.declared.device_stage.DeviceStage.TheVariants.{Running, Ended, Lost}
use Rattle.book_log.specs.Entries.{Entry, edged, ended, fed, lost, symbols_in}
use Rattle.book_log.specs.Standing.{DeviceStateView, DeviceStatesView, has_stopped}
use Rattle.book_log.specs.DeviceLogView.{LogHolds, DeviceLogView, running, runs, stopped_of, next_generation, turned_if, turns_at}
use Rattle.book_log.specs.Steps.{ChangesAt, EndsAt, GoesAll, LosesAt, TakesSymbols, TakesAt}
use Rattle.book_log.specs.Turning.{Called, IsNext, generation_after, shown}
use Rattle.book_log.proofs.Histories.{symbols_got}
use Rattle.book_log.proofs.LoggedSteps.{added, began, turned_if_holds}
use Rattle.book_log.proofs.SummarySteps.{edged_all, ended_all, fed_all, lost_all}

is_running : (stage : DeviceStage) → has_stopped stage ≡ false → stage ≡ Running
is_running Running runs = refl
is_running Ended runs = let e : true ≡ false = runs in cc
is_running Lost runs = let e : true ≡ false = runs in cc

-- a device that has not stopped is there
pub runs_there : (lines : List DeviceStateView) (d : ℕ) → get_or (map (λ line. has_stopped line.stage) lines) d true ≡ false
    → (d < length lines) × ((free : DeviceStateView) → (get_or lines d free).stage ≡ Running)
runs_there [] d stopped = let e : true ≡ false = stopped in cc
runs_there (line ∷ lines) zero stopped = (omega arith, λ free. is_running line.stage stopped)
runs_there (line ∷ lines) (suc d) stopped = let more = runs_there lines d stopped in (omega (arith, more.0), more.1)

behind : (b : Bool) (line : DeviceStateView) (news olds : List DeviceStateView) (m n : ℕ) → length news + m ≡ length olds + n
    → length (cond b (line ∷ news) news) + m ≡ length (cond b (line ∷ olds) olds) + n
behind true line news olds m n same = omega arith
behind false line news olds m n same = same

-- how many run, if one line became another
pub running_set : (lines : List DeviceStateView) (d : ℕ) (next free : DeviceStateView) → d < length lines
    → length (filter runs (set lines d next)) + cond (runs (get_or lines d free)) 1 0 ≡ length (filter runs lines) + cond (runs next) 1 0
running_set [] d next free within = absurd (omega arith)
running_set (line ∷ lines) zero next free within = swapped (runs line) (runs next)
  where
    swapped : (b c : Bool) → length (cond c (next ∷ filter runs lines) (filter runs lines)) + cond b 1 0 ≡ length (cond b (line ∷ filter runs lines) (filter runs lines)) + cond c 1 0
    swapped true true = refl
    swapped true false = omega arith
    swapped false true = omega arith
    swapped false false = refl
running_set (line ∷ lines) (suc d) next free within = behind (runs line) line (filter runs (set lines d next)) (filter runs lines) (cond (runs (get_or lines d free)) 1 0) (cond (runs next) 1 0) (running_set lines d next free (omega arith))

runs_now : (line : DeviceStateView) → line.stage ≡ Running → runs line ≡ true
runs_now line is = ap (λ s. cond (has_stopped s) false true) is

stops_now : (line : DeviceStateView) → has_stopped line.stage ≡ true → runs line ≡ false
stops_now line is = ap (λ b. cond b false true) is

-- a device's line changed, and the device still runs
pub still_runs : (olds news : List DeviceStateView) (d : ℕ) (next : DeviceStateView) → d < length olds → ((free : DeviceStateView) → (get_or olds d free).stage ≡ Running)
    → news ≡ set olds d next → next.stage ≡ Running
    → (map (λ line. has_stopped line.stage) news ≡ map (λ line. has_stopped line.stage) olds) × (length (filter runs news) ≡ length (filter runs olds))
still_runs olds news d next within was are is =
    let count : length (filter runs news) + 1 ≡ length (filter runs olds) + 1 =
    ap (λ l. length (filter runs l) + 1) are
    ∙ ap (λ b. length (filter runs (set olds d next)) + cond b 1 0) (sym (runs_now (get_or olds d next) (was next)))
    ∙ running_set olds d next next within ∙ ap (λ b. length (filter runs olds) + cond b 1 0) (runs_now next is) in (
      ap (map (λ line. has_stopped line.stage)) are
          ∙ map-set_same (λ line. has_stopped line.stage) olds d next next (ap has_stopped is ∙ ap has_stopped (sym (was next))),
      omega (arith, count),
    )

-- a device's line changed, and the device has stopped
pub runs_no_more : (olds news : List DeviceStateView) (d : ℕ) (next : DeviceStateView) → d < length olds → ((free : DeviceStateView) → (get_or olds d free).stage ≡ Running)
    → news ≡ set olds d next → has_stopped next.stage ≡ true
    → (map (λ line. has_stopped line.stage) news ≡ set (map (λ line. has_stopped line.stage) olds) d true) × (length (filter runs news) + 1 ≡ length (filter runs olds))
runs_no_more olds news d next within was are is =
    let count : length (filter runs news) + 1 ≡ length (filter runs olds) + 0 =
    ap (λ l. length (filter runs l) + 1) are
    ∙ ap (λ b. length (filter runs (set olds d next)) + cond b 1 0) (sym (runs_now (get_or olds d next) (was next)))
    ∙ running_set olds d next next within ∙ ap (λ b. length (filter runs olds) + cond b 1 0) (stops_now next is) in (
      ap (map (λ line. has_stopped line.stage)) are ∙ map-set (λ line. has_stopped line.stage) olds d next ∙ ap (set (map (λ line. has_stopped line.stage) olds) d) is,
      omega (arith, count),
    )

-- a call's symbols fit into the generation that it goes to
few_after : (turns : Bool) (b : DeviceLogView) (more : ℕ) → LogHolds b → turns ≡ turns_at b more → more ≤ 512
    → (turned_if turns b).symbols + more ≤ max (turned_if turns b).limit 512
few_after true b more h is few = omega arith
few_after false b more h is few = stays (nat_lt 0 b.symbols) (nat_lt b.limit (b.symbols + more)) refl refl is
  where
    stays : (some full : Bool) → nat_lt 0 b.symbols ≡ some → nat_lt b.limit (b.symbols + more) ≡ full → false ≡ (some && full) → b.symbols + more ≤ max b.limit 512
    stays true true some full is = let e : false ≡ true = is in cc
    stays true false some full is = grind (arith, nat_tests)
    stays false true some full is = grind (arith, nat_tests)
    stays false false some full is = grind (arith, nat_tests)

-- the symbols of a piece are as many as its bytes
pub piece_long : (at : Moment) (bytes : List ℕ) → length (piece at bytes) ≡ length bytes
piece_long at [] = refl
piece_long at (byte ∷ bytes) = ap (λ n. suc n) (piece_long at bytes)

-- a call that adds symbols, if a new generation begins before them if one is due
pub called : (old : DeviceLogView) (devices present : DeviceStatesView) (limit number later : ℕ) (was current : Generation) (next : Option DeviceStatesView) (log : List Entry) (turns : Bool)
    (entries : List Entry) (reports : List Report) (more count : ℕ)
    → LogHolds (shown devices limit number was) → shown devices limit number was ≡ old
    → 0 < more → more ≤ 512 → symbols_in entries ≡ more → turns ≡ turns_at (shown devices limit number was) more → IsNext turns devices next
    → GoesAll devices present entries reports → running present ≡ running devices → length reports ≤ 2056 + more
    → current ≡ generation_after next was → later ≡ cond (is_some next) (next_generation number) number
    → log ≡ current.log ++ entries → count ≡ length reports
    → Called (turned_if (turns_at old more) old)
    (shown present limit later (record { opening = current.opening; log = log; length = current.length + count; symbols = current.symbols + more })) entries reports
called old devices present limit number later was current next log turns entries reports more count h seen some few in_all due is_next goes still short is_current is_number keeps long =
    let b = shown devices limit number was in
    let mid_is : shown devices limit later current ≡ turned_if turns b = began turns devices limit number later was current next is_next is_current is_number in
    let mid = shown devices limit later current in
    let h_mid : LogHolds mid = subst LogHolds (sym mid_is) (turned_if_holds turns b h) in
    let Q : DeviceLogView → Type 0 = λ m. m.symbols + more ≤ max m.limit 512 in
    let fits : mid.symbols + more ≤ max mid.limit 512 = subst Q (sym mid_is) (few_after turns b more h due few) in
    let bound : (current.length + count) + 3 * running present ≤ 2057 * (current.symbols + more) + 3 * length present.lines =
    omega (arith, h_mid.bound, still, goes.count, short, some, long) in
    let both = added mid present log entries reports (current.length + count) (current.symbols + more) h_mid goes keeps
    (ap (λ n. current.length + n) long) (ap (λ n. current.symbols + n) (sym in_all)) fits bound in
    let R : DeviceLogView → Type 0 = λ m. Called m
    (shown present limit later (record { opening = current.opening; log = log; length = current.length + count; symbols = current.symbols + more })) entries reports in
    subst R (mid_is ∙ ap (λ t. turned_if t b) due ∙ ap (λ m. turned_if (turns_at m more) m) seen)
    (record { adds = both.1; holds = both.0 })

-- a call that adds the end or the loss of a device
pub called_once : (old : DeviceLogView) (devices present : DeviceStatesView) (limit number : ℕ) (was : Generation) (log : List Entry) (entries : List Entry) (reports : List Report) (count : ℕ)
    → LogHolds (shown devices limit number was) → shown devices limit number was ≡ old
    → symbols_in entries ≡ 0 → GoesAll devices present entries reports → running present + 1 ≡ running devices → length reports ≤ 3
    → log ≡ was.log ++ entries → count ≡ length reports
    → Called old (shown present limit number (record { opening = was.opening; log = log; length = was.length + count; symbols = was.symbols })) entries reports
called_once old devices present limit number was log entries reports count h seen none goes fewer short keeps long =
    let b = shown devices limit number was in
    let bound : (was.length + count) + 3 * running present ≤ 2057 * was.symbols + 3 * length present.lines = omega (arith, h.bound, fewer, goes.count, short, long) in
    let kept : was.symbols ≡ was.symbols + symbols_in entries = omega (arith, none) in
    let both = added b present log entries reports (was.length + count) was.symbols h goes keeps (ap (λ n. was.length + n) long) kept h.few bound in
    let R : DeviceLogView → Type 0 = λ m. Called m
    (shown present limit number (record { opening = was.opening; log = log; length = was.length + count; symbols = was.symbols })) entries reports in
    subst R seen (record { adds = both.1; holds = both.0 })

took_symbols : (olds news : List DeviceStateView) (d : ℕ) (symbols : List Symbol) (stamp : Option Moment) (reports : List Report) → d < length olds
    → ((free : DeviceStateView) → (get_or olds d free).stage ≡ Running) → ChangesAt olds news d (λ line next. TakesSymbols line next d symbols stamp reports)
    → (map (λ line. has_stopped line.stage) news ≡ map (λ line. has_stopped line.stage) olds) × (length (filter runs news) ≡ length (filter runs olds))
took_symbols olds news d symbols stamp reports within was changes =
    let next = changes.next in still_runs olds news d next within was changes.news_are ((changes.changes next).1.stage ∙ was next)

-- `feed`
pub fed_called : (old : DeviceLogView) (devices present : DeviceStatesView) (limit number later : ℕ) (was current : Generation) (next : Option DeviceStatesView) (log : List Entry) (turns : Bool)
    (d : ℕ) (at : Moment) (bytes : List ℕ) (reports : List Report) (count : ℕ)
    → LogHolds (shown devices limit number was) → shown devices limit number was ≡ old → get_or (stopped_of old.present) d true ≡ false
    → 0 < length bytes → length bytes ≤ 512 → turns ≡ turns_at (shown devices limit number was) (length bytes) → IsNext turns devices next
    → TakesAt devices present d (piece at bytes) (Some at) reports
    → current ≡ generation_after next was → later ≡ cond (is_some next) (next_generation number) number
    → log ≡ current.log ++ fed d at bytes → count ≡ length reports
    → Called (turned_if (turns_at old (length bytes)) old)
    (shown present limit later (record { opening = current.opening; log = log; length = current.length + count; symbols = current.symbols + length bytes })) (fed d at bytes) reports
fed_called old devices present limit number later was current next log turns d at bytes reports count h seen runs_d some few due is_next takes is_current is_number keeps long =
    let P : DeviceLogView → Type 0 = λ b. get_or (stopped_of b.present) d true ≡ false in
    let there = runs_there devices.lines d (subst P (sym seen) runs_d) in
    let next_line = takes.lines_are.next in
    let short = (takes.lines_are.changes next_line).1.few in
    called old devices present limit number later was current next log turns (fed d at bytes) reports (length bytes) count h seen some few
    (symbols_got d (piece at bytes) ∙ piece_long at bytes) due is_next (fed_all devices present d at bytes reports there.0 some there.1 takes)
    (took_symbols devices.lines present.lines d (piece at bytes) (Some at) reports there.0 there.1 takes.lines_are).1
    (subst (λ n. length reports ≤ 2056 + n) (piece_long at bytes) short) is_current is_number keeps long

pub fed_few : (devices present : DeviceStatesView) (d : ℕ) (at : Moment) (bytes : List ℕ) (reports : List Report) → TakesAt devices present d (piece at bytes) (Some at) reports
    → length reports ≤ 2056 + length bytes
fed_few devices present d at bytes reports takes =
    let next_line = takes.lines_are.next in subst (λ n. length reports ≤ 2056 + n) (piece_long at bytes) (takes.lines_are.changes next_line).1.few

pub took_stopped : (old : DeviceLogView) (devices present : DeviceStatesView) (limit number : ℕ) (was : Generation) (d : ℕ) (symbols : List Symbol) (stamp : Option Moment) (reports : List Report)
    → shown devices limit number was ≡ old → get_or (stopped_of old.present) d true ≡ false → TakesAt devices present d symbols stamp reports
    → stopped_of present ≡ stopped_of old.present
took_stopped old devices present limit number was d symbols stamp reports seen runs_d takes =
    let P : DeviceLogView → Type 0 = λ b. get_or (stopped_of b.present) d true ≡ false in
    let there = runs_there devices.lines d (subst P (sym seen) runs_d) in
    (took_symbols devices.lines present.lines d symbols stamp reports there.0 there.1 takes.lines_are).0 ∙ ap (λ b. stopped_of b.present) seen

-- `edge`
pub edged_called : (old : DeviceLogView) (devices present : DeviceStatesView) (limit number later : ℕ) (was current : Generation) (next : Option DeviceStatesView) (log : List Entry) (turns : Bool)
    (d : ℕ) (edge : Edge) (reports : List Report) (count : ℕ)
    → LogHolds (shown devices limit number was) → shown devices limit number was ≡ old → get_or (stopped_of old.present) d true ≡ false
    → turns ≡ turns_at (shown devices limit number was) 1 → IsNext turns devices next
    → TakesAt devices present d (EdgeSymbol edge ∷ []) None reports
    → current ≡ generation_after next was → later ≡ cond (is_some next) (next_generation number) number
    → log ≡ current.log ++ edged d edge → count ≡ length reports
    → Called (turned_if (turns_at old 1) old)
    (shown present limit later (record { opening = current.opening; log = log; length = current.length + count; symbols = current.symbols + 1 })) (edged d edge) reports
edged_called old devices present limit number later was current next log turns d edge reports count h seen runs_d due is_next takes is_current is_number keeps long =
    let P : DeviceLogView → Type 0 = λ b. get_or (stopped_of b.present) d true ≡ false in
    let there = runs_there devices.lines d (subst P (sym seen) runs_d) in
    let next_line = takes.lines_are.next in
    called old devices present limit number later was current next log turns (edged d edge) reports 1 count h seen (omega arith) (omega arith)
    refl due is_next (edged_all devices present d edge reports there.0 there.1 takes)
    (took_symbols devices.lines present.lines d (EdgeSymbol edge ∷ []) None reports there.0 there.1 takes.lines_are).1
    (omega (arith, (takes.lines_are.changes next_line).1.few)) is_current is_number keeps long

pub edged_few : (devices present : DeviceStatesView) (d : ℕ) (edge : Edge) (reports : List Report) → TakesAt devices present d (EdgeSymbol edge ∷ []) None reports
    → length reports ≤ 1
edged_few devices present d edge reports takes = let next_line = takes.lines_are.next in (takes.lines_are.changes next_line).1.few

-- `end_device`
pub ended_called : (old : DeviceLogView) (devices present : DeviceStatesView) (limit number : ℕ) (was : Generation) (log : List Entry) (d : ℕ) (reports : List Report) (count : ℕ)
    → LogHolds (shown devices limit number was) → shown devices limit number was ≡ old → get_or (stopped_of old.present) d true ≡ false
    → EndsAt devices present d reports → log ≡ was.log ++ ended d → count ≡ length reports
    → Called old (shown present limit number (record { opening = was.opening; log = log; length = was.length + count; symbols = was.symbols })) (ended d) reports
ended_called old devices present limit number was log d reports count h seen runs_d ends keeps long =
    let P : DeviceLogView → Type 0 = λ b. get_or (stopped_of b.present) d true ≡ false in
    let there = runs_there devices.lines d (subst P (sym seen) runs_d) in
    let next_line = ends.lines_are.next in
    let closed = (ends.lines_are.changes next_line).1 in
    called_once old devices present limit number was log (ended d) reports count h seen refl (ended_all devices present d reports there.0 there.1 ends)
    (runs_no_more devices.lines present.lines d next_line there.0 there.1 ends.lines_are.news_are (ap has_stopped closed.stage)).1 closed.few keeps long

pub ended_few : (devices present : DeviceStatesView) (d : ℕ) (reports : List Report) → EndsAt devices present d reports → length reports ≤ 3
ended_few devices present d reports ends = let next_line = ends.lines_are.next in (ends.lines_are.changes next_line).1.few

pub ended_stopped : (old : DeviceLogView) (devices present : DeviceStatesView) (limit number : ℕ) (was : Generation) (d : ℕ) (reports : List Report)
    → shown devices limit number was ≡ old → get_or (stopped_of old.present) d true ≡ false → EndsAt devices present d reports
    → stopped_of present ≡ set (stopped_of old.present) d true
ended_stopped old devices present limit number was d reports seen runs_d ends =
    let P : DeviceLogView → Type 0 = λ b. get_or (stopped_of b.present) d true ≡ false in
    let there = runs_there devices.lines d (subst P (sym seen) runs_d) in
    let next_line = ends.lines_are.next in
    (runs_no_more devices.lines present.lines d next_line there.0 there.1 ends.lines_are.news_are (ap has_stopped (ends.lines_are.changes next_line).1.stage)).0
    ∙ ap (λ b. set (stopped_of b.present) d true) seen

-- `lose_device`
pub lost_called : (old : DeviceLogView) (devices present : DeviceStatesView) (limit number : ℕ) (was : Generation) (log : List Entry) (d : ℕ)
    → LogHolds (shown devices limit number was) → shown devices limit number was ≡ old → get_or (stopped_of old.present) d true ≡ false
    → LosesAt devices present d → log ≡ was.log ++ lost d
    → Called old (shown present limit number (record { opening = was.opening; log = log; length = was.length; symbols = was.symbols })) (lost d) []
lost_called old devices present limit number was log d h seen runs_d loses keeps =
    let P : DeviceLogView → Type 0 = λ b. get_or (stopped_of b.present) d true ≡ false in
    let there = runs_there devices.lines d (subst P (sym seen) runs_d) in
    let next_line = loses.lines_are.next in
    let R : ℕ → Type 0 = λ n. Called old (shown present limit number (record { opening = was.opening; log = log; length = n; symbols = was.symbols })) (lost d) [] in
    let plain : was.length + 0 ≡ was.length = omega arith in
    subst R plain (called_once old devices present limit number was log (lost d) [] 0 h seen refl (lost_all devices present d there.0 there.1 loses)
    (runs_no_more devices.lines present.lines d next_line there.0 there.1 loses.lines_are.news_are (ap (λ l. has_stopped l.stage) (loses.lines_are.changes next_line))).1
    (omega arith) keeps refl)

pub lost_stopped : (old : DeviceLogView) (devices present : DeviceStatesView) (limit number : ℕ) (was : Generation) (d : ℕ)
    → shown devices limit number was ≡ old → get_or (stopped_of old.present) d true ≡ false → LosesAt devices present d
    → stopped_of present ≡ set (stopped_of old.present) d true
lost_stopped old devices present limit number was d seen runs_d loses =
    let P : DeviceLogView → Type 0 = λ b. get_or (stopped_of b.present) d true ≡ false in
    let there = runs_there devices.lines d (subst P (sym seen) runs_d) in
    let next_line = loses.lines_are.next in
    (runs_no_more devices.lines present.lines d next_line there.0 there.1 loses.lines_are.news_are (ap (λ l. has_stopped l.stage) (loses.lines_are.changes next_line))).0
    ∙ ap (λ b. set (stopped_of b.present) d true) seen
