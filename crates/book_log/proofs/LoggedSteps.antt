-- What always holds of a book's devices and log goes on by entries, and by a turn.
use Rattle.std.proofs.Common.{◌≡◌, ◌<◌, ◌≤◌, ◌+◌, ◌*◌, ℕ, Bool, true, false, refl, sym, ap, ◌∙◌, subst, List, [], ◌∷◌, ◌++◌, get_or, length, Option, Some, None, is_some, append-nil, append_assoc, cond, max, arith, length-append}
use Rattle.std.specs.List.{filter}
use Rattle.gps_report.specs.declared.report.Report.{Report}
use Rattle.book_log.specs.declared.generation.Generation.{Generation}
use Rattle.book_log.specs.Entries.{Entry, is_symbol, stream, symbols_in}
use Rattle.book_log.specs.History.{history_after}
use Rattle.device_core.specs.Standing.{StandsFor as DeviceStands}
use Rattle.book_log.specs.Standing.{DeviceStateView, StandsFor, DeviceStatesView, DevicesGoOn}
use Rattle.book_log.specs.DeviceLogView.{LogAdds, LogHolds, DeviceLogView, FollowsLog, next_generation, running, runs, turned, turned_if}
use Rattle.book_log.specs.Steps.{GoesAll}
use Rattle.book_log.specs.Turning.{IsNext, generation_after, shown}
use Rattle.book_log.proofs.Histories.{history-append, stream-append, symbols_in-append}
use Rattle.book_log.proofs.SummarySteps.{all_stand_still}

pub over_more : (b : DeviceLogView) (now : DeviceStatesView) (log entries : List Entry) (reports : List Report) (places symbols : ℕ) (before : List Entry)
    → FollowsLog b before → GoesAll b.present now entries reports → log ≡ b.log ++ entries → places ≡ b.length + length reports
    → FollowsLog (record b { present = now; log = log; length = places; symbols = symbols }) before
over_more b now log entries reports places symbols before was goes are longer =
    let P : List Entry → Type 0 = λ l. StandsFor now l in
    let joined : (before ++ b.log) ++ entries ≡ before ++ log = append_assoc before b.log entries ∙ ap (λ l. before ++ l) (sym are) in
    let whole : history_after before log ≡ history_after before b.log ++ reports =
    ap (history_after before) are ∙ history-append before b.log entries ∙ ap (λ r. history_after before b.log ++ r) (goes.adds (before ++ b.log) was.present) in
    record {
      present = subst P joined (goes.stands (before ++ b.log) was.present);
      places = longer ∙ ap (λ n. n + length reports) was.places ∙ sym (ap length whole ∙ length-append (history_after before b.log) reports);
    }

pub devices_on : (old mid new : DeviceStatesView) (log entries : List Entry) → length new.lines ≡ length mid.lines → DevicesGoOn old mid log → DevicesGoOn mid new entries
    → DevicesGoOn old new (log ++ entries)
devices_on old mid new log entries count first then = λ d free within still.
    let there : d < length mid.lines = subst (λ n. d < n) count within in
    let now = then d free within still in
    let was = first d free there now.0 in (
      was.0,
      λ past stands. subst (DeviceStands (get_or new.lines d free).kept)
          (append_assoc past (stream d log) (stream d entries) ∙ ap (λ s. past ++ s) (sym (stream-append d log entries)))
          (now.1 (past ++ stream d log) (was.1 past stands)),
    )

pub added : (b : DeviceLogView) (now : DeviceStatesView) (log entries : List Entry) (reports : List Report) (places symbols : ℕ)
    → LogHolds b → GoesAll b.present now entries reports → log ≡ b.log ++ entries → places ≡ b.length + length reports → symbols ≡ b.symbols + symbols_in entries
    → symbols ≤ max b.limit 512 → places + 3 * running now ≤ 2057 * symbols + 3 * length now.lines
    → LogHolds (record b { present = now; log = log; length = places; symbols = symbols })
    × LogAdds b (record b { present = now; log = log; length = places; symbols = symbols }) entries reports
added b now log entries reports places symbols h goes are longer more few bound = (
  record {
    some = h.some;
    over = λ before was. over_more b now log entries reports places symbols before (h.over before was) goes are longer;
    devices_go_on = let P : List Entry → Type 0 = λ l. DevicesGoOn b.opening now l in
        subst P (sym are) (devices_on b.opening b.present now b.log entries goes.count h.devices_go_on goes.devices);
    symbols = more ∙ ap (λ n. n + symbols_in entries) h.symbols
        ∙ sym (ap symbols_in are ∙ symbols_in-append b.log entries ∙ length-append (filter is_symbol b.log) (filter is_symbol entries));
    few = few;
    limit = h.limit;
    bound = bound;
    count = h.count ∙ sym goes.count;
    devices = subst (λ n. n ≤ 255) (sym goes.count) h.devices;
    generation = h.generation;
  },
  record {
    opening = refl;
    log = are;
    reports_are = λ before was. goes.adds (before ++ b.log) (h.over before was).present;
    longer = longer;
    symbols = more;
    limit = refl;
    generation = refl;
    count = goes.count;
  },
)

few_more : (b : Bool) (line : DeviceStateView) (kept lines : List DeviceStateView) → length kept ≤ length lines → length (cond b (line ∷ kept) kept) ≤ length (line ∷ lines)
few_more true line kept lines few = omega arith
few_more false line kept lines few = omega arith

pub few_run : (lines : List DeviceStateView) → length (filter runs lines) ≤ length lines
few_run [] = omega arith
few_run (line ∷ lines) = few_more (runs line) line (filter runs lines) lines (few_run lines)

pub turned_holds : (b : DeviceLogView) → LogHolds b → LogHolds (turned b)
unfolding history_after
turned_holds b h = record {
  some = (h.some.0 ++ b.log, (h.over h.some.0 h.some.1).present);
  over = λ before was. record { present = let P : List Entry → Type 0 = λ l. StandsFor b.present l in subst P (sym (append-nil before)) was; places = refl };
  devices_go_on = all_stand_still b.present b.present [] refl refl;
  symbols = refl;
  few = omega arith;
  limit = h.limit;
  bound = omega (arith, few_run b.present.lines);
  count = refl;
  devices = h.devices;
  generation = omega arith;
}

pub turned_if_holds : (turns : Bool) (b : DeviceLogView) → LogHolds b → LogHolds (turned_if turns b)
turned_if_holds true b h = turned_holds b h
turned_if_holds false b h = h

-- what is seen after `prepared` and `begin`
pub began : (turns : Bool) (now : DeviceStatesView) (limit number later : ℕ) (old current : Generation) (next : Option DeviceStatesView)
    → IsNext turns now next → current ≡ generation_after next old → later ≡ cond (is_some next) (next_generation number) number
    → shown now limit later current ≡ turned_if turns (shown now limit number old)
began true now limit number later old current None is_next is_current is_number = cc is_next
began false now limit number later old current (Some opening) is_next is_current is_number = cc is_next
began false now limit number later old current None is_next is_current is_number =
    ap (λ n. shown now limit n current) is_number ∙ ap (shown now limit number) is_current
began true now limit number later old current (Some opening) is_next is_current is_number =
    ap (λ n. shown now limit n current) is_number ∙ ap (shown now limit (next_generation number)) is_current
    ∙ ap (λ o. record { opening = o; present = now; log = []; length = 0; symbols = 0; limit = limit; generation = next_generation number }) opens
  where
    opens : opening ≡ now
    opens = cc is_next
