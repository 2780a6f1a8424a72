-- Devices that were given nothing yet stand for the empty log.
use Rattle.std.proofs.Common.{◌≡◌, ◌<◌, ℕ, suc, refl, ap, ◌∙◌, ◌≤◌, true, false, map, replicate, append-nil, List, [], ◌∷◌, ◌++◌, length, get_or, None, cond, subst, sym, arith}
use Rattle.std.specs.List.{All, filter}
use Rattle.std.proofs.lemmas.List.Elements.{All-get_or, All-head, All-push, All-tail}
use Rattle.book_log.specs.Entries.{Entry, GoesOn, symbols_in}
use Rattle.book_log.specs.History.{history_after}
use Rattle.book_log.specs.Standing.{DeviceStateView, DeviceStatesView, StandsAt, StandsFor, has_stopped, is_ended, is_lost}
use Rattle.book_log.specs.DeviceLogView.{LogHolds, IsFresh, FollowsLog, runs, running, stopped_of}
use Rattle.book_log.specs.Turning.{shown}
use Rattle.book_log.specs.Steps.{IsNew}
use Rattle.book_log.proofs.SummarySteps.{all_stand_still}

new_at : (line : DeviceStateView) (d : ℕ) → IsNew line → StandsAt line d []
unfolding history_after
new_at line d new = record {
  device = λ runs. new.device;
  first = new.first;
  ended = ap is_ended new.stage;
  lost = ap is_lost new.stage;
  fix = new.fix;
  sky = new.sky;
}

pub new_stand : (lines : List DeviceStateView) → All IsNew lines → StandsFor (record { lines = lines; stamp = None }) []
unfolding GoesOn
new_stand lines new = record {
  is_log = tt;
  lines = λ d free within. new_at (get_or lines d free) d (All-get_or IsNew lines d free within new);
  stamp = refl;
}

pub new_run : (lines : List DeviceStateView) → All IsNew lines → length (filter runs lines) ≡ length lines
new_run [] new = refl
new_run (line ∷ lines) new =
    ap (λ b. length (cond b (line ∷ filter runs lines) (filter runs lines))) (ap (λ s. cond (has_stopped s) false true) (All-head IsNew line lines new).stage)
    ∙ ap (λ n. suc n) (new_run lines (All-tail IsNew line lines new))

pub all_more : (lines : List DeviceStateView) (line : DeviceStateView) → All IsNew lines → IsNew line → All IsNew (lines ++ line ∷ [])
all_more lines line new next = All-push IsNew lines line new next

pub new_stopped : (lines : List DeviceStateView) → All IsNew lines → map (λ line. has_stopped line.stage) lines ≡ replicate (length lines) false
new_stopped [] new = refl
new_stopped (line ∷ lines) new =
    ap (λ b. b ∷ map (λ l. has_stopped l.stage) lines) (ap has_stopped (All-head IsNew line lines new).stage)
    ∙ ap (λ s. false ∷ s) (new_stopped lines (All-tail IsNew line lines new))

pub new_log : (opening present : DeviceStatesView) (devices limit : ℕ) (log : List Entry) → opening ≡ present → StandsFor present [] → length present.lines ≡ devices
    → running present ≡ devices → stopped_of present ≡ replicate devices false → devices < 256 → limit ≤ 33_554_432 → log ≡ []
    → LogHolds (shown present limit 0 (record { opening = opening; log = log; length = 0; symbols = 0 }))
    × IsFresh devices limit (shown present limit 0 (record { opening = opening; log = log; length = 0; symbols = 0 }))
unfolding history_after
new_log opening present devices limit log same stands count runs stopped small limited none =
    let P : DeviceStatesView → Type 0 = λ o. StandsFor o [] in (
      record {
        some = ([], subst P (sym same) stands);
        over = λ before was. new_over opening present limit log before same none was;
        devices_go_on = all_stand_still opening present log same none;
        symbols = ap symbols_in (sym none);
        few = omega arith;
        limit = limited;
        bound = omega arith;
        count = ap (λ o. length o.lines) same;
        devices = omega arith;
        generation = omega arith;
      },
      record {
        opening = subst P (sym same) stands;
        present = stands;
        count = count;
        stopped = stopped;
        log = none;
        places = refl;
        symbols = refl;
        limit_is = refl;
        generation = refl;
      },
    )
  where
    new_over : (opening present : DeviceStatesView) (limit : ℕ) (log : List Entry) (before : List Entry) → opening ≡ present → log ≡ [] → StandsFor opening before
        → FollowsLog (shown present limit 0 (record { opening = opening; log = log; length = 0; symbols = 0 })) before
    new_over opening present limit log before same none was =
        let P : DeviceStatesView → Type 0 = λ o. StandsFor o before in
        let Q : List Entry → Type 0 = λ l. StandsFor present l in
        record {
          present = subst Q (sym (append-nil before) ∙ ap (λ l. before ++ l) (sym none)) (subst P same was);
          places = ap (λ l. length (history_after before l)) (sym none);
        }
