-- What a device or a session that goes on shows, and whether the devices wait.
use Rattle.std.proofs.Common.{◌≡◌, ◌<◌, ℕ, ◌+◌, Bool, true, false, ◌||◌, List, [], ◌∷◌, ◌++◌, length, get_or, Option, Some, None, refl, sym, ap, ◌∙◌, subst, ◌⊎◌, ⊎_elim, arith, nat_lt}
use Rattle.std.specs.Prelude.{is_some, slice_get, slice_index_or, option_and_then}
use Rattle.std.proofs.lemmas.Bool.Decides.{nat_tests}
use Rattle.std.proofs.lemmas.List.{get_or-map}
use Rattle.std.proofs.lemmas.Option.{slice_get-get_or}
use Rattle.book_log.specs.Entries.{has_end, has_lost}
use Rattle.book_log.specs.DeviceLogView.{stopped_of}
use Rattle.book_log.specs.Standing.{DeviceStateView, has_stopped, is_ended, is_lost}
use Rattle.book_log.specs.declared.device_stage.DeviceStage.{DeviceStage}
use Rattle.book_log.specs.declared.device_stage.DeviceStage.TheVariants.{Running, Ended, Lost}
use Rattle.book_sessions.specs.MemberView.{MemberView}
use Rattle.book_sessions.specs.Roster.{IsOpenAt}
use Rattle.atomic_table.specs.Seated.{TableId}
use Rattle.report_book.specs.BookView.{BookView}
use Rattle.report_book.specs.Refusals.{device_fault, fault_of, session_fault}
use Rattle.session_core.specs.declared.mark.Close.{Close}
use Rattle.session_core.specs.Naming.{untold}
use Rattle.hub_promise.specs.declared.ends.DeviceEnd.{DeviceEnd}
use Rattle.hub_promise.specs.declared.ends.DeviceEnd.TheVariants.{Ended as DeviceEnded, ReadFault as DeviceFault, NoMemory as DeviceNoMemory}
use Rattle.hub_promise.specs.DaemonHub.{DeviceFits, MayGoOn, whole_log}
use Rattle.hub_promise.specs.Given.{is_end, is_loss}
use Rattle.hub_promise.specs.Keeping.{HubKeeps, Lasts, no_end}
use Rattle.hub_promise.specs.Parts.{HubView, InletsView, Terms, device_of, parts_of}
use Rattle.hub_promise.proofs.Lists.{device_fits}

pub no_table : TableId
no_table = record { words = 0; slots = 0; views_name = 0; atom = 0; block = 0; offset = 0; slot_names = [] }

pub no_lanes : InletsView
no_lanes = record { bytes = record { lane = no_table; about = untold; got = [] }; edges = None }

-- a device of a hub fits the log
pub device_now : (terms : Terms) (h : HubView) (lasts : List Lasts) (d : ℕ) (x : InletsView) (end : Option DeviceEnd) (k : HubKeeps terms h lasts) → d < length h.book.names
    → DeviceFits (whole_log k.over.0 h.book) d (device_of (get_or h.inlets d x) (get_or h.ends d end))
device_now terms h lasts d x end k lt =
    device_fits (whole_log k.over.0 h.book) (length h.book.names) h.inlets h.ends d x end k.count k.ends_count lt k.over.1.hub.devices

running_line : (stage : DeviceStage) → is_ended stage ≡ false → is_lost stage ≡ false → has_stopped stage ≡ false
running_line Running e l = refl
running_line Ended e l = e
running_line Lost e l = l

pub stopped_line : (stage : DeviceStage) → has_stopped stage ≡ true → (is_ended stage || is_lost stage) ≡ true
stopped_line Running e = e
stopped_line Ended e = refl
stopped_line Lost e = refl

pub line_stopped : (stage : DeviceStage) → (is_ended stage || is_lost stage) ≡ true → has_stopped stage ≡ true
line_stopped Running e = e
line_stopped Ended e = refl
line_stopped Lost e = refl

pub some_line : (lines : List DeviceStateView) (d : ℕ) → d < length lines → DeviceStateView
some_line [] d lt = absurd (omega arith)
some_line (x ∷ lines) d lt = x

exists_free : (d n : ℕ) (stopped : Bool) → d < n → stopped ≡ false → fault_of (nat_lt d n) stopped ≡ None
exists_free d n stopped lt is =
    let e : nat_lt d n ≡ true = grind (arith, nat_tests) in
    λ i. fault_of (e i) (is i)

-- a device that goes on is refused only when it is out of memory
pub device_free : (terms : Terms) (h : HubView) (lasts : List Lasts) (d : ℕ) (end : Option DeviceEnd) → HubKeeps terms h lasts → d < length h.book.names → get_or h.ends d end ≡ None → device_fault h.book d ≡ None
device_free terms h lasts d end k lt runs =
    let lines = h.book.log.present.lines in
    let within : d < length lines = subst (λ (n : ℕ). d < n) k.holds.names lt in
    let free = some_line lines d within in
    let at = ((k.holds.log.over k.over.0 k.over.1.hub.opening).present.lines d free within) in
    let fits = device_now terms h lasts d no_lanes end k lt in
    let stage = (get_or lines d free).stage in
    let stopped : has_stopped stage ≡ false =
    running_line stage (at.ended ∙ fits.ended ∙ ap is_end runs) (at.lost ∙ fits.lost ∙ ap is_loss runs) in
    exists_free d (length h.book.names) (get_or (stopped_of h.book.log.present) d true) lt
    (get_or-map (λ (line : DeviceStateView). has_stopped line.stage) lines d free true within ∙ stopped)

closing_at : (sessions : List MemberView) (s : ℕ) (free : MemberView) → s < length sessions → option_and_then (λ (a : MemberView). a.session.closing) (slice_get sessions s) ≡ (slice_index_or sessions s free).session.closing
closing_at sessions s free lt = ap (option_and_then (λ (a : MemberView). a.session.closing)) (slice_get-get_or sessions s free lt)

pub open_at : (sessions : List MemberView) (s : ℕ) → s < length sessions → option_and_then (λ (a : MemberView). a.session.closing) (slice_get sessions s) ≡ None → IsOpenAt s sessions
open_at sessions s lt none free = sym (closing_at sessions s free lt) ∙ none

pub closed_at : (sessions : List MemberView) (s : ℕ) (closing : ℕ × Close) → s < length sessions → option_and_then (λ (a : MemberView). a.session.closing) (slice_get sessions s) ≡ Some closing
    → (free : MemberView) → is_some (slice_index_or sessions s free).session.closing ≡ true
closed_at sessions s closing lt some free = ap is_some (sym (closing_at sessions s free lt) ∙ some)

-- an open session is refused only when it is out of memory
pub session_free : (book : BookView) (s : ℕ) → s < length book.sessions → option_and_then (λ (a : MemberView). a.session.closing) (slice_get book.sessions s) ≡ None → session_fault book s ≡ None
session_free book s lt none =
    exists_free s (length book.sessions) (is_some (option_and_then (λ (a : MemberView). a.session.closing) (slice_get book.sessions s))) lt (ap is_some none)

-- a device that has stopped is one that went on
pub stopped_goes : (terms : Terms) (h : HubView) (lasts : List Lasts) (d : ℕ) (end : Option DeviceEnd) → HubKeeps terms h lasts → d < length h.book.names → is_some (get_or h.ends d end) ≡ true → MayGoOn (parts_of h)
stopped_goes terms h lasts d end k lt stopped =
    let fits = device_now terms h lasts d no_lanes end k lt in
    ⊎_elim (λ (m : MayGoOn (parts_of h)). m)
    (λ (e : whole_log k.over.0 h.book ≡ []).
    let no_end : is_end (get_or h.ends d end) ≡ false = sym fits.ended ∙ ap (has_end d) e in
    let no_loss : is_loss (get_or h.ends d end) ≡ false = sym fits.lost ∙ ap (has_lost d) e in
    absurd (no_stop (get_or h.ends d end) no_end no_loss stopped))
    k.over.1.hub.waits
  where
    no_stop : (o : Option DeviceEnd) → is_end o ≡ false → is_loss o ≡ false → is_some o ≡ true → ⊥
    no_stop None e l s = absurd (cc)
    no_stop (Some DeviceEnded) e l s = absurd (cc)
    no_stop (Some DeviceFault) e l s = absurd (cc)
    no_stop (Some DeviceNoMemory) e l s = absurd (cc)
