-- If a call of the book is refused, the line is refused.
use Rattle.std.proofs.Common.{◌≡◌, ◌<◌, ℕ, zero, suc, Bool, true, false, ◌||◌, ◌&&◌, not, nat_lt, List, [], ◌∷◌, ◌++◌, length, map, get_or, Option, Some, None, Result, Ok, Err, IsErr, OnOk, refl, sym, ap, ◌∙◌, subst, arith}
use Rattle.std.proofs.lemmas.Bool.{ltb-true}
use Rattle.gps_fixed.specs.declared.no_memory.NoMemory.{NoMemory}
use Rattle.book_log.specs.declared.device_stage.DeviceStage.{DeviceStage}
use Rattle.book_log.specs.declared.device_stage.DeviceStage.TheVariants.{Running, Ended, Lost}
use Rattle.book_log.specs.Entries.{Entry, has_end, stops_in}
use Rattle.book_log.specs.Standing.{DeviceStateView, StandsAt, StandsFor, has_stopped, is_ended, is_lost}
use Rattle.report_book.specs.BookView.{BookView}
use Rattle.report_book.specs.declared.fault.BookFault.{BookFault}
use Rattle.report_book.specs.Refusals.{RefusesAs, RefusesOnly, device_fault, fault_of}
use Rattle.report_book.specs.Standing.{BookHolds}
use Rattle.replay_player.specs.Effects.{allowed, brings, quietly}
use Rattle.replay_player.specs.declared.event_step.EventStep.{EventStep}
use Rattle.replay_player.specs.declared.event_step.EventStep.TheVariants.{Refused}
use Rattle.replay_player.specs.Playing.{Acts, ComesTo, BookStandsFor, ReplayBookView, state_of}
use Rattle.replay_player.specs.States.{State, came}

pub map_at : {A B : Type 0} (f : A → B) (xs : List A) (n : ℕ) (free : A) (other : B) → n < length xs → get_or (map f xs) n other ≡ f (get_or xs n free)
map_at f [] n free other there = absurd (omega (arith, there))
map_at f (x ∷ xs) zero free other there = refl
map_at f (x ∷ xs) (suc n) free other there = map_at f xs n free other (omega arith)

stopped_by : (stage : DeviceStage) → has_stopped stage ≡ (is_ended stage || is_lost stage)
stopped_by Running = refl
stopped_by Ended = refl
stopped_by Lost = refl

pub stopped_so : (line : DeviceStateView) (d : ℕ) (log : List Entry) → StandsAt line d log → has_stopped line.stage ≡ stops_in d log
stopped_so line d log stands = stopped_by line.stage ∙ ap (λ b. b || is_lost line.stage) stands.ended ∙ ap (λ b. has_end d log || b) stands.lost

stopped_at : (lines : List DeviceStateView) (d : ℕ) (log : List Entry) → ((d : ℕ) (free : DeviceStateView) → d < length lines → StandsAt (get_or lines d free) d log) → d < length lines
    → get_or (map (λ (line : DeviceStateView). has_stopped line.stage) lines) d true ≡ stops_in d log
stopped_at [] d log stand there = absurd (omega (arith, there))
stopped_at (line ∷ lines) d log stand there =
    map_at (λ (l : DeviceStateView). has_stopped l.stage) (line ∷ lines) d line true there ∙ stopped_so (get_or (line ∷ lines) d line) d log (stand d line there)

-- a device's fault by the whole log
pub device_is : (b : BookView) (before : List Entry) (d : ℕ) → BookHolds b → StandsFor b.log.opening before
    → device_fault b d ≡ fault_of (nat_lt d (length b.names)) (stops_in d (before ++ b.log.log))
device_is b before d held stands = by (nat_lt d (length b.names)) refl
  where
    by : (there : Bool) → nat_lt d (length b.names) ≡ there
        → fault_of there (get_or (map (λ (line : DeviceStateView). has_stopped line.stage) b.log.present.lines) d true) ≡ fault_of there (stops_in d (before ++ b.log.log))
    by false is = refl
    by true is =
        let below : d < length b.names = ltb-true d (length b.names) is in
        let count = held.names in
        ap (fault_of true) (stopped_at b.log.present.lines d (before ++ b.log.log) (held.log.over before stands).present.lines (omega (arith, below, count)))

pub only_as : {X : Type 0} (fault : Option BookFault) (result : Result X BookFault) → RefusesOnly fault result → RefusesAs fault result
only_as (Some fault) result refuses = refuses
only_as None (Ok x) refuses = tt
only_as None (Err fault) refuses = absurd (cc)

-- a call that is refused by what is there and what has stopped
pub acts_by : (there stopped : Bool) (result : Result (Unit {0}) BookFault) (round : Result EventStep NoMemory) (next : State) (new : ReplayBookView)
    → ComesTo result round → RefusesAs (fault_of there stopped) result → OnOk result (BookStandsFor new next) → Acts round (allowed (there && not stopped) (quietly next)) new [] []
acts_by true false (Ok u) round next new comes refuses plays =
    let P : Result EventStep NoMemory → Type 0 = λ t. Acts t (Some (quietly next)) new [] [] in
    subst P (sym comes) (quietly next, refl, plays, refl)
acts_by true false (Err fault) round next new comes refuses plays =
    let P : BookFault → Type 0 = λ f. ComesTo (Err f) round in
    wanting round (subst P refuses comes)
  where
    wanting : (round : Result EventStep NoMemory) → IsErr round → Acts round (Some (quietly next)) new [] []
    wanting (Ok t) is = absurd (cc)
    wanting (Err e) is = tt
acts_by true true result round next new comes refuses plays =
    let P : Result EventStep NoMemory → Type 0 = λ t. Acts t None new [] [] in
    let Q : Result (Unit {0}) BookFault → Type 0 = λ r. ComesTo r round in
    let now : round ≡ Ok Refused = subst Q refuses comes in
    subst P (sym now) (refl, refl)
acts_by false stopped result round next new comes refuses plays =
    let P : Result EventStep NoMemory → Type 0 = λ t. Acts t None new [] [] in
    let Q : Result (Unit {0}) BookFault → Type 0 = λ r. ComesTo r round in
    let now : round ≡ Ok Refused = subst Q refuses comes in
    subst P (sym now) (refl, refl)

-- entries of a device

pub brings_by : (s new : ReplayBookView) (state : State) (d : ℕ) (entries : List Entry) (result : Result (Unit {0}) BookFault) (round : Result EventStep NoMemory) → BookHolds s.book → BookStandsFor s state
    → ComesTo result round → RefusesAs (device_fault s.book d) result → OnOk result (BookStandsFor new (came entries state)) → Acts round (brings d entries state) new [] []
unfolding brings
brings_by s new state d entries result round held plays comes refuses made =
    let P : State → Type 0 = λ st. OnOk result (BookStandsFor new (came entries st)) → Acts round (brings d entries st) new [] [] in
    let R : Option BookFault → Type 0 = λ f. RefusesAs f result in
    let at = state_of s.book.names (plays.before ++ s.book.log.log) plays.firsts plays.clients plays.stores plays.watches in
    subst P plays.is
    (λ made. acts_by (nat_lt d (length s.book.names)) (stops_in d (plays.before ++ s.book.log.log)) result round (came entries at) new comes
    (subst R (device_is s.book plays.before d held plays.standing.stands) refuses) made)
    made

pub brings_none : (s : ReplayBookView) (state : State) (d : ℕ) (entries : List Entry) → BookStandsFor s state → nat_lt d (length s.book.names) ≡ false
    → Acts (Ok Refused) (brings d entries state) s [] []
unfolding brings
brings_none s state d entries plays none =
    let P : State → Type 0 = λ st. Acts (Ok Refused) (brings d entries st) s [] [] in
    let at = state_of s.book.names (plays.before ++ s.book.log.log) plays.firsts plays.clients plays.stores plays.watches in
    subst P plays.is (ap (λ b. allowed (b && not (stops_in d at.log)) (quietly (came entries at))) none, refl)
