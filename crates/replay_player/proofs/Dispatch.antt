-- A call that writes nothing leaves what was written; and what a stage refuses or passes over.
use Rattle.std.proofs.Common.{◌≡◌, ◌≢◌, List, [], ◌++◌, ◌∙◌, Option, Some, Result, Ok, Err, refl, sym, ap, subst, append-nil, replicate, ℕ}
use Rattle.gps_fixed.specs.declared.no_memory.NoMemory.{NoMemory}
use Rattle.replay_player.specs.declared.event_step.EventStep.{EventStep}
use Rattle.replay_player.specs.declared.event_step.EventStep.TheVariants.{Made, Refused}
use Rattle.replay_script.specs.declared.event.ScriptEvent.{ScriptEvent}
use Rattle.replay_script.specs.declared.event.ScriptEvent.TheVariants as event
use Rattle.replay_player.specs.Effects.{EventEffect, brings, declares, effect, hangs, hears, loads, numbers, opens, quietly, stores, takes, watches}
use Rattle.replay_player.specs.Playing.{Acts, BookStandsFor, ReplayBookView, declared_state, state_of}
use Rattle.replay_player.specs.States.{State, came, most_units}

pub still_out : (round : Result EventStep NoMemory) (e : Option EventEffect) (new : ReplayBookView) (out : List ℕ) → Acts round e new [] [] → Acts round e new out out
still_out (Ok Made) made new out acts = (acts.0, acts.1, acts.2, sym (append-nil out) ∙ ap (λ l. out ++ l) acts.3)
still_out (Ok Refused) made new out acts = (acts.0, refl)
still_out (Err e) made new out acts = tt

pub nothing_acts : (s : ReplayBookView) (out : List ℕ) (state : State) → BookStandsFor s state → Acts (Ok Made) (Some (quietly state)) s out out
nothing_acts s out state plays = (quietly state, refl, plays, sym (append-nil out))

pub device_refused : (s : ReplayBookView) (name : List ℕ) (out : List ℕ) (state : State) → BookStandsFor s state → Acts (Ok Refused) (declares name state) s out out
unfolding declares
device_refused s name out state plays =
    let P : State → Type 0 = λ st. Acts (Ok Refused) (declares name st) s out out in
    subst P plays.is (refl, refl)

pub number_refused : (s : ReplayBookView) (u first : ℕ) (out : List ℕ) (state : State) → BookStandsFor s state → Acts (Ok Refused) (numbers u first state) s out out
unfolding numbers
number_refused s u first out state plays =
    let P : State → Type 0 = λ st. Acts (Ok Refused) (numbers u first st) s out out in
    subst P plays.is (refl, refl)

-- the event is this one
pub arm : (queue : ℕ) (e given : ScriptEvent) (round : Result EventStep NoMemory) (state : State) (new : ReplayBookView) (out out' : List ℕ) → e ≡ given
    → Acts round (effect queue state given) new out out' → Acts round (effect queue state e) new out out'
arm queue e given round state new out out' is acts = let P : ScriptEvent → Type 0 = λ x. Acts round (effect queue state x) new out out' in subst P (sym is) acts

-- events do the same whether one has come before or not

abbrev pub IsEvent : ScriptEvent → Type 0
IsEvent event.Nothing = ⊥
IsEvent (event.Device name) = ⊥
IsEvent (event.Segment u first) = ⊥
IsEvent _ = Unit {0}

pub begun_same : (queue : ℕ) (e : ScriptEvent) (names : List (List ℕ)) (firsts : List ℕ) → IsEvent e → effect queue (declared_state names firsts) e ≡ effect queue (state_of names [] firsts [] (replicate most_units 0) []) e
unfolding brings opens hears hangs takes stores watches loads came
begun_same queue event.Nothing names firsts is = absurd is
begun_same queue (event.Device name) names firsts is = absurd is
begun_same queue (event.Segment u first) names firsts is = absurd is
begun_same queue (event.Feed d at bytes) names firsts is = refl
begun_same queue (event.Edge d edge) names firsts is = refl
begun_same queue (event.End d) names firsts is = refl
begun_same queue (event.Lose d) names firsts is = refl
begun_same queue (event.Open s cap) names firsts is = refl
begun_same queue (event.Input s bytes) names firsts is = refl
begun_same queue (event.Hang s) names firsts is = refl
begun_same queue (event.Take s most) names firsts is = refl
begun_same queue (event.Monitor m u) names firsts is = refl
begun_same queue (event.Store u steps) names firsts is = refl
begun_same queue (event.Load m steps) names firsts is = refl

pub is_event : (e : ScriptEvent) → (e ≢ event.Nothing) → ((name : List ℕ) → e ≢ event.Device name) → ((u first : ℕ) → e ≢ event.Segment u first) → IsEvent e
is_event event.Nothing one two three = absurd (one refl)
is_event (event.Device name) one two three = absurd (two name refl)
is_event (event.Segment u first) one two three = absurd (three u first refl)
is_event (event.Feed d at bytes) one two three = tt
is_event (event.Edge d edge) one two three = tt
is_event (event.End d) one two three = tt
is_event (event.Lose d) one two three = tt
is_event (event.Open s cap) one two three = tt
is_event (event.Input s bytes) one two three = tt
is_event (event.Hang s) one two three = tt
is_event (event.Take s most) one two three = tt
is_event (event.Monitor m u) one two three = tt
is_event (event.Store u steps) one two three = tt
is_event (event.Load m steps) one two three = tt
