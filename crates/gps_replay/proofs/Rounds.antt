-- What a line of a script comes to.
use Rattle.std.proofs.Common.{◌≡◌, ℕ, ◌≤◌, List, ◌++◌, Option, Some, None, Result, Ok, Err, option_and_then, option_map, refl, sym, ◌∙◌, ap, subst}
use Rattle.line_player.specs.declared.plays_lines.LineStep.TheVariants.{Made, Refused}
use Rattle.line_player.specs.LineSteps.{StepDone}
use Rattle.replay_script.specs.declared.event.ScriptEvent.{ScriptEvent}
use Rattle.replay_script.specs.Events.{event_in}
use Rattle.replay_player.specs.declared.player.Player.{Player}
use Rattle.replay_player.specs.States.{State}
use Rattle.replay_player.specs.Effects.{EventEffect, effect}
use Rattle.replay_player.specs.Players.{LinePlayed}
use Rattle.gps_replay.specs.Run.{effect_of, of_line, rules_of}
use Rattle.gps_replay.specs.Scripts.{IsReplaying}

by_event : (queue : ℕ) (state : State) (text : List ℕ) (event : Option ScriptEvent) → event_in text ≡ event
    → effect_of queue state text ≡ option_map of_line (option_and_then (effect queue state) event)
by_event queue state text event is = ap (λ e. option_map of_line (option_and_then (effect queue state) e)) is

pub no_event : (queue : ℕ) (state : State) (text out : List ℕ) (stands : State → Type 0) → None ≡ event_in text
    → StepDone (Ok Refused) (rules_of queue) state text stands out out
no_event queue state text out stands is = (by_event queue state text None (sym is), refl)

pub refused : (queue : ℕ) (state : State) (text out out' : List ℕ) (event : ScriptEvent) (stands : State → Type 0) → Some event ≡ event_in text
    → LinePlayed (Ok None) (effect queue state event) out out'
    → StepDone (Ok Refused) (rules_of queue) state text stands out out'
refused queue state text out out' event stands is played =
    (by_event queue state text (Some event) (sym is) ∙ ap (option_map of_line) played.0, played.1)

pub made : (queue : ℕ) (state : State) (text out out' : List ℕ) (event : ScriptEvent) (player : Player) (place : Option Player) → Some event ≡ event_in text
    → place ≡ Some player → 1 ≤ queue → queue ≤ 65_536
    → LinePlayed (Ok (Some player)) (effect queue state event) out out'
    → StepDone (Ok Made) (rules_of queue) state text (IsReplaying queue place) out out'
made queue state text out out' event player place is put least most played =
    subst (λ p. StepDone (Ok Made) (rules_of queue) state text (IsReplaying queue p) out out') (sym put)
    (of_line played.0, by_event queue state text (Some event) (sym is) ∙ ap (option_map of_line) played.1, (least, most, played.2), played.3)
