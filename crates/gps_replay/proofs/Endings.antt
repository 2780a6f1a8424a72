-- What is left to write at a script's end.
use Rattle.std.proofs.Common.{◌≡◌, ℕ, Bool, true, false, List, ◌++◌, Option, Some, None, Result, Ok, Err, refl, sym, ◌∙◌, ap, subst}
use Rattle.gps_fixed.specs.declared.no_memory.NoMemory.{NoMemory}
use Rattle.line_player.specs.declared.plays_lines.EndStep.{EndStep}
use Rattle.line_player.specs.declared.plays_lines.EndStep.TheVariants.{More, Last}
use Rattle.line_player.specs.LineSteps.{EndPart}
use Rattle.replay_player.specs.declared.player.Player.{Player}
use Rattle.replay_player.specs.Ending.{EndAdds, Leaves, ScriptEndView}
use Rattle.replay_player.specs.Ends.{closings_at_end}
use Rattle.replay_player.specs.States.{State}
use Rattle.gps_replay.specs.Closings.{ClosesWith}
use Rattle.gps_replay.specs.Scripts.{HasLeft, IsReplaying, end_step_of}

-- of a script whose closing lines alone are written

pub closes : (queue : ℕ) (player : Option Player) (state : State) → IsReplaying queue player state → ClosesWith queue player (closings_at_end state)
closes queue player state stands = record { state = state; stands = stands; is = refl }

pub closing_state : (queue : ℕ) (player : Option Player) (left : List ℕ) → ClosesWith queue player left → (state : State) × IsReplaying queue player state
closing_state queue player left closes = (closes.state, closes.stands)

pub closed : (queue : ℕ) (player : Option Player) (left out out' : List ℕ) (ends : List ℕ → Type 0) → ClosesWith queue player left
    → ((state : State) → IsReplaying queue player state → out' ≡ out ++ closings_at_end state) → EndPart (Ok Last) left ends out out'
closed queue player left out out' ends closes writes = writes closes.state closes.stands ∙ ap (λ l. out ++ l) closes.is

-- of any script

pub has_left : (place : Option ScriptEndView) (end : ScriptEndView) (left : List ℕ) → place ≡ Some end → Leaves end left → HasLeft place left
has_left place end left is leaves = subst (λ p. HasLeft p left) (sym is) leaves

pub part_of : (more : Bool) (step : EndStep) (left : List ℕ) (end : ScriptEndView) (out out' : List ℕ) → step ≡ end_step_of more → EndAdds (Ok more) left end out out'
    → EndPart (Ok step) left (HasLeft (Some end)) out out'
part_of true step left end out out' is adds = subst (λ (s : EndStep). EndPart (Ok s) left (HasLeft (Some end)) out out') (sym is) adds
part_of false step left end out out' is adds = subst (λ (s : EndStep). EndPart (Ok s) left (HasLeft (Some end)) out out') (sym is) adds

pub is_more : (more : Bool) → end_step_of more ≡ More → more ≡ true
is_more true is = refl
is_more false is = absurd (cc)
