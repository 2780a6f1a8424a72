-- A script that is being replayed, and the state that it stands for.
use Rattle.std.specs.Prelude.{ℕ, ◌≤◌, Bool, true, false, List, Option, Some, None}
use Rattle.gps_fixed.specs.Limits.{most_queue}
use Rattle.line_player.specs.declared.plays_lines.EndStep.{EndStep}
use Rattle.line_player.specs.declared.plays_lines.EndStep.TheVariants.{More, Last}
use Rattle.replay_player.specs.declared.player.Player.{Player}
use Rattle.replay_player.specs.Ending.{Leaves, ScriptEndView, sessions_left}
use Rattle.replay_player.specs.Players.{PlayerStandsFor}
use Rattle.replay_player.specs.States.{State}

-- what is left of the player, once it was given up
abbrev pub StillStands : Option Player → State → Type 0
StillStands (Some player) state = PlayerStandsFor player state
StillStands None state = ⊥

-- an outlet that no line says more of keeps a number of items that one may keep
abbrev pub IsReplaying : ℕ → Option Player → State → Type 0
IsReplaying queue player state = (1 ≤ queue) × (queue ≤ most_queue) × StillStands player state

-- the script has ended, and this is left to write
abbrev pub HasLeft : Option ScriptEndView → List ℕ → Type 0
HasLeft (Some end) left = Leaves end left
HasLeft None left = ⊥

-- each session takes a step
abbrev pub most_steps : Option ScriptEndView → ℕ
most_steps (Some end) = sessions_left end
most_steps None = 0

abbrev pub end_step_of : Bool → EndStep
end_step_of true = More
end_step_of false = Last
