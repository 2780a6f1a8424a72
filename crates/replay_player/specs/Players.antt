-- A script that is being played: its declarations, and from its first event on a stage.
use Rattle.std.specs.Prelude.{◌≡◌, ℕ, List, ◌++◌, Option, Some, None, Result, Ok, Err}
use Rattle.gps_fixed.specs.declared.no_memory.NoMemory.{NoMemory}
use Rattle.replay_player.specs.declared.player.Player.{Player}
use Rattle.replay_player.specs.declared.player.Player.TheVariants.{Declaring, Playing}
use Rattle.replay_player.specs.Effects.{EventEffect}
use Rattle.replay_player.specs.Playing.{BookStandsFor, declared_state}
use Rattle.replay_player.specs.States.{State}

-- the state that it stands for
abbrev pub PlayerStandsFor : Player → State → Type 0
PlayerStandsFor (Declaring d) state = declared_state d.names d.firsts ≡ state
PlayerStandsFor (Playing stage) state = BookStandsFor stage state

-- the line was refused, or has done what it does, and what it writes follows what was written; out of memory, nothing is known
abbrev pub LinePlayed : Result (Option Player) NoMemory → Option EventEffect → List ℕ → List ℕ → Type 0
LinePlayed (Ok (Some player)) effect out out' = (e : EventEffect) × (effect ≡ Some e) × PlayerStandsFor player e.state × (out' ≡ out ++ e.written)
LinePlayed (Ok None) effect out out' = (effect ≡ None) × (out' ≡ out)
LinePlayed (Err _) effect out out' = Unit {0}
