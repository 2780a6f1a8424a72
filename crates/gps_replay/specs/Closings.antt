-- Only the closing lines of a script's run.
use Rattle.std.specs.Prelude.{◌≡◌, ℕ, List, [], Option, option_map}
use Rattle.line_player.specs.Rules.{Rules, Effect}
use Rattle.line_player.specs.Courses.{output_of}
use Rattle.replay_player.specs.declared.player.Player.{Player}
use Rattle.replay_player.specs.Ends.{closings_at_end}
use Rattle.replay_player.specs.States.{State}
use Rattle.gps_replay.specs.Run.{rules_of}
use Rattle.gps_replay.specs.Scripts.{IsReplaying}

-- a line does what it does, and writes nothing
abbrev pub silent : Effect State → Effect State
silent e = record e { written = [] }

-- the same lines, of whose output the closing lines alone are written
abbrev pub quietened : Rules State → Rules State
quietened rules = record rules { effect = λ state text. option_map silent (rules.effect state text); end_writes = closings_at_end }

abbrev pub closing_rules : ℕ → Rules State
closing_rules queue = quietened (rules_of queue)

-- the closing lines of the run of a whole script
abbrev pub closings : ℕ → List ℕ → List ℕ
closings queue script = output_of (closing_rules queue) script

-- a script that is being replayed, of whose end these closing lines are written
pub record ClosesWith (queue : ℕ) (player : Option Player) (lines : List ℕ) : Type 0 where
  pub state : State
  pub stands : IsReplaying queue player state
  pub is : closings_at_end state ≡ lines
