-- What is left to write when a script has ended.
use Rattle.std.proofs.Common.{refl}
use Rattle.replay_player.specs.Ending.{HaveStopped, Leaves}
use Rattle.replay_player.specs.Ends.{all_ended, shut, written_at_end}
use Rattle.replay_player.specs.Playing.{BookStandsFor, ReplayBookView}
use Rattle.replay_player.specs.States.{State}
use Rattle.replay_player.proofs.EndsDevices.{have_stopped}

pub all_left : (s ended closed : ReplayBookView)
    → ((state : State) → BookStandsFor s state → BookStandsFor ended (all_ended state))
    → ((state : State) → BookStandsFor ended state → HaveStopped state → BookStandsFor closed (shut state))
    → (state : State) → BookStandsFor s state → Leaves (record { book = closed; next = 0 }) (written_at_end state)
all_left s ended closed ends shuts state plays =
    record { state = shut (all_ended state); stands = shuts (all_ended state) (ends state plays) (have_stopped state); is = refl }
