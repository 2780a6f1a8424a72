use Rattle.line_player.proofs.Complete.{completes}
use Rattle.line_player.proofs.playing.play.Goals as goal

pub returns-clause-complete : goal.returns-clause-complete
returns-clause-complete g c = λ within sound.
    completes c.read_through.result _ _ _ _ c.read_through.ensures.played c.read_through.ensures.cause within sound
