use Rattle.std.proofs.Common.{ap, ◌∙◌}
use Rattle.replay_script.specs.Words.{halves}
use Rattle.replay_script.proofs.Halves.{from_parts, to_parts}
use Rattle.replay_script.proofs.laws.halves_are_joined_by_the_mark.Goals as goal

pub returns : goal.returns
returns c = λ mark text word rest.
    (λ seen. to_parts mark text word rest seen, λ h. ap (λ t. halves mark t) h.0 ∙ from_parts mark word rest h.1)
