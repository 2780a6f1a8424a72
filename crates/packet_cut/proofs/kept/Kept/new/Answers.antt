use Rattle.std.proofs.Common.{ap, ◌∙◌}
use Rattle.packet_cut.specs.Runs.{spread}
use Rattle.packet_cut.proofs.Runs.{kept_nothing, nothing_spread}
use Rattle.packet_cut.proofs.kept.Kept.new.Goals as goal

pub invariant_of-result : goal.invariant_of-result
invariant_of-result c = kept_nothing _ _ _ _ c.new-2.ensures.items c.new.ensures.items

pub returns : goal.returns
returns c = ap (λ t. spread t c.new.result.items) c.new-2.ensures.items ∙ nothing_spread c.new.result.items
