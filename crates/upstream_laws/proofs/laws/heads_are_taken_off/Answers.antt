use Rattle.upstream_laws.proofs.HeadTheorem.{head_off, none_without_head}
use Rattle.upstream_laws.proofs.Taking.{behind-append}
use Rattle.upstream_laws.proofs.laws.heads_are_taken_off.Goals as goal

pub returns : goal.returns
returns c = record { handed = head_off; nothing = none_without_head; pieces = behind-append }
