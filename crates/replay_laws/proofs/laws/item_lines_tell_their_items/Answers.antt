use Rattle.replay_laws.proofs.Escapes.{lines_tell}
use Rattle.replay_laws.proofs.laws.item_lines_tell_their_items.Goals as goal

pub returns : goal.returns
returns c = lines_tell
