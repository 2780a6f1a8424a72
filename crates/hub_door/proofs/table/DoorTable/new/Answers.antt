use Rattle.hub_door.proofs.Rules.{opens}
use Rattle.hub_door.proofs.table.DoorTable.new.Goals as goal

pub of_words-requires : goal.of_words-requires
of_words-requires c = opens
