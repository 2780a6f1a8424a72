use Rattle.stamp_shares.proofs.Rules.{opens}
use Rattle.stamp_shares.proofs.table.StampTable.new.Goals as goal

pub of_words-requires : goal.of_words-requires
of_words-requires c = opens
