use Rattle.std.proofs.Common.{◌∙◌, ap}
use Rattle.shm_segment.specs.Publishing.{words_now}
use Rattle.shm_segment.proofs.Storing.{new_holds, new_words}
use Rattle.shm_segment.proofs.segment.Segment.new.Goals as goal

pub of_words-requires : goal.of_words-requires
of_words-requires c = rw c.from.ensures (new_holds c.args.first c.requires)

pub returns-clause-words : goal.returns-clause-words
returns-clause-words c = ap words_now c.of.ensures ∙ new_words c.args.first
