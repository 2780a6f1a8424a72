use Rattle.gps_help.proofs.Halves.{split_is}
use Rattle.gps_help.proofs.word.halves.Goals as goal

pub returns : goal.returns
returns c = split_is c.args.mark c.args.text.now c.split_once.result (c.split_once.ensures.byte c.requires (λ w o h. h))
