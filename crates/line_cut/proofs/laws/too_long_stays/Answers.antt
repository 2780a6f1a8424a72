use Rattle.line_cut.proofs.Texts.{long_stays}
use Rattle.line_cut.proofs.laws.too_long_stays.Goals as goal

pub returns : goal.returns
returns c = long_stays
