use Rattle.line_cut.proofs.Splits.{fitting_goes_on, lines_go_on, numbers_go_on, open_goes_on}
use Rattle.line_cut.proofs.laws.lines_go_on.Goals as goal

pub returns : goal.returns
returns c = record { lines = lines_go_on; opens = open_goes_on; numbers = numbers_go_on; fitting = fitting_goes_on }
