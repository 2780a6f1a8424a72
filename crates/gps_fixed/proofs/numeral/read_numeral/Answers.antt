use Rattle.gps_fixed.proofs.NumeralTheorem.{numeral_exact}
use Rattle.gps_fixed.proofs.numeral.read_numeral.Goals as goal

pub returns-clause-exact : goal.returns-clause-exact
returns-clause-exact c = λ n. rw c.numeral_in-numeral.ensures.value (numeral_exact c.args.decimals c.args.text.now n)
