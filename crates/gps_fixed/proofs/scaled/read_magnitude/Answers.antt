use Rattle.gps_fixed.proofs.NumeralLaws.{under_18}
use Rattle.gps_fixed.proofs.scaled.read_magnitude.Goals as goal

pub returns-in-Some-clause-small : goal.returns-in-Some-clause-small
returns-in-Some-clause-small c = under_18 c.in-Some.numeral.before c.args.decimals c.in-Some.numeral.magnitude c.in-Some.ensures.small c.in-Some.ensures.few c.requires
