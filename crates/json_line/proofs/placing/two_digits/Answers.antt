use Rattle.json_line.proofs.Pairs.{tens_at, ones_at}
use Rattle.json_line.proofs.placing.two_digits.Goals as goal

pub returns : goal.returns
returns c = rw (tens_at c.args.n c.requires, ones_at c.args.n c.requires)
