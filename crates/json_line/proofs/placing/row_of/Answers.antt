use Rattle.json_line.proofs.Rows.{digits_at, count_at, few_digits}
use Rattle.json_line.proofs.placing.row_of.Goals as goal

pub returns-clause-digits : goal.returns-clause-digits
returns-clause-digits c = digits_at c.args.n c.requires

pub returns-clause-count : goal.returns-clause-count
returns-clause-count c = count_at c.args.n c.requires

pub returns-clause-few : goal.returns-clause-few
returns-clause-few c = few_digits c.args.n c.requires
