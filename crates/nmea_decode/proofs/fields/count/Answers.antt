use Rattle.std.proofs.Common.{arith}
use Rattle.nmea_decode.proofs.Rows.{row_counted, all_counted}
use Rattle.nmea_decode.proofs.fields.count.Goals as goal

pub rows-preserved : goal.rows-preserved
rows-preserved c =
    row_counted c.args.text.now c.rows.at c.rows.commas c.commas_in_row-commas.result (omega (arith, c.rows-test.true)) c.commas_in_row-commas.ensures.within
    c.commas_in_row-commas.ensures.count c.rows.invariant

pub returns-clause-count : goal.returns-clause-count
returns-clause-count c = all_counted c.args.text.now c.rows.at c.rows.commas c.commas_by_bytes.result c.commas_by_bytes.ensures c.rows.invariant
