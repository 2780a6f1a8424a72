use Rattle.nmea_decode.proofs.Fitting.{result_fits}
use Rattle.nmea_decode.proofs.notes.note_of.Goals as goal

pub returns-clause-fits : goal.returns-clause-fits
returns-clause-fits c = result_fits c.body.result.now c.read_body.result c.read_body.ensures.note
