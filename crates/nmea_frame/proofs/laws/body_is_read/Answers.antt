use Rattle.nmea_frame.proofs.Body.{body-spelling}
use Rattle.nmea_frame.proofs.laws.body_is_read.Goals as goal

pub returns : goal.returns
returns c = body-spelling
