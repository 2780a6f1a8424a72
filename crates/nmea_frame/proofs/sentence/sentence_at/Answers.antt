-- What the scan gives is exact, by the theorem on it.
use Rattle.nmea_frame.proofs.Theorem.{whole_exact, pending_exact}
use Rattle.nmea_frame.proofs.sentence.sentence_at.Goals as goal

pub returns : goal.returns
returns c = record {
  shape = c.scan.ensures;
  whole = whole_exact c.args.bytes.now c.scan.result c.scan.ensures;
  pending = pending_exact c.args.bytes.now c.scan.result c.scan.ensures;
}
