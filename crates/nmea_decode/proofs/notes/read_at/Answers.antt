use Rattle.std.proofs.Common.{sym}
use Rattle.nmea_decode.proofs.Saying.{named_at}
use Rattle.nmea_decode.proofs.notes.read_at.Goals as goal

pub returns-then-is_read-clause-note : goal.returns-then-is_read-clause-note
returns-then-is_read-clause-note c =
    named_at c.args.address.now c.args.text.now c.read_named.result c.read_named.new.note (sym c.if-is_read.ensures) c.read_named.ensures.note
