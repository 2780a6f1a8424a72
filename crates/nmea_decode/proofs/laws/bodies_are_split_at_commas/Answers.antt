use Rattle.nmea_decode.proofs.Splitting.{body_joined, address_plain, fields_plain, only_split, fields_behind, field_missing}
use Rattle.nmea_decode.proofs.laws.bodies_are_split_at_commas.Goals as goal

pub returns : goal.returns
returns c = record { joined = body_joined; address = address_plain; fields = fields_plain; only = only_split; behind = fields_behind; missing = field_missing }
