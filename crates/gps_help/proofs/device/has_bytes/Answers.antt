use Rattle.std.proofs.Common.{◌∙◌, map, string_bytes, sym}
use Rattle.gps_help.specs.DeviceCauses.{gives_bytes_of}
use Rattle.gps_help.proofs.Places.{found}
use Rattle.gps_help.proofs.device.has_bytes.Goals as goal

pub returns-then-gives_bytes_of : goal.returns-then-gives_bytes_of
returns-then-gives_bytes_of c =
    sym (found (gives_bytes_of (map string_bytes c.args.words.now) c.args.stop c.args.name.now) c.places.at c.args.end
    c.places-test.true (sym c.gives_bytes_of.ensures ∙ c.if-gives_bytes_of.true))
