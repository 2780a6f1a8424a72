use Rattle.std.proofs.Common.{◌∙◌, map, string_bytes, sym}
use Rattle.gps_help.specs.DeviceCauses.{gives_edges_of}
use Rattle.gps_help.proofs.Places.{found}
use Rattle.gps_help.proofs.device.has_edges.Goals as goal

pub returns-then-gives_edges_of : goal.returns-then-gives_edges_of
returns-then-gives_edges_of c =
    sym (found (gives_edges_of (map string_bytes c.args.words.now) c.args.stop c.args.name.now) c.places.at c.args.end
    c.places-test.true (sym c.gives_edges_of.ensures ∙ c.if-gives_edges_of.true))
