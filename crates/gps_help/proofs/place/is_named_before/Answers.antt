use Rattle.std.proofs.Common.{◌∙◌, map, string_bytes, sym}
use Rattle.gps_help.specs.Places.{names_at}
use Rattle.gps_help.proofs.Places.{found}
use Rattle.gps_help.proofs.place.is_named_before.Goals as goal

pub returns-then-names_at : goal.returns-then-names_at
returns-then-names_at c =
    sym (found (names_at (map string_bytes c.args.words.now) c.args.stop c.args.option) c.places.at c.args.end
    c.places-test.true (sym c.names_at.ensures ∙ c.if-names_at.true))
