use Rattle.std.proofs.Common.{◌∙◌, map, slice_get, string_bytes, sym}
use Rattle.gps_help.specs.Places.{is_alone, passes}
use Rattle.gps_help.proofs.Places.{found}
use Rattle.gps_help.proofs.place.has_word_before.Goals as goal

pub returns-then-is_alone_at : goal.returns-then-is_alone_at
returns-then-is_alone_at c =
    sym (found (λ at. passes (is_alone c.args.command (map string_bytes c.args.words.now) c.args.stop at) (slice_get (map string_bytes c.args.words.now) at))
    c.places.at c.args.end c.places-test.true (sym c.is_alone_at.ensures ∙ c.if-is_alone_at.true))
