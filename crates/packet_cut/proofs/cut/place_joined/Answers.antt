use Rattle.std.proofs.Common.{◌≡◌, ◌++◌, length, min, map, ◌∙◌, ap, arith}
use Rattle.std.proofs.lemmas.Bool.Decides.{nat_tests}
use Rattle.packet_cut.specs.Packets.{placed_packet}
use Rattle.packet_cut.proofs.CutLaws.{joined_is_stream, cut_of_joined, onward}
use Rattle.packet_cut.proofs.cut.place_joined.Goals as goal

pub places_in-requires : goal.places_in-requires
places_in-requires c =
    joined_is_stream c.args.kept.now c.args.at c.args.piece.now c.as_slice.result.now
    (c.as_slice.ensures.value ∙ c.in_ok-bytes.ensures ∙ ap (λ t. t ++ c.args.piece.now) c.bytes.ensures.bytes)

pub returns : goal.returns
returns c =
    let least : c.min-gone.result ≡ min c.in_ok-placed.field-0.rest (length c.args.kept.now) = grind (arith, nat_tests, c.min-gone.ensures, c.bytes-2.ensures.len) in
    rw (c.as_slice.ensures.value) at (
    cut_of_joined c.args.kept.now c.args.at c.args.piece.now c.as_slice.result.now
    (map (placed_packet c.as_slice.result.now) c.in_ok-placed.field-0.placed.items) c.in_ok-placed.field-0.rest c.min-gone.result
    c.in_ok-change.change c.requires (c.as_slice.ensures.value ∙ c.in_ok-bytes.ensures ∙ ap (λ t. t ++ c.args.piece.now) c.bytes.ensures.bytes)
    c.in_ok-placed.ensures least
    (c.in_ok-change.ensures ∙ ap (onward c.args.at c.min-gone.result) c.behind.ensures)
    )
