use Rattle.std.proofs.Common.{map, ap, ◌∙◌}
use Rattle.packet_cut.specs.Packets.{placed_packet}
use Rattle.packet_cut.proofs.CutLaws.{first_is_stream, cut_of_first, anew}
use Rattle.packet_cut.proofs.cut.place_piece.Goals as goal

pub places_in-requires : goal.places_in-requires
places_in-requires c = first_is_stream c.args.kept.now c.args.at c.as_slice.result.now c.requires

pub returns : goal.returns
returns c =
    rw (c.as_slice.ensures.value) at (
    cut_of_first c.args.kept.now c.args.at c.args.piece.now c.as_slice.result.now
    (map (placed_packet c.as_slice.result.now) c.in_ok-placed.field-0.placed.items) c.in_ok-placed.field-0.rest c.in_ok-change.change
    c.requires (c.as_slice.ensures.value ∙ c.in_ok-bytes.ensures.items) c.in_ok-placed.ensures
    (c.in_ok-change.ensures ∙ ap (anew c.args.at) c.behind.ensures)
    )
