use Rattle.std.proofs.Common.{map, ap}
use Rattle.packet_cut.specs.Packets.{placed_packet}
use Rattle.packet_cut.proofs.CutLaws.{cut_of_nothing}
use Rattle.packet_cut.proofs.cut.place_nothing.Goals as goal

pub returns : goal.returns
returns c =
    cut_of_nothing c.args.kept.now c.args.at c.args.piece.now (map (placed_packet c.new.result.items) c.new-2.result.items) c.in_ok-change.change
    c.requires.some c.requires.pending (ap (map (placed_packet c.new.result.items)) c.new-2.ensures.items) c.in_ok-change.ensures
