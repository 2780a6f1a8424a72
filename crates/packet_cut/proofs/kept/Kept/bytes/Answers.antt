use Rattle.std.proofs.Common.{sym, ap, length, ◌∙◌}
use Rattle.packet_cut.specs.Packets.{bytes_of}
use Rattle.packet_cut.proofs.Runs.{spread_bytes, spread_length}
use Rattle.packet_cut.proofs.kept.Kept.bytes.Goals as goal

pub returns-clause-bytes : goal.returns-clause-bytes
returns-clause-bytes c =
    c.as_slice.ensures.value ∙ sym (spread_bytes c.self.inside.runs.items c.self.inside.bytes.items c.self.invariant.are_runs) ∙ ap bytes_of c.self.view_is

pub returns-clause-len : goal.returns-clause-len
returns-clause-len c =
    ap length c.as_slice.ensures.value ∙ sym (spread_length c.self.inside.runs.items c.self.inside.bytes.items c.self.invariant.are_runs)
    ∙ ap length c.self.view_is
