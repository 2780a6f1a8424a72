use Rattle.std.proofs.Common.{ap, ◌∙◌}
use Rattle.pps_edges.specs.Scan.{edge_in}
use Rattle.gps_hub.proofs.device.read_edge.Goals as goal

pub returns : goal.returns
returns c = c.edge_of_line.ensures.reads ∙ ap edge_in c.as_slice.ensures.bytes
