use Rattle.serve_workers.proofs.Sourcing.{lines_new}
use Rattle.gps_serve.proofs.readers.start_edge_work.Goals as goal

pub start_edges-requires-clause-from : goal.start_edges-requires-clause-from
start_edges-requires-clause-from g c κs within =
    lines_new c.in-Some.start.lines.about.source c.in-Some.start.lines.put (g.S.Source.content c.in-Some.start.source) (c.requires.told c.in-Some.start c.in-Some.is) c.in-Some.start.nothing
