use Rattle.serve_end.proofs.Endings.{each_one_more}
use Rattle.serve_end.specs.Runs.{source_facts}
use Rattle.serve_end.proofs.device.device_done.Goals as goal

pub returns-clause-one_more : goal.returns-clause-one_more
returns-clause-one_more g c =
    each_one_more (source_facts g.S.Source) c.args.run c.args.bytes c.settle_reader-source.result.rx c.args.edges
    c.edges_done-edges.result.rx c.requires.edges c.settle_reader-source.ensures.rx c.edges_done-edges.ensures.rx
