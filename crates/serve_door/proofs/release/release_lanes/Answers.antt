use Rattle.serve_door.proofs.Released.{runs_on}
use Rattle.serve_door.proofs.release.release_lanes.Goals as goal

pub returns-clause-runs : goal.returns-clause-runs
returns-clause-runs g c link runs =
    runs_on g.S.Source.content g.S.Source.faults g.S.Source.quiets g.K.ClientSink.written g.K.ClientSink.faults link c.args.run c.settle_input.new.pieces
    c.empty_outlet.new.writer c.settle_input.ensures.pieces c.empty_outlet.ensures.on runs
