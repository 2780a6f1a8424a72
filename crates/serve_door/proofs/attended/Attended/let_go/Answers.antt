use Rattle.std.proofs.Common.{rules, ◌≡◌, []}
use Rattle.serve_workers.specs.Sessions.{SessionRuns}
use Rattle.serve_door.proofs.Released.{tells_once}
use Rattle.serve_door.proofs.attended.Attended.let_go.Goals as goal

pub release_lanes-requires-clause-once : goal.release_lanes-requires-clause-once
release_lanes-requires-clause-once g c =
    let link = c.self.inside.link.value in
    let runs : SessionRuns g.S.Source.content g.S.Source.faults g.S.Source.quiets g.K.ClientSink.written g.K.ClientSink.faults link c.in-Some.run' = search rules in
    let none : link.pieces.put ≡ [] = search rules in
    tells_once g.S.Source.content g.S.Source.faults g.S.Source.quiets g.K.ClientSink.written g.K.ClientSink.faults link c.in-Some.run' runs none
