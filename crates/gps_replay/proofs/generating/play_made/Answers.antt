use Rattle.std.proofs.Common.{◌≡◌, [], length, Some, rules}
use Rattle.gps_outside.specs.Calls.{sink_call}
use Rattle.gps_outside.specs.Outcomes.{HasCause}
use Rattle.line_player.specs.Played.{HasPlayed}
use Rattle.gps_replay.specs.Closings.{closing_rules}
use Rattle.gps_replay.specs.Generated.{default_queue}
use Rattle.gps_replay.proofs.Making.{caused, generated, silent}
use Rattle.gps_replay.proofs.generating.play_made.Goals as goal

pub returns-clause-cause : goal.returns-clause-cause
returns-clause-cause g c = λ seed size few of.
    let is : c.in-Ok.most ≡ length c.args.script = search rules in
    let played : HasPlayed c.play.result (closing_rules default_queue) c.in-Ok.most (Some (record { taken = []; left = c.args.script })) (Some c.play.new.source)
    (g.K.Sink.written c.args.sink.now) (g.K.Sink.written c.play.new.sink) = search rules in
    let cause : HasCause c.play.result (silent (Some (record { taken = []; left = c.args.script })) (Some c.play.new.source))
    (sink_call g.K.Sink c.args.sink.now c.play.new.sink) = search rules in
    caused c.play.result c.args.script c.in-Ok.most _ (sink_call g.K.Sink c.args.sink.now c.play.new.sink) is played cause seed size few of

pub returns-clause-generated : goal.returns-clause-generated
returns-clause-generated g c = λ seed size of.
    let is : c.in-Ok.most ≡ length c.args.script = search rules in
    let played : HasPlayed c.play.result (closing_rules default_queue) c.in-Ok.most (Some (record { taken = []; left = c.args.script })) (Some c.play.new.source)
    (g.K.Sink.written c.args.sink.now) (g.K.Sink.written c.play.new.sink) = search rules in
    generated c.play.result c.args.script c.in-Ok.most _ _ _ is played seed size of
