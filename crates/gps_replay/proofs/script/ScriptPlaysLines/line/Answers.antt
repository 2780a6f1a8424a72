use Rattle.std.proofs.Common.{◌≡◌, Option, Some, Ok, subst}
use Rattle.replay_script.specs.Events.{event_in}
use Rattle.replay_player.specs.declared.player.Player.{Player}
use Rattle.replay_player.specs.Effects.{effect}
use Rattle.replay_player.specs.Players.{LinePlayed}
use Rattle.gps_replay.specs.Scripts.{StillStands}
use Rattle.gps_replay.proofs.Rounds.{made}
use Rattle.gps_replay.proofs.script.ScriptPlaysLines.line.Goals as goal

pub returns-in-Some-2-clause-rounds : goal.returns-in-Some-2-clause-rounds
returns-in-Some-2-clause-rounds c = λ state stands.
    let event : Some c.in-Some.event ≡ event_in c.args.text.now = let exact = c.in_ok-event.ensures.exact in let is = c.in-Some.is in cc in
    let held : c.args.self.now.player ≡ Some c.in-Some-take.player = let value = c.take.ensures.value in let is = c.in-Some-take.is in cc in
    made _ state c.args.text.now _ _ c.in-Some.event c.in-Some-2.player _ event c.put.ensures stands.0 stands.1
    (subst (λ (p : Option Player). LinePlayed (Ok p) (effect c.args.self.now.queue state c.in-Some.event) c.args.out.now c.play.new.out) c.in-Some-2.is
    (c.in_ok-player.ensures.played state (subst (λ (p : Option Player). StillStands p state) held stands.2)))
