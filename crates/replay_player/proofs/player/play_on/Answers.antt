use Rattle.std.proofs.Common.{Ok, subst}
use Rattle.replay_player.specs.declared.event_step.EventStep.{EventStep}
use Rattle.replay_player.specs.Effects.{effect}
use Rattle.replay_player.specs.Playing.{Acts}
use Rattle.replay_player.proofs.player.play_on.Goals as goal

pub returns-in-Made : goal.returns-in-Made
returns-in-Made c = record {
  played = λ state plays.
      let P : EventStep → Type 0 = λ t. Acts (Ok t) (effect c.args.queue state c.args.event) c.play.new.self c.args.out.now c.play.new.out in
      subst P c.in-Made.is (c.in_ok-play.ensures.acts state plays);
}

pub returns-in-Refused : goal.returns-in-Refused
returns-in-Refused c = record {
  played = λ state plays.
      let P : EventStep → Type 0 = λ t. Acts (Ok t) (effect c.args.queue state c.args.event) c.play.new.self c.args.out.now c.play.new.out in
      subst P c.in-Refused.is (c.in_ok-play.ensures.acts state plays);
}
