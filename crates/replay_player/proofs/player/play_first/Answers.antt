use Rattle.std.proofs.Common.{◌≡◌, ◌∙◌, [], Ok, Option, Some, ap, append-nil, refl, replicate, subst, sym}
use Rattle.replay_player.specs.declared.event_step.EventStep.{EventStep}
use Rattle.replay_player.specs.Effects.{EventEffect, declares, effect, numbers, quietly}
use Rattle.replay_player.specs.Players.{LinePlayed}
use Rattle.replay_player.specs.Playing.{DeclaresAs, declared_state, state_of}
use Rattle.replay_player.specs.States.{most_units}
use Rattle.replay_player.proofs.Dispatch.{begun_same, is_event}
use Rattle.replay_player.proofs.player.play_first.Goals as goal

pub returns-in-Nothing : goal.returns-in-Nothing
returns-in-Nothing c = record {
  played = (
    quietly (declared_state c.args.declarations.names c.args.declarations.firsts),
    ap (effect c.args.queue (declared_state c.args.declarations.names c.args.declarations.firsts)) c.in-Nothing.is,
    refl,
    sym (append-nil c.args.out.now),
  );
}

pub returns-in-Made : goal.returns-in-Made
returns-in-Made c =
    let P : EventStep → Type 0 = λ t. DeclaresAs (Ok t) (declares c.in-Device.name (declared_state c.args.declarations.names c.args.declarations.firsts)) c.declare.new.self in
    let made : declares c.in-Device.name (declared_state c.args.declarations.names c.args.declarations.firsts) ≡ Some (quietly (declared_state c.declare.new.self.names c.declare.new.self.firsts)) =
    subst P c.in-Made.is c.in_ok-declare-in-Device.ensures in
    record {
      played = (
        quietly (declared_state c.declare.new.self.names c.declare.new.self.firsts),
        ap (effect c.args.queue (declared_state c.args.declarations.names c.args.declarations.firsts)) c.in-Device.is ∙ made,
        refl,
        sym (append-nil c.args.out.now),
      );
    }

pub returns-in-Made-number : goal.returns-in-Made-number
returns-in-Made-number c =
    let P : EventStep → Type 0 = λ t. DeclaresAs (Ok t) (numbers c.in-Segment.unit c.in-Segment.first (declared_state c.args.declarations.names c.args.declarations.firsts)) c.number.new.self in
    let made : numbers c.in-Segment.unit c.in-Segment.first (declared_state c.args.declarations.names c.args.declarations.firsts) ≡ Some (quietly (declared_state c.number.new.self.names c.number.new.self.firsts)) =
    subst P c.in-Made-number.is c.number.ensures in
    record {
      played = (
        quietly (declared_state c.number.new.self.names c.number.new.self.firsts),
        ap (effect c.args.queue (declared_state c.args.declarations.names c.args.declarations.firsts)) c.in-Segment.is ∙ made,
        refl,
        sym (append-nil c.args.out.now),
      );
    }

pub returns-in_ok-stage-in_default : goal.returns-in_ok-stage-in_default
returns-in_ok-stage-in_default c =
    let names = c.args.declarations.names in
    let firsts = c.args.declarations.firsts in
    let at = state_of names [] firsts [] (replicate most_units 0) [] in
    let got : LinePlayed c.play_on.result (effect c.args.queue at c.args.event) c.args.out.now c.play_on.new.out = c.play_on.ensures.played at c.in_ok-stage-in_default.ensures in
    let Q : Option EventEffect → Type 0 = λ o. LinePlayed c.play_on.result o c.args.out.now c.play_on.new.out in
    record { played = subst Q (sym (begun_same c.args.queue c.args.event names firsts (is_event c.args.event c.in_default.not-Nothing c.in_default.not-Device c.in_default.not-Segment))) got }
