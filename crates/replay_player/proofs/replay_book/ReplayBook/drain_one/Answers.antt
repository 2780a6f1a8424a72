use Rattle.std.proofs.Common.{ℕ, Ok, refl, subst}
use Rattle.replay_player.specs.Effects.{takes}
use Rattle.replay_player.specs.Ending.{most_kept}
use Rattle.replay_player.specs.Playing.{Acts, BookStandsFor}
use Rattle.replay_player.specs.States.{State}
use Rattle.replay_player.proofs.EndsDrained.{one_drained}
use Rattle.replay_player.proofs.replay_book.ReplayBook.drain_one.Goals as goal

pub returns : goal.returns
returns c = record {
  drains = λ state client plays there.
      let T : ℕ → Type 0 = λ k. (state : State) → BookStandsFor c.args.self.now state → Acts (Ok c.in_ok-take.field-0) (takes k most_kept state) c.take.new.self c.args.out.now c.take.new.out in
      one_drained c.args.self.now c.take.new.self c.take.new.self c.args.s c.in_ok-take.field-0 c.args.out.now c.take.new.out c.write_closing.result c.write_closing.new.out
      (subst T c.from.ensures c.in_ok-take.ensures.acts) c.write_closing.ensures.line refl state client plays there;
}
