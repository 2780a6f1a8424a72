use Rattle.std.proofs.Common.{◌≡◌, false, nat_lt, length, sym, subst, rules}
use Rattle.replay_player.specs.Playing.{BookStandsFor, ReplayBookView}
use Rattle.replay_player.proofs.Hearing.{hears_act}
use Rattle.replay_player.proofs.Absent.{hears_none}
use Rattle.report_book.proofs.Allowing.{any_replies}
use Rattle.replay_player.proofs.replay_book.ReplayBook.input.Goals as goal

pub input-requires-clause-may : goal.input-requires-clause-may
input-requires-clause-may c = any_replies _ _ _

pub returns-then-not-has_session : goal.returns-then-not-has_session
returns-then-not-has_session c = record {
  acts = λ state plays.
      let none : nat_lt c.args.s (length c.args.self.now.book.sessions) ≡ false = search rules in
      hears_none c.args.self.now state c.args.s c.args.piece.now plays none;
}

pub returns : goal.returns
returns c = record {
  acts = λ state plays.
      let P : ReplayBookView → Type 0 = λ v. BookStandsFor v state in
      hears_act (record { devices = c.self.inside.devices; book = c.self.inside.book; watchers = c.self.inside.watchers.items }) c.input.new.self c.args.s c.args.piece.now c.input.result c.event_step_of.result c.show.ensures.holds c.event_step_of.ensures c.input.ensures.refusal c.input.ensures.hears state (subst P (sym c.self.view_is) plays);
}
