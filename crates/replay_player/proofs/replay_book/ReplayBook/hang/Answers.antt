use Rattle.std.proofs.Common.{◌≡◌, false, nat_lt, length, sym, subst, rules}
use Rattle.replay_player.specs.Playing.{BookStandsFor, ReplayBookView}
use Rattle.replay_player.proofs.Seating.{hung}
use Rattle.replay_player.proofs.Absent.{hangs_none}
use Rattle.replay_player.proofs.replay_book.ReplayBook.hang.Goals as goal

pub returns-then-not-has_session : goal.returns-then-not-has_session
returns-then-not-has_session c = record {
  acts = λ state plays.
      let none : nat_lt c.args.s (length c.args.self.now.book.sessions) ≡ false = search rules in
      hangs_none c.args.self.now state c.args.s plays none;
}

pub returns : goal.returns
returns c = record {
  acts = λ state plays.
      let P : ReplayBookView → Type 0 = λ v. BookStandsFor v state in
      hung (record { devices = c.self.inside.devices; book = c.self.inside.book; watchers = c.self.inside.watchers.items }) c.hang_up.new.self c.args.s c.hang_up.result c.event_step_of.result c.show.ensures.holds c.event_step_of.ensures c.hang_up.ensures.refusal c.hang_up.ensures.hangs_up state (subst P (sym c.self.view_is) plays);
}
