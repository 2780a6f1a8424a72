use Rattle.std.proofs.Common.{◌≡◌, false, nat_lt, length, sym, subst, rules}
use Rattle.book_log.specs.Entries.{fed}
use Rattle.book_log.specs.DeviceLogView.{turns_at}
use Rattle.replay_player.specs.Playing.{BookStandsFor, ReplayBookView}
use Rattle.replay_player.proofs.Devices.{entries_act}
use Rattle.replay_player.proofs.Refusing.{brings_none}
use Rattle.report_book.proofs.Allowing.{any_lines}
use Rattle.replay_player.proofs.replay_book.ReplayBook.feed.Goals as goal

pub feed-requires-clause-may : goal.feed-requires-clause-may
feed-requires-clause-may c = any_lines _ _ _

pub returns-then-not-has_device : goal.returns-then-not-has_device
returns-then-not-has_device c = record {
  acts = λ state plays.
      let none : nat_lt c.args.d (length c.args.self.now.book.names) ≡ false = search rules in
      brings_none c.args.self.now state c.args.d (fed c.args.d c.args.at c.args.bytes.now) plays none;
}

pub returns : goal.returns
returns c = record {
  acts = λ state plays.
      let P : ReplayBookView → Type 0 = λ v. BookStandsFor v state in
      entries_act (record { devices = c.self.inside.devices; book = c.self.inside.book; watchers = c.self.inside.watchers.items }) c.feed.new.self (turns_at c.self.inside.book.log (length c.args.bytes.now)) c.args.d (fed c.args.d c.args.at c.args.bytes.now) c.feed.result c.event_step_of.result c.show.ensures.holds
      c.feed.ensures.fed c.feed.ensures.earns c.feed.ensures.refusal c.event_step_of.ensures state (subst P (sym c.self.view_is) plays);
}
