use Rattle.std.proofs.Common.{◌≡◌, false, nat_lt, length, sym, subst, rules}
use Rattle.book_log.specs.Entries.{ended}
use Rattle.replay_player.specs.Playing.{BookStandsFor, ReplayBookView}
use Rattle.replay_player.proofs.Devices.{entries_act}
use Rattle.replay_player.proofs.Refusing.{brings_none}
use Rattle.report_book.proofs.Allowing.{any_lines}
use Rattle.replay_player.proofs.replay_book.ReplayBook.end_device.Goals as goal

pub end_device-requires : goal.end_device-requires
end_device-requires c = record { may = any_lines _ _ _ }

pub returns-then-not-has_device : goal.returns-then-not-has_device
returns-then-not-has_device c = record {
  acts = λ state plays.
      let none : nat_lt c.args.d (length c.args.self.now.book.names) ≡ false = search rules in
      brings_none c.args.self.now state c.args.d (ended c.args.d) plays none;
}

pub returns : goal.returns
returns c = record {
  acts = λ state plays.
      let P : ReplayBookView → Type 0 = λ v. BookStandsFor v state in
      entries_act (record { devices = c.self.inside.devices; book = c.self.inside.book; watchers = c.self.inside.watchers.items }) c.end_device.new.self false c.args.d (ended c.args.d) c.end_device.result c.event_step_of.result c.show.ensures.holds
      c.end_device.ensures.ended c.end_device.ensures.earns c.end_device.ensures.refusal c.event_step_of.ensures state (subst P (sym c.self.view_is) plays);
}
