use Rattle.std.proofs.Common.{◌≡◌, ◌*◌, ◌&&◌, true, false, nat_eq, nat_lt, length, rules, sym, subst, List, [], Ok}
use Rattle.replay_player.specs.UnitMonitorView.{UnitMonitorView}
use Rattle.replay_player.specs.declared.event_step.EventStep.TheVariants.{Made}
use Rattle.replay_player.specs.Effects.{most_watches, watches}
use Rattle.replay_player.specs.Playing.{Acts, BookStandsFor, ReplayBookView}
use Rattle.replay_player.proofs.Storing.{watch_acts, watch_none}
use Rattle.replay_player.proofs.replay_book.ReplayBook.watch.Goals as goal

pub returns-then-not-may_watch : goal.returns-then-not-may_watch
returns-then-not-may_watch c = record {
  acts = λ state plays.
      let test : (nat_eq c.args.m (length c.args.self.now.watchers) && nat_lt (length c.args.self.now.watchers) most_watches && nat_lt c.args.u (2 * length c.args.self.now.book.names)) ≡ false = search rules in
      watch_none c.args.self.now c.args.m c.args.u test state plays;
}

pub returns : goal.returns
returns c = record {
  acts = λ state plays.
      let P : ReplayBookView → Type 0 = λ v. BookStandsFor v state in
      let T : ReplayBookView → Type 0 = λ v. (nat_eq c.args.m (length v.watchers) && nat_lt (length v.watchers) most_watches && nat_lt c.args.u (2 * length v.book.names)) ≡ true in
      let test : T c.args.self.now = search rules in
      let W : List UnitMonitorView → Type 0 = λ l. Acts (Ok Made) (watches c.args.m c.args.u state) (record { devices = c.self.inside.devices; book = c.of.new.book; watchers = l }) [] [] in
      subst W (sym c.in_ok-push.ensures.items) (watch_acts (record { devices = c.self.inside.devices; book = c.self.inside.book; watchers = c.self.inside.watchers.items }) c.of.new.book c.in-Ok.watcher c.args.m c.args.u c.of.ensures.unchanged c.in-Ok.ensures.watcher c.in-Ok.ensures.of
      (subst T (sym c.self.view_is) test) state (subst P (sym c.self.view_is) plays));
}
