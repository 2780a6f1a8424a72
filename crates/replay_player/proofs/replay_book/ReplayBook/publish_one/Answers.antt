use Rattle.std.proofs.Common.{◌<◌, ◌*◌, length, sym, subst}
use Rattle.replay_player.specs.Ending.{stores_left}
use Rattle.replay_player.specs.Playing.{BookStandsFor, ReplayBookView}
use Rattle.replay_player.proofs.EndsPublished.{one_published, stores_less}
use Rattle.replay_player.proofs.replay_book.ReplayBook.publish_one.Goals as goal

pub returns-clause-publishes : goal.returns-clause-publishes
returns-clause-publishes c = λ state plays.
    let P : ReplayBookView → Type 0 = λ v. BookStandsFor v state in
    let B : ReplayBookView → Type 0 = λ v. c.args.u < 2 * length v.book.names in
    one_published (record { devices = c.self.inside.devices; book = c.self.inside.book; watchers = c.self.inside.watchers.items }) c.publish_step.new.self c.args.u c.in-Ok.step c.is_store.result
    (subst B (sym c.self.view_is) c.requires) c.show.ensures.holds c.in-Ok.ensures.publishes c.is_store.ensures state (subst P (sym c.self.view_is) plays)

pub returns-clause-less : goal.returns-clause-less
returns-clause-less c = λ made.
    let B : ReplayBookView → Type 0 = λ v. c.args.u < 2 * length v.book.names in
    let L : ReplayBookView → Type 0 = λ v. stores_left c.args.u c.publish_step.new.self.units < stores_left c.args.u v.book.units in
    subst L c.self.view_is
    (stores_less (record { devices = c.self.inside.devices; book = c.self.inside.book; watchers = c.self.inside.watchers.items }) c.publish_step.new.self c.args.u c.in-Ok.step c.is_store.result
    (subst B (sym c.self.view_is) c.requires) c.show.ensures.holds c.in-Ok.ensures.publishes c.is_store.ensures made)
