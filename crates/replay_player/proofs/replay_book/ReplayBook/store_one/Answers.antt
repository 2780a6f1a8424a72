use Rattle.std.proofs.Common.{◌<◌, ◌*◌, length, sym, subst}
use Rattle.replay_player.specs.Playing.{BookStandsFor, ReplayBookView}
use Rattle.replay_player.proofs.Storing.{stored_one}
use Rattle.replay_player.proofs.replay_book.ReplayBook.store_one.Goals as goal

pub returns-clause-stored : goal.returns-clause-stored
returns-clause-stored c = λ state plays.
    let P : ReplayBookView → Type 0 = λ v. BookStandsFor v state in
    let B : ReplayBookView → Type 0 = λ v. c.args.u < 2 * length v.book.names in
    stored_one (record { devices = c.self.inside.devices; book = c.self.inside.book; watchers = c.self.inside.watchers.items }) c.publish_step.new.self c.args.u c.in-Ok.field-0 (subst B (sym c.self.view_is) c.requires) c.show.ensures.holds c.in-Ok.ensures.publishes state (subst P (sym c.self.view_is) plays)
