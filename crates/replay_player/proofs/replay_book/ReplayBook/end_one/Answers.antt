use Rattle.std.proofs.Common.{◌<◌, length, sym, subst}
use Rattle.replay_player.specs.Playing.{BookStandsFor, ReplayBookView}
use Rattle.replay_player.proofs.EndsDevices.{one_ended}
use Rattle.report_book.proofs.Allowing.{any_lines}
use Rattle.replay_player.proofs.replay_book.ReplayBook.end_one.Goals as goal

pub end_device-requires : goal.end_device-requires
end_device-requires c = record { may = any_lines _ _ _ }

pub returns-clause-ended : goal.returns-clause-ended
returns-clause-ended c = λ state plays.
    let P : ReplayBookView → Type 0 = λ v. BookStandsFor v state in
    let B : ReplayBookView → Type 0 = λ v. c.args.d < length v.book.names in
    one_ended (record { devices = c.self.inside.devices; book = c.self.inside.book; watchers = c.self.inside.watchers.items }) c.end_device.new.self c.args.d c.end_device.result c.unless_wanting.result
    (subst B (sym c.self.view_is) c.requires) c.show.ensures.holds c.end_device.ensures.ended c.end_device.ensures.earns c.end_device.ensures.refusal c.end_device.ensures.unchanged c.unless_wanting.ensures
    state (subst P (sym c.self.view_is) plays)
