use Rattle.std.proofs.Common.{◌≡◌, ◌++◌, None, ◌∙◌, sym, subst, rules}
use Rattle.output_lines.specs.Items.{item_line}
use Rattle.replay_player.specs.Playing.{BookStandsFor, ReplayBookView}
use Rattle.replay_player.proofs.Taking.{takes_item}
use Rattle.replay_player.proofs.replay_book.ReplayBook.take_one.Goals as goal

pub returns-in_default-item-clause-takes : goal.returns-in_default-item-clause-takes
returns-in_default-item-clause-takes c = λ state client plays there.
    let P : ReplayBookView → Type 0 = λ v. BookStandsFor v state in
    let none : c.in-Ok.item ≡ None = search rules in
    (takes_item (record { devices = c.self.inside.devices; book = c.self.inside.book; watchers = c.self.inside.watchers.items }) c.take.new.self c.args.s c.take.result c.in-Ok.item state client c.args.out.now c.in-Ok.is c.take.ensures.item c.take.ensures.takes
    (subst P (sym c.self.view_is) plays) there).1 none

pub returns-clause-takes : goal.returns-clause-takes
returns-clause-takes c = λ state client plays there.
    let P : ReplayBookView → Type 0 = λ v. BookStandsFor v state in
    let line : c.push_item_line.new.out ≡ c.args.out.now ++ item_line c.args.s c.in-Some.item = search rules in
    let got = (takes_item (record { devices = c.self.inside.devices; book = c.self.inside.book; watchers = c.self.inside.watchers.items }) c.take.new.self c.args.s c.take.result c.in-Ok.item state client c.args.out.now c.in-Ok.is c.take.ensures.item c.take.ensures.takes
    (subst P (sym c.self.view_is) plays) there).0 c.in-Some.item c.in-Some.is in
    (got.0, got.1, got.2, line ∙ got.3)
