use Rattle.std.proofs.Common.{◌≡◌, ◌<◌, ◌*◌, Some, None, length, option_map, slice_get, sym, subst, arith, rules, ◌∙◌}
use Rattle.book_units.specs.Steps.{state_of}
use Rattle.replay_player.specs.Playing.{ReplayBookView}
use Rattle.replay_player.proofs.EndsPublished.{no_unit, stands_next, unit_shown}
use Rattle.replay_player.proofs.replay_book.ReplayBook.publish_unit.Goals as goal

pub stores-preserved : goal.stores-preserved
stores-preserved c = record {
  so_far = stands_next c.args.self.now c.stores.self c.publish_one.new.self c.args.u c.publish_one.result c.stores.invariant.so_far c.publish_one.ensures.publishes;
  there = let low = c.stores.invariant.there in let count = c.publish_one.ensures.count in omega (arith, low, count);
  count = c.publish_one.ensures.count ∙ c.stores.invariant.count;
}

pub returns-in_default-clause-shows : goal.returns-in_default-clause-shows
returns-in_default-clause-shows c = λ state plays.
    let B : ReplayBookView → Type 0 = λ v. c.args.u < 2 * length v.book.names in
    let below : B c.publish_one.new.self = let low = c.stores.invariant.there in let count = c.publish_one.ensures.count in omega (arith, low, count) in
    let none : option_map state_of (slice_get c.self.inside.book.units c.args.u) ≡ None = search rules in
    no_unit (record { devices = c.self.inside.devices; book = c.self.inside.book; watchers = c.self.inside.watchers.items }) c.args.u _ (subst B (sym c.self.view_is) below) c.show.ensures.holds none

pub returns-clause-shows : goal.returns-clause-shows
returns-clause-shows c = λ state plays.
    let is : option_map state_of (slice_get c.self.inside.book.units c.args.u) ≡ Some c.in-Some.shown = search rules in
    let U : ReplayBookView → Type 0 = λ v. option_map state_of (slice_get v.book.units c.args.u) ≡ Some c.in-Some.shown in
    unit_shown c.args.self.now c.stores.self c.publish_one.new.self c.args.u c.publish_one.result c.args.out.now c.push_unit_line.new.out c.in-Some.shown c.push_unit_line.result
    c.stores.invariant.so_far c.publish_one.ensures.publishes c.stores-test.false (subst U c.self.view_is is) c.push_unit_line.ensures.line state plays
