use Rattle.std.proofs.Common.{◌≡◌, ◌<◌, ◌≤◌, ◌*◌, true, false, nat_lt, length, rules, subst, arith, ap}
use Rattle.std.proofs.lemmas.Bool.{ltb-true}
use Rattle.replay_player.specs.Playing.{ReplayBookView}
use Rattle.replay_player.proofs.Storing.{none_stored, one_more_stored, stores_act, stores_none}
use Rattle.replay_player.proofs.replay_book.ReplayBook.store.Goals as goal

pub returns-then-not-has_unit : goal.returns-then-not-has_unit
returns-then-not-has_unit c = record {
  acts = λ state plays.
      let none : nat_lt c.args.u (2 * length c.args.self.now.book.names) ≡ false = search rules in
      stores_none c.args.self.now c.args.u c.args.steps none state plays;
}

pub steps-init : goal.steps-init
steps-init c =
    let test : nat_lt c.args.u (2 * length c.args.self.now.book.names) ≡ true = search rules in
    let below : c.args.u < 2 * length c.args.self.now.book.names = ltb-true c.args.u (2 * length c.args.self.now.book.names) test in
    let F : ReplayBookView → Type 0 = λ v. length v.book.names ≤ 8 in
    let few : length c.args.self.now.book.names ≤ 8 = subst F c.self.view_is c.show.ensures.holds.count in
    record { so_far = none_stored c.args.self.now c.args.u; there = below; small = omega (arith, below, few) }

pub steps-preserved : goal.steps-preserved
steps-preserved c = record {
  so_far = one_more_stored c.args.self.now c.steps.self c.store_one.new.self c.args.u c.steps.made c.steps.invariant.small c.steps.invariant.so_far c.store_one.ensures.stored;
  there = let low = c.steps.invariant.there in let same : length c.store_one.new.self.book.names ≡ length c.steps.self.book.names = ap length c.store_one.ensures.names in omega (arith, low, same);
  small = c.steps.invariant.small;
}

pub returns : goal.returns
returns c = record {
  acts = λ state plays.
      let test : nat_lt c.args.u (2 * length c.args.self.now.book.names) ≡ true = search rules in
      let all : c.steps.made ≡ c.args.steps = omega arith in
      stores_act c.args.self.now c.steps.self c.args.u c.steps.made c.args.steps test all c.steps.invariant.so_far state plays;
}
