use Rattle.std.proofs.Common.{◌≡◌, ◌<◌, ◌+◌, true, false, nat_lt, length, rules, arith}
use Rattle.std.proofs.lemmas.Bool.{ltb-true}
use Rattle.replay_player.proofs.Loading.{beside, few_watchers, loads_act, loads_none, none_loaded, one_more_loaded, plays_on}
use Rattle.replay_player.proofs.replay_book.ReplayBook.load.Goals as goal

pub returns-then-not-has_watcher : goal.returns-then-not-has_watcher
returns-then-not-has_watcher c = record {
  acts = λ state plays.
      let none : nat_lt c.args.m (length c.args.self.now.watchers) ≡ false = search rules in
      loads_none c.args.self.now c.args.m c.args.steps c.args.out.now none state plays;
}

pub overflow_cast-m : goal.overflow_cast-m
overflow_cast-m c =
    let test : nat_lt c.args.m (length c.args.self.now.watchers) ≡ true = search rules in
    let below : c.args.m < length c.args.self.now.watchers = ltb-true c.args.m (length c.args.self.now.watchers) test in
    let few = few_watchers c.args.self.now c.requires.known.0 c.requires.known.1 in
    omega (arith, below, few)

pub loads-init : goal.loads-init
loads-init c =
    let test : nat_lt c.args.m (length c.args.self.now.watchers) ≡ true = search rules in
    record { so_far = none_loaded c.args.self.now c.args.m c.args.out.now; there = ltb-true c.args.m (length c.args.self.now.watchers) test; known = c.requires.known }

pub load_one-requires-clause-of : goal.load_one-requires-clause-of
load_one-requires-clause-of c = beside c.loads.self c.loads.invariant.known.0 c.loads.invariant.known.1 c.args.m c.loads.invariant.there

pub loads-preserved : goal.loads-preserved
loads-preserved c =
    let test : nat_lt c.args.m (length c.args.self.now.watchers) ≡ true = search rules in
    let below : c.args.m < length c.args.self.now.watchers = ltb-true c.args.m (length c.args.self.now.watchers) test in
    let on = one_more_loaded c.args.self.now c.loads.self c.load_one.new.self c.args.m c.loads.made c.args.out.now c.loads.out c.load_one.new.out c.loads.invariant.so_far c.in_ok-load_one.ensures.loaded in
    record {
      so_far = on;
      there = let low = c.loads.invariant.there in let count = c.load_one.ensures.count in omega (arith, low, count);
      known = plays_on c.args.self.now c.load_one.new.self c.args.m (c.loads.made + 1) c.args.out.now c.load_one.new.out below on c.requires.known;
    }

pub returns : goal.returns
returns c = record {
  acts = λ state plays.
      let test : nat_lt c.args.m (length c.args.self.now.watchers) ≡ true = search rules in
      let all : c.loads.made ≡ c.args.steps = omega arith in
      loads_act c.args.self.now c.loads.self c.args.m c.loads.made c.args.steps c.args.out.now c.loads.out (ltb-true c.args.m (length c.args.self.now.watchers) test) all c.loads.invariant.so_far state plays;
}
