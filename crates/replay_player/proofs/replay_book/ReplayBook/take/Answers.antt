use Rattle.std.proofs.Common.{◌≡◌, ◌≤◌, Bool, true, false, nat_lt, length, rules, refl, subst, arith, Ok}
use Rattle.std.proofs.lemmas.Bool.{ltb-true}
use Rattle.replay_player.specs.Playing.{TakesOne}
use Rattle.replay_player.proofs.Absent.{takes_none}
use Rattle.replay_player.proofs.Taking.{all_taken, most_taken, none_taken, one_more_taken}
use Rattle.replay_player.proofs.replay_book.ReplayBook.take.Goals as goal

pub returns-then-not-has_session : goal.returns-then-not-has_session
returns-then-not-has_session c = record {
  acts = λ state plays.
      let none : nat_lt c.args.s (length c.args.self.now.book.sessions) ≡ false = search rules in
      takes_none c.args.self.now state c.args.s c.args.most c.args.out.now plays none;
}

pub items-init : goal.items-init
items-init c =
    let test : nat_lt c.args.s (length c.args.self.now.book.sessions) ≡ true = search rules in
    record { so_far = none_taken c.args.self.now c.args.s c.args.out.now; there = ltb-true c.args.s (length c.args.self.now.book.sessions) test; same = refl; out = refl }

pub items-preserved : goal.items-preserved
items-preserved c =
    let so : c.in_ok-take_one.field-0 ≡ true = search rules in
    record {
      so_far = one_more_taken c.args.self.now c.items.self c.take_one.new.self c.args.s c.items.taken c.args.out.now c.items.out c.take_one.new.out c.items.invariant.so_far
          (λ state client plays there.
          let P : Bool → Type 0 = λ b. TakesOne c.args.s (Ok b) c.take_one.new.self c.items.out c.take_one.new.out state client in
          subst P so (c.in_ok-take_one.ensures.takes state client plays there));
      there = let low = c.items.invariant.there in let count = c.take_one.ensures.count in omega (arith, low, count);
      same = refl;
      out = refl;
    }

pub returns-then-not-branch : goal.returns-then-not-branch
returns-then-not-branch c = record {
  acts = λ state plays.
      let test : nat_lt c.args.s (length c.args.self.now.book.sessions) ≡ true = search rules in
      let so : c.in_ok-take_one.field-0 ≡ false = search rules in
      let low : c.items.taken ≤ c.args.most = omega arith in
      all_taken c.args.self.now c.items.self c.take_one.new.self c.args.s c.items.taken c.args.most c.args.out.now c.items.out c.take_one.new.out
      (ltb-true c.args.s (length c.args.self.now.book.sessions) test) low c.items.invariant.so_far
      (λ mid client plays there.
      let P : Bool → Type 0 = λ b. TakesOne c.args.s (Ok b) c.take_one.new.self c.items.out c.take_one.new.out mid client in
      subst P so (c.in_ok-take_one.ensures.takes mid client plays there))
      state plays;
}

pub returns : goal.returns
returns c = record {
  acts = λ state plays.
      let test : nat_lt c.args.s (length c.args.self.now.book.sessions) ≡ true = search rules in
      let all : c.items.taken ≡ c.args.most = omega arith in
      most_taken c.args.self.now c.items.self c.args.s c.items.taken c.args.most c.args.out.now c.items.out (ltb-true c.args.s (length c.args.self.now.book.sessions) test) all c.items.invariant.so_far state plays;
}
