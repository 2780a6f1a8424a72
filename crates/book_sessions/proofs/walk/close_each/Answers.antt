use Rattle.std.proofs.Common.{◌≡◌, ◌<◌, ℕ, List, length, get_or, sym, ◌∙◌, subst, arith}
use Rattle.std.proofs.lemmas.List.{length-set}
use Rattle.book_sessions.specs.Roster.{shut_at}
use Rattle.book_sessions.proofs.Walking.{walk_turn}
use Rattle.book_sessions.proofs.Places.{after_set}
use Rattle.book_sessions.proofs.walk.close_each.Goals as goal

pub numbers-preserved : goal.numbers-preserved
numbers-preserved g c =
    let items = c.deref-n-items.result.now in
    let n = get_or items c.numbers.n-index 0 in
    let x = c.index_mut-member.result.now in
    let P : List ℕ → Type 0 = λ l. (k d : ℕ) → k < length l → get_or l k d < length c.args.members.now.items in
    let within = subst P (sym c.deref-n-items.ensures.value) c.requires.within c.numbers.n-index 0 c.numbers-test.true in
    let inside : n < length c.numbers.members.items = omega (arith, within, c.numbers.invariant.count) in
    record {
      so_far = walk_turn (λ a b. b ≡ shut_at c.args.place c.args.why a) c.args.numbers.now.items items c.args.members.now.items c.numbers.members.items c.numbers.n-index x c.shut.new.self
          c.deref-n-items.ensures.value c.numbers-test.true c.numbers.invariant.so_far inside c.index_mut-member.ensures.value c.shut.ensures.now;
      count = length-set c.numbers.members.items n c.shut.new.self ∙ c.numbers.invariant.count;
      after = after_set c.args.place n c.numbers.members.items x c.shut.new.self c.numbers.invariant.after inside c.index_mut-member.ensures.value c.shut.ensures.marks;
    }
