use Rattle.std.proofs.Common.{◌≡◌, ◌≤◌, ◌<◌, ◌+◌, length, sym, ap, subst, arith}
use Rattle.replay_player.specs.Ending.{Leaves, ScriptEndView, sessions_left}
use Rattle.replay_player.specs.declared.script_end.ScriptEnd.TheInside.{Inside}
use Rattle.replay_player.proofs.EndsDrained.{fewer_left, one_less, units_left}
use Rattle.replay_player.proofs.script_end.ScriptEnd.step.Goals as goal

pub returns-then-self-opened-clause-adds : goal.returns-then-self-opened-clause-adds
returns-then-self-opened-clause-adds c =
    let A : Inside → Type 0 = λ v. c.opened.result ≡ length v.book.book.sessions in
    let count : c.opened.result ≡ length c.self.inside.book.book.sessions = subst A c.self-inside.view_is c.opened.ensures in
    let there = ap (λ (v : Inside). v.next) c.self-inside.view_is in
    let past : length c.self.inside.book.book.sessions ≤ c.self.inside.next = omega (arith, count, there) in
    λ left leaves.
    let P : ScriptEndView → Type 0 = λ e. Leaves e left in
    units_left c.self.inside.book c.self.inside.next c.args.out.now c.publish.new.out past c.in_ok-publish.ensures.shows left (subst P (sym c.self.view_is) leaves)

pub returns-clause-adds : goal.returns-clause-adds
returns-clause-adds c =
    let A : Inside → Type 0 = λ v. c.opened.result ≡ length v.book.book.sessions in
    let count : c.opened.result ≡ length c.self.inside.book.book.sessions = subst A c.self-inside.view_is c.opened.ensures in
    let there = ap (λ (v : Inside). v.next) c.self-inside.view_is in
    let below : c.self.inside.next < length c.self.inside.book.book.sessions = omega (arith, count, there) in
    λ left leaves.
    let P : ScriptEndView → Type 0 = λ e. Leaves e left in
    one_less c.self.inside.book c.drain_one.new.self c.self.inside.next c.args.out.now c.drain_one.new.out below c.in_ok-drain_one.ensures.drains left
    (subst P (sym c.self.view_is) leaves)

pub returns-clause-fewer : goal.returns-clause-fewer
returns-clause-fewer c =
    let A : Inside → Type 0 = λ v. c.opened.result ≡ length v.book.book.sessions in
    let count : c.opened.result ≡ length c.self.inside.book.book.sessions = subst A c.self-inside.view_is c.opened.ensures in
    let there = ap (λ (v : Inside). v.next) c.self-inside.view_is in
    let below : c.self.inside.next < length c.self.inside.book.book.sessions = omega (arith, count, there) in
    let P : ScriptEndView → Type 0 = λ e. Leaves e c.requires.known.0 in
    let S : ScriptEndView → Type 0 = λ e. sessions_left (record { book = c.drain_one.new.self; next = c.self.inside.next + 1 }) < sessions_left e in
    λ more.
    subst S c.self.view_is
    (fewer_left c.self.inside.book c.drain_one.new.self c.self.inside.next c.args.out.now c.drain_one.new.out below c.in_ok-drain_one.ensures.drains
    c.requires.known.0 (subst P (sym c.self.view_is) c.requires.known.1))
