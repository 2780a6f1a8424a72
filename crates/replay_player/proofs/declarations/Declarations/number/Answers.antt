use Rattle.std.proofs.Common.{◌≡◌, ◌≤◌, ◌<◌, ◌*◌, length, sym, subst, Some, rules, set}
use Rattle.replay_player.specs.Effects.{numbers, quietly}
use Rattle.replay_player.specs.Playing.{DeclaredView, declared_state}
use Rattle.replay_player.proofs.Declaring.{firsts_set, not_numbered, numbered_so}
use Rattle.replay_player.proofs.declarations.Declarations.number.Goals as goal

pub returns-then-u-len : goal.returns-then-u-len
returns-then-u-len c =
    let above : 2 * length c.args.self.now.names ≤ c.args.u = search rules in
    not_numbered c.args.self.now.names c.args.self.now.firsts c.args.u c.args.first above

pub invariant_of-self : goal.invariant_of-self
invariant_of-self c = firsts_set c.self.inside.limit c.self.inside.names.items c.self.inside.firsts c.args.u c.args.first c.self.invariant c.requires

pub returns : goal.returns
returns c =
    let below : c.args.u < 2 * length c.args.self.now.names = search rules in
    let B : DeclaredView → Type 0 = λ v. c.args.u < 2 * length v.names in
    let D : DeclaredView → Type 0 = λ v. numbers c.args.u c.args.first (declared_state v.names v.firsts) ≡ Some (quietly (declared_state c.self.inside.names.items (set c.self.inside.firsts c.args.u c.args.first))) in
    subst D c.self.view_is (numbered_so c.self.inside.names.items c.self.inside.firsts c.args.u c.args.first (subst B (sym c.self.view_is) below))
