use Rattle.std.proofs.Common.{◌≡◌, ◌&&◌, true, false, not, nat_eq, nat_lt, length, List, ℕ, sym, subst, rules, ap, ◌∙◌, Some}
use Rattle.std.specs.List.{list_any}
use Rattle.std.specs.Cmp.Lexicographic.{pointwise}
use Rattle.replay_player.specs.Effects.{declares, most_devices, quietly}
use Rattle.replay_player.specs.Playing.{DeclaredView, IsDeclared, declared_state}
use Rattle.replay_player.proofs.Declaring.{declared_so, names_push, not_declared}
use Rattle.replay_player.proofs.declarations.Declarations.declare.Goals as goal

pub returns-then-not-is_new : goal.returns-then-not-is_new
returns-then-not-is_new c =
    let test : (nat_lt (length c.args.self.now.names) most_devices && not (list_any (λ other. pointwise nat_eq other c.args.name) c.args.self.now.names)) ≡ false = search rules in
    not_declared c.args.self.now.names c.args.self.now.firsts c.args.name test

pub invariant_of-self-2 : goal.invariant_of-self-2
invariant_of-self-2 c =
    let test : (nat_lt (length c.args.self.now.names) most_devices && not (list_any (λ other. pointwise nat_eq other c.args.name) c.args.self.now.names)) ≡ true = search rules in
    let T : DeclaredView → Type 0 = λ v. (nat_lt (length v.names) most_devices && not (list_any (λ other. pointwise nat_eq other c.args.name) v.names)) ≡ true in
    let P : List (List ℕ) → Type 0 = λ l. IsDeclared c.self.inside.limit l c.self.inside.firsts in
    subst P (sym c.in_ok-push.ensures.items) (names_push c.self.inside.limit c.self.inside.names.items c.args.name c.self.inside.firsts c.self.invariant (subst T (sym c.self.view_is) test))

pub returns : goal.returns
returns c =
    let test : (nat_lt (length c.args.self.now.names) most_devices && not (list_any (λ other. pointwise nat_eq other c.args.name) c.args.self.now.names)) ≡ true = search rules in
    let T : DeclaredView → Type 0 = λ v. (nat_lt (length v.names) most_devices && not (list_any (λ other. pointwise nat_eq other c.args.name) v.names)) ≡ true in
    let D : DeclaredView → Type 0 = λ v. declares c.args.name (declared_state v.names v.firsts) ≡ Some (quietly (declared_state c.push.new.self.items c.self.inside.firsts)) in
    subst D c.self.view_is
    (declared_so c.self.inside.names.items c.self.inside.firsts c.args.name (subst T (sym c.self.view_is) test)
    ∙ ap (λ l. Some (quietly (declared_state l c.self.inside.firsts))) (sym c.in_ok-push.ensures.items))
