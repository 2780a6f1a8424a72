use Rattle.std.proofs.Common.{ℕ, List, [], ◌∷◌, ◌≡◌, ◌≤◌, length, take, sym, ◌∙◌, subst, arith}
use Rattle.std.proofs.lemmas.List.{length-take-le, take-append-le, take_all}
use Rattle.upstream_laws.specs.Head.{longer}
use Rattle.gps_upstream.proofs.begin.Begin.push.Goals as goal

-- a beginning that is long enough stays as it is
full : (begin : List ℕ) (byte : ℕ) → length begin ≡ 18 → begin ≡ longer begin byte
full begin byte e =
    let some : 18 ≤ length begin = omega arith in
    let most : length begin ≤ 18 = omega arith in
    sym (take-append-le 18 begin (byte ∷ []) some ∙ take_all 18 begin most)

pub returns-else-self-lt-ENOUGH : goal.returns-else-self-lt-ENOUGH
returns-else-self-lt-ENOUGH c =
    let inside : c.self.inside.len ≤ length c.self.inside.bytes = omega arith in
    let len : length (take c.self.inside.len c.self.inside.bytes) ≡ c.self.inside.len = length-take-le c.self.inside.len c.self.inside.bytes inside in
    subst (λ (x : List ℕ). x ≡ longer x c.args.byte) c.self.view_is (full (take c.self.inside.len c.self.inside.bytes) c.args.byte (omega arith))
