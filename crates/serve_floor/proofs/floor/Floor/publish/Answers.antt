use Rattle.std.proofs.Common.{refl, ◌∙◌, sym, arith}
use Rattle.serve_floor.proofs.Resting.{rest_all, rest_none, rest_next}
use Rattle.serve_floor.proofs.floor.Floor.publish.Goals as goal

pub units-init : goal.units-init
units-init g c = record { sessions = refl; ends = refl; rest = λ e. rest_none _; all = refl }

pub units-preserved : goal.units-preserved
units-preserved g c = record {
  sessions = c.store_some-some.ensures.sessions ∙ c.units.invariant.sessions;
  ends = c.store_some-some.ensures.ends ∙ c.units.invariant.ends;
  rest = rest_next _ _ _ _ _ _ c.units.invariant.rest c.store_some-some.ensures.none c.either-stored.ensures;
  all = c.units.invariant.all;
}

pub returns-clause-rest : goal.returns-clause-rest
returns-clause-rest g c e =
    let test = c.units-test.false in
    rest_all _ _ _ (c.units.invariant.rest e) (omega (arith, test, c.units.invariant.all, c.args.self.now.units_are))
