use Rattle.std.proofs.Common.{ap, sym, subst, [], ◌∷◌, ◌++◌}
use Rattle.gps_lane.specs.Ends.{Putting}
use Rattle.gps_lane.specs.Lane.{Begins}
use Rattle.gps_lane.proofs.Moves.{puts, holds_last}
use Rattle.gps_lane.proofs.ends.Tx.push.Goals as goal

pub push_as-requires-clause-rule : goal.push_as-requires-clause-rule
push_as-requires-clause-rule g c =
    let may = ap (λ v. v.puts) c.self.invariant.0 in
    let lets = subst (λ (t : Putting g.row.T.Denot). Begins g.T.Due.due t.about (t.put ++ c.args.item ∷ [])) (sym c.self.view_is) c.requires.due in (
      puts g.T.Due.due _ _ c.self.inside.pass.me.0.client _ may lets,
      holds_last g.T.Due.due _ c.self.inside.pass.me.0.client may,
    )
