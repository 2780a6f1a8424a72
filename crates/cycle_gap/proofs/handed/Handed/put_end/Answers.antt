use Rattle.std.proofs.Common.{rules, ◌≡◌, refl}
use Rattle.cycle_gap.proofs.Weaving.{put_in}
use Rattle.cycle_gap.proofs.handed.Handed.put_end.Goals as goal

pub returns-clause-stands : goal.returns-clause-stands
returns-clause-stands c = λ given taken h.
    let pending : c.self.inside.cutter ≡ c.args.self.now.pending = search rules in
    put_in c.args.self.now _ given taken c.requires.left c.requires.may refl pending refl h
