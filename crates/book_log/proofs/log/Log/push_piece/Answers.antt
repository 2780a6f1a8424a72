use Rattle.std.proofs.Common.{refl}
use Rattle.book_log.proofs.PieceLaws.{pushed_fits}
use Rattle.book_log.proofs.log.Log.push_piece.Goals as goal

pub invariant_of-self : goal.invariant_of-self
invariant_of-self c =
    pushed_fits c.self.inside.events c.add.new.self _ c.self.inside.bytes c.add_all.new.self c.args.bytes.now c.self.invariant c.add.ensures c.add_all.ensures refl
