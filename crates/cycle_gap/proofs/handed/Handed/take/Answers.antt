use Rattle.std.proofs.Common.{◌∙◌}
use Rattle.cycle_gap.proofs.Weaving.{passed}
use Rattle.cycle_gap.proofs.handed.Handed.take.Goals as goal

pub returns-clause-stands : goal.returns-clause-stands
returns-clause-stands c = λ given taken h.
    passed c.args.self.now c.note.new.self c.args.piece.now given taken c.requires.left (c.note.ensures.left ∙ c.requires.left)
    c.note.ensures.gap c.note.ensures.pending c.note.ensures.running h
