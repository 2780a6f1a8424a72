use Rattle.std.proofs.Common.{◌∙◌, ap}
use Rattle.epoch_core.proofs.Told.{gained}
use Rattle.epoch_core.proofs.epochs.Epochs.take.Goals as goal

pub returns-clause-stands : goal.returns-clause-stands
returns-clause-stands c notes stands =
    ap (λ v. v.now) c.in_ok-out.ensures.ok
    ∙ (gained c.args.self.now.now notes (record { note = c.args.note.now; first = c.args.first }) stands).1
