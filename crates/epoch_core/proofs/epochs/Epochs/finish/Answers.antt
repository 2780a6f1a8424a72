use Rattle.std.proofs.Common.{◌∙◌, ap, ◌++◌}
use Rattle.epoch_core.specs.Steps.{ran_closing}
use Rattle.epoch_core.proofs.Told.{left_over}
use Rattle.epoch_core.proofs.epochs.Epochs.finish.Goals as goal

pub returns-clause-gains : goal.returns-clause-gains
returns-clause-gains c notes stands =
    c.in_ok-close.ensures ∙ ap (λ v. v ++ ran_closing c.self.inside.running) c.new-out.ensures.items
    ∙ ap (λ v. ran_closing v.now.ran) c.self.view_is ∙ left_over c.args.self.now.now notes stands
