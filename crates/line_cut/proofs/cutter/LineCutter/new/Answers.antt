use Rattle.std.proofs.Common.{[], ap, ◌∙◌, false}
use Rattle.line_cut.specs.Lines.{open_line}
use Rattle.line_cut.proofs.Cuts.{kept_short}
use Rattle.line_cut.proofs.Texts.{none_fits}
use Rattle.line_cut.proofs.cutter.LineCutter.new.Goals as goal

pub returns-clause-stands : goal.returns-clause-stands
unfolding open_line
returns-clause-stands c =
    ap (λ t. record { limit = c.args.limit; skipping = false; held = t }) c.new.ensures.items ∙ kept_short c.args.limit [] (none_fits c.args.limit)
