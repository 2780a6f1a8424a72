use Rattle.std.proofs.Common.{arith, ap, sym, ◌∙◌, ◌*◌, ◌%◌}
use Rattle.ubx_frame.proofs.Windows.{since}
use Rattle.ubx_frame.proofs.checksum.sums_since.Goals as goal

pub returns : goal.returns
returns c = λ more long is.
    since c.args.before c.args.after more c.times.result (omega (arith, c.well_formed)) (omega (arith, c.well_formed))
    (c.times.ensures ∙ ap (λ n. n * c.args.before.a % 256) (sym long)) is
