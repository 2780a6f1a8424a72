use Rattle.std.proofs.Common.{◌≡◌, rules}
use Rattle.gps_fixed.specs.Scaled.{scaled}
use Rattle.gps_fixed.proofs.ScaledTheorem.{scaled_exact}
use Rattle.gps_fixed.proofs.scaled.read_scaled.Goals as goal

pub returns-clause-exact : goal.returns-clause-exact
unfolding scaled
returns-clause-exact c =
    let value : c.signed_of.result ≡ scaled c.args.decimals c.args.text.now = search rules in
    λ v. rw value (scaled_exact c.args.decimals c.args.text.now v)
