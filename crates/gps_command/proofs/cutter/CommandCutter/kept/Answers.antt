use Rattle.std.proofs.Common.{◌≡◌, arith, length, rules}
use Rattle.gps_command.proofs.Bounds.{most_kept}
use Rattle.gps_command.proofs.cutter.CommandCutter.kept.Goals as goal

pub returns-clause-most : goal.returns-clause-most
returns-clause-most c = λ bytes stands.
    let few = most_kept _ bytes stands in
    let same : c.len.result ≡ length c.args.self.now.held = search rules in
    omega arith
