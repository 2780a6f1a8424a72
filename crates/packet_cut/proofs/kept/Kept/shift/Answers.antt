use Rattle.std.proofs.Common.{◌++◌, ap, length, arith, ◌∙◌}
use Rattle.packet_cut.specs.Runs.{run_of}
use Rattle.packet_cut.proofs.Runs.{bytes_fit, runs_fit, kept_shifted, spread_shifted}
use Rattle.packet_cut.proofs.kept.Kept.shift.Goals as goal

pub extend_within-requires : goal.extend_within-requires
extend_within-requires c =
    let fit = bytes_fit c.args.self.now c.self.inside.runs.items c.self.inside.bytes.items _ _ c.args.gone c.args.at c.args.more.now c.self.view_is c.self.invariant
    c.requires.some c.requires.short in
    omega (arith, fit, ap length c.drop_front.ensures.items, c.drop_front.ensures.room)

pub add_run-requires : goal.add_run-requires
add_run-requires c = λ some.
    let fit = runs_fit c.args.self.now c.self.inside.runs.items c.self.inside.bytes.items _ _ c.args.gone c.args.at c.args.more.now c.self.view_is c.self.invariant
    c.requires.some c.requires.short some in
    omega (arith, fit, ap length c.drop_runs.ensures.items, c.drop_runs.ensures.room)

pub invariant_of-self : goal.invariant_of-self
invariant_of-self c =
    kept_shifted c.args.self.now c.self.inside.runs.items c.self.inside.bytes.items _ _ c.args.gone c.args.at c.args.more.now c.self.view_is c.self.invariant
    c.requires.some c.requires.short _ _ _ _
    (c.add_run.ensures.items ∙ ap (λ t. t ++ run_of c.args.at (length c.args.more.now)) c.drop_runs.ensures.items)
    (c.extend_within.ensures.items ∙ ap (λ t. t ++ c.args.more.now) c.drop_front.ensures.items)
    (omega (arith, c.drop_front.ensures.room, c.extend_within.ensures.room))
    (omega (arith, c.drop_runs.ensures.room, c.add_run.ensures.room))

pub returns : goal.returns
returns c =
    spread_shifted c.args.self.now c.self.inside.runs.items c.self.inside.bytes.items _ _ c.args.gone c.args.at c.args.more.now c.self.view_is c.self.invariant
    c.requires.some c.requires.short _ _
    (c.add_run.ensures.items ∙ ap (λ t. t ++ run_of c.args.at (length c.args.more.now)) c.drop_runs.ensures.items)
    (c.extend_within.ensures.items ∙ ap (λ t. t ++ c.args.more.now) c.drop_front.ensures.items)
