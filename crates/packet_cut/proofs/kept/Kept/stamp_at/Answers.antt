use Rattle.std.proofs.Common.{subst, ap, ◌≡◌, [], ◌∙◌}
use Rattle.packet_cut.specs.Runs.{IsRunPlace, runs_after}
use Rattle.packet_cut.specs.Standing.{stamp_in}
use Rattle.packet_cut.proofs.Runs.{stamp_of_run, stamp_behind}
use Rattle.packet_cut.proofs.kept.Kept.stamp_at.Goals as goal

pub returns-in-Some : goal.returns-in-Some
returns-in-Some c =
    stamp_of_run c.self.inside.runs.items c.self.inside.bytes.items c.args.place c.args.at c.in-Some.found c.index.result.now c.self.invariant.are_runs
    (subst (λ t. IsRunPlace t c.args.place c.in-Some.found) c.as_slice.ensures.value c.in-Some.ensures.some)
    c.index.ensures
    ∙ ap (λ t. stamp_in t c.args.at c.args.place) c.self.view_is

pub returns-in-None : goal.returns-in-None
returns-in-None c =
    stamp_behind c.self.inside.runs.items c.self.inside.bytes.items c.args.place c.args.at c.self.invariant.are_runs
    (subst (λ t. runs_after c.args.place t ≡ []) c.as_slice.ensures.value c.in-None.ensures.none)
    ∙ ap (λ t. stamp_in t c.args.at c.args.place) c.self.view_is
