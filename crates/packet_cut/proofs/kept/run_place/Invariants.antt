use Rattle.std.proofs.Common.{◌≡◌, length, drop, ◌-◌}
use Rattle.packet_cut.specs.Runs.{runs_after}
use Rattle.packet_cut.proofs.kept.run_place.Given as goal

abbrev pub invariant-runs : goal.invariant-runs
invariant-runs l = runs_after l.before (drop l.run l.runs) ≡ runs_after l.count l.runs

abbrev pub decreases-runs : goal.decreases-runs
decreases-runs l = length l.runs - l.run
