use Rattle.std.proofs.Common.{◌≡◌, ◌-◌, ◌+◌, ◌*◌, ◌≤◌, length}
use Rattle.serve_workers.specs.Watching.{Climbs, each_once}
use Rattle.serve_workers.proofs.monitor.run_monitor.Given as goal

abbrev pub invariant-tries : goal.invariant-tries
invariant-tries g l = record {
  part : l.monitor.segment ≡ l.initial.monitor.segment;
  kept : l.taken.items ≡ each_once l.monitor.taken;
  climbs : Climbs l.taken.items;
  loads : length l.initial.monitor.kept + 2 * l.made ≤ length l.monitor.kept;
  made : l.made ≤ l.tries;
}

abbrev pub decreases-tries : goal.decreases-tries
decreases-tries g l = l.tries - l.made
