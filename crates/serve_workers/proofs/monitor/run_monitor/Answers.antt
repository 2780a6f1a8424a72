use Rattle.std.proofs.Common.{refl, sym, ◌∙◌, ap, subst, arith}
use Rattle.serve_workers.specs.Watching.{Climbs, each_once}
use Rattle.serve_workers.proofs.monitor.run_monitor.Goals as goal

pub tries-init : goal.tries-init
unfolding each_once
tries-init g c = record {
  part = refl;
  kept = c.requires.empty ∙ ap each_once (sym c.requires.new);
  climbs = subst Climbs (sym c.requires.empty) tt;
  loads = omega arith;
  made = omega arith;
}
