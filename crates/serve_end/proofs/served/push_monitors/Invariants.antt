use Rattle.std.proofs.Common.{◌≡◌, ◌++◌, take}
use Rattle.std.specs.List.{flat_map}
use Rattle.serve_end.specs.Lines.{monitor_text}
use Rattle.serve_end.proofs.served.push_monitors.Given as goal

abbrev pub invariant-loop-done : goal.invariant-loop-done
invariant-loop-done l = l.out ≡ l.initial.out ++ flat_map monitor_text (take l.done-index l.monitors)
