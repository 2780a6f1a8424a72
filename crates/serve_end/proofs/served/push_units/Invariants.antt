use Rattle.std.proofs.Common.{◌≡◌, ◌++◌, take}
use Rattle.serve_end.specs.Lines.{units_text}
use Rattle.serve_end.proofs.served.push_units.Given as goal

abbrev pub invariant-loop-unit : goal.invariant-loop-unit
invariant-loop-unit g l = l.out ≡ l.initial.out ++ units_text (take l.unit l.book.units)
