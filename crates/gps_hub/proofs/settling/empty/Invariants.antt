use Rattle.std.proofs.Common.{◌≡◌}
use Rattle.hub_promise.specs.Steps.{GetsMore}
use Rattle.gps_hub.proofs.settling.empty.Given as goal

abbrev pub invariant-pieces : goal.invariant-pieces
invariant-pieces g l = record {
  pieces : l.pieces ≡ record l.initial.pieces { is_open = l.pieces.is_open };
  input : GetsMore l.initial.input l.input;
}
