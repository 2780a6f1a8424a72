use Rattle.std.proofs.Common.{◌≡◌, None}
use Rattle.serve_workers.specs.Writing.{Gathers}
use Rattle.serve_workers.proofs.writer.gather.Given as goal

abbrev pub invariant-items : goal.invariant-items
invariant-items g l = record {
  gathers : Gathers None l.initial.joined.items l.joined.items l.initial.items.got l.items.got;
  lane : l.items ≡ record l.initial.items { got = l.items.got };
}
