use Rattle.std.proofs.Common.{◌≡◌, length, ◌-◌}
use Rattle.gps_client.specs.Reading.{items_at, more_at}
use Rattle.gps_client.proofs.Loops.{with_front}
use Rattle.gps_client.proofs.list.more_items.Given as goal

abbrev pub invariant-loop : goal.invariant-loop
invariant-loop g l =
    let item = g.R.Reads.reading l.fn.reader in
    record {
      ends : l.end ≡ length l.fn.cursor;
      so_far : with_front l.items.items (items_at (l.end - l.counter) item l.cursor) ≡ more_at l.fn.first (items_at (length l.fn.cursor) item l.fn.cursor);
    }
