use Rattle.std.proofs.Common.{length}
use Rattle.gps_client.specs.Reading.{items_at, more_at}
use Rattle.gps_client.proofs.Loops.{goes_on}
use Rattle.gps_client.proofs.list.more_items.Goals as goal

pub loop-preserved : goal.loop-preserved
loop-preserved g c =
    let item = g.R.Reads.reading c.args.reader.now in
    let all = more_at c.args.first (items_at (length c.args.cursor.now) item c.args.cursor.now) in
    record {
      ends = c.loop.invariant.ends;
      so_far = rw c.in_ok-push-2.ensures.items (goes_on item c.loop.items.items c.len-end.result c.loop.counter c.loop.cursor all c.loop-test.true c.loop.invariant.so_far c.pass.new.self c.in_ok-read.field-0 c.read.new.cursor c.if-pass.ensures.passed c.in_ok-read.ensures);
    }
