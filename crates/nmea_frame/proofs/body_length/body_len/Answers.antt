use Rattle.std.proofs.Common.{arith}
use Rattle.nmea_frame.proofs.Runs.{block_passed, block_ended}
use Rattle.nmea_frame.proofs.body_length.body_len.Goals as goal

pub returns-then-run-lt-BLOCK-clause-len : goal.returns-then-run-lt-BLOCK-clause-len
returns-then-run-lt-BLOCK-clause-len c =
    block_ended _ c.args.text.now c.loop-at.at c.run_in_block-run.result (omega arith) c.run_in_block-run.ensures (omega arith) c.loop-at.invariant.run

pub loop-at-preserved : goal.loop-at-preserved
loop-at-preserved c =
    record {
      within = omega arith;
      run = block_passed _ c.args.text.now c.loop-at.at c.run_in_block-run.result (omega arith) c.run_in_block-run.ensures (omega arith) c.loop-at.invariant.run;
    }
