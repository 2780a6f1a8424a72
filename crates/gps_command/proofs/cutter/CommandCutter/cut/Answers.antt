use Rattle.std.proofs.Common.{arith}
use Rattle.gps_command.proofs.Pieces.{ends_here, goes_on}
use Rattle.gps_command.proofs.cutter.CommandCutter.cut.Goals as goal

pub bytes-preserved : goal.bytes-preserved
bytes-preserved c =
    goes_on _ _ _ _ _ _ _ _ _ 0 (omega arith) c.bytes.invariant
    c.in_ok-stand.ensures.stand c.in_ok-stand.ensures.held c.in_ok-stand.ensures.ended

pub returns : goal.returns
returns c = record { gains = ends_here _ _ _ _ _ c.bytes.byte-index (omega arith) c.bytes.invariant }
