use Rattle.gps_upstream.proofs.Heads.{outside_taken, under_way}
use Rattle.gps_upstream.proofs.cutter.HeadCutter.take.Goals as goal

pub returns-then-not-is_inside-clause-stand : goal.returns-then-not-is_inside-clause-stand
returns-then-not-is_inside-clause-stand c =
    (outside_taken c.bytes.used c.args.piece.now c.args.self.now c.bytes.self c.bytes.invariant (c.is_inside.ensures.outside c.if-not-is_inside.true)).stand

pub returns-then-not-is_inside-clause-head : goal.returns-then-not-is_inside-clause-head
returns-then-not-is_inside-clause-head c =
    (outside_taken c.bytes.used c.args.piece.now c.args.self.now c.bytes.self c.bytes.invariant (c.is_inside.ensures.outside c.if-not-is_inside.true)).head

pub returns-then-not-is_inside-clause-none : goal.returns-then-not-is_inside-clause-none
returns-then-not-is_inside-clause-none c =
    (outside_taken c.bytes.used c.args.piece.now c.args.self.now c.bytes.self c.bytes.invariant (c.is_inside.ensures.outside c.if-not-is_inside.true)).none

pub bytes-preserved : goal.bytes-preserved
bytes-preserved c =
    under_way c.bytes.used c.args.piece.now c.args.self.now c.bytes.self c.step.new.self c.bytes.invariant c.bytes-test.true
    (c.is_inside.ensures.inside c.if-not-is_inside.false) c.step.ensures
