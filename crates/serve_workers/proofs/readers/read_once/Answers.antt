use Rattle.std.proofs.Common.{rules}
use Rattle.serve_workers.proofs.Sourcing.{from_begins, from_more, from_put, from_stays}
use Rattle.serve_workers.proofs.Stepping.{was_read, dropped, no_memory, stopped}
use Rattle.serve_workers.proofs.readers.read_once.Goals as goal

pub returns-then-put-clause-read : goal.returns-then-put-clause-read
returns-then-put-clause-read g c =
    was_read _ c.read.new.buf _ _ _ _ _ _ (search rules) c.read.ensures.bytes c.read.ensures.failed c.read.ensures.quiet

pub returns-else-put-clause-rounds : goal.returns-else-put-clause-rounds
returns-else-put-clause-rounds g c = rw c.if-put.ensures (dropped _ _ c.in-Got.n c.read.new.buf _ _ _ (search rules) c.in-Got.ensures.bytes)

pub returns-else-put-clause-read : goal.returns-else-put-clause-read
returns-else-put-clause-read g c =
    was_read _ c.read.new.buf _ _ _ _ _ _ (search rules) c.read.ensures.bytes c.read.ensures.failed c.read.ensures.quiet

pub returns-in-Err-clause-rounds : goal.returns-in-Err-clause-rounds
returns-in-Err-clause-rounds g c = no_memory _ _ c.in-Got.n c.read.new.buf _ _ _ (search rules) c.in-Got.ensures.bytes

pub returns-in-Err-clause-read : goal.returns-in-Err-clause-read
returns-in-Err-clause-read g c =
    was_read _ c.read.new.buf _ _ _ _ _ _ (search rules) c.read.ensures.bytes c.read.ensures.failed c.read.ensures.quiet

pub returns-then-told-clause-rounds : goal.returns-then-told-clause-rounds
returns-then-told-clause-rounds g c = stopped _ _ _ _ _ c.in-Quiet.ensures.bytes

pub returns-in-End-clause-read : goal.returns-in-End-clause-read
returns-in-End-clause-read g c =
    was_read _ c.read.new.buf _ _ _ _ _ _ (search rules) c.read.ensures.bytes c.read.ensures.failed c.read.ensures.quiet

pub put-requires-clause-due : goal.put-requires-clause-due
put-requires-clause-due g c =
    from_begins g.M.Maker.part g.M.Maker.good c.args.pieces.now.about _ _ c.piece.ensures.carries
    (from_more g.M.Maker.part g.M.Maker.good c.args.pieces.now.about.source c.args.pieces.now.put c.in-Ok.piece _ _ _ c.requires.from c.in-Got.ensures.bytes c.in-Ok.ensures.bytes c.in-Ok.ensures.good)

pub returns-then-put-clause-from : goal.returns-then-put-clause-from
returns-then-put-clause-from g c =
    from_put g.M.Maker.part g.M.Maker.good c.args.pieces.now _ c.in-Ok.piece _ c.if-put.ensures
    (from_more g.M.Maker.part g.M.Maker.good c.args.pieces.now.about.source c.args.pieces.now.put c.in-Ok.piece _ _ _ c.requires.from c.in-Got.ensures.bytes c.in-Ok.ensures.bytes c.in-Ok.ensures.good)

pub returns-else-told-clause-from : goal.returns-else-told-clause-from
returns-else-told-clause-from g c = from_stays g.M.Maker.part g.M.Maker.good c.args.pieces.now.about.source c.args.pieces.now.put _ _ c.requires.from c.in-Quiet.ensures.bytes
