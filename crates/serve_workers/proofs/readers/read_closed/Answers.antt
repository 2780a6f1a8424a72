use Rattle.std.proofs.Common.{rules}
use Rattle.serve_workers.proofs.Stepping.{was_read_on, dropped_all, nothing_came, nothing_taken, nothing_was_left}
use Rattle.serve_workers.proofs.readers.read_closed.Goals as goal

pub returns-in-Failed-clause-took : goal.returns-in-Failed-clause-took
returns-in-Failed-clause-took g c = nothing_taken _ _ _ c.finish.ensures.content c.in-Failed.ensures.bytes

pub returns-in-Got-clause-took : goal.returns-in-Got-clause-took
returns-in-Got-clause-took g c = dropped_all _ c.read.new.buf _ _ _ c.finish.ensures.content (search rules) c.in-Got.ensures.bytes

pub returns-in-Quiet-clause-took : goal.returns-in-Quiet-clause-took
returns-in-Quiet-clause-took g c = nothing_came _ _ _ c.finish.ensures.content c.in-Quiet.ensures.bytes

pub returns-in-End-clause-took : goal.returns-in-End-clause-took
returns-in-End-clause-took g c = nothing_was_left _ _ _ c.finish.ensures.content c.in-End.ensures.bytes

pub returns-in-Failed-clause-read : goal.returns-in-Failed-clause-read
returns-in-Failed-clause-read g c =
    was_read_on _ c.read.new.buf _ _ _ _ _ _ _ c.finish.ensures.content (search rules) c.read.ensures.bytes c.read.ensures.failed c.read.ensures.quiet

pub returns-in-Got-clause-read : goal.returns-in-Got-clause-read
returns-in-Got-clause-read g c =
    was_read_on _ c.read.new.buf _ _ _ _ _ _ _ c.finish.ensures.content (search rules) c.read.ensures.bytes c.read.ensures.failed c.read.ensures.quiet

pub returns-in-Quiet-clause-read : goal.returns-in-Quiet-clause-read
returns-in-Quiet-clause-read g c =
    was_read_on _ c.read.new.buf _ _ _ _ _ _ _ c.finish.ensures.content (search rules) c.read.ensures.bytes c.read.ensures.failed c.read.ensures.quiet

pub returns-in-End-clause-read : goal.returns-in-End-clause-read
returns-in-End-clause-read g c =
    was_read_on _ c.read.new.buf _ _ _ _ _ _ _ c.finish.ensures.content (search rules) c.read.ensures.bytes c.read.ensures.failed c.read.ensures.quiet
