use Rattle.serve_workers.proofs.LineStepping.{ended_lines, no_last_memory, no_last_closed, failed_lines, starved_lines, closed_lines, ends_as}
use Rattle.serve_workers.proofs.LineSourcing.{from_as}
use Rattle.serve_workers.proofs.edges.cut_all.Goals as goal

pub returns-in-Done-clause-cuts : goal.returns-in-Done-clause-cuts
returns-in-Done-clause-cuts g c = ended_lines _ _ _ _ _ _ (ends_as _ _ _ _ _ _ _ _ c.in-Some-End.field-0-is c.in-Some-End.ensures.rounds) c.in-Done.ensures.puts

pub returns-in-NoMemory-clause-cuts : goal.returns-in-NoMemory-clause-cuts
returns-in-NoMemory-clause-cuts g c = no_last_memory _ _ _ _ _ _ (ends_as _ _ _ _ _ _ _ _ c.in-Some-End.field-0-is c.in-Some-End.ensures.rounds) c.in-NoMemory.ensures.puts

pub returns-in-Some-End-clause-cuts : goal.returns-in-Some-End-clause-cuts
returns-in-Some-End-clause-cuts g c = no_last_closed _ _ _ _ _ _ (ends_as _ _ _ _ _ _ _ _ c.in-Some-End.field-0-is c.in-Some-End.ensures.rounds) c.in-Closed.ensures.puts

pub returns-in-Some-Failed-clause-cuts : goal.returns-in-Some-Failed-clause-cuts
returns-in-Some-Failed-clause-cuts g c = failed_lines _ _ _ _ _ (ends_as _ _ _ _ _ _ _ _ c.in-Some-Failed.field-0-is c.in-Some-Failed.ensures.rounds)

pub returns-in-Some-NoMemory-clause-cuts : goal.returns-in-Some-NoMemory-clause-cuts
returns-in-Some-NoMemory-clause-cuts g c = starved_lines _ _ _ _ _ (ends_as _ _ _ _ _ _ _ _ c.in-Some-NoMemory.field-0-is c.in-Some-NoMemory.ensures.rounds)

pub returns-clause-cuts : goal.returns-clause-cuts
returns-clause-cuts g c = closed_lines _ _ _ _ _ c.in-None.ensures.rounds

pub put_last-requires-clause-from : goal.put_last-requires-clause-from
put_last-requires-clause-from g c = from_as _ _ _ _ _ _ c.in-Some-End.field-0-is c.in-Some-End.ensures.from
