use Rattle.serve_workers.specs.declared.readers.ReaderStep.TheVariants.{On, Over, Closed}
use Rattle.gps_lane.specs.declared.piece.Ending.TheVariants.{End, Failed}
use Rattle.serve_workers.specs.declared.edges.Put.TheVariants as was
use Rattle.serve_workers.proofs.LineStepping.{got_round, no_lines, quiet_took, stop_took, end_took, fault_took}
use Rattle.serve_workers.proofs.LineSourcing.{cutter_before, cutter_ends, cutter_on, cutter_stays}
use Rattle.serve_workers.proofs.edges.cut_once.Goals as goal

pub returns-in-NoMemory-clause-rounds : goal.returns-in-NoMemory-clause-rounds
returns-in-NoMemory-clause-rounds g c bytes stands = got_round was.NoMemory bytes _ _ _ _ _ _ (c.in-NoMemory.ensures.puts bytes stands) c.in-Got.ensures.bytes

pub returns-in-Closed-clause-rounds : goal.returns-in-Closed-clause-rounds
returns-in-Closed-clause-rounds g c bytes stands = got_round was.Closed bytes _ _ _ _ _ _ (c.in-Closed.ensures.puts bytes stands) c.in-Got.ensures.bytes

pub returns-then-pause-clause-rounds : goal.returns-then-pause-clause-rounds
returns-then-pause-clause-rounds g c bytes stands = no_lines On bytes _ _ _ _ stands (quiet_took _ _ c.in-Quiet.ensures.bytes)

pub returns-else-pause-clause-rounds : goal.returns-else-pause-clause-rounds
returns-else-pause-clause-rounds g c bytes stands = no_lines Closed bytes _ _ _ _ stands (stop_took _ _ c.in-Quiet.ensures.bytes)

pub returns-in-End-clause-rounds : goal.returns-in-End-clause-rounds
returns-in-End-clause-rounds g c bytes stands = no_lines (Over End) bytes _ _ _ _ stands (end_took _ _ c.in-End.ensures.bytes)

pub returns-in-Failed-clause-rounds : goal.returns-in-Failed-clause-rounds
returns-in-Failed-clause-rounds g c bytes stands = no_lines (Over Failed) bytes _ _ _ _ stands (fault_took _ _ c.in-Failed.ensures.bytes)

pub put_lines-requires-clause-from : goal.put_lines-requires-clause-from
put_lines-requires-clause-from g c = cutter_before c.args.pieces.now.about.source c.args.pieces.now.put c.args.cutter.now _ _ _ c.requires.from c.in-Got.ensures.bytes

pub returns-in-Done-clause-from : goal.returns-in-Done-clause-from
returns-in-Done-clause-from g c = cutter_on c.args.pieces.now _ c.args.cutter.now _ _ _ _ c.put_lines.ensures.lane c.requires.from c.in-Got.ensures.bytes c.in-Done.ensures.puts

pub returns-then-pause-clause-from : goal.returns-then-pause-clause-from
returns-then-pause-clause-from g c = cutter_stays c.args.pieces.now.about.source c.args.pieces.now.put c.args.cutter.now _ _ c.requires.from c.in-Quiet.ensures.bytes

pub returns-in-End-clause-from : goal.returns-in-End-clause-from
returns-in-End-clause-from g c = cutter_ends c.args.pieces.now.about.source c.args.pieces.now.put c.args.cutter.now _ _ c.requires.from c.in-End.ensures.bytes
