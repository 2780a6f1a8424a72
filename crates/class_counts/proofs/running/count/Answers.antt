use Rattle.std.proofs.Common.{refl}
use Rattle.class_counts.proofs.Ends.{counted_end, has_cause}
use Rattle.class_counts.proofs.running.count.Goals as goal

pub returns-in-End-clause-counted : goal.returns-in-End-clause-counted
returns-in-End-clause-counted g c = counted_end _ _ _ _ _ _ c.in-End.ensures.reads c.end.ensures.closes

pub returns-in-End-clause-cause : goal.returns-in-End-clause-cause
returns-in-End-clause-cause g c = has_cause _ _ _ c.end.ensures.cause c.in-End.ensures.cause

pub returns-in-Stopped-clause-cause : goal.returns-in-Stopped-clause-cause
returns-in-Stopped-clause-cause g c = has_cause _ _ _ c.stop.ensures.cause c.in-Stopped.ensures.cause

pub returns-in-Full-clause-cause : goal.returns-in-Full-clause-cause
returns-in-Full-clause-cause g c = (c.in-Full.ensures.cause, refl)

pub returns-in-Failed-clause-cause : goal.returns-in-Failed-clause-cause
returns-in-Failed-clause-cause g c = (c.in-Failed.ensures.cause, refl)

pub returns-clause-cause : goal.returns-clause-cause
returns-clause-cause g c = (c.in-TooQuiet.ensures.cause, refl)
