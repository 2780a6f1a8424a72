use Rattle.replay_script.proofs.Seconds.{Written}
use Rattle.replay_script.proofs.script.workload.Given as goal

abbrev pub invariant-seconds : goal.invariant-seconds
invariant-seconds l = Written l.seed l.t l.out l.drawn
