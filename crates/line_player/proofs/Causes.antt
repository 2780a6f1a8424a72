-- What the counts of the source and of the sink say when a play breaks off.
use Rattle.std.proofs.Common.{◌≡◌, ℕ, Err}
use Rattle.gps_outside.specs.Calls.{SinkCall, SourceCall}
use Rattle.gps_outside.specs.declared.outcome.CommandOutcome.{CommandOutcome}
use Rattle.gps_outside.specs.Outcomes.{HasCause, NoReadFailed}
use Rattle.line_player.specs.declared.fault.Fault.{Fault}
use Rattle.line_player.specs.declared.fault.Fault.TheVariants.{BadLine, Sink, NoMemory}
use Rattle.line_player.specs.LineSteps.{WriteCause}
use Rattle.line_player.specs.Outcomes.{outcome_of}

has_cause : (fault : Fault) (source : SourceCall) (sink : SinkCall)
    → NoReadFailed source → WriteCause {X = Unit {0}} (Err fault) sink.before.faults sink.after.faults → HasCause (outcome_of fault) source sink
has_cause (BadLine number) source sink sound wrote = (sound, wrote)
has_cause Sink source sink sound wrote = (sound, wrote)
has_cause NoMemory source sink sound wrote = (sound, wrote)

-- the sink had no fault up to the call that broke off
pub broken : (fault : Fault) (outcome : CommandOutcome) (source : SourceCall) (sink : SinkCall) (sunk : ℕ)
    → outcome ≡ outcome_of fault → NoReadFailed source → sunk ≡ sink.before.faults → WriteCause {X = Unit {0}} (Err fault) sunk sink.after.faults
    → HasCause outcome source sink
broken fault outcome source sink sunk is sound same wrote = rw is (has_cause fault source sink sound (rw same at wrote))
