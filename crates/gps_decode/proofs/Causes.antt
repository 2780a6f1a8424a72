-- What the counts of the source and of the sink say when `decode` breaks off.
use Rattle.std.proofs.Common.{◌≡◌, ℕ, Err, inl, sym, subst}
use Rattle.gps_outside.specs.Counts.{Rose}
use Rattle.gps_outside.specs.Calls.{SinkCall, SourceCall}
use Rattle.gps_outside.specs.declared.outcome.CommandOutcome.{CommandOutcome}
use Rattle.gps_outside.specs.Outcomes.{HasCause, HasLateCause, NoReadFailed}
use Rattle.gps_decode.specs.declared.fault.Fault.{Fault}
use Rattle.gps_decode.specs.declared.fault.Fault.TheVariants.{Sink, NoMemory}
use Rattle.gps_decode.specs.Decode.{WriteCause}
use Rattle.gps_decode.specs.Outcomes.{outcome_of}

-- the sink failed, and had no fault before
pub not_written : (before sunk after : ℕ) → sunk ≡ before → Rose sunk after → Rose before after
not_written before sunk after same rose = subst (λ n. Rose n after) same rose

has_cause : (fault : Fault) (source : SourceCall) (sink : SinkCall)
    → NoReadFailed source → WriteCause {X = Unit {0}} (Err fault) sink.before.faults sink.after.faults → HasCause (outcome_of fault) source sink
has_cause Sink source sink sound wrote = (sound, wrote)
has_cause NoMemory source sink sound wrote = (sound, wrote)

-- the sink had no fault up to the call that broke off
pub broken : (fault : Fault) (outcome : CommandOutcome) (source : SourceCall) (sink : SinkCall) (sunk : ℕ)
    → outcome ≡ outcome_of fault → NoReadFailed source → sunk ≡ sink.before.faults → WriteCause {X = Unit {0}} (Err fault) sunk sink.after.faults
    → HasLateCause outcome source sink
broken fault outcome source sink sunk is sound same wrote =
    inl (subst (λ o. HasCause o source sink) (sym is)
    (has_cause fault source sink sound (subst (λ n. WriteCause {X = Unit {0}} (Err fault) n sink.after.faults) same wrote)))
