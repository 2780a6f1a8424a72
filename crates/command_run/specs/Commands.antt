-- What each command does, by how it ended: what must have happened outside, and what was read and written.
use Rattle.std.specs.Prelude.{◌≡◌, ℕ, ◌⊎◌, Option}
use Rattle.gps_outside.specs.Told.{Stream}
use Rattle.gps_outside.specs.Calls.{ClockCall, ContentsSatisfy, SinkCall, SourceCall}
use Rattle.gps_outside.specs.declared.outcome.CommandOutcome.{CommandOutcome}
use Rattle.gps_outside.specs.Ends.{IsWithin}
use Rattle.gps_outside.specs.Outcomes.{status_of, HasCause, HasLateCause}
use Rattle.gps_words.specs.declared.command.CommandLine.{CommandLine}
use Rattle.gps_words.specs.declared.command.CommandLine.TheVariants.{Decode, Pseudo, Replay, Generate, Lines}
use Rattle.class_counts.specs.Counted.{Counted, IsWithin as AreLinesWithin}
use Rattle.gps_replay.specs.Replayed.{IsScript, Replayed}
use Rattle.gps_replay.specs.Generated.{Generated, GeneratedCause}
use Rattle.gps_decode.specs.Decode.{Decoded}
use Rattle.gps_decode.specs.Texts.{Texts, line_of, sentences_of}
use Rattle.command_run.specs.declared.run_outcome.RunOutcome.{RunOutcome}
use Rattle.command_run.specs.declared.run_outcome.RunOutcome.TheVariants.{Refused, Ended}

-- `decode` and `pseudo`
abbrev pub DoesDecode : Texts → ℕ → CommandOutcome → SourceCall → SinkCall → ClockCall → Type 0
DoesDecode says history outcome source sink clock =
    HasLateCause outcome source sink
    × ContentsSatisfy (λ left left' written written'. Decoded says outcome history left left' clock.before clock.after written written') source sink

-- `lines`, which asks no clock
abbrev pub DoesLines : CommandOutcome → SourceCall → SinkCall → ClockCall → Type 0
DoesLines outcome source sink clock =
    HasCause outcome source sink
    × ContentsSatisfy (Counted outcome) source sink × (clock.before ≡ clock.after)

-- `replay`, which asks no clock
abbrev pub DoesReplay : ℕ → CommandOutcome → SourceCall → SinkCall → ClockCall → Type 0
DoesReplay queue outcome source sink clock =
    HasCause outcome source sink
    × ContentsSatisfy (Replayed outcome queue) source sink × (clock.before ≡ clock.after)

-- `generate`, which reads no source and asks no clock
abbrev pub DoesGenerate : ℕ → ℕ → CommandOutcome → SourceCall → SinkCall → ClockCall → Type 0
DoesGenerate seed size outcome source sink clock =
    GeneratedCause outcome sink
    × Generated outcome seed size sink.before.written sink.after.written
    × (source.before ≡ source.after) × (clock.before ≡ clock.after)

abbrev pub Does : CommandLine → CommandOutcome → SourceCall → SinkCall → ClockCall → Type 0
Does (Decode history) outcome source sink clock = DoesDecode line_of history outcome source sink clock
Does (Pseudo history) outcome source sink clock = DoesDecode sentences_of history outcome source sink clock
Does (Replay history queue) outcome source sink clock = DoesReplay queue outcome source sink clock
Does (Generate seed size) outcome source sink clock = DoesGenerate seed size outcome source sink clock
Does Lines outcome source sink clock = DoesLines outcome source sink clock

-- The status of a run: 2 if the words were refused, and else that of the outcome.
abbrev pub run_status : RunOutcome → ℕ
run_status Refused = 2
run_status (Ended outcome) = status_of outcome

-- the words were those of a command, and P holds of how it ended
abbrev pub EndedAs : (CommandOutcome → Type 0) → RunOutcome → Type 0
EndedAs P Refused = ⊥
EndedAs P (Ended outcome) = P outcome

-- the statuses of a command if nothing fails
abbrev pub EndsAt : CommandLine → ℕ → Type 0
EndsAt (Decode history) status = (status ≡ 0) ⊎ ((status ≡ 5) ⊎ (status ≡ 7))
EndsAt (Pseudo history) status = (status ≡ 0) ⊎ ((status ≡ 5) ⊎ (status ≡ 7))
EndsAt (Replay history queue) status = (status ≡ 0) ⊎ ((status ≡ 5) ⊎ ((status ≡ 6) ⊎ (status ≡ 7)))
EndsAt (Generate seed size) status = (status ≡ 0) ⊎ (status ≡ 7)
EndsAt Lines status = (status ≡ 0) ⊎ ((status ≡ 5) ⊎ ((status ≡ 6) ⊎ (status ≡ 7)))

-- The content of the source is modelled, what is left of it lies within the limits of the command, and no line of it is refused. A made script is
-- always within them.
abbrev pub IsWithinLimits : CommandLine → Option Stream → Type 0
IsWithinLimits (Decode history) source = IsWithin history source
IsWithinLimits (Pseudo history) source = IsWithin history source
IsWithinLimits (Replay history queue) source = IsScript queue source
IsWithinLimits (Generate seed size) source = Unit {0}
IsWithinLimits Lines source = AreLinesWithin source
