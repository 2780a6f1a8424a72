-- What each command does, for an outcome that words have.
use Rattle.std.proofs.Common.{◌≡◌, ℕ, List, [], Option, Some, None, ◌⊎◌, inl, inr, refl, ap, arith}
use Rattle.gps_outside.specs.Told.{Stream}
use Rattle.gps_outside.specs.Ticks.{Dial}
use Rattle.gps_outside.proofs.Writing.{appends_none, part_of}
use Rattle.line_cut.specs.Lines.{lines as lines_in_text, open_line}
use Rattle.gps_outside.specs.Calls.{ClockCall, SinkCall, SinkState, SourceCall, SourceState}
use Rattle.gps_outside.specs.declared.outcome.CommandOutcome.{CommandOutcome}
use Rattle.gps_outside.specs.declared.outcome.CommandOutcome.TheVariants.{NoMemory}
use Rattle.gps_outside.specs.Outcomes.{NothingFailed, NothingFails, StatusHasCause, status_of}
use Rattle.gps_outside.proofs.Limits.{passes_none}
use Rattle.gps_outside.proofs.Statuses as by_outcome
use Rattle.gps_words.specs.declared.command.CommandLine.{CommandLine}
use Rattle.gps_words.specs.declared.command.CommandLine.TheVariants.{Decode, Pseudo, Replay, Generate, Lines}
use Rattle.class_counts.specs.Counted.{Counted}
use Rattle.line_player.proofs.Complete.{completes as replays}
use Rattle.gps_decode.specs.Texts.{line_of, sentences_of}
use Rattle.gps_decode.proofs.Ends as decoding
use Rattle.gps_replay.specs.Replayed.{Replayed, most_bytes}
use Rattle.gps_replay.specs.Run.{rules_of}
use Rattle.gps_replay.proofs.Making.{nothing_played}
use Rattle.command_run.specs.declared.run_outcome.RunOutcome.{RunOutcome}
use Rattle.command_run.specs.declared.run_outcome.RunOutcome.TheVariants.{Refused, Ended}
use Rattle.command_run.specs.Commands.{Does, EndedAs, EndsAt, IsWithinLimits, run_status}
use Rattle.command_run.proofs.Statuses.{decode_completes, decode_ends, ends_by_itself, is_done, lines_complete, made_ends, made_has_cause}

-- out of memory before the first read

nothing_counted : (source : Option Stream) (sink : Option (List ℕ)) → Counted NoMemory source source sink sink
nothing_counted source sink = record { bytes = []; ends = inl (inl (omega arith, passes_none source), refl) }

nothing_replayed : (queue : ℕ) (source : Option Stream) (sink : Option (List ℕ)) → Replayed NoMemory queue source source sink sink
unfolding lines_in_text open_line
nothing_replayed queue source sink = record {
  bytes = [];
  ends = inl (inl (omega arith, passes_none source), (tt, part_of [] [] sink sink (appends_none sink)));
}

nothing_failed : (source : SourceState) (sink : SinkState)
    → NothingFailed (record { before = source; after = source }) (record { before = sink; after = sink })
nothing_failed source sink = ((refl, by_outcome.quiet_never source.quiets), refl)

-- the status of words that ask for no command
pub two_or_seven : (ran : RunOutcome) → (ran ≡ Refused) ⊎ (ran ≡ Ended NoMemory) → (run_status ran ≡ 2) ⊎ (run_status ran ≡ 7)
two_or_seven ran (inl refused) = inl (ap run_status refused)
two_or_seven ran (inr short) = inr (ap run_status short)

pub refused_by : (ran : RunOutcome) → run_status ran ≡ 2 → ran ≡ Refused
refused_by Refused two = refl
refused_by (Ended outcome) two = absurd (by_outcome.not_refused outcome two)

pub nothing_done : (command : CommandLine) (source : SourceState) (sink : SinkState) (clock : Option Dial)
    → Does command NoMemory (record { before = source; after = source }) (record { before = sink; after = sink }) (record { before = clock; after = clock })
nothing_done (Decode history) source sink clock = (inl (nothing_failed source sink), decoding.nothing_done line_of history source.content clock sink.written)
nothing_done (Pseudo history) source sink clock = (inl (nothing_failed source sink), decoding.nothing_done sentences_of history source.content clock sink.written)
nothing_done (Replay history queue) source sink clock = (nothing_failed source sink, nothing_replayed queue source.content sink.written, refl)
nothing_done (Generate seed size) source sink clock = (refl, nothing_played seed size sink.written, refl, refl)
nothing_done Lines source sink clock = (nothing_failed source sink, nothing_counted source.content sink.written, refl)

module _ (source : SourceCall) (sink : SinkCall) (clock : ClockCall) where
  abbrev IsDone : CommandLine → CommandOutcome → Type 0
  IsDone command outcome = Does command outcome source sink clock

  has_cause : (command : CommandLine) (outcome : CommandOutcome) → IsDone command outcome → StatusHasCause (status_of outcome) source sink
  has_cause (Decode history) outcome done = by_outcome.has_late_cause source sink outcome done.0
  has_cause (Pseudo history) outcome done = by_outcome.has_late_cause source sink outcome done.0
  has_cause (Replay history queue) outcome done = by_outcome.has_cause source sink outcome done.0
  has_cause (Generate seed size) outcome done = by_outcome.has_cause source sink outcome (made_has_cause source sink outcome done.2 done.0)
  has_cause Lines outcome done = by_outcome.has_cause source sink outcome done.0

  pub ends : (command : CommandLine) (outcome : CommandOutcome) → IsDone command outcome → NothingFails source sink → EndsAt command (status_of outcome)
  ends (Decode history) outcome done sound = decode_ends source sink line_of outcome history clock done.1 done.0 sound
  ends (Pseudo history) outcome done sound = decode_ends source sink sentences_of outcome history clock done.1 done.0 sound
  ends (Replay history queue) outcome done sound = ends_by_itself source sink outcome done.0 sound
  ends (Generate seed size) outcome done sound = made_ends source sink outcome done.0 sound
  ends Lines outcome done sound = ends_by_itself source sink outcome done.0 sound

  completes : (command : CommandLine) (outcome : CommandOutcome) → IsDone command outcome → IsWithinLimits command source.before.content → NothingFails source sink
      → (status_of outcome ≡ 0) ⊎ (status_of outcome ≡ 7)
  completes (Decode history) outcome done within sound = decode_completes source sink line_of outcome history clock done.1 done.0 within sound
  completes (Pseudo history) outcome done within sound = decode_completes source sink sentences_of outcome history clock done.1 done.0 within sound
  completes (Replay history queue) outcome done within sound =
      is_done outcome (replays outcome (rules_of queue) most_bytes source sink done.1 done.0 within sound)
  completes (Generate seed size) outcome done within sound = ends (Generate seed size) outcome done sound
  completes Lines outcome done within sound = lines_complete source sink outcome done.1 done.0 within sound

  -- for words that may ask for none

  pub done_by : (command : CommandLine) (ran : RunOutcome) → EndedAs (IsDone command) ran
      → (outcome : CommandOutcome) × (run_status ran ≡ status_of outcome) × IsDone command outcome
  done_by command Refused done = absurd done
  done_by command (Ended outcome) done = (outcome, refl, done)

  pub complete : (command : CommandLine) (ran : RunOutcome) → EndedAs (IsDone command) ran
      → IsWithinLimits command source.before.content → NothingFails source sink → (run_status ran ≡ 0) ⊎ (run_status ran ≡ 7)
  complete command Refused done within sound = absurd done
  complete command (Ended outcome) done within sound = completes command outcome done within sound

  pub caused : (asked : Option CommandLine) (ran : RunOutcome) → (asked ≡ None → (ran ≡ Refused) ⊎ (ran ≡ Ended NoMemory))
      → (asked ≡ None → (source.after ≡ source.before) × (sink.after ≡ sink.before))
      → ((command : CommandLine) → asked ≡ Some command → EndedAs (IsDone command) ran)
      → StatusHasCause (run_status ran) source sink
  caused (Some command) Refused only same does = absurd (does command refl)
  caused (Some command) (Ended outcome) only same does = has_cause command outcome (does command refl)
  caused None ran only same does =
      let status : (run_status ran ≡ 2) ⊎ (run_status ran ≡ 7) = two_or_seven ran (only refl) in
      inr (inr (
        λ e. elim status [ inl two ↦ absurd (omega (arith, two, e)) | inr seven ↦ absurd (omega (arith, seven, e)) ],
        λ e. elim status [ inl two ↦ absurd (omega (arith, two, e)) | inr seven ↦ absurd (omega (arith, seven, e)) ],
        (by_outcome.none_read source (same refl).0, ap (λ s. s.faults) (same refl).1),
      ))
