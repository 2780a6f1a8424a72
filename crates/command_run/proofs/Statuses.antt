-- How a command ends if nothing outside fails.
use Rattle.std.proofs.Common.{◌≡◌, ◌≢◌, ℕ, ◌⊎◌, inl, inr, refl, sym, ap}
use Rattle.gps_outside.specs.Calls.{ClockCall, ContentsSatisfy, SinkCall, SourceCall}
use Rattle.gps_outside.specs.declared.outcome.CommandOutcome.{CommandOutcome}
use Rattle.gps_outside.specs.declared.outcome.CommandOutcome.TheVariants.{Done, ReadFault, TooQuiet, WriteFault, Full, BadLine, NoMemory}
use Rattle.gps_outside.specs.Ends.{IsWithin}
use Rattle.gps_outside.specs.Outcomes.{status_of, HasCause, HasLateCause, NothingFails}
use Rattle.gps_outside.proofs.Limits.{no_more}
use Rattle.gps_outside.proofs.Statuses.{has_cause, has_late_cause, neither, none_read, others}
use Rattle.class_counts.specs.Counted.{Counted, IsWithin as AreLinesWithin}
use Rattle.class_counts.proofs.Within.{within}
use Rattle.gps_decode.specs.Decode.{AreReads, Decoded}
use Rattle.gps_decode.specs.Readings.{bytes_of}
use Rattle.gps_decode.specs.Texts.{Texts}
use Rattle.gps_replay.specs.Generated.{GeneratedCause}

-- a command that ends so and does not break off is done, or out of memory
pub is_done : (outcome : CommandOutcome) → (outcome ≡ Done) ⊎ (outcome ≡ NoMemory) → (status_of outcome ≡ 0) ⊎ (status_of outcome ≡ 7)
is_done outcome (inl done) = inl (ap status_of done)
is_done outcome (inr short) = inr (ap status_of short)

module _ (source : SourceCall) (sink : SinkCall) where
  -- any command that ends at its first fault
  pub ends_by_itself : (outcome : CommandOutcome) → HasCause outcome source sink → NothingFails source sink
      → (status_of outcome ≡ 0) ⊎ ((status_of outcome ≡ 5) ⊎ ((status_of outcome ≡ 6) ⊎ (status_of outcome ≡ 7)))
  ends_by_itself outcome cause sound = others outcome (neither source sink (status_of outcome) (has_cause source sink outcome cause) sound)

  -- `decode` and `pseudo`, which refuse no line

  pub decode_ends : (says : Texts) (outcome : CommandOutcome) (history : ℕ) (clock : ClockCall)
      → Decoded says outcome history source.before.content source.after.content clock.before clock.after sink.before.written sink.after.written
      → HasLateCause outcome source sink → NothingFails source sink
      → (status_of outcome ≡ 0) ⊎ ((status_of outcome ≡ 5) ⊎ (status_of outcome ≡ 7))
  decode_ends says outcome history clock done cause sound =
      go outcome done.reads (neither source sink (status_of outcome) (has_late_cause source sink outcome cause) sound)
    where
      go : (o : CommandOutcome) → AreReads o done.readings → (status_of o ≢ 3) × (status_of o ≢ 4)
          → (status_of o ≡ 0) ⊎ ((status_of o ≡ 5) ⊎ (status_of o ≡ 7))
      go Done reads sound = inl refl
      go ReadFault reads sound = absurd (sound.0 refl)
      go TooQuiet reads sound = absurd (sound.0 refl)
      go WriteFault reads sound = absurd (sound.1 refl)
      go Full reads sound = inr (inl refl)
      go (BadLine number) reads sound = absurd reads
      go NoMemory reads sound = inr (inr refl)

  -- a source that is within the history does not fill it
  not_full : (says : Texts) (history : ℕ) (clock : ClockCall)
      → Decoded says Full history source.before.content source.after.content clock.before clock.after sink.before.written sink.after.written
      → IsWithin history source.before.content → ⊥
  not_full says history clock done within =
      no_more history (bytes_of done.readings) source.before.content source.after.content within done.ends.0 done.ends.1

  pub decode_completes : (says : Texts) (outcome : CommandOutcome) (history : ℕ) (clock : ClockCall)
      → Decoded says outcome history source.before.content source.after.content clock.before clock.after sink.before.written sink.after.written
      → HasLateCause outcome source sink → IsWithin history source.before.content → NothingFails source sink
      → (status_of outcome ≡ 0) ⊎ (status_of outcome ≡ 7)
  decode_completes says Done history clock done cause within sound = inl refl
  decode_completes says ReadFault history clock done cause within sound =
      absurd ((neither source sink 3 (has_late_cause source sink ReadFault cause) sound).0 refl)
  decode_completes says TooQuiet history clock done cause within sound =
      absurd ((neither source sink 3 (has_late_cause source sink TooQuiet cause) sound).0 refl)
  decode_completes says WriteFault history clock done cause within sound =
      absurd ((neither source sink 4 (has_late_cause source sink WriteFault cause) sound).1 refl)
  decode_completes says Full history clock done cause within sound = absurd (not_full says history clock done within)
  decode_completes says (BadLine number) history clock done cause within sound = absurd done.reads
  decode_completes says NoMemory history clock done cause within sound = inr refl

  -- `lines`
  pub lines_complete : (outcome : CommandOutcome) → ContentsSatisfy (Counted outcome) source sink → HasCause outcome source sink
      → AreLinesWithin source.before.content → NothingFails source sink → (status_of outcome ≡ 0) ⊎ (status_of outcome ≡ 7)
  lines_complete outcome done cause inside sound =
      go outcome (within outcome source.before.content source.after.content sink.before.written sink.after.written done inside)
      (neither source sink (status_of outcome) (has_cause source sink outcome cause) sound)
    where
      go : (o : CommandOutcome) → (o ≢ Full) × ((number : ℕ) → o ≢ BadLine number) → (status_of o ≢ 3) × (status_of o ≢ 4) → (status_of o ≡ 0) ⊎ (status_of o ≡ 7)
      go Done inside sound = inl refl
      go ReadFault inside sound = absurd (sound.0 refl)
      go TooQuiet inside sound = absurd (sound.0 refl)
      go WriteFault inside sound = absurd (sound.1 refl)
      go Full inside sound = absurd (inside.0 refl)
      go (BadLine number) inside sound = absurd (inside.1 number refl)
      go NoMemory inside sound = inr refl

  -- `generate`, which reads no source
  pub made_has_cause : (outcome : CommandOutcome) → source.before ≡ source.after → GeneratedCause outcome sink → HasCause outcome source sink
  made_has_cause Done same wrote = (none_read source (sym same), wrote)
  made_has_cause ReadFault same wrote = absurd wrote
  made_has_cause TooQuiet same wrote = absurd wrote
  made_has_cause WriteFault same wrote = (none_read source (sym same), wrote)
  made_has_cause Full same wrote = absurd wrote
  made_has_cause (BadLine number) same wrote = absurd wrote
  made_has_cause NoMemory same wrote = (none_read source (sym same), wrote)

  pub made_ends : (outcome : CommandOutcome) → GeneratedCause outcome sink → NothingFails source sink → (status_of outcome ≡ 0) ⊎ (status_of outcome ≡ 7)
  made_ends Done cause sound = inl refl
  made_ends ReadFault cause sound = absurd cause
  made_ends TooQuiet cause sound = absurd cause
  made_ends WriteFault cause sound = absurd (sound.2 cause)
  made_ends Full cause sound = absurd cause
  made_ends (BadLine number) cause sound = absurd cause
  made_ends NoMemory cause sound = inr refl
