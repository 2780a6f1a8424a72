-- What an exit status says of what happened outside.
use Rattle.std.proofs.Common.{◌≡◌, ◌≢◌, ℕ, ◌⊎◌, inl, inr, refl, ap, subst, sym, arith}
use Rattle.gps_outside.specs.Counts.{RoseBy, many_more}
use Rattle.gps_outside.specs.ReadSteps.{IsQuietSometimes}
use Rattle.gps_outside.proofs.ReadSteps.{rose_by_many}
use Rattle.gps_outside.specs.Calls.{SinkCall, SourceCall, WriteFailed}
use Rattle.gps_outside.specs.declared.outcome.CommandOutcome.{CommandOutcome}
use Rattle.gps_outside.specs.declared.outcome.CommandOutcome.TheVariants.{Done, ReadFault, TooQuiet, WriteFault, Full, BadLine, NoMemory}
use Rattle.gps_outside.specs.Outcomes.{status_of, HasCause, HasLateCause, HasReadCause, NoReadFailed, NothingFails, ReadBroke, StatusHasCause}

pub quiet_never : (quiets : ℕ) → IsQuietSometimes quiets quiets
unfolding many_more
quiet_never quiets = (0, (omega arith, refl))

pub quiet_long : (quiets quiets' : ℕ) → quiets' ≡ many_more 1000 quiets → RoseBy 1000 quiets quiets'
quiet_long quiets quiets' is = subst (λ n. RoseBy 1000 quiets n) (sym is) (rose_by_many 1000 quiets)

-- a source that was not read has no fault
pub none_read : (source : SourceCall) → source.after ≡ source.before → NoReadFailed source
none_read source same = (
  ap (λ s. s.faults) same,
  subst (λ n. IsQuietSometimes source.before.quiets n) (sym (ap (λ s. s.quiets) same)) (quiet_never source.before.quiets),
)

module _ (source : SourceCall) (sink : SinkCall) where
  pub has_cause : (outcome : CommandOutcome) → HasCause outcome source sink → StatusHasCause (status_of outcome) source sink
  has_cause Done cause = inr (inr (λ e. omega (arith, e), λ e. omega (arith, e), cause))
  has_cause ReadFault cause = inl (refl, inl cause.0, cause.1)
  has_cause TooQuiet cause = inl (refl, inr cause.0, cause.1)
  has_cause WriteFault cause = inr (inl (refl, inl cause.0, cause.1))
  has_cause Full cause = inr (inr (λ e. omega (arith, e), λ e. omega (arith, e), cause))
  has_cause (BadLine number) cause = inr (inr (λ e. omega (arith, e), λ e. omega (arith, e), cause))
  has_cause NoMemory cause = inr (inr (λ e. omega (arith, e), λ e. omega (arith, e), cause))

  pub has_late_cause : (outcome : CommandOutcome) → HasLateCause outcome source sink → StatusHasCause (status_of outcome) source sink
  has_late_cause outcome (inl cause) = has_cause outcome cause
  has_late_cause outcome (inr late) = inr (inl (ap status_of late.0, inr late.1, late.2))

  broke : ReadBroke source → HasReadCause source
  broke (inl failed) = inl failed.0
  broke (inr quiet) = inr (quiet_long source.before.quiets source.after.quiets quiet.1)

  pub read_cause : (status : ℕ) → StatusHasCause status source sink → status ≡ 3 → HasReadCause source
  read_cause status (inl read) e = broke read.1
  read_cause status (inr (inl wrote)) e = let four = wrote.0 in absurd (omega (arith, four, e))
  read_cause status (inr (inr none)) e = absurd (none.0 e)

  pub write_cause : (status : ℕ) → StatusHasCause status source sink → status ≡ 4 → WriteFailed sink
  write_cause status (inl read) e = let three = read.0 in absurd (omega (arith, three, e))
  write_cause status (inr (inl wrote)) e = wrote.2
  write_cause status (inr (inr none)) e = absurd (none.1 e)

  not_broke : NothingFails source sink → ReadBroke source → ⊥
  not_broke sound (inl failed) = sound.0 failed.0
  not_broke sound (inr quiet) = sound.1 (quiet_long source.before.quiets source.after.quiets quiet.1)

  -- if nothing fails
  pub neither : (status : ℕ) → StatusHasCause status source sink → NothingFails source sink → (status ≢ 3) × (status ≢ 4)
  neither status (inl read) sound = absurd (not_broke sound read.1)
  neither status (inr (inl wrote)) sound = absurd (sound.2 wrote.2)
  neither status (inr (inr none)) sound = (none.0, none.1)

pub not_refused : (outcome : CommandOutcome) → status_of outcome ≡ 2 → ⊥
not_refused Done e = omega (arith, e)
not_refused ReadFault e = omega (arith, e)
not_refused TooQuiet e = omega (arith, e)
not_refused WriteFault e = omega (arith, e)
not_refused Full e = omega (arith, e)
not_refused (BadLine number) e = omega (arith, e)
not_refused NoMemory e = omega (arith, e)

-- the statuses that are left if no read and no write failed
pub others : (outcome : CommandOutcome) → (status_of outcome ≢ 3) × (status_of outcome ≢ 4)
    → (status_of outcome ≡ 0) ⊎ ((status_of outcome ≡ 5) ⊎ ((status_of outcome ≡ 6) ⊎ (status_of outcome ≡ 7)))
others Done sound = inl refl
others ReadFault sound = absurd (sound.0 refl)
others TooQuiet sound = absurd (sound.0 refl)
others WriteFault sound = absurd (sound.1 refl)
others Full sound = inr (inl refl)
others (BadLine number) sound = inr (inr (inl refl))
others NoMemory sound = inr (inr (inr refl))
