-- A giver's step is that of a publisher that has made its stores.
use Rattle.std.proofs.Common.{◌≡◌, ℕ, List, [], refl, sym, subst}
use Rattle.atomic_table.specs.Seated.{TableId}
use Rattle.atomic_table.specs.Table.{Me}
use Rattle.shm_segment.specs.declared.publisher.Phase.{Phase}
use Rattle.shm_segment.specs.declared.publisher.PubStep.{PubStep}
use Rattle.shm_segment.specs.declared.sample.Sample.{Sample}
use Rattle.shm_segment.specs.Publishing.{Publishing, StepsAs}
use Rattle.shm_segment.specs.Views.{publisher}
use Rattle.shm_segment.proofs.Stepping.{Stepped as Published}
use Rattle.shm_consumer.specs.declared.view.View.{View}
use Rattle.shm_consumer.specs.Giving.{giving, IsGiver}
use Rattle.shm_consumer.specs.Views.{giver}

-- what a call of step leaves: the giver is kept, and the call is a step
abbrev pub Stepped : Publishing → TableId → Me (Unit {0}) View → ℕ → Phase → Sample → PubStep → Type 0
Stepped old table me number phase sample result = IsGiver table me number phase sample × StepsAs old result (giving table me.0 phase sample)

pub as_giver : (old : Publishing) (table : TableId) (me : Me (Unit {0}) View) (first : ℕ) (samples : List Sample) (stores number : ℕ) (phase : Phase) (sample : Sample) (result : PubStep)
    → me ≡ (giver first samples stores, []) → Published old table (publisher first samples stores, []) number phase sample result → Stepped old table me number phase sample result
as_giver old table me first samples stores number phase sample result m made =
    subst (λ (u : Me (Unit {0}) View). Stepped old table u number phase sample result) (sym m) (record { view = refl; keeps = made.0 }, made.1)
