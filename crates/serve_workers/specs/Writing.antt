-- What a writer received from its lane, and what it wrote.
use Rattle.std.specs.Prelude.{◌≡◌, ℕ, List, ◌++◌, Option, IfSome}
use Rattle.std.specs.List.{concat}
use Rattle.std.specs.Option.{option_to_list}
use Rattle.gps_lane.specs.Ends.{Taking}
use Rattle.gps_outside.specs.Told.{Goes, Appends, AppendsPart}
use Rattle.session_core.specs.declared.subject.Subject.{Subject}
use Rattle.session_runs.specs.Due.{MayWrite}
use Rattle.serve_workers.specs.declared.writer.WriterEnd.{WriterEnd}
use Rattle.serve_workers.specs.declared.writer.WriterEnd.TheVariants.{Drained, WriteFault}
use Rattle.session_core.specs.declared.subject.DeviceHeld.{DeviceHeld}

-- the bytes of these items were written: all of them, or a prefix
abbrev pub WritesBytes : WriterEnd → List ℕ → Option (List ℕ) → Option (List ℕ) → Type 0
WritesBytes Drained bytes before after = Goes (Appends bytes) before after
WritesBytes WriteFault bytes before after = Goes (AppendsPart bytes) before after

-- these items were received, and their bytes, joined, were written
pub record Writes (end : WriterEnd) (got got' : List (List ℕ)) (before after : Option (List ℕ)) : Type 0 where
  pub fresh : List (List ℕ)
  pub gets : got' ≡ got ++ fresh
  pub wrote : WritesBytes end (concat fresh) before after

-- these items were received and joined to what was gathered before, but for one that found no room
pub record Gathers (over : Option (List ℕ)) (before after : List ℕ) (got got' : List (List ℕ)) : Type 0 where
  pub fresh : List (List ℕ)
  pub gets : got' ≡ got ++ fresh
  pub joins : after ++ concat (option_to_list over) ≡ before ++ concat fresh

-- the bytes of the items that were received, joined, are all that was written, if that is modelled
abbrev pub HasWritten : List (List ℕ) → Option (List ℕ) → Type 0
HasWritten got written = IfSome written (λ bytes. bytes ≡ concat got)

-- each sink of the client that a lane is about allows what may be written to it
abbrev pub AllowsDue : {K : Type 0} → (K → Option (List ℕ)) → (K → Option (List ℕ)) → (K → List ℕ → Type 0) → Subject → Type 0
AllowsDue {K} asks written allows about =
    (sink : K) (piece : List ℕ) → asks sink ≡ about.source → MayWrite about (written sink) piece → allows sink piece

-- What comes from the lane may be written to the sink: it is that of the lane's client, what was received so far was written to it, and it allows
-- what is due.
pub record MayWriteOn {K : Type 0} (asks written : K → Option (List ℕ)) (allows : K → List ℕ → Type 0) (sink : K) (lane : Taking (List ℕ)) : Type 0 where
  pub client : asks sink ≡ lane.about.source
  pub wrote : HasWritten lane.got (written sink)
  pub allowed : AllowsDue asks written allows lane.about

-- each sink allows what its own client is due of these devices
abbrev pub AllowsClients : {K : Type 0} → (K → Option (List ℕ)) → (K → Option (List ℕ)) → (K → List ℕ → Type 0) → List DeviceHeld → Type 0
AllowsClients {K} asks written allows devices =
    (sink : K) (piece : List ℕ) → MayWrite (record { source = asks sink; devices = devices }) (written sink) piece → allows sink piece
