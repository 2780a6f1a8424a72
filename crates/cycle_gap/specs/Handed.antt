-- What a source with a gap hands on, of what the source within gave. (This project's own.)
use Rattle.std.specs.Prelude.{◌≡◌, ◌≢◌, ◌⊎◌, ℕ, Bool, true, List, [], ◌++◌, take, Option, None, IfSome}
use Rattle.gps_outside.specs.declared.source.ReadStep.{ReadStep}
use Rattle.gps_outside.specs.declared.source.ReadStep.TheVariants.{Got, End, Quiet, Failed}
use Rattle.gps_outside.specs.Told.{Stream, Goes}
use Rattle.gps_report.specs.declared.packet.Packet.{Packet}
use Rattle.packet_cut.specs.Packets.{Stamped, stamped}
use Rattle.packet_cut.specs.Standing.{StandsFor}
use Rattle.cycle_gap.specs.End.{IsRunning, Woven, no_stamp, packets_in}

-- What is kept of the bytes that were handed on: what is open of them, the gap, whether the last packet is no NAV-EOE, and the bytes of a frame that are
-- still to be handed on.
pub record Kept : Type 0 where
  pub pending : List Stamped
  pub gap : Option ℕ
  pub is_running : Bool
  pub left : List ℕ

-- It is kept of these bytes, which were handed on of those that were taken. If there is no gap, which is so after memory ran out, nothing is known of packets.
pub record Stands (kept : Kept) (given taken : List ℕ) : Type 0 where
  pub woven : Woven (given ++ kept.left) taken
  pub pending : IfSome kept.gap (λ _. StandsFor kept.pending (stamped no_stamp (given ++ kept.left)))
  pub running : IfSome kept.gap (λ _. kept.is_running ≡ true → IsRunning (packets_in (given ++ kept.left)))

-- a frame may be put in
pub record MayEnd (kept : Kept) : Type 0 where
  pub none : kept.pending ≡ []
  pub gap : kept.gap ≢ None
  pub running : kept.is_running ≡ true

-- the last packet is no NAV-EOE behind more packets, if it was so before them or the last of them is none
abbrev pub RunsOn : Bool → List Packet → Type 0
RunsOn before packets = ((before ≡ true) × (packets ≡ [])) ⊎ IsRunning packets

-- the same gap, or none any more
abbrev pub KeepsGap : Option ℕ → Option ℕ → Type 0
KeepsGap before after = after ≢ None → after ≡ before

-- A source with a gap, as its callers see it: what is kept, the content and the faults of the source within, and its own quiet reads.
pub record Cycle : Type 0 where
  pub kept : Kept
  pub content : Option Stream
  pub faults : ℕ
  pub quiets : ℕ

-- the bytes that an answer hands on
abbrev pub got_of : ReadStep → List ℕ → List ℕ
got_of (Got n) buffer = take n buffer
got_of End buffer = []
got_of Quiet buffer = []
got_of Failed buffer = []

-- these bytes were read from a source
abbrev pub Took : List ℕ → Stream → Stream → Type 0
Took raw before after = after.taken ≡ before.taken ++ raw

-- some bytes were read from the source within, and these were handed on
pub record HandsOn (got : List ℕ) (before after : Cycle) : Type 0 where
  pub raw : List ℕ
  pub took : Goes (Took raw) before.content after.content
  pub stands : (given taken : List ℕ) → Stands before.kept given taken → Stands after.kept (given ++ got) (taken ++ raw)
