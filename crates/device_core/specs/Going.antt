-- What taking packets means: their notes went to the epochs, and their reports were made.
use Rattle.std.specs.Prelude.{◌≡◌, true, List, [], ◌∷◌, ◌++◌, Option}
use Rattle.gps_report.specs.declared.fix.Pair.{Pair}
use Rattle.gps_report.specs.declared.packet.Packet.{Packet}
use Rattle.gps_report.specs.declared.report.Body.{Body}
use Rattle.gps_report.specs.declared.report.Body.TheVariants.{Packet as PacketBody}
use Rattle.epoch_core.specs.Epochs.{reports}
use Rattle.epoch_core.specs.Kept.{EpochsKept, StandsFor as NotesStand}
use Rattle.device_core.specs.Stream.{notes_of}
use Rattle.device_core.specs.Reports.{told, all_told, last_toff, without_packets}
use Rattle.device_core.specs.Drafts.{is_low}

-- one packet was taken after any packets before it
pub record TookOne (old now : EpochsKept) (toff next : Option Pair) (packet : Packet) (bodies more : List Body) : Type 0 where
  pub told_it : (before : List Packet) → NotesStand old (notes_of before) → more ≡ bodies ++ told before packet
  pub stands : (before : List Packet) → NotesStand old (notes_of before) → NotesStand now (notes_of (before ++ packet ∷ []))
  pub toff_is : (before : List Packet) → NotesStand old (notes_of before) → toff ≡ last_toff (reports (notes_of before))
      → next ≡ last_toff (reports (notes_of (before ++ packet ∷ [])))
  pub low : is_low toff ≡ true → is_low next ≡ true

-- these packets were taken, one after another
pub record TookAll (old now : EpochsKept) (toff next : Option Pair) (packets : List Packet) (bodies : List Body) : Type 0 where
  pub told_all : (before : List Packet) → NotesStand old (notes_of before) → bodies ≡ all_told before packets
  pub stands : (before : List Packet) → NotesStand old (notes_of before) → NotesStand now (notes_of (before ++ packets))
  pub toff_is : (before : List Packet) → NotesStand old (notes_of before) → toff ≡ last_toff (reports (notes_of before))
      → next ≡ last_toff (reports (notes_of (before ++ packets)))
  pub low : is_low toff ≡ true → is_low next ≡ true

-- one packet was taken, and only what it caused was made
pub record TookOneQuietly (old now : EpochsKept) (toff next : Option Pair) (packet : Packet) (bodies more : List Body) : Type 0 where
  pub caused : List Body
  pub took : (all : List Body) → TookOne old now toff next packet all (all ++ PacketBody packet ∷ caused)
  pub made : more ≡ bodies ++ caused
  pub quiet : (before : List Packet) → NotesStand old (notes_of before) → without_packets caused ≡ caused

-- these packets were taken, and only what they caused was made
pub record TookAllQuietly (old now : EpochsKept) (toff next : Option Pair) (packets : List Packet) (bodies : List Body) : Type 0 where
  pub all : List Body
  pub took : TookAll old now toff next packets all
  pub quiet : (before : List Packet) → NotesStand old (notes_of before) → bodies ≡ without_packets all
  pub low : is_low toff ≡ true → is_low next ≡ true
