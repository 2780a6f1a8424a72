-- The satellites of an epoch: those of its notes in order, of equal ones the first, and which of them are used. This project's own;
-- systems and signals are numbered after the u-blox interface description and NMEA 0183.
use Rattle.std.specs.Prelude.{ℕ, Bool, true, false, ◌||◌, ◌&&◌, not, cond, List, [], ◌∷◌, ◌++◌, Option, None, Some, nat_eq, is_none, option_map, map}
use Rattle.std.specs.List.{list_any, filter}
use Rattle.gps_report.specs.declared.note.Note.{Note}
use Rattle.gps_report.specs.declared.note.NoteKind.{NoteKind}
use Rattle.gps_report.specs.declared.note.NoteKind.TheVariants.{Gsa}
use Rattle.gps_report.specs.declared.satellite.Satellite.{Satellite}
use Rattle.epoch_core.specs.declared.used_id.UsedId.{UsedId}
use Rattle.epoch_core.specs.Days.{Dated}

-- of equal elements the first, in order
abbrev pub firsts : {X : Type 0} → (X → X → Bool) → List X → List X
firsts same [] = []
firsts same (x ∷ xs) = x ∷ filter (λ y. not (same x y)) (firsts same xs)

-- an absent number equals only an absent one
abbrev pub same_number : Option ℕ → Option ℕ → Bool
same_number None None = true
same_number None (Some m) = false
same_number (Some n) None = false
same_number (Some n) (Some m) = nat_eq n m

abbrev pub system_of : Satellite → Option ℕ
system_of s = option_map (λ g. g.0) s.gnss

abbrev pub same_satellite : Satellite → Satellite → Bool
same_satellite s t = same_number (system_of s) (system_of t) && nat_eq s.prn t.prn && same_number s.signal t.signal

abbrev pub same_used_id : UsedId → UsedId → Bool
same_used_id a b = same_number a.system b.system && nat_eq a.id b.id

abbrev pub is_gsa : NoteKind → Bool
is_gsa Gsa = true
is_gsa _ = false

abbrev pub used_id_by : Option ℕ → ℕ → UsedId
used_id_by system id = record { id = id; system = system }

-- the ids that a GSA calls used, with its system
abbrev pub used_ids_in : Note → List UsedId
used_ids_in note = cond (is_gsa note.kind) (map (used_id_by note.system) note.used) []

abbrev pub all_sats : List Dated → List Satellite
all_sats [] = []
all_sats (d ∷ past) = all_sats past ++ d.note.sats

abbrev pub all_used_ids : List Dated → List UsedId
all_used_ids [] = []
all_used_ids (d ∷ past) = all_used_ids past ++ used_ids_in d.note

-- the id is the satellite's, and if both name a system, it is the same
abbrev pub speaks_of : Satellite → UsedId → Bool
speaks_of s a = nat_eq a.id s.prn && (is_none a.system || is_none (system_of s) || same_number a.system (system_of s))

abbrev pub is_used : List UsedId → Satellite → Bool
is_used used_ids s = s.used || list_any (speaks_of s) used_ids

unfoldable pub marked : List UsedId → Satellite → Satellite
marked used_ids s = record s { used = is_used used_ids s }

unfoldable pub satellites : List Dated → List Satellite
satellites epoch = map (marked (all_used_ids epoch)) (firsts same_satellite (all_sats epoch))
