-- The ranges of every note of a sentence or a frame, and what the grouping into epochs requires of a note.
use Rattle.std.specs.Prelude.{ℕ, ℤ, pos, negsuc, Bool, true, false, ◌&&◌, ◌||◌, ◌+◌, ◌*◌, ◌≡◌, List, Option, Some, None, nat_eq, nat_le, nat_lt, is_none, is_some}
use Rattle.std.specs.List.{list_all}
use Rattle.gps_report.specs.declared.note.Note.{Note}
use Rattle.gps_report.specs.Systems.{gps, galileo, beidou, glonass}
use Rattle.gps_report.specs.declared.satellite.Satellite.{Satellite}

-- a test of a quantity, if it is given
abbrev pub where_given : {X : Type 0} → (X → Bool) → Option X → Bool
where_given test None = true
where_given test (Some x) = test x

-- below a day's nanoseconds
abbrev pub is_tod : ℕ → Bool
is_tod tod = nat_lt tod 86_400_000_000_000

-- from 1970-01-01 to 2100-01-01
abbrev pub is_day : ℤ → Bool
is_day (pos day) = nat_le day 47_482
is_day (negsuc _) = false

abbrev pub is_dim : ℕ → Bool
is_dim dim = nat_eq dim 1 || nat_eq dim 2 || nat_eq dim 3

-- a system that sentences name
abbrev pub is_named_system : ℕ → Bool
is_named_system g = nat_eq g gps || nat_eq g galileo || nat_eq g beidou || nat_eq g glonass

-- an id of a sentence
abbrev pub is_id : ℕ → Bool
is_id n = nat_le 1 n && nat_le n 999

-- a satellite of a GSV: its system, if the talker names one, has the shown number as its id
abbrev pub is_sentence_satellite : Satellite → Bool
is_sentence_satellite s = is_id s.prn && where_given (λ g. is_named_system g.0 && nat_eq g.1 s.prn) s.gnss && where_given (λ n. nat_le n 15) s.signal

-- a satellite of a frame: the number shown is made of its system and its id
abbrev pub is_frame_satellite : Satellite → Bool
is_frame_satellite s = is_some s.gnss && where_given (λ g. nat_le g.0 255 && nat_le g.1 255 && nat_eq s.prn (g.1 + 100 * g.0)) s.gnss && is_none s.signal

abbrev pub is_satellite : Satellite → Bool
is_satellite s = is_sentence_satellite s || is_frame_satellite s

pub record Fits (note : Note) : Type 0 where
  pub tod : where_given is_tod note.tod ≡ true
  pub day : where_given is_day note.day ≡ true
  pub dim : where_given is_dim note.dim ≡ true
  pub system : where_given is_named_system note.system ≡ true
  pub used : list_all is_id note.used ≡ true
  pub sats : list_all is_satellite note.sats ≡ true
