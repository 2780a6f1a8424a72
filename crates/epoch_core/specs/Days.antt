-- The day that is known at each note of a device: the day that the note gives, else the day before it, one more past midnight.
--
use Rattle.std.specs.Prelude.{ℕ, ◌+◌, ◌-◌, Bool, false, cond, List, [], ◌∷◌, Option, None, Some, nat_lt, nat_le, option_map, unsigned_abs}
use Rattle.std.specs.Option.{option_or, option_and_then}
use Rattle.gps_fixed.specs.Moment.{Moment}
use Rattle.gps_report.specs.declared.note.Note.{Note}
use Rattle.epoch_core.specs.declared.heard.Heard.{Heard}
use Rattle.epoch_core.specs.Past.{latest}

-- days are counted from 1970-01-01, and none after 2100-01-01 is known
unfoldable pub day_after : ℕ → Option ℕ
day_after day = cond (nat_lt day 47_482) (Some (day + 1)) None

abbrev pub is_known_day : ℕ → Bool
is_known_day day = nat_le day 47_482

-- the time of day fell by more than half a day
abbrev pub passes_midnight : Option ℕ → Option ℕ → Bool
passes_midnight None tod = false
passes_midnight (Some last) None = false
passes_midnight (Some last) (Some tod) = nat_lt 43_200_000_000_000 (last - tod)

-- the day at a note that gives none, from its time of day, the last time of day and the day before it
unfoldable pub carried : Option ℕ → Option ℕ → Option ℕ → Option ℕ
carried tod last day = cond (passes_midnight last tod) (option_and_then day_after day) day

abbrev pub given_day : Note → Option ℕ
given_day note = option_map unsigned_abs note.day

abbrev pub last_tod : List Heard → Option ℕ
last_tod past = latest (λ h. h.note.tod) past

-- the day that is known at the latest of the notes
unfoldable pub day_known : List Heard → Option ℕ
day_known [] = None
day_known (h ∷ past) = option_or (given_day h.note) (carried h.note.tod (last_tod past) (day_known past))

-- a note with the stamp of its packet's first byte, and the day that is known at it
pub record Dated : Type 0 where
  pub note : Note
  pub first : Moment
  pub day : Option ℕ

unfoldable pub dated : List Heard → List Dated
dated [] = []
dated (h ∷ past) = record { note = h.note; first = h.first; day = day_known (h ∷ past) } ∷ dated past
