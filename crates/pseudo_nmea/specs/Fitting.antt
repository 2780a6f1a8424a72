-- Which fixes the two sentences say whole, but for the height above the ellipsoid and the climb.
use Rattle.std.specs.Prelude.{◌≡◌, ◌≢◌, ℕ, zero, suc, ◌/◌, ◌%◌, Bool, true, ◌&&◌, ◌==◌, nat_le, int_le, List, [], ◌∷◌, Option, Some, None, IfSome, IsSome, pos, unsigned_abs}
use Rattle.gps_fixed.specs.Civil.{civil_of}
use Rattle.gps_fixed.specs.Moment.{Moment, IsMoment}
use Rattle.gps_report.specs.declared.fix.Fix.{Fix}
use Rattle.gps_report.specs.declared.note.Note.{Note}
use Rattle.gps_report.specs.declared.note.Position.{Position}
use Rattle.gps_report.specs.Fits.{where_given}
use Rattle.epoch_core.specs.declared.heard.Heard.{Heard}
use Rattle.epoch_core.specs.Days.{Dated, dated}
use Rattle.epoch_core.specs.Epochs.{epochs_of}
use Rattle.epoch_core.specs.Fixes.{fix_of}
use Rattle.epoch_core.specs.Quantities.{said}
use Rattle.nmea_decode.specs.Notes.{sentence_note}
use Rattle.pseudo_nmea.specs.Fields.{is_short_year, is_place, is_speed, is_course, is_height}
use Rattle.pseudo_nmea.specs.Sentences.{sentence, rmc_body, gga_body}

-- the epoch of a note alone
abbrev pub alone : Note → Moment → List Dated
alone note first = dated (record { note = note; first = first } ∷ [])

-- what is asked of the note of a NAV-PVT: a day not after 2079, at most a million knots, and a position if it says that there is a fix
pub record IsSayable (note : Note) : Type 0 where
  pub day : where_given (λ day. nat_le (civil_of (unsigned_abs day)).year 2079) note.day ≡ true
  pub speed : where_given (λ v. int_le v (pos 514_444_444)) note.speed ≡ true
  pub place : note.dim ≢ Some 1 → IsSome note.position

-- a time of the years 1980 to 2079
abbrev pub is_dated : Moment → Bool
is_dated at = is_short_year (civil_of (unsigned_abs at.sec / 86_400))

-- both halves are whole multiples of 100 nanodegrees, which seven decimals of a minute can say
abbrev pub is_coarse : Position → Bool
is_coarse p = (unsigned_abs p.lat % 100 == 0) && (unsigned_abs p.lon % 100 == 0)

-- nothing besides the mode and the time
pub record HasTimeAlone (fix : Fix) : Type 0 where
  pub position : fix.position ≡ None
  pub alt_hae : fix.alt_hae ≡ None
  pub alt_msl : fix.alt_msl ≡ None
  pub geoid_sep : fix.geoid_sep ≡ None
  pub track : fix.track ≡ None
  pub speed : fix.speed ≡ None
  pub climb : fix.climb ≡ None

-- a position, no height and no climb
pub record IsFlat (fix : Fix) : Type 0 where
  pub position : IsSome fix.position
  pub alt_hae : fix.alt_hae ≡ None
  pub alt_msl : fix.alt_msl ≡ None
  pub geoid_sep : fix.geoid_sep ≡ None
  pub climb : fix.climb ≡ None

pub record IsDeep (fix : Fix) : Type 0 where
  pub position : IsSome fix.position
  pub alt_msl : IsSome fix.alt_msl

-- what a fix of mode 1, 2 or 3 has; there is no other mode
abbrev pub HasItsParts : ℕ → Fix → Type 0
HasItsParts (suc zero) fix = HasTimeAlone fix
HasItsParts (suc (suc zero)) fix = IsFlat fix
HasItsParts (suc (suc (suc zero))) fix = IsDeep fix
HasItsParts mode fix = ⊥

-- each quantity lies in the range of its field
pub record IsFitting (fix : Fix) : Type 0 where
  pub parts : HasItsParts fix.mode fix
  pub time : where_given is_dated fix.time ≡ true
  pub place : where_given is_place fix.position ≡ true
  pub coarse : where_given is_coarse fix.position ≡ true
  pub speed : where_given is_speed fix.speed ≡ true
  pub track : where_given is_course fix.track ≡ true
  pub alt_msl : where_given is_height fix.alt_msl ≡ true
  pub geoid_sep : where_given is_height fix.geoid_sep ≡ true

-- its time is one that a stamp can have
abbrev pub HasStamp : Option Moment → Type 0
HasStamp time = IfSome time (λ (at : Moment). IsMoment at.sec at.nsec)

-- the fix without what sentences cannot say
abbrev pub spoken : Fix → Fix
spoken fix = record fix { alt_hae = None; climb = None }

-- the notes of its two sentences, each with the stamp of its first byte
abbrev pub notes_of : Fix → Moment → Moment → List Heard
notes_of fix one two =
    record { note = sentence_note (sentence (rmc_body fix)); first = one }
    ∷ record { note = sentence_note (sentence (gga_body fix)); first = two }
    ∷ []

-- these notes are one epoch, whose Fix is the fix, but for what sentences cannot say
abbrev pub GivesBack : Fix → Moment → Moment → Type 0
GivesBack fix one two =
    (epoch : List Dated) × (epochs_of (notes_of fix one two) ≡ epoch ∷ []) × (fix_of (said epoch) ≡ spoken fix)
