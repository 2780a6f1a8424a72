-- The quantities of an epoch: each as the last note that has it says. An epoch is a past, its latest note first.
-- This project's own; which message gives which quantity is after NMEA 0183 and the u-blox interface description.
use Rattle.std.specs.Prelude.{ℕ, pos, Bool, true, false, not, List, Option, None, Some, nat_eq, option_map}
use Rattle.std.specs.List.{list_any}
use Rattle.std.specs.Option.{option_flatten}
use Rattle.gps_fixed.specs.Moment.{Moment}
use Rattle.gps_fixed.specs.Utc.{utc}
use Rattle.gps_report.specs.declared.note.NoteKind.{NoteKind}
use Rattle.gps_report.specs.declared.note.NoteKind.TheVariants.{Gga, Rmc, Gll, Gsv, Zda, Pvt, Sat}
use Rattle.gps_report.specs.declared.note.Tag.{Tag}
use Rattle.gps_report.specs.declared.note.Tag.TheVariants.{Tod, Itow}
use Rattle.epoch_core.specs.declared.said.Said.{Said}
use Rattle.epoch_core.specs.Days.{Dated}
use Rattle.epoch_core.specs.Past.{latest, earliest}

-- the time that a time of day has if the day is known
abbrev pub serial_time : Option ℕ → Option ℕ → Option Moment
serial_time None day = None
serial_time (Some tod) None = None
serial_time (Some tod) (Some day) = Some (utc (pos day) tod)

abbrev pub stamped : Dated → Option Moment
stamped d = serial_time d.note.tod d.day

-- the time of a note that has a time of day; it is absent if no day is known at it
abbrev pub timed : Dated → Option (Option Moment)
timed d = option_map (λ tod. stamped d) d.note.tod

abbrev pub tod_tag : Option Tag → Option ℕ
tod_tag None = None
tod_tag (Some (Tod tod)) = Some tod
tod_tag (Some (Itow itow)) = None

abbrev pub itow_tag : Option Tag → Option ℕ
itow_tag None = None
itow_tag (Some (Tod tod)) = None
itow_tag (Some (Itow itow)) = Some itow

-- an epoch with such a note has a fix
abbrev pub is_fix_kind : NoteKind → Bool
is_fix_kind Gga = true
is_fix_kind Rmc = true
is_fix_kind Gll = true
is_fix_kind Zda = true
is_fix_kind Pvt = true
is_fix_kind _ = false

-- an epoch with such a note has a sky
abbrev pub is_sky_kind : NoteKind → Bool
is_sky_kind Gsv = true
is_sky_kind Sat = true
is_sky_kind _ = false

unfoldable pub said : List Dated → Said
said epoch = record {
  first = earliest (λ d. Some d.first) epoch;
  tod_tag = latest (λ d. tod_tag d.note.tag) epoch;
  itow_tag = latest (λ d. itow_tag d.note.tag) epoch;
  time = option_flatten (latest timed epoch);
  stamped = earliest stamped epoch;
  status = latest (λ d. d.note.status) epoch;
  dim = latest (λ d. d.note.dim) epoch;
  position = latest (λ d. d.note.position) epoch;
  alt_hae = latest (λ d. d.note.alt_hae) epoch;
  alt_msl = latest (λ d. d.note.alt_msl) epoch;
  geoid_sep = latest (λ d. d.note.geoid_sep) epoch;
  track = latest (λ d. d.note.track) epoch;
  speed = latest (λ d. d.note.speed) epoch;
  climb = latest (λ d. d.note.climb) epoch;
  pdop = latest (λ d. d.note.pdop) epoch;
  hdop = latest (λ d. d.note.hdop) epoch;
  vdop = latest (λ d. d.note.vdop) epoch;
  has_fix = list_any (λ d. is_fix_kind d.note.kind) epoch;
  has_sky = list_any (λ d. is_sky_kind d.note.kind) epoch;
}

-- the tag is given, and the last of its variant is another
abbrev pub differs : ℕ → Option ℕ → Bool
differs tag None = false
differs tag (Some last) = not (nat_eq tag last)

unfoldable pub breaks : Option Tag → Said → Bool
breaks None s = false
breaks (Some (Tod tod)) s = differs tod s.tod_tag
breaks (Some (Itow itow)) s = differs itow s.itow_tag
