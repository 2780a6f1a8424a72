-- A note with nothing given.
use Rattle.std.specs.Prelude.{None, []}
use Rattle.gps_report.specs.declared.note.Note.{Note}
use Rattle.gps_report.specs.declared.note.NoteKind.{NoteKind}

abbrev pub empty_note : NoteKind → Note
empty_note kind = record {
  kind = kind;
  tag = None;
  tod = None;
  day = None;
  status = None;
  dim = None;
  position = None;
  alt_hae = None;
  alt_msl = None;
  geoid_sep = None;
  track = None;
  speed = None;
  climb = None;
  pdop = None;
  hdop = None;
  vdop = None;
  used = [];
  sats = [];
  system = None;
}
