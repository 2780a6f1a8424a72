-- What each kind of sentence says, field by field. NMEA 0183; the place of a GSA's system id, and the system of a GSV's satellites, are this
-- project's own.
use Rattle.std.specs.Prelude.{ℕ, ℤ, ◌+◌, ◌/◌, ◌&&◌, ◌==◌, nat_le, Bool, true, false, List, [], ◌∷◌, length, take, drop, Option, Some, None, codes, if◌then◌else◌}
use Rattle.std.specs.Option.{option_map}
use Rattle.std.specs.Str.{bytes_eq}
use Rattle.gps_report.specs.Note.{empty_note}
use Rattle.gps_report.specs.declared.note.Note.{Note}
use Rattle.gps_report.specs.declared.note.NoteKind.{NoteKind}
use Rattle.gps_report.specs.declared.note.Position.{Position}
use Rattle.gps_report.specs.declared.note.NoteKind.TheVariants.{Gga, Rmc, Gll, Gsa, Gsv, Vtg, Zda, Other}
use Rattle.gps_report.specs.declared.note.Tag.TheVariants.{Tod}
use Rattle.nmea_frame.specs.Sentence.{body_of}
use Rattle.nmea_decode.specs.Fields.{address_of, field_at, field_count, fields_of, skipped}
use Rattle.nmea_decode.specs.Kinds.{is_address, talker_system, stated_system, dim_of}
use Rattle.nmea_decode.specs.Places.{position_of}
use Rattle.nmea_decode.specs.Readings.{time_of, tod_of, day_with, date_of, long_date_of, track_of, speed_of, height_of, dilution_of}
use Rattle.nmea_decode.specs.Satellites.{satellites_of, ids_in}

-- a note of a kind with a time, which is its tag
unfoldable pub timed : NoteKind → Option ℕ → Note
timed kind time = record (empty_note kind) { tag = option_map (λ tod. Tod tod) (tod_of time); tod = tod_of time }

-- a GGA's quality, 0 to 8: 0 is no fix
abbrev pub quality_status : List ℕ → Option Bool
quality_status (c ∷ []) = if nat_le 49 c && nat_le c 56 then Some true else (if c == 48 then Some false else None)
quality_status _ = None

-- an RMC's or a GLL's status: A is valid, V is not
abbrev pub letter_status : List ℕ → Option Bool
letter_status text = if bytes_eq text (codes "A") then Some true else (if bytes_eq text (codes "V") then Some false else None)

-- a quantity that counts only beside a fix
abbrev pub where_valid : {X : Type 0} → Option Bool → Option X → Option X
where_valid (Some true) quantity = quantity
where_valid _ quantity = None

-- In which field a sentence says whether it has a fix, and how. A kind without a status gives what it has.
pub data StatusField : Type 0 where
  Quality : (k : ℕ) → StatusField
  Letter : (k : ℕ) → StatusField
  Unstated : StatusField

abbrev pub status_in : StatusField → List ℕ → Option Bool
status_in (Quality k) text = quality_status (field_at k text)
status_in (Letter k) text = letter_status (field_at k text)
status_in Unstated text = None

-- In which field the date begins: ddmmyy in one field, or the day, the month and the year in three.
pub data DateField : Type 0 where
  ShortDate : (k : ℕ) → DateField
  LongDate : (k : ℕ) → DateField
  NoDate : DateField

abbrev pub day_in : DateField → List ℕ → Option ℤ
day_in (ShortDate k) text = date_of (field_at k text)
day_in (LongDate k) text = long_date_of (field_at k text) (field_at (k + 1) text) (field_at (k + 2) text)
day_in NoDate text = None

abbrev pub time_in : Option ℕ → List ℕ → Option ℕ
time_in None text = None
time_in (Some k) text = time_of (field_at k text)

-- a quantity counts only beside a fix, if the sentence has a status
abbrev pub where_valid_by : {X : Type 0} → StatusField → List ℕ → Option X → Option X
where_valid_by Unstated text quantity = quantity
where_valid_by status text quantity = where_valid (status_in status text) quantity

-- a position takes four fields: the latitude, N or S, the longitude, E or W
abbrev pub position_in : Option ℕ → StatusField → List ℕ → Option Position
position_in None status text = None
position_in (Some k) status text =
    where_valid_by status text (position_of (field_at k text) (field_at (k + 1) text) (field_at (k + 2) text) (field_at (k + 3) text))

-- a quantity of one field, by the reading of its text
abbrev pub quantity_in : {X : Type 0} → (List ℕ → Option X) → Option ℕ → StatusField → List ℕ → Option X
quantity_in reading None status text = None
quantity_in reading (Some k) status text = where_valid_by status text (reading (field_at k text))

-- The numbers of the fields of a kind of sentence without a list, as the standard's table of that sentence has them. What is None is not read.
pub record FieldNumbers : Type 0 where
  pub kind : NoteKind
  pub time : Option ℕ
  pub status : StatusField
  pub position : Option ℕ
  pub hdop : Option ℕ
  pub alt_msl : Option ℕ
  pub geoid_sep : Option ℕ
  pub speed : Option ℕ
  pub track : Option ℕ
  pub date : DateField

abbrev pub no_fields : NoteKind → FieldNumbers
no_fields kind = record { kind = kind; time = None; status = Unstated; position = None; hdop = None; alt_msl = None; geoid_sep = None; speed = None; track = None; date = NoDate }

-- what a sentence without a list says
unfoldable pub plain_note : FieldNumbers → List ℕ → Note
plain_note row text =
    let time = time_in row.time text in
    record (timed row.kind time) {
      status = status_in row.status text;
      position = position_in row.position row.status text;
      hdop = quantity_in dilution_of row.hdop row.status text;
      alt_msl = quantity_in height_of row.alt_msl row.status text;
      geoid_sep = quantity_in height_of row.geoid_sep row.status text;
      speed = quantity_in speed_of row.speed row.status text;
      track = quantity_in track_of row.track row.status text;
      day = day_with time (day_in row.date text);
    }

abbrev pub rmc_row : FieldNumbers
rmc_row = record (no_fields Rmc) { time = Some 1; status = Letter 2; position = Some 3; speed = Some 7; track = Some 8; date = ShortDate 9 }

abbrev pub gga_row : FieldNumbers
gga_row = record (no_fields Gga) { time = Some 1; status = Quality 6; position = Some 2; hdop = Some 8; alt_msl = Some 9; geoid_sep = Some 11 }

abbrev pub vtg_row : FieldNumbers
vtg_row = record (no_fields Vtg) { track = Some 1; speed = Some 5 }

abbrev pub gll_row : FieldNumbers
gll_row = record (no_fields Gll) { time = Some 5; status = Letter 6; position = Some 1 }

abbrev pub zda_row : FieldNumbers
zda_row = record (no_fields Zda) { time = Some 1; date = LongDate 2 }

unfoldable pub gsa : List ℕ → Note
gsa text = record (empty_note Gsa) {
  dim = dim_of (field_at 2 text);
  used = ids_in 12 (skipped 2 text);
  pdop = dilution_of (field_at 15 text);
  hdop = dilution_of (field_at 16 text);
  vdop = dilution_of (field_at 17 text);
  system = stated_system (field_at 18 text);
}

-- the groups follow three fields: the messages, this message, and the satellites in view
unfoldable pub gsv : List ℕ → List ℕ → Note
gsv talker text = record (empty_note Gsv) { sats = satellites_of (talker_system talker) (skipped 3 text) }

-- what a sentence says, and how many entries the list of its note may get: only a list takes memory
pub record Said : Type 0 where
  pub note : Note
  pub entries : ℕ

-- a note without a list
abbrev pub plainly : Note → Said
plainly note = record { note = note; entries = 0 }

-- what a kind of sentence holds: single fields, the ids of a GSA, or the satellites of a GSV
pub data Contents : Type 0 where
  SingleFields : (row : FieldNumbers) → Contents
  UsedSatellites : Contents
  SeenSatellites : Contents

-- The list of a GSA has its readable ids, that of a GSV its whole groups at most.
abbrev pub said_with : Contents → List ℕ → List ℕ → Said
said_with (SingleFields row) talker text = plainly (plain_note row text)
said_with UsedSatellites talker text = record { note = gsa text; entries = length (ids_in 12 (skipped 2 text)) }
said_with SeenSatellites talker text = record { note = gsv talker text; entries = field_count (skipped 3 text) / 4 }

pub record SentenceKind : Type 0 where
  pub name : List ℕ
  pub contents : Contents

-- the kinds of sentences that are read
abbrev pub sentence_kinds : List SentenceKind
sentence_kinds =
    record { name = codes "RMC"; contents = SingleFields rmc_row }
    ∷ record { name = codes "GGA"; contents = SingleFields gga_row }
    ∷ record { name = codes "GSV"; contents = SeenSatellites }
    ∷ record { name = codes "GSA"; contents = UsedSatellites }
    ∷ record { name = codes "VTG"; contents = SingleFields vtg_row }
    ∷ record { name = codes "GLL"; contents = SingleFields gll_row }
    ∷ record { name = codes "ZDA"; contents = SingleFields zda_row }
    ∷ []

-- what the first kind of that name says
abbrev pub said_among : List SentenceKind → List ℕ → List ℕ → List ℕ → Said
said_among [] name talker text = plainly (empty_note Other)
said_among (kind ∷ kinds) name talker text = if bytes_eq name kind.name then said_with kind.contents talker text else said_among kinds name talker text

abbrev pub said_by : List ℕ → List ℕ → List ℕ → Said
said_by name talker text = said_among sentence_kinds name talker text

-- the last three letters of an address name the kind, the first two the talker
abbrev pub said_at : List ℕ → List ℕ → Said
said_at address text = if is_address address then said_by (drop 2 address) (take 2 address) text else plainly (empty_note Other)

unfoldable pub body_note : List ℕ → Note
body_note body = (said_at (address_of body) (fields_of body)).note

unfoldable pub sentence_note : List ℕ → Note
sentence_note sentence = body_note (body_of sentence)

abbrev pub body_entries : List ℕ → ℕ
body_entries body = (said_at (address_of body) (fields_of body)).entries

abbrev pub entries_of : List ℕ → ℕ
entries_of sentence = body_entries (body_of sentence)
