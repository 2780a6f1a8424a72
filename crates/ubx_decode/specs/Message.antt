-- Which frames are read, and the note of a frame. u-blox interface description, UBX class and id, and the messages that are named here.
use Rattle.std.specs.Prelude.{◌≡◌, ℕ, ◌+◌, ◌*◌, ◌==◌, ◌&&◌, if◌then◌else◌, List, length, slice_index, Some}
use Rattle.gps_report.specs.declared.note.Note.{Note}
use Rattle.gps_report.specs.declared.note.NoteKind.{NoteKind}
use Rattle.gps_report.specs.declared.note.NoteKind.TheVariants.{Pvt, Sat, Dop, Eoe, Other}
use Rattle.gps_report.specs.declared.note.Tag.TheVariants.{Itow}
use Rattle.gps_report.specs.Note.{empty_note}
use Rattle.gps_fixed.specs.Fields.{u2_at, u4_at}
use Rattle.ubx_frame.specs.Frame.{class_of, id_of, payload_of}
use Rattle.ubx_decode.specs.Pvt.{pvt_note}
use Rattle.ubx_decode.specs.Sat.{sat_note}

-- by class, id and the payload's length, which for NAV-SAT follows from its count of satellites
unfoldable pub kind_of : ℕ → ℕ → List ℕ → NoteKind
kind_of class id payload =
    if (class == 0x01) && (id == 0x07) && (length payload == 92) then Pvt
    else (if (class == 0x01) && (id == 0x35) && (length payload == 8 + 12 * slice_index payload 5) then Sat
    else (if (class == 0x01) && (id == 0x04) && (length payload == 18) then Dop
    else (if (class == 0x01) && (id == 0x61) && (length payload == 4) then Eoe
    else Other)))

abbrev pub HasItsLength : NoteKind → List ℕ → Type 0
HasItsLength Pvt payload = length payload ≡ 92
HasItsLength Sat payload = length payload ≡ 8 + 12 * slice_index payload 5
HasItsLength Dop payload = length payload ≡ 18
HasItsLength kind payload = Unit {0}

-- UBX-NAV-DOP: dilutions of position, height and the horizontal place, in hundredths
unfoldable pub dop_note : List ℕ → Note
dop_note payload =
    record (empty_note Dop) {
      tag = Some (Itow (u4_at payload 0));
      pdop = Some (u2_at payload 6);
      vdop = Some (u2_at payload 10);
      hdop = Some (u2_at payload 12);
    }

-- the end of an epoch, and all that is not read, have nothing in them
abbrev pub note_by_kind : NoteKind → List ℕ → Note
note_by_kind Pvt payload = pvt_note payload
note_by_kind Sat payload = sat_note payload
note_by_kind Dop payload = dop_note payload
note_by_kind kind payload = empty_note kind

unfoldable pub note_of : List ℕ → Note
note_of frame = note_by_kind (kind_of (class_of frame) (id_of frame) (payload_of frame)) (payload_of frame)

-- How many entries the list of a note gets: the satellites of a NAV-SAT. No other message has a list, and only a list takes memory.
abbrev pub entries_by_kind : NoteKind → List ℕ → ℕ
entries_by_kind Sat payload = slice_index payload 5
entries_by_kind kind payload = 0

abbrev pub entries_of : List ℕ → ℕ
entries_of frame = entries_by_kind (kind_of (class_of frame) (id_of frame) (payload_of frame)) (payload_of frame)
