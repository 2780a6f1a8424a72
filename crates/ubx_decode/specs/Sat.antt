-- The note of a NAV-SAT. u-blox interface description, UBX-NAV-SAT. The number that is shown for a satellite, and the ranges outside which its
-- place in the sky is absent, are this project's own.
use Rattle.std.specs.Prelude.{ℕ, zero, suc, ◌+◌, ◌*◌, nat_le, if◌then◌else◌, List, [], ◌∷◌, take, drop, slice_index, Option, Some, None, ℤ, pos, negsuc, unsigned_abs}
use Rattle.std.specs.Int.{w8, w16, cast_signed}
use Rattle.gps_report.specs.declared.note.Note.{Note}
use Rattle.gps_report.specs.declared.note.NoteKind.TheVariants.{Sat}
use Rattle.gps_report.specs.declared.note.Tag.TheVariants.{Itow}
use Rattle.gps_report.specs.declared.satellite.Satellite.{Satellite}
use Rattle.gps_report.specs.Note.{empty_note}
use Rattle.gps_fixed.specs.Fields.{u2_at, u4_at}
use Rattle.ubx_decode.specs.Fields.{is_set}

-- degrees above the horizon
unfoldable pub elevation_of : ℤ → Option ℤ
elevation_of degrees = if nat_le (unsigned_abs degrees) 90 then Some degrees else None

-- degrees from north
unfoldable pub azimuth_of : ℤ → Option ℕ
azimuth_of (pos degrees) = if nat_le degrees 360 then Some degrees else None
azimuth_of (negsuc n) = None

-- twelve bytes: gnssId, svId, cno, elev, azim, prRes, flags
unfoldable pub satellite_of : List ℕ → Satellite
satellite_of group =
    let system = slice_index group 0 in
    let id = slice_index group 1 in
    record {
      prn = id + 100 * system;
      el = elevation_of (cast_signed w8 (slice_index group 3));
      az = azimuth_of (cast_signed w16 (u2_at group 4));
      ss = Some (slice_index group 2);
      used = is_set (slice_index group 8) 3;
      gnss = Some (system, id);
      signal = None;
    }

-- n satellites, one after the other
unfoldable pub satellites_of : ℕ → List ℕ → List Satellite
satellites_of zero groups = []
satellites_of (suc n) groups = satellite_of (take 12 groups) ∷ satellites_of n (drop 12 groups)

unfoldable pub sat_note : List ℕ → Note
sat_note payload =
    record (empty_note Sat) {
      tag = Some (Itow (u4_at payload 0));
      sats = satellites_of (slice_index payload 5) (drop 8 payload);
    }
