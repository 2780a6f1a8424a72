-- The satellites of a GSV, in groups of four fields, and the ids of a GSA. NMEA 0183; that one hexadecimal digit after the groups is a
-- signal id, and that the id that was sent is the number within the talker's system, are this project's own.
use Rattle.std.specs.Prelude.{ℕ, zero, suc, ◌/◌, ◌%◌, ◌*◌, ◌==◌, List, [], ◌∷◌, ◌++◌, Option, None, false, if◌then◌else◌}
use Rattle.std.specs.Option.{option_map, option_to_list}
use Rattle.gps_report.specs.declared.satellite.Satellite.{Satellite}
use Rattle.nmea_frame.specs.Sentence.{hex_value}
use Rattle.nmea_decode.specs.Fields.{field, field_at, behind, skipped, field_count}
use Rattle.nmea_decode.specs.Readings.{id_of, elevation_of, azimuth_of, strength_of}

-- the satellite of a group: id, elevation, azimuth and strength
unfoldable pub satellite_of : Option ℕ → Option ℕ → List ℕ → Option Satellite
satellite_of system signal text = option_map (λ id. record {
  prn = id;
  el = elevation_of (field_at 2 text);
  az = azimuth_of (field_at 3 text);
  ss = strength_of (field_at 4 text);
  used = false;
  gnss = option_map (λ g. (g, id)) system;
  signal = signal;
}) (id_of (field_at 1 text))

-- those of the first n groups
unfoldable pub satellites_in : ℕ → Option ℕ → Option ℕ → List ℕ → List Satellite
satellites_in zero system signal text = []
satellites_in (suc n) system signal text =
    option_to_list (satellite_of system signal text) ++ satellites_in n system signal (skipped 4 text)

-- a signal id is one hexadecimal digit
abbrev pub signal_in : List ℕ → Option ℕ
signal_in (c ∷ []) = hex_value c
signal_in _ = None

-- it is there if exactly one field is left after the whole groups
unfoldable pub signal_of : List ℕ → Option ℕ
signal_of text = if field_count text % 4 == 1 then signal_in (field (skipped (field_count text / 4 * 4) text)) else None

unfoldable pub satellites_of : Option ℕ → List ℕ → List Satellite
satellites_of system text = satellites_in (field_count text / 4) system (signal_of text) text

-- the readable ids of the first n fields
unfoldable pub ids_in : ℕ → List ℕ → List ℕ
ids_in zero text = []
ids_in (suc n) text = option_to_list (id_of (field text)) ++ ids_in n (behind text)
