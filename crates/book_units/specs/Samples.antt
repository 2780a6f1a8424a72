-- The samples that a history gives to each unit of a book: unit 2d has the Toffs of device d, unit 2d + 1 its Pps. This project's own; a precision is
-- a power of two of a second, as in the NTP reference clock driver 28.
use Rattle.std.specs.Prelude.{ℕ, ◌+◌, ◌*◌, ℤ, negsuc, List, [], ◌∷◌, ◌==◌, if◌then◌else◌}
use Rattle.std.specs.List.{flat_map}
use Rattle.gps_report.specs.declared.fix.Pair.{Pair}
use Rattle.gps_report.specs.declared.report.Body.{Body}
use Rattle.gps_report.specs.declared.report.Body.TheVariants.{Toff, Pps}
use Rattle.gps_report.specs.declared.report.Report.{Report}
use Rattle.shm_segment.specs.declared.sample.Sample.{Sample}

-- half a second: a time that came over a serial line
abbrev pub serial_precision : ℤ
serial_precision = negsuc 0

-- about a microsecond: a time that a pulse marked
abbrev pub pulse_precision : ℤ
pulse_precision = negsuc 19

abbrev pub sample_of : ℤ → Pair → Sample
sample_of precision pair = record { reference = pair.reference; host = pair.host; precision = precision }

-- the one sample that a device's report gives to the unit, or none
abbrev pub samples_in : ℕ → ℕ → Body → List Sample
samples_in u device (Toff pair) = if u == 2 * device then sample_of serial_precision pair ∷ [] else []
samples_in u device (Pps pair) = if u == 2 * device + 1 then sample_of pulse_precision pair ∷ [] else []
samples_in u device body = []

abbrev pub samples_of : ℕ → List Report → List Sample
samples_of u reports = flat_map (λ (r : Report). samples_in u r.device r.body) reports
