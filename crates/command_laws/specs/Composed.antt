-- What a device reports of a whole stream, as `pseudo` and `decode` write it, and the numbers that `lines` writes of a text. This project's own.
use Rattle.std.specs.Prelude.{◌≡◌, ℕ, ◌≤◌, List, [], ◌∷◌, ◌++◌, length, take, codes, count_by}
use Rattle.std.specs.List.{flat_map}
use Rattle.gps_fixed.specs.Moment.{Moment}
use Rattle.gps_report.specs.declared.edge.Symbol.{Symbol}
use Rattle.gps_report.specs.declared.fix.Fix.{Fix}
use Rattle.gps_report.specs.declared.note.Note.{Note}
use Rattle.gps_report.specs.declared.report.Body.{Body}
use Rattle.gps_report.specs.declared.report.Body.TheVariants.{Tpv}
use Rattle.json_line.specs.Lines.{is_sky, is_tpv}
use Rattle.epoch_core.specs.declared.heard.Heard.{Heard}
use Rattle.epoch_core.specs.Days.{Dated, dated}
use Rattle.device_core.specs.Reports.{device_close, device_reports}
use Rattle.command_laws.specs.Fixes.{lines_of}
use Rattle.gps_decode.specs.Texts.{line_of}
use Rattle.gps_client.specs.declared.line.Line.{Line}
use Rattle.class_counts.specs.Lines.{AreRead, whole_lines}
use Rattle.class_counts.specs.Tallies.{numbers_text, summary}

-- of a stream that has ended
abbrev pub reports_to_end : List Symbol → List Body
reports_to_end stream = device_reports stream ++ device_close stream

abbrev pub fix_in : Body → List Fix
fix_in (Tpv fix) = fix ∷ []
fix_in _ = []

abbrev pub fixes_to_end : List Symbol → List Fix
fixes_to_end stream = flat_map fix_in (reports_to_end stream)

-- the name that `decode` gives its one device
abbrev pub stdin : List ℕ
stdin = codes "stdin"

-- the lines of these fixes, without what sentences cannot say
abbrev pub spoken_lines : List Fix → List ℕ
spoken_lines fixes = lines_of stdin fixes

-- the line that `decode` writes of a report has no more bytes than `lines` takes
abbrev pub HasShortLine : Body → Type 0
HasShortLine b = length (line_of b) ≤ 1_048_576

-- the numbers of the ten classes, if there are no lines but those of the fixes and skies among these reports
abbrev pub fixes_and_skies : List Body → List ℕ
fixes_and_skies bodies = 0 ∷ 0 ∷ 0 ∷ 0 ∷ 0 ∷ count_by is_tpv bodies ∷ count_by is_sky bodies ∷ 0 ∷ 0 ∷ 0 ∷ []

-- each line of the text is that of a value; and whichever values those are, `lines` writes these numbers of them
pub record HasNumbers (text numbers : List ℕ) : Type 0 where
  pub values : List Line
  pub are : AreRead values (whole_lines text)
  pub only : (others : List Line) → AreRead others (whole_lines text) → summary others ≡ numbers_text numbers

-- the epoch of a note alone, with the day that is known at it, after the notes before it, the latest of them first
abbrev pub alone_after : List Heard → Note → Moment → List Dated
alone_after past note first = take 1 (dated (record { note = note; first = first } ∷ past))
