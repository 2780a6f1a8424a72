-- One command's output as another's input: what is said of the second run, by what each of them promises alone. This project's own.
use Rattle.std.specs.Prelude.{◌≡◌, ◌≢◌, ℕ, ◌≤◌, List, [], ◌++◌, length, Option, Some}
use Rattle.std.specs.List.{AllByRecursion}
use Rattle.gps_outside.specs.Ticks.{Dial}
use Rattle.gps_outside.specs.Told.{Stream}
use Rattle.command_laws.specs.Fixes.{AreApart, AreSayable}
use Rattle.gps_outside.specs.declared.outcome.CommandOutcome.{CommandOutcome}
use Rattle.gps_outside.specs.declared.outcome.CommandOutcome.TheVariants.{BadLine, Done, Full}
use Rattle.gps_decode.specs.Decode.{Decoded}
use Rattle.gps_decode.specs.Readings.{stream_of}
use Rattle.gps_decode.specs.Texts.{line_of, sentences_of}
use Rattle.gps_client.specs.History.{IsStream}
use Rattle.class_counts.specs.Counted.{Counted}
use Rattle.class_counts.specs.Reading.{most_bytes}
use Rattle.class_counts.specs.Tallies.{numbers_text}
use Rattle.command_laws.specs.Composed.{HasShortLine, fixes_and_skies, fixes_to_end, reports_to_end, spoken_lines}

-- a source with all of the text left in it
abbrev pub holding : List ℕ → List ℕ → Option Stream
holding taken text = Some (record { taken = taken; left = text })

-- `pseudo` ends well, and wrote the text. `decode` is given the text, and ends well: it wrote the lines of the fixes that `pseudo` read.
abbrev pub DecodeAfterPseudo : Type 0
DecodeAfterPseudo =
    (history : ℕ) (source source' : Option Stream) (clock clock' : Option Dial) (text : List ℕ)
    → (wrote : Decoded sentences_of Done history source source' clock clock' (Some []) (Some text))
    → AreSayable (fixes_to_end (stream_of wrote.readings)) → AreApart (fixes_to_end (stream_of wrote.readings))
    → (history' : ℕ) (taken : List ℕ) (pipe' : Option Stream) (dial dial' : Option Dial) (out out' : List ℕ)
    → Decoded line_of Done history' (holding taken text) pipe' dial dial' (Some out) (Some out')
    → out' ≡ out ++ spoken_lines (fixes_to_end (stream_of wrote.readings))

-- `decode` ends well, and wrote the text, which is not longer than an input of `lines` may be. `lines` is given the text: it finds no bad line, and
-- does not find the text too long; if it ends well, it wrote the numbers of the fixes and skies that `decode` read.
abbrev pub LinesAfterDecode : Type 0
LinesAfterDecode =
    (history : ℕ) (source source' : Option Stream) (clock clock' : Option Dial) (text : List ℕ)
    → (wrote : Decoded line_of Done history source source' clock clock' (Some []) (Some text))
    → IsStream (stream_of wrote.readings) → AllByRecursion HasShortLine (reports_to_end (stream_of wrote.readings)) → length text ≤ most_bytes
    → (outcome : CommandOutcome) (taken : List ℕ) (pipe' : Option Stream) (out : List ℕ) (sink' : Option (List ℕ))
    → Counted outcome (holding taken text) pipe' (Some out) sink'
    → ((number : ℕ) → outcome ≢ BadLine number) × (outcome ≢ Full)
    × (outcome ≡ Done → sink' ≡ Some (out ++ numbers_text (fixes_and_skies (reports_to_end (stream_of wrote.readings)))))
