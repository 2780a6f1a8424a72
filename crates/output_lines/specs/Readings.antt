-- The line of a reading that has ended.
use Rattle.std.specs.Prelude.{ℕ, List, ◌++◌, unsigned_abs, codes}
use Rattle.std.specs.Fmt.{decimal, signed_decimal}
use Rattle.gps_fixed.specs.Moment.{Moment}
use Rattle.gps_fixed.specs.Text.{digits_in}
use Rattle.shm_segment.specs.declared.sample.Sample.{Sample}
use Rattle.shm_segment.specs.declared.view.Numbered.{Numbered}
use Rattle.shm_monitor.specs.declared.reading.Reading.{Reading}
use Rattle.shm_monitor.specs.declared.reading.Reading.TheVariants.{Taken, NotReady, Clash}
use Rattle.output_lines.specs.Words.{line_end, numbered}

-- seconds with nine decimals
unfoldable pub stamp_text : Moment → List ℕ
stamp_text at = decimal (unsigned_abs at.sec) ++ codes "." ++ digits_in 9 at.nsec

-- REF HOST P
unfoldable pub sample_text : Sample → List ℕ
sample_text sample = stamp_text sample.reference ++ codes " " ++ stamp_text sample.host ++ codes " " ++ signed_decimal sample.precision

-- two numbers after a word
unfoldable pub two_numbers : List ℕ → ℕ → ℕ → List ℕ
two_numbers word first second = numbered word first ++ numbered (codes " ") second

unfoldable pub taken_text : Numbered → List ℕ
taken_text pair = numbered (codes "taken ") pair.number ++ codes " " ++ sample_text pair.sample

unfoldable pub reading_text : Reading → List ℕ
reading_text (Taken pair) = taken_text pair
reading_text (Clash before after) = two_numbers (codes "clash ") before after
reading_text (NotReady count valid) = two_numbers (codes "notready ") count valid

-- mM taken N REF HOST P, mM clash B A, or mM notready C V
unfoldable pub reading_line : ℕ → Reading → List ℕ
reading_line monitor reading = numbered (codes "m") monitor ++ codes " " ++ reading_text reading ++ line_end
