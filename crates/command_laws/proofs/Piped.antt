-- One command's output as another's input.
use Rattle.std.proofs.Common.{◌≡◌, ◌≢◌, ℕ, List, [], ◌∷◌, ◌++◌, refl, sym, ap, ◌∙◌, subst, Option, Some, None}
use Rattle.std.proofs.lemmas.List.{map-append}
use Rattle.gps_fixed.specs.Moment.{Moment}
use Rattle.gps_outside.specs.ReadSteps.{TakesAll}
use Rattle.gps_outside.specs.Told.{Appends, Goes, Stream}
use Rattle.packet_cut.specs.Packets.{Stamped, bytes_of}
use Rattle.device_core.specs.Stream.{bytes_in, piece}
use Rattle.device_core.proofs.Streams.{bytes_join}
use Rattle.gps_decode.specs.Readings.{Reading, bytes_of as bytes_read, stream_of}
use Rattle.gps_decode.specs.Texts.{line_of, sentences_of, texts_to_end}
use Rattle.gps_outside.specs.declared.outcome.CommandOutcome.TheVariants.{BadLine, Done, Full}
use Rattle.class_counts.specs.Counted.{Counted}
use Rattle.class_counts.specs.Lines.{AreRead, whole_lines}
use Rattle.class_counts.specs.Tallies.{numbers_text, summary}
use Rattle.class_counts.proofs.Within.{within}
use Rattle.command_laws.specs.Composed.{HasNumbers, fixes_and_skies, reports_to_end}
use Rattle.command_laws.specs.Pipes.{DecodeAfterPseudo, LinesAfterDecode, holding}
use Rattle.command_laws.proofs.Again.{again}
use Rattle.command_laws.proofs.Numbers.{numbers}

-- ---- the bytes of what was read
piece_bytes : (at : Moment) (bytes : List ℕ) → bytes_of (bytes_in (piece at bytes)) ≡ bytes
piece_bytes at [] = refl
piece_bytes at (b ∷ bytes) = ap (λ (l : List ℕ). b ∷ l) (piece_bytes at bytes)

bytes_are : (readings : List Reading) → bytes_of (bytes_in (stream_of readings)) ≡ bytes_read readings
bytes_are [] = refl
bytes_are (r ∷ readings) =
    let one : bytes_of (bytes_in (piece r.at r.bytes)) ≡ r.bytes = piece_bytes r.at r.bytes in
    let rest : bytes_of (bytes_in (stream_of readings)) ≡ bytes_read readings = bytes_are readings in
    ap bytes_of (bytes_join (piece r.at r.bytes) (stream_of readings))
    ∙ map-append (λ (byte : Stamped). byte.1) (bytes_in (piece r.at r.bytes)) (bytes_in (stream_of readings))
    ∙ (λ i. one i ++ rest i)

all_taken : (bytes : List ℕ) (s : Stream) (after : Option Stream) → Goes (TakesAll bytes) (Some s) after → s.left ≡ bytes
all_taken bytes s None goes = absurd goes
all_taken bytes s (Some after) goes = goes.all

all_written : (text out : List ℕ) (sink' : Option (List ℕ)) → Goes (Appends text) (Some out) sink' → sink' ≡ Some (out ++ text)
all_written text out None goes = absurd goes
all_written text out (Some out') goes = ap (λ (l : List ℕ). Some l) goes

pub decode_after_pseudo : DecodeAfterPseudo
decode_after_pseudo history source source' clock clock' text wrote sayable apart history' taken pipe' dial dial' out out' read =
    let said : text ≡ texts_to_end sentences_of (stream_of wrote.readings) = wrote.ends.1 in
    let given : text ≡ bytes_read read.readings = all_taken (bytes_read read.readings) (record { taken = taken; left = text }) pipe' read.ends.0.1 in
    let lines : out' ≡ out ++ texts_to_end line_of (stream_of read.readings) = read.ends.1 in
    lines
    ∙ ap (λ (l : List ℕ). out ++ l)
    (again (stream_of wrote.readings) (stream_of read.readings) sayable apart (bytes_are read.readings ∙ sym given ∙ said))

pub lines_after_decode : LinesAfterDecode
lines_after_decode history source source' clock clock' text wrote is short few outcome taken pipe' out sink' counted =
    (ends.1, ends.0, λ done. well (subst (λ o. Counted o (holding taken text) pipe' (Some out) sink') done counted))
  where
    said : text ≡ texts_to_end line_of (stream_of wrote.readings)
    said = wrote.ends.1

    has : HasNumbers text (fixes_and_skies (reports_to_end (stream_of wrote.readings)))
    has = subst (λ t. HasNumbers t (fixes_and_skies (reports_to_end (stream_of wrote.readings)))) (sym said) (numbers (stream_of wrote.readings) is short)

    ends : (outcome ≢ Full) × ((number : ℕ) → outcome ≢ BadLine number)
    ends = within outcome (holding taken text) pipe' (Some out) sink' counted (few, (has.values, has.are))

    well : Counted Done (holding taken text) pipe' (Some out) sink' → sink' ≡ Some (out ++ numbers_text (fixes_and_skies (reports_to_end (stream_of wrote.readings))))
    well c =
        let given : text ≡ c.bytes = all_taken c.bytes (record { taken = taken; left = text }) pipe' c.ends.0.1 in
        let are : AreRead c.ends.1.0 (whole_lines text) = subst (λ t. AreRead c.ends.1.0 (whole_lines t)) (sym given) c.ends.1.1 in
        let same : summary c.ends.1.0 ≡ numbers_text (fixes_and_skies (reports_to_end (stream_of wrote.readings))) = has.only c.ends.1.0 are in
        all_written (summary c.ends.1.0) out sink' c.ends.1.2 ∙ ap (λ (l : List ℕ). Some (out ++ l)) same
