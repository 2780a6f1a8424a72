-- What `pseudo` wrote of a stream, read by `decode`.
use Rattle.std.proofs.Common.{◌≡◌, ℕ, List, [], ◌∷◌, ◌++◌, refl, sym, ap, ◌∙◌}
use Rattle.std.specs.List.{flat_map}
use Rattle.std.proofs.lemmas.Grind.{flat_map-append}
use Rattle.gps_report.specs.declared.edge.Symbol.{Symbol}
use Rattle.gps_report.specs.declared.policy.Form.TheVariants.{Json}
use Rattle.gps_report.specs.declared.report.Body.{Body}
use Rattle.gps_report.specs.declared.report.Body.TheVariants as body
use Rattle.json_line.specs.Lines.{text}
use Rattle.packet_cut.specs.Packets.{bytes_of}
use Rattle.device_core.specs.Reports.{device_close, device_reports}
use Rattle.device_core.specs.Stream.{bytes_in}
use Rattle.pseudo_nmea.specs.Sentences.{pseudo}
use Rattle.command_laws.specs.Fixes.{AreApart, AreSayable, lines_shown, sentences_of as sentences_of_fixes}
use Rattle.command_laws.proofs.Cut.{lines_back}
use Rattle.gps_decode.specs.Texts.{line_of, sentences_of, texts_to_end}
use Rattle.command_laws.specs.Composed.{fix_in, fixes_to_end, reports_to_end, spoken_lines, stdin}

sentences_are : (bodies : List Body) → flat_map sentences_of bodies ≡ sentences_of_fixes (flat_map fix_in bodies)
sentences_are [] = refl
sentences_are (body.Tpv fix ∷ bodies) = ap (λ (l : List ℕ). pseudo fix ++ l) (sentences_are bodies)
sentences_are (body.Sky s ∷ bodies) = sentences_are bodies
sentences_are (body.Packet p ∷ bodies) = sentences_are bodies
sentences_are (body.Toff pair ∷ bodies) = sentences_are bodies
sentences_are (body.Pps pair ∷ bodies) = sentences_are bodies
sentences_are (body.Device activated ∷ bodies) = sentences_are bodies

lines_are : (bodies : List Body) → flat_map line_of bodies ≡ lines_shown stdin bodies
lines_are [] = refl
lines_are (body.Tpv fix ∷ bodies) = ap (λ (l : List ℕ). text Json stdin (body.Tpv fix) ++ l) (lines_are bodies)
lines_are (body.Sky s ∷ bodies) = ap (λ (l : List ℕ). text Json stdin (body.Sky s) ++ l) (lines_are bodies)
lines_are (body.Packet p ∷ bodies) = lines_are bodies
lines_are (body.Toff pair ∷ bodies) = lines_are bodies
lines_are (body.Pps pair ∷ bodies) = lines_are bodies
lines_are (body.Device activated ∷ bodies) = lines_are bodies

pub again : (first second : List Symbol) → AreSayable (fixes_to_end first) → AreApart (fixes_to_end first)
    → bytes_of (bytes_in second) ≡ texts_to_end sentences_of first → texts_to_end line_of second ≡ spoken_lines (fixes_to_end first)
again first second sayable apart bytes =
    let said : bytes_of (bytes_in second) ≡ sentences_of_fixes (fixes_to_end first) =
    bytes ∙ sym (flat_map-append sentences_of (device_reports first) (device_close first)) ∙ sentences_are (reports_to_end first) in
    sym (flat_map-append line_of (device_reports second) (device_close second))
    ∙ lines_are (reports_to_end second)
    ∙ lines_back stdin (fixes_to_end first) second sayable apart said
