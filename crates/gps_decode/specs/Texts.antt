-- What `decode` and `pseudo` write of a device's reports: the JSON lines of its fixes and skies, for the name `stdin`, or the two sentences of
-- each fix.
use Rattle.std.specs.Prelude.{ℕ, List, [], ◌∷◌, ◌++◌, codes}
use Rattle.std.specs.List.{flat_map}
use Rattle.gps_report.specs.declared.edge.Symbol.{Symbol}
use Rattle.gps_report.specs.declared.policy.Form.TheVariants.{Json}
use Rattle.gps_report.specs.declared.report.Body.{Body}
use Rattle.gps_report.specs.declared.report.Body.TheVariants.{Tpv, Sky}
use Rattle.json_line.specs.Lines.{text}
use Rattle.pseudo_nmea.specs.Sentences.{pseudo}
use Rattle.device_core.specs.Reports.{device_reports, device_close}
use Rattle.gps_decode.specs.declared.texts.Output.{Output}
use Rattle.gps_decode.specs.declared.texts.Output.TheVariants.{Lines, Sentences}

-- what is written of a report
abbrev pub Texts : Type 0
Texts = Body → List ℕ

-- a report that is neither a fix nor a sky has no line
abbrev pub line_of : Texts
line_of (Tpv fix) = text Json (codes "stdin") (Tpv fix)
line_of (Sky sky) = text Json (codes "stdin") (Sky sky)
line_of _ = []

-- only a fix has sentences
abbrev pub sentences_of : Texts
sentences_of (Tpv fix) = pseudo fix
sentences_of _ = []

abbrev pub texts_of : Texts → List Body → List ℕ
texts_of says reports = flat_map says reports

-- of a stream that may go on: its running epoch is not closed
abbrev pub texts_so_far : Texts → List Symbol → List ℕ
texts_so_far says stream = texts_of says (device_reports stream)

-- of a stream that has ended
abbrev pub texts_to_end : Texts → List Symbol → List ℕ
texts_to_end says stream = texts_of says (device_reports stream) ++ texts_of says (device_close stream)

abbrev pub texts_by : Output → Texts
texts_by Lines = line_of
texts_by Sentences = sentences_of
