-- A report in each form in which some policy can select it.
use Rattle.std.specs.Prelude.{ℕ, List}
use Rattle.gps_report.specs.declared.packet.PacketKind.{PacketKind}
use Rattle.gps_report.specs.declared.packet.PacketKind.TheVariants.{Nmea, Ubx}
use Rattle.gps_report.specs.declared.policy.Form.{Form}
use Rattle.gps_report.specs.declared.policy.Form.TheVariants as form
use Rattle.gps_report.specs.declared.report.Body.{Body}
use Rattle.gps_report.specs.declared.report.Body.TheVariants.{Packet, Tpv, Sky, Toff, Pps, Device}
use Rattle.gps_report.specs.declared.report.Report.{Report}
use Rattle.json_line.specs.Lines.{text_of}
use Rattle.book_batch.specs.declared.forms.Forms.{Forms}
use Rattle.book_batch.specs.declared.forms.Forms.TheVariants.{Line, Sentence, Frame}

abbrev pub frame_forms : List (List ℕ) → Report → Forms
frame_forms names report = Frame (text_of form.Hex names report) (text_of form.Verbatim names report)

abbrev pub packet_forms : List (List ℕ) → Report → PacketKind → Forms
packet_forms names report Nmea = Sentence (text_of form.Text names report)
packet_forms names report Ubx = frame_forms names report

abbrev pub line_forms : List (List ℕ) → Report → Forms
line_forms names report = Line (text_of form.Json names report)

abbrev pub body_forms : List (List ℕ) → Report → Body → Forms
body_forms names report (Packet packet) = packet_forms names report packet.kind
body_forms names report (Tpv _) = line_forms names report
body_forms names report (Sky _) = line_forms names report
body_forms names report (Toff _) = line_forms names report
body_forms names report (Pps _) = line_forms names report
body_forms names report (Device _) = line_forms names report

abbrev pub forms_of : List (List ℕ) → Report → Forms
forms_of names report = body_forms names report report.body

-- one of the forms: a frame has two, and all else has one
abbrev pub form_in : Forms → Form → List ℕ
form_in (Line item) f = item
form_in (Sentence item) f = item
form_in (Frame hex verbatim) form.Hex = hex
form_in (Frame hex verbatim) f = verbatim
