use Rattle.std.proofs.Common.{rules, ap, sym, ◌∙◌}
use Rattle.gps_fixed.specs.Text.{iso_of}
use Rattle.gps_fixed.specs.Iso.{in_milliseconds}
use Rattle.gps_fixed.proofs.IsoLaws.{same_text, same_stamp}
use Rattle.gps_fixed.proofs.iso_reading.written_so.Goals.{in_default-via-in-Some+else-is_text_of, in_default-via-in_default}
use Rattle.gps_fixed.proofs.iso_reading.written_so.Goals as goal

pub returns-in_default-clause-found : goal.returns-in_default-clause-found
returns-in_default-clause-found c = λ at is e.
    let got = c.stamp_in.ensures.found at is e in
    let same = e ∙ same_text at in
    elim c.in_default.branch [
      | in_default-via-in-Some+else-is_text_of w ↦
          let stamp = same_stamp w.in-Some.at (in_milliseconds at) (sym w.in-Some.is ∙ got) in
          let is_text = w.is_text_of.ensures.1 (same ∙ ap iso_of (sym stamp)) in
          let is_none = w.if-is_text_of.false in
          search (rules, is_text, is_none)
      | in_default-via-in_default w ↦ let none = w.in_default.is in cc
    ]
