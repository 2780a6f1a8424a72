-- What the replies to DEVICES and POLL show of the devices at one moment. After gpsd_json(5); that a device is
-- active from its first byte until it ends is this project's own.
use Rattle.std.specs.Prelude.{ℕ, ◌≡◌, true, List, Option, length, count_by, is_some, nat_lt}
use Rattle.std.specs.List.{list_all}
use Rattle.gps_fixed.specs.Moment.{Moment}
use Rattle.gps_report.specs.declared.report.Report.{Report}
use Rattle.json_line.specs.Lines.{is_sky, is_tpv}

pub record ReplyDataView : Type 0 where
  -- for each device, in order, the stamp of its first byte while it is active
  pub firsts : List (Option Moment)
  -- the stamp of the last byte of any device
  pub last : Option Moment
  -- the last fixes of the active devices, and their last skies
  pub fixes : List Report
  pub skies : List Report

abbrev pub active_count : ReplyDataView → ℕ
active_count known = count_by is_some known.firsts

-- reports of the given number of devices
abbrev pub AreOfDevices : ℕ → List Report → Type 0
AreOfDevices devices reports = list_all (λ report. nat_lt report.device devices) reports ≡ true

pub record IsKnowledge (known : ReplyDataView) : Type 0 where
  pub fixes : list_all (λ report. is_tpv report.body) known.fixes ≡ true
  pub skies : list_all (λ report. is_sky report.body) known.skies ≡ true
  pub fixes_named : AreOfDevices (length known.firsts) known.fixes
  pub skies_named : AreOfDevices (length known.firsts) known.skies
