-- What replies show of the devices, by a whole log: of each active device the stamp of its first byte, its last fix and its last sky, and the
-- stamp of the last byte of any device.
use Rattle.std.specs.Prelude.{◌≡◌, ℕ, Bool, List, [], ◌∷◌, Option, Some, None, map, option_map, is_some, cond}
use Rattle.std.specs.List.{flat_map, range_with_len}
use Rattle.std.specs.Option.{option_to_list}
use Rattle.gps_fixed.specs.Moment.{Moment}
use Rattle.gps_report.specs.declared.fix.Fix.{Fix}
use Rattle.gps_report.specs.declared.fix.Sky.{Sky}
use Rattle.gps_report.specs.declared.report.Body.TheVariants.{Tpv, Sky as SkyBody}
use Rattle.gps_report.specs.declared.report.Report.{Report}
use Rattle.book_log.specs.Entries.{Entry}
use Rattle.book_log.specs.History.{active, history}
use Rattle.book_log.specs.Readings.{last_fix, last_sky, last_stamp}
use Rattle.book_replies.specs.Polling.{without_reports}
use Rattle.book_replies.specs.ReplyDataView.{ReplyDataView}

-- the last fix of device d, if it is active
abbrev pub fix_reports : ℕ → Bool → Option Fix → List Report
fix_reports d is_active fix = cond is_active (option_to_list (option_map (λ f. record { device = d; body = Tpv f }) fix)) []

abbrev pub sky_reports : ℕ → Bool → Option Sky → List Report
sky_reports d is_active sky = cond is_active (option_to_list (option_map (λ s. record { device = d; body = SkyBody s }) sky)) []

abbrev pub fix_of : List Entry → ℕ → List Report
fix_of log d = fix_reports d (is_some (active d log)) (last_fix d (history log))

abbrev pub sky_of : List Entry → ℕ → List Report
sky_of log d = sky_reports d (is_some (active d log)) (last_sky d (history log))

-- of the given number of devices
abbrev pub known_in : ℕ → List Entry → ReplyDataView
known_in count log = record {
  firsts = map (λ d. active d log) (range_with_len 0 count);
  last = last_stamp log;
  fixes = flat_map (fix_of log) (range_with_len 0 count);
  skies = flat_map (sky_of log) (range_with_len 0 count);
}

-- what replies show: with fixes and skies only if they are asked for
abbrev pub shown_in : Bool → ℕ → List Entry → ReplyDataView
shown_in polls count log = cond polls (known_in count log) (without_reports (known_in count log))

-- the first `count` devices were read
pub record AreRead (count : ℕ) (log : List Entry) (firsts : List (Option Moment)) (fixes skies : List Report) : Type 0 where
  pub firsts_are : firsts ≡ map (λ d. active d log) (range_with_len 0 count)
  pub fixes_are : fixes ≡ flat_map (fix_of log) (range_with_len 0 count)
  pub skies_are : skies ≡ flat_map (sky_of log) (range_with_len 0 count)
