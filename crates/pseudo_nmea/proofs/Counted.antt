-- The date that jiff gives for a day number is that of counting the days one by one.
use Rattle.std.proofs.Common.{◌≡◌, ℕ, pos, ◌≤ℤ◌, unsigned_abs}
use Rattle.jiff_core.specs.Date.{epoch_day}
use Rattle.jiff_core.specs.declared.civil.date.Date.{Date}
use Rattle.gps_fixed.specs.Civil.{civil, civil_of}
use Rattle.gps_fixed.proofs.CivilLaws.{date_counted as counted}

pub date_counted : (d : Date) (n : ℕ) → epoch_day d ≡ pos n → (civil_of n ≡ civil (unsigned_abs d.year) d.month d.day) × (pos 0 ≤ℤ d.year)
date_counted d n e = counted d n e
