use Rattle.std.proofs.Common.{◌≡◌, ◌≤◌, length}
use Rattle.gps_words.specs.Devices.{last_colon}
use Rattle.gps_words.proofs.device.last_colon.Given as goal

abbrev pub invariant-bytes : goal.invariant-bytes
invariant-bytes l = (last_colon l.rest ≡ last_colon l.text) × (length l.rest ≤ length l.text)

abbrev pub decreases-bytes : goal.decreases-bytes
decreases-bytes l = length l.rest
