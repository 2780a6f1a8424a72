-- The policy that a session opens with, and the policy after a change. This project's own: a member that a
-- WATCH object leaves out keeps its value, but for `enable`.
use Rattle.std.specs.Prelude.{false, None}
use Rattle.std.specs.Option.{unwrap_or}
use Rattle.gps_report.specs.declared.policy.Policy.{Policy}
use Rattle.watch_policy.specs.declared.change.Change.{Change}

abbrev pub opening_policy : Policy
opening_policy = record {
  enable = false;
  json = false;
  nmea = false;
  raw = 0;
  pps = false;
  device = None;
}

abbrev pub policy_after : Policy → Change → Policy
policy_after policy change = record {
  enable = change.enable;
  json = unwrap_or change.json policy.json;
  nmea = unwrap_or change.nmea policy.nmea;
  raw = unwrap_or change.raw policy.raw;
  pps = unwrap_or change.pps policy.pps;
  device = unwrap_or change.device policy.device;
}
