use Rattle.std.proofs.Common.{◌∙◌, ap, arith, ◌++◌}
use Rattle.std.specs.Option.{option_to_list}
use Rattle.nmea_decode.specs.Satellites.{satellites_in}
use Rattle.nmea_decode.proofs.Walks.{groups_turn, groups_all}
use Rattle.nmea_decode.proofs.satellites.satellites_of_groups.Goals as goal

pub groups-preserved : goal.groups-preserved
groups-preserved c =
    groups_turn c.groups.left c.args.groups c.args.system c.args.signal c.groups.rest.now c.satellite-satellite.result.1.now c.groups.sats.items
    c.push_some.new.sats.items (satellites_in c.args.groups c.args.system c.args.signal c.args.text.now)
    (omega (arith, c.groups-test.true)) c.satellite-satellite.ensures.behind
    (c.in_ok-push_some.ensures ∙ ap (λ o. c.groups.sats.items ++ option_to_list o) c.satellite-satellite.ensures.satellite)
    c.groups.invariant

pub returns-clause-satellites : goal.returns-clause-satellites
returns-clause-satellites c =
    groups_all c.groups.left c.args.groups c.args.system c.args.signal c.groups.rest.now c.groups.sats.items
    (satellites_in c.args.groups c.args.system c.args.signal c.args.text.now) (omega (arith, c.groups-test.false)) c.groups.invariant
