use Rattle.std.proofs.Common.{◌≡◌, pos, rules}
use Rattle.jiff_core.specs.Date.{epoch_day}
use Rattle.pseudo_nmea.proofs.Counted.{date_counted}
use Rattle.pseudo_nmea.proofs.dates.civil_of.Goals as goal

pub returns-clause-from : goal.returns-clause-from
returns-clause-from c =
    let number : epoch_day c.unwrap.result ≡ pos c.args.day = search rules in
    (date_counted c.unwrap.result c.args.day number).1
