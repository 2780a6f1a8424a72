use Rattle.std.proofs.Common.{◌≡◌, ◌∙◌, ap, to_z-of_z}
use Rattle.gps_fixed.specs.Civil.{day_number}
use Rattle.gps_fixed.proofs.CivilLaws.{day_number_some, day_number_none, day_number_range}
use Rattle.gps_fixed.proofs.civil.day_of.Goals as goal

pub returns-clause-exact : goal.returns-clause-exact
returns-clause-exact c =
    let value : c.receivable_number-number.result ≡ day_number c.args.year c.args.month c.args.day = c.receivable_number-number.ensures ∙ ap (λ z. day_number z c.args.month c.args.day) (to_z-of_z c.ranges.year) in
    rw value (day_number_some c.args.year c.args.month c.args.day)

pub returns-clause-none : goal.returns-clause-none
returns-clause-none c =
    let value : c.receivable_number-number.result ≡ day_number c.args.year c.args.month c.args.day = c.receivable_number-number.ensures ∙ ap (λ z. day_number z c.args.month c.args.day) (to_z-of_z c.ranges.year) in
    rw value (day_number_none c.args.year c.args.month c.args.day)

pub returns-clause-range : goal.returns-clause-range
returns-clause-range c =
    let value : c.receivable_number-number.result ≡ day_number c.args.year c.args.month c.args.day = c.receivable_number-number.ensures ∙ ap (λ z. day_number z c.args.month c.args.day) (to_z-of_z c.ranges.year) in
    rw value (day_number_range c.args.year c.args.month c.args.day)
