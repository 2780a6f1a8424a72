use Rattle.std.proofs.Common.{◌≡◌, true, [], sym, ap, ◌∙◌, arith}
use Rattle.gps_lane.specs.Bonds.{both_ends}
use Rattle.gps_lane.specs.Lane.{log}
use Rattle.gps_lane.proofs.Bonding.{checks_as, joins, parts}
use Rattle.gps_lane.proofs.bond.meet.Goals as goal

pub split_seat-lent-requires : goal.split_seat-lent-requires
split_seat-lent-requires g c =
    (c.requires.got.0, (let one = c.requires.one in omega arith), parts _ _ (ap (λ m. m.0.gets) c.requires.got.1))

pub join_seat-requires : goal.join_seat-requires
join_seat-requires g c =
    let lent = c.split_seat-lent.ensures in (
      c.requires.put.0,
      lent.3 ∙ c.requires.got.0,
      ap (λ m. m.1) lent.4,
      (let one = c.requires.one in omega arith),
      joins _ _ _ _ (ap (λ m. m.0.gets) lent.4),
    )

pub load-requires : goal.load-requires
load-requires g c =
    let joined = c.join_seat.ensures in
    let lent = c.split_seat-lent.result.me.0.got in
    let has = joined.2 ∙ ap (λ m. (log m.0.puts true m.0.put lent, m.1)) c.requires.put.1 in
    let is = has ∙ sym (ap (λ m. (both_ends m.0.put m.0.got, [])) has) in (
      joined.0 ∙ c.requires.put.0,
      (let one = c.requires.one in omega arith),
      checks_as _ _ is _,
    )
