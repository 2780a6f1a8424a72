use Rattle.hub_promise.proofs.Settling.{far_end}
use Rattle.gps_hub.proofs.settling.next_item.Goals as goal

pub returns-clause-items : goal.returns-clause-items
returns-clause-items g c =
    far_end c.args.items.now c.settle.new.far c.in-Ok.item c.in-Ok.ensures.got c.settle.ensures.far_name
