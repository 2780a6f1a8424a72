use Rattle.std.proofs.Common.{sym, ◌∙◌}
use Rattle.epoch_core.proofs.Naming.{by_named, by_unnamed, by_number}
use Rattle.epoch_core.proofs.marks.has_name.Goals as goal

pub returns-then-is_named_system : goal.returns-then-is_named_system
returns-then-is_named_system c =
    rw c.in-Some.is (by_named c.args.used_ids.now c.args.id c.in-Some.system c.either.result c.has_id-without.result c.has_id.result c.requires
    (sym c.is_named_system.ensures ∙ c.if-is_named_system.true) c.has_id-without.ensures c.has_id.ensures c.either.ensures)

pub returns-else-is_named_system : goal.returns-else-is_named_system
returns-else-is_named_system c =
    rw c.in-Some.is (by_unnamed c.args.used_ids.now c.args.id c.in-Some.system c.has_id-without.result c.requires
    (sym c.is_named_system.ensures ∙ c.if-is_named_system.false) c.has_id-without.ensures)

pub returns-in-None : goal.returns-in-None
returns-in-None c =
    rw c.in-None.is (by_number c.args.used_ids.now c.args.id c.either-in-None-4.result c.has_id-in-None.result c.has_id-in-None-2.result
    c.has_id-in-None-3.result c.has_id-in-None-4.result c.has_id-without.result c.either-in-None.result c.either-in-None-2.result c.either-in-None-3.result
    c.requires c.has_id-without.ensures c.has_id-in-None.ensures c.has_id-in-None-2.ensures c.has_id-in-None-3.ensures c.has_id-in-None-4.ensures
    c.either-in-None.ensures c.either-in-None-2.ensures c.either-in-None-3.ensures c.either-in-None-4.ensures)
