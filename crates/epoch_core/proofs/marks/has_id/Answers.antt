use Rattle.std.proofs.Common.{◌≡◌, Bool, true, false, nat_eq, sym, ap, ◌∙◌}
use Rattle.std.specs.List.{list_any}
use Rattle.gps_report.specs.Fits.{is_id}
use Rattle.epoch_core.specs.Keys.{used_id_key}
use Rattle.epoch_core.proofs.Naming.{id_is_there, no_such_id}
use Rattle.epoch_core.proofs.marks.has_id.Goals as goal

pub returns-then-is_id : goal.returns-then-is_id
returns-then-is_id c =
    id_is_there c.args.used_ids.now c.args.id c.args.system c.has.result c.requires.kept c.requires.named (sym c.is_id.ensures ∙ c.if-is_id.true)
    (c.has.ensures ∙ ap (λ k. list_any (λ a. nat_eq (used_id_key a) k) c.args.used_ids.now) c.key-key.ensures)

pub returns-else-is_id : goal.returns-else-is_id
returns-else-is_id c = no_such_id c.args.used_ids.now c.args.id c.args.system c.requires.kept (sym c.is_id.ensures ∙ c.if-is_id.false)
