use Rattle.std.proofs.Common.{◌∙◌, ap, arith, ◌++◌}
use Rattle.std.specs.Option.{option_to_list}
use Rattle.nmea_decode.specs.Fields.{skipped}
use Rattle.nmea_decode.specs.Satellites.{ids_in}
use Rattle.nmea_decode.proofs.Walks.{ids_turn, ids_all, some_ids, told}
use Rattle.nmea_decode.proofs.satellites.push_ids.Goals as goal

pub fields-preserved : goal.fields-preserved
fields-preserved c =
    ids_turn c.fields.left c.fields.rest.now c.next_id-id.result.1.now c.fields.ids.items c.push_id.new.ids.items
    (c.args.ids.now.items ++ ids_in c.args.fields c.args.text.now) (skipped c.args.fields c.args.text.now)
    (omega (arith, c.fields-test.true)) c.next_id-id.ensures.behind
    (c.in_ok-push_id.ensures.ids ∙ ap (λ o. c.fields.ids.items ++ option_to_list o) c.next_id-id.ensures.id)
    c.fields.invariant

pub returns-clause-ids : goal.returns-clause-ids
returns-clause-ids c =
    let all = ids_all c.fields.left c.fields.rest.now c.fields.ids.items (c.args.ids.now.items ++ ids_in c.args.fields c.args.text.now)
    (skipped c.args.fields c.args.text.now) (omega (arith, c.fields-test.false)) c.fields.invariant in
    all.0

pub returns-in_err-push_id-clause-memory : goal.returns-in_err-push_id-clause-memory
returns-in_err-push_id-clause-memory c =
    told c.from_residual.result
    (some_ids c.fields.left c.fields.rest.now c.fields.ids.items (c.args.ids.now.items ++ ids_in c.args.fields c.args.text.now)
    (skipped c.args.fields c.args.text.now) c.next_id-id.result.0 (omega (arith, c.fields-test.true)) c.next_id-id.ensures.id
    c.in_err-push_id.ensures.memory c.fields.invariant)
