use Rattle.std.proofs.Common.{refl, ◌∙◌, subst}
use Rattle.gps_outside.specs.Told.{Goes, Appends}
use Rattle.gps_outside.proofs.Writing.{written_through}
use Rattle.gps_outside.proofs.outbox.Outbox.add.Goals as goal

pub returns-else-keep-2-clause-bytes : goal.returns-else-keep-2-clause-bytes
returns-else-keep-2-clause-bytes g c =
    written_through c.write_all.result _ _ _ _ _ _
    (subst (λ l. Goes (Appends l) (g.K.Sink.written c.args.sink.now) (g.K.Sink.written c.flush.new.sink)) (c.if-keep.ensures.refused refl) c.if-not-flush.ensures.bytes)
    c.write_all.ensures.bytes
    (c.if-keep-2.ensures.refused refl ∙ c.flush.ensures.empty)
