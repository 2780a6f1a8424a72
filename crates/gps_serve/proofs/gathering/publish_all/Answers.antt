use Rattle.gps_serve.proofs.gathering.publish_all.Goals as goal

pub returns-then-not-publish-clause-rest : goal.returns-then-not-publish-clause-rest
returns-then-not-publish-clause-rest g c = c.publish.ensures.rest c.if-not-publish.true
