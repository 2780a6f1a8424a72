use Rattle.std.proofs.Common.{drop, ap, ◌∙◌}
use Rattle.std.proofs.lemmas.Bool.{ne_eqb}
use Rattle.std.proofs.lemmas.List.{take_rest}
use Rattle.nmea_frame.specs.Scan.{shape_of as sentence_shape}
use Rattle.ubx_frame.specs.Scan.{shape_of as frame_shape}
use Rattle.packet_cut.proofs.HeadLaws.{sentence_at_place, frame_at_place, junk_at, nothing_at}
use Rattle.packet_cut.proofs.next.head_from.Goals as goal

pub returns-in-Some-eq36-clause-head : goal.returns-in-Some-eq36-clause-head
returns-in-Some-eq36-clause-head c =
    c.head_of_sentence.ensures
    ∙ sentence_at_place c.args.bytes.now c.args.place c.in-Some-eq36.field-0.now c.sentence_at.result c.in-Some-eq36.ensures.lookup.3.0 c.in-Some-eq36.ensures.lookup.1 c.in-Some-eq36.field-0-test
    (c.sentence_at.ensures.shape ∙ ap sentence_shape (take_rest c.args.bytes.now c.args.place))

pub returns-in-Some-eq181-clause-head : goal.returns-in-Some-eq181-clause-head
returns-in-Some-eq181-clause-head c =
    c.head_of_frame.ensures
    ∙ frame_at_place c.args.bytes.now c.args.place c.in-Some-eq181.field-0.now c.at.result c.in-Some-eq181.ensures.lookup.3.0 c.in-Some-eq181.ensures.lookup.1 c.in-Some-eq181.field-0-test
    (c.at.ensures.shape ∙ ap (λ t. frame_shape (drop c.args.place t)) c.requires.frames)

pub returns-in-Some-clause-head : goal.returns-in-Some-clause-head
returns-in-Some-clause-head c =
    junk_at c.args.bytes.now c.args.place c.in-Some.field-0.now c.in-Some.ensures.lookup.3.0 c.in-Some.ensures.lookup.1
    (ne_eqb c.in-Some.field-0.now 36 c.in-Some.field-0-test.0.1) (ne_eqb c.in-Some.field-0.now 0xb5 c.in-Some.field-0-test.1)

pub returns-in-None-clause-head : goal.returns-in-None-clause-head
returns-in-None-clause-head c = nothing_at c.args.bytes.now c.args.place c.in-None.ensures.lookup.3
