use Rattle.std.proofs.Common.{◌/◌, ap, ◌∙◌}
use Rattle.shm_segment.specs.Publishing.{count_of}
use Rattle.shm_segment.proofs.Running.{half_count}
use Rattle.shm_segment.proofs.Stepping.{count_is}
use Rattle.shm_segment.proofs.publisher.Publisher.count.Goals as goal

pub returns-clause-count : goal.returns-clause-count
returns-clause-count c =
    count_is _ _ _ c.self.invariant.keeps c.self.invariant.numbers c.flag.ensures ∙ ap count_of c.self.view_is

pub returns-clause-published : goal.returns-clause-published
returns-clause-published c =
    let count = count_is _ _ _ c.self.invariant.keeps c.self.invariant.numbers c.flag.ensures ∙ ap count_of c.self.view_is in
    ap (λ n. n / 2) count ∙ half_count c.args.self.now.segment.first c.args.self.now.stores
