use Rattle.std.proofs.Common.{sym, ◌∙◌, ap}
use Rattle.gps_outside.specs.Links.{IsUnread}
use Rattle.gps_world.proofs.Firsts.{have_rest, have_first, bytes_stay, holds_all}
use Rattle.gps_world.proofs.memory_world.MemoryWorldWorld.input.Goals as goal

pub invariant_of-self : goal.invariant_of-self
invariant_of-self g c = (
  rw c.take_first-found.ensures.rest (have_rest _ _ _ c.self.invariant.0),
  c.self.invariant.1,
  (λ none. c.self.invariant.2 (sym (ap (λ a. a.address) c.add.ensures) ∙ none)),
  c.self.invariant.3,
)

pub invariant_of-self-in-None : goal.invariant_of-self-in-None
invariant_of-self-in-None g c = (
  rw c.take_first-found.ensures.rest (have_rest _ _ _ c.self.invariant.0),
  c.self.invariant.1,
  (λ none. c.self.invariant.2 (sym (ap (λ a. a.address) c.add.ensures) ∙ none)),
  c.self.invariant.3,
)

pub returns-in-Some-clause-unread : goal.returns-in-Some-clause-unread
returns-in-Some-clause-unread g c =
    have_first (λ source. IsUnread (g.I.Source.content source) (g.I.Source.faults source) (g.I.Source.quiets source)) _ _ _
    c.self.invariant.0 (sym c.in-Some.ensures.source)

pub returns-in-Some-clause-bytes : goal.returns-in-Some-clause-bytes
returns-in-Some-clause-bytes g c =
    let unread : IsUnread (g.I.Source.content c.in-Some.source) (g.I.Source.faults c.in-Some.source) (g.I.Source.quiets c.in-Some.source) =
    have_first (λ source. IsUnread (g.I.Source.content source) (g.I.Source.faults source) (g.I.Source.quiets source)) _ _ _
    c.self.invariant.0 (sym c.in-Some.ensures.source) in
    rw (← c.self.view_is) (holds_all g.I.Source.content _ _ _ (sym c.in-Some.ensures.source) unread.nothing)

pub returns-in-Some-clause-other_places : goal.returns-in-Some-clause-other_places
returns-in-Some-clause-other_places g c other differ =
    rw (c.take_first-found.ensures.rest, ← c.self.view_is) (bytes_stay g.I.Source.content _ _ _ differ)

pub returns-in-None-clause-other_places : goal.returns-in-None-clause-other_places
returns-in-None-clause-other_places g c other differ =
    rw (c.take_first-found.ensures.rest, ← c.self.view_is) (bytes_stay g.I.Source.content _ _ _ differ)
