-- Reads of the source, one after another, until there is something to hand on.
use Rattle.std.proofs.Common.{◌≡◌, ◌≢◌, ℕ, List, [], ◌++◌, Option, Some, None, refl, sym, ap, ◌∙◌, append_assoc}
use Rattle.std.proofs.lemmas.List.{append-nil}
use Rattle.gps_outside.specs.Told.{Stream, Goes, Stays, Passes, IsAtEnd, MayLose}
use Rattle.gps_outside.specs.ReadSteps.{TakesAll, TakesSome}
use Rattle.gps_outside.proofs.Going.{goes_as, goes_on}
use Rattle.upstream_laws.specs.declared.stage.Stage.TheVariants.{Nowhere}
use Rattle.upstream_laws.specs.Head.{Stand, taken, behind}
use Rattle.gps_upstream.specs.declared.reading.HeadStep.{HeadStep}
use Rattle.gps_upstream.specs.declared.reading.HeadStep.TheVariants as steps
use Rattle.gps_upstream.specs.Reading.{Gives, HeadGoesOn, Moves, handed_on}
use Rattle.gps_upstream.proofs.Heads.{behind_both, taken_both}

-- these bytes were taken from the source so far, and all of them belong to the head
pub record IsInHead (old now : Stand) (before after : Option Stream) : Type 0 where
  pub raw : List ℕ
  pub moved : Goes (Passes raw) before after
  pub stand : now ≡ taken old raw
  pub none : behind old raw ≡ []
  pub stage : now.stage ≢ Nowhere

passes_none : (c : Option Stream) → Goes (Passes []) c c
passes_none None = tt
passes_none (Some s) = record { next = refl; joins = sym (append-nil s.taken) }

pub begun : (s : Stand) (c : Option Stream) → s.stage ≢ Nowhere → IsInHead s s c c
begun s c not = record { raw = []; moved = passes_none c; stand = refl; none = refl; stage = not }

passes_both : (a b : List ℕ) (x y z : Stream) → Passes a x y → Passes b y z → Passes (a ++ b) x z
passes_both a b x y z p q = record {
  next = p.next ∙ ap (λ l. a ++ l) q.next ∙ sym (append_assoc a b z.left);
  joins = q.joins ∙ ap (λ l. l ++ b) p.joins ∙ append_assoc x.taken a b;
}

moves_both : (s : HeadStep) (a b : List ℕ) (x y z : Stream) → Passes a x y → Moves s b y z → Moves s (a ++ b) x z
moves_both (steps.Got n) a b x y z p q = passes_both a b x y z p q
moves_both steps.Bad a b x y z p q = passes_both a b x y z p q
moves_both steps.Quiet a b x y z p q = passes_both a b x y z p q
moves_both steps.End a b x y z p q = record {
  all = p.next ∙ ap (λ l. a ++ l) q.all;
  joins = q.joins ∙ ap (λ l. l ++ b) p.joins ∙ append_assoc x.taken a b;
  none = q.none;
}
moves_both steps.Failed a b x y z p q = record {
  rest = q.rest;
  next = p.next ∙ ap (λ l. a ++ l) q.next ∙ sym (append_assoc a b q.rest);
  joins = q.joins ∙ ap (λ l. l ++ b) p.joins ∙ append_assoc x.taken a b;
  kept = q.kept;
}

stand_both : (old now new : Stand) (a b : List ℕ) → now ≡ taken old a → new ≡ taken now b → new ≡ taken old (a ++ b)
stand_both old now new a b p q = q ∙ ap (λ (s : Stand). taken s b) p ∙ sym (taken_both old a b)

behind_more : (old now : Stand) (a b bytes : List ℕ) → now ≡ taken old a → behind old a ≡ [] → behind now b ≡ bytes → behind old (a ++ b) ≡ bytes
behind_more old now a b bytes p none q =
    behind_both old a b ∙ ap (λ l. l ++ behind (taken old a) b) none ∙ ap (λ (s : Stand). behind s b) (sym p) ∙ q

pub in_head : (old now new : Stand) (c d e : Option Stream) → IsInHead old now c d → HeadGoesOn now new d e → IsInHead old new c e
in_head old now new c d e first more = record {
  raw = first.raw ++ more.raw;
  moved = goes_on (Passes first.raw) (Passes more.raw) (Passes (first.raw ++ more.raw)) c d e (passes_both first.raw more.raw) first.moved more.moved;
  stand = stand_both old now new first.raw more.raw first.stand more.stand;
  none = behind_more old now first.raw more.raw [] first.stand first.none more.none;
  stage = more.stage;
}

pub gives_on : (s : HeadStep) (buffer : List ℕ) (old now new : Stand) (c d e : Option Stream) → IsInHead old now c d → Gives s buffer now new d e → Gives s buffer old new c e
gives_on s buffer old now new c d e first more = record {
  raw = first.raw ++ more.raw;
  moved = goes_on (Passes first.raw) (Moves s more.raw) (Moves s (first.raw ++ more.raw)) c d e (moves_both s first.raw more.raw) first.moved more.moved;
  stand = stand_both old now new first.raw more.raw first.stand more.stand;
  handed = behind_more old now first.raw more.raw (handed_on s buffer) first.stand first.none more.handed;
  stage = more.stage;
}

-- answers of a source that bring no bytes
all_none : (x y : Stream) → IsAtEnd x y → TakesAll [] x y
all_none x y p = record {
  all = p.none;
  joins = ap (λ (s : Stream). s.taken) (sym p.same) ∙ sym (append-nil x.taken);
  none = ap (λ (s : Stream). s.left) (sym p.same) ∙ p.none;
}

some_none : (x y : Stream) → MayLose x y → TakesSome [] x y
some_none x y p = record { rest = x.left; next = refl; joins = p.same ∙ sym (append-nil x.taken); kept = p.lost }

stay_none : (x y : Stream) → Stays x y → Passes [] x y
stay_none x y p = record { next = ap (λ (s : Stream). s.left) p; joins = ap (λ (s : Stream). s.taken) (sym p) ∙ sym (append-nil x.taken) }

pub ends : (buffer : List ℕ) (s : Stand) (c d : Option Stream) → s.stage ≢ Nowhere → Goes IsAtEnd c d → Gives steps.End buffer s s c d
ends buffer s c d not p = record { raw = []; moved = goes_as IsAtEnd (TakesAll []) c d all_none p; stand = refl; handed = refl; stage = not }

pub is_quiet : (buffer : List ℕ) (s : Stand) (c d : Option Stream) → s.stage ≢ Nowhere → Goes Stays c d → Gives steps.Quiet buffer s s c d
is_quiet buffer s c d not p = record { raw = []; moved = goes_as Stays (Passes []) c d stay_none p; stand = refl; handed = refl; stage = not }

pub fails : (buffer : List ℕ) (s : Stand) (c d : Option Stream) → s.stage ≢ Nowhere → Goes MayLose c d → Gives steps.Failed buffer s s c d
fails buffer s c d not p = record { raw = []; moved = goes_as MayLose (TakesSome []) c d some_none p; stand = refl; handed = refl; stage = not }
